-- What is known of the product modulo a monic polynomial, over any ring in which a + a is zero.
use Rattle.std.specs.Prelude.{◌≡◌, List, length}
use Rattle.algebra.specs.Operations.{Ops}
use Rattle.algebra.specs.Tuples.{plus, unit, times}
use Rattle.algebra.specs.Polynomials.{poly_product, monic, Congruent}

-- modulo X^v + f, the tuples of v elements have a product that is commutative, associative and distributive, and a one
pub record Quotient {A : Type 0} (O : Ops A) (f : List A) : Type 0 where
  pub stays : (a b : List A) → length b ≡ length f → length (times O f a b) ≡ length f
  pub commutes : (a b : List A) → length a ≡ length f → length b ≡ length f → times O f a b ≡ times O f b a
  pub associates : (a b c : List A) → length a ≡ length f → length b ≡ length f → length c ≡ length f
      → times O f (times O f a b) c ≡ times O f a (times O f b c)
  pub distributes : (a b c : List A) → length b ≡ length f → length c ≡ length f
      → times O f a (plus O b c) ≡ plus O (times O f a b) (times O f a c)
  pub has_one : (a : List A) → length a ≡ length f → times O f (unit O (length f)) a ≡ a

-- and that product is the only tuple of its length that differs from the plain product of polynomials by a multiple of the modulus
abbrev pub OnlyRemainder : {A : Type 0} (O : Ops A) (f : List A) → Type 0
OnlyRemainder {A} O f =
    (a b r : List A) → length b ≡ length f → length r ≡ length f
    → (Congruent O (monic O f) (poly_product O a b) r → r ≡ times O f a b)
    × (r ≡ times O f a b → Congruent O (monic O f) (poly_product O a b) r)
