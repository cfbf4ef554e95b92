-- Blocks of codes of a field, and what is asked of a product on them. Sums and multiples go place by place.
use Rattle.std.specs.Prelude.{◌≡◌, ℕ, ◌<◌, List, length, slice_index}
use Rattle.algebra.specs.Meaning.{Meaning, IsCode, operations, on_bytes}
use Rattle.algebra.specs.Tuples.{plus, scale, unit, times}
use Rattle.algebra.specs.Polynomials.{Same, poly_sum, poly_product, monic}

-- every element is a code of the field
abbrev pub Codes : Meaning → List ℕ → Type 0
Codes M block = (i : ℕ) → i < length block → IsCode M (slice_index block i)

-- a block of size v: v codes
pub record IsBlock (M : Meaning) (v : ℕ) (block : List ℕ) : Type 0 where
  pub size : length block ≡ v
  pub codes : Codes M block

-- a product on the blocks of size v that is bilinear over the field, commutative and associative, and has a unit
pub record BlockProduct (M : Meaning) (v : ℕ) (one : List ℕ) (product : List ℕ → List ℕ → List ℕ) : Type 0 where
  pub one_block : IsBlock M v one
  pub stays : (a b : List ℕ) → IsBlock M v a → IsBlock M v b → IsBlock M v (product a b)
  pub commutes : (a b : List ℕ) → IsBlock M v a → IsBlock M v b → product a b ≡ product b a
  pub associates : (a b c : List ℕ) → IsBlock M v a → IsBlock M v b → IsBlock M v c → product (product a b) c ≡ product a (product b c)
  pub distributes : (a b c : List ℕ) → IsBlock M v a → IsBlock M v b → IsBlock M v c
      → product a (plus (operations M) b c) ≡ plus (operations M) (product a b) (product a c)
  pub scales : (s : ℕ) (a b : List ℕ) → IsCode M s → IsBlock M v a → IsBlock M v b
      → product a (scale (operations M) s b) ≡ scale (operations M) s (product a b)
  pub one_times : (a : List ℕ) → IsBlock M v a → product one a ≡ a

-- the product modulo X^v + f is one, for every f
abbrev pub ModularProducts : Meaning → Type 0
ModularProducts M = (v : ℕ) (f : List ℕ) → IsBlock M v f → BlockProduct M v (unit (operations M) v) (times (operations M) f)

-- the same with the operations on bytes, as a product on bytes is to keep it
pub record ByteProduct (M : Meaning) (v : ℕ) (one : List ℕ) (product : List ℕ → List ℕ → List ℕ) : Type 0 where
  pub one_block : IsBlock M v one
  pub stays : (a b : List ℕ) → IsBlock M v a → IsBlock M v b → IsBlock M v (product a b)
  pub commutes : (a b : List ℕ) → IsBlock M v a → IsBlock M v b → product a b ≡ product b a
  pub associates : (a b c : List ℕ) → IsBlock M v a → IsBlock M v b → IsBlock M v c → product (product a b) c ≡ product a (product b c)
  pub distributes : (a b c : List ℕ) → IsBlock M v a → IsBlock M v b → IsBlock M v c
      → product a (plus (on_bytes M) b c) ≡ plus (on_bytes M) (product a b) (product a c)
  pub scales : (s : ℕ) (a b : List ℕ) → IsCode M s → IsBlock M v a → IsBlock M v b
      → product a (scale (on_bytes M) s b) ≡ scale (on_bytes M) s (product a b)
  pub one_times : (a : List ℕ) → IsBlock M v a → product one a ≡ a

-- the product modulo X^v + f on bytes does so, for every f
abbrev pub ModularByteProducts : Meaning → Type 0
ModularByteProducts M = (v : ℕ) (f : List ℕ) → IsBlock M v f → ByteProduct M v (unit (on_bytes M) v) (times (on_bytes M) f)

-- r differs from the plain product of a and b by a multiple of X^v + f, by a polynomial of codes
abbrev pub BlockCongruent : Meaning → List ℕ → List ℕ → List ℕ → List ℕ → Type 0
BlockCongruent M f a b r =
    let O = on_bytes M in
    (k : List ℕ) × Codes M k × Same O (poly_sum O (poly_product O a b) r) (poly_product O k (monic O f))

-- the product modulo X^v + f is the remainder of the plain product: the only block that does
abbrev pub BlockRemainders : Meaning → Type 0
BlockRemainders M =
    (v : ℕ) (f a b r : List ℕ) → IsBlock M v f → IsBlock M v a → IsBlock M v b → IsBlock M v r
    → (BlockCongruent M f a b r → r ≡ times (on_bytes M) f a b) × (r ≡ times (on_bytes M) f a b → BlockCongruent M f a b r)
