-- Tuples over any carrier, and their product modulo a monic polynomial.
-- A tuple of v elements is read as a polynomial of degree below v, the lowest coefficient first. A modulus X^v + f is the tuple f of its
-- v low coefficients; since a + a is zero, X^v stands for f.
use Rattle.std.specs.Prelude.{ℕ, zero, suc, List, [], ◌∷◌, length}
use Rattle.algebra.specs.Operations.{Ops}

module _ {A : Type 0} (O : Ops A) where
  -- the sum of two tuples, place by place
  unfoldable pub plus : List A → List A → List A
  plus [] b = []
  plus (x ∷ a) [] = []
  plus (x ∷ a) (y ∷ b) = O.add x y ∷ plus a b

  -- an element times a tuple, place by place
  unfoldable pub scale : A → List A → List A
  scale s [] = []
  scale s (x ∷ a) = O.mul s x ∷ scale s a

  -- the tuple of v zeros
  unfoldable pub zeros : ℕ → List A
  zeros zero = []
  zeros (suc v) = O.nil ∷ zeros v

  -- the tuple of the polynomial 1
  unfoldable pub unit : ℕ → List A
  unit zero = []
  unit (suc v) = O.one ∷ zeros v

  -- each element moves one place up; c comes in at the bottom, and the last element falls off
  unfoldable pub up : A → List A → List A
  up c [] = []
  up c (x ∷ a) = c ∷ up x a

  -- the last element of a tuple, or c if it has none
  unfoldable pub last : A → List A → A
  last c [] = c
  last c (x ∷ a) = last x a

  -- X times b modulo X^v + f: what falls off at the top comes back as that many times f
  unfoldable pub times_x : List A → List A → List A
  times_x f b = plus (up O.nil b) (scale (last O.nil b) f)

  -- a times b modulo X^v + f, where a is (x + X·a'): x·b plus X times a'·b
  unfoldable pub times : List A → List A → List A → List A
  times f [] b = zeros (length b)
  times f (x ∷ a) b = plus (scale x b) (times_x f (times f a b))
