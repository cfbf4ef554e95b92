-- Polynomials over any carrier, their sum and their plain product, and what it is to differ by a multiple of another.
use Rattle.std.specs.Prelude.{◌≡◌, ℕ, List, [], ◌∷◌, ◌++◌, slice_index_or}
use Rattle.algebra.specs.Operations.{Ops}
use Rattle.algebra.specs.Tuples.{scale}

module _ {A : Type 0} (O : Ops A) where
  -- the coefficient of X^i: a polynomial is the list of its coefficients, the lowest first, and zero past its end
  unfoldable pub coefficient : List A → ℕ → A
  coefficient p i = slice_index_or p i O.nil

  -- one polynomial: all coefficients are equal
  unfoldable pub Same : List A → List A → Type 0
  Same p q = (i : ℕ) → coefficient p i ≡ coefficient q i

  -- the sum of two polynomials
  unfoldable pub poly_sum : List A → List A → List A
  poly_sum [] q = q
  poly_sum (x ∷ p) [] = x ∷ p
  poly_sum (x ∷ p) (y ∷ q) = O.add x y ∷ poly_sum p q

  -- the product of two polynomials: (x + X·p)·q is x·q plus X times p·q
  unfoldable pub poly_product : List A → List A → List A
  poly_product [] q = []
  poly_product (x ∷ p) q = poly_sum (scale O x q) (O.nil ∷ poly_product p q)

  -- the polynomial X^v + f
  unfoldable pub monic : List A → List A
  monic f = f ++ (O.one ∷ [])

  -- p and r differ by a multiple of m (their sum is their difference)
  unfoldable pub Congruent : List A → List A → List A → Type 0
  Congruent m p r = (k : List A) × Same (poly_sum p r) (poly_product k m)
