-- A polynomial over two elements that does not split, for each width from 1 to 8.
use Rattle.std.specs.Prelude.{ℕ, ◌-◌, List, [], ◌∷◌, slice_index}

-- in the order of the widths
unfoldable pub polynomials : List ℕ
polynomials = 2 ∷ 7 ∷ 11 ∷ 19 ∷ 37 ∷ 67 ∷ 131 ∷ 283 ∷ []

-- that of a width
unfoldable pub polynomial_of : ℕ → ℕ
polynomial_of width = slice_index polynomials (width - 1)
