-- Linear maps on tuples over any carrier, by their rows.
use Rattle.std.specs.Prelude.{ℕ, zero, suc, List, [], ◌∷◌, slice_index_or, slice_set}
use Rattle.algebra.specs.Operations.{Ops}
use Rattle.algebra.specs.Tuples.{plus, scale, zeros}

-- the tuple c plus x_i times row i for each element x_i of a tuple
unfoldable pub combination : {A : Type 0} → Ops A → List A → List (List A) → List A → List A
combination O c [] x = c
combination O c (row ∷ rows) [] = c
combination O c (row ∷ rows) (x ∷ xs) = plus O (scale O x row) (combination O c rows xs)

-- the tuple of v elements with one at place i and zeros elsewhere
unfoldable pub basis : {A : Type 0} → Ops A → ℕ → ℕ → List A
basis O v i = slice_set (zeros O v) i O.one

-- n of them in order, from place i on
unfoldable pub basis_from : {A : Type 0} → Ops A → ℕ → ℕ → ℕ → List (List A)
basis_from O v i zero = []
basis_from O v i (suc n) = basis O v i ∷ basis_from O v (suc i) n

-- a row plus its element at place j, times c, times the tuple q
unfoldable pub shear_row : {A : Type 0} → Ops A → A → ℕ → List A → List A → List A
shear_row O c j q row = plus O (scale O (O.mul c (slice_index_or row j O.nil)) q) row
