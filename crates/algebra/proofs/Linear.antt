-- Combinations of rows that are longer than the tuple they are added to.
-- Assumes nothing.
use Rattle.std.proofs.Common.{◌≡◌, ℕ, zero, suc, ◌≤◌, List, [], ◌∷◌, map, length, take, sym, refl, ap, ◌∙◌, suc-le-suc, zero-le, le_trans, le_refl, le_of_suc-le-suc, not-suc-le-zero}
use Rattle.algebra.specs.Operations.{Ops}
use Rattle.algebra.specs.Tuples.{plus, scale}
use Rattle.algebra.specs.Linear.{combination}

module _ {A : Type 0} (O : Ops A) where
  sum_none : (a : List A) → plus O a [] ≡ []
  unfolding plus
  sum_none [] = refl
  sum_none (x ∷ a) = refl

  sum_within : (a b : List A) → length (plus O a b) ≤ length b
  unfolding plus
  sum_within [] b = zero-le
  sum_within (x ∷ a) [] = le_refl 0
  sum_within (x ∷ a) (y ∷ b) = suc-le-suc (sum_within a b)

  -- of a row only so much counts
  row_cut : (v : ℕ) (x : A) (row sum : List A) → length sum ≤ v → plus O (scale O x (take v row)) sum ≡ plus O (scale O x row) sum
  unfolding plus scale
  row_cut v x row [] h = sum_none (scale O x (take v row)) ∙ sym (sum_none (scale O x row))
  row_cut zero x row (z ∷ sum) h = absurd (not-suc-le-zero h)
  row_cut (suc v) x [] (z ∷ sum) h = refl
  row_cut (suc v) x (y ∷ row) (z ∷ sum) h = ap (λ t. O.add (O.mul x y) z ∷ t) (row_cut v x row sum (le_of_suc-le-suc h))

  combination_within : (c : List A) (rows : List (List A)) (x : List A) → length (combination O c rows x) ≤ length c
  unfolding combination
  combination_within c [] x = le_refl (length c)
  combination_within c (row ∷ rows) [] = le_refl (length c)
  combination_within c (row ∷ rows) (x ∷ xs) = le_trans (sum_within (scale O x row) (combination O c rows xs)) (combination_within c rows xs)

  -- and of the rows only as many as there are factors
  pub rows_cut : (v n : ℕ) (c : List A) (rows : List (List A)) (x : List A) → length c ≤ v → length x ≤ n
      → combination O c (map (take v) (take n rows)) x ≡ combination O c rows x
  unfolding combination
  rows_cut v zero c [] x hc hx = refl
  rows_cut v (suc n) c [] x hc hx = refl
  rows_cut v zero c (row ∷ rows) [] hc hx = refl
  rows_cut v (suc n) c (row ∷ rows) [] hc hx = refl
  rows_cut v zero c (row ∷ rows) (x ∷ xs) hc hx = absurd (not-suc-le-zero hx)
  rows_cut v (suc n) c (row ∷ rows) (x ∷ xs) hc hx =
      ap (plus O (scale O x (take v row))) (rows_cut v n c rows xs hc (le_of_suc-le-suc hx))
      ∙ row_cut v x row (combination O c rows xs) (le_trans (combination_within c rows xs) hc)
