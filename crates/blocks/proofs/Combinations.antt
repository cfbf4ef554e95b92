-- A combination of rows, row by row from the first.
-- Assumes nothing.
use Rattle.std.proofs.Common.{◌≡◌, ℕ, List, [], ◌∷◌, length, sym, refl, ap, ◌∙◌, ap₂, suc-ne-zero}
use lib.Bits.{xor_comm, xor_assoc, bit_xor}
use Rattle.algebra.specs.Meaning.{Meaning, on_bytes}
use Rattle.algebra.specs.Tuples.{plus, scale}
use Rattle.algebra.specs.Linear.{combination}

module _ (M : Meaning) where
  none : (b : List ℕ) → plus (on_bytes M) b [] ≡ []
  unfolding plus
  none [] = refl
  none (y ∷ b) = refl

  swap : (a b c : List ℕ) → plus (on_bytes M) a (plus (on_bytes M) b c) ≡ plus (on_bytes M) b (plus (on_bytes M) a c)
  unfolding plus on_bytes
  swap [] b c = sym (none b)
  swap (x ∷ a) [] c = refl
  swap (x ∷ a) (y ∷ b) [] = refl
  swap (x ∷ a) (y ∷ b) (z ∷ c) = ap₂ ◌∷◌ (sym (xor_assoc x y z) ∙ ap (λ v. bit_xor v z) (xor_comm x y) ∙ xor_assoc y x z) (swap a b c)

  -- what is added first is added last
  moves : (p c : List ℕ) (rows : List (List ℕ)) (xs : List ℕ) → combination (on_bytes M) (plus (on_bytes M) p c) rows xs ≡ plus (on_bytes M) p (combination (on_bytes M) c rows xs)
  unfolding combination
  moves p c [] xs = refl
  moves p c (row ∷ rows) [] = refl
  moves p c (row ∷ rows) (x ∷ xs) =
      ap (plus (on_bytes M) (scale (on_bytes M) x row)) (moves p c rows xs) ∙ swap (scale (on_bytes M) x row) p (combination (on_bytes M) c rows xs)

  -- a row that is added to the sum is taken from what is left
  pub one_row : (sum next row : List ℕ) (x : ℕ) (rows rest : List (List ℕ)) (xs left : List ℕ) → rows ≡ row ∷ rest → xs ≡ x ∷ left
      → next ≡ plus (on_bytes M) (scale (on_bytes M) x row) sum → combination (on_bytes M) next rest left ≡ combination (on_bytes M) sum rows xs
  unfolding combination
  one_row sum next row x rows rest xs left hr hx is =
      ap (λ (s : List ℕ). combination (on_bytes M) s rest left) is ∙ moves (scale (on_bytes M) x row) sum rest left ∙ sym (ap₂ (combination (on_bytes M) sum) hr hx)

  -- where rows or factors are used up, the sum is whole
  pub no_rows : (sum : List ℕ) (rows : List (List ℕ)) (xs : List ℕ) → length rows ≡ 0 → combination (on_bytes M) sum rows xs ≡ sum
  unfolding combination
  no_rows sum [] xs h = refl
  no_rows sum (row ∷ rows) xs h = absurd (suc-ne-zero (length rows) h)

  pub no_factors : (sum : List ℕ) (rows : List (List ℕ)) (xs : List ℕ) → length xs ≡ 0 → combination (on_bytes M) sum rows xs ≡ sum
  unfolding combination
  no_factors sum [] xs h = refl
  no_factors sum (row ∷ rows) [] h = refl
  no_factors sum (row ∷ rows) (x ∷ xs) h = absurd (suc-ne-zero (length xs) h)
