-- The loop that writes the rows of the q-th power.
-- Assumes nothing.
use Rattle.std.proofs.Common.{◌≡◌, ℕ, ◌+◌, ◌<◌, List, [], ◌∷◌, ◌++◌, length, take, set, sym, refl, ap, ◌∙◌, ap₂}
use Rattle.std.proofs.lemmas.List.{take_more_set}
use Rattle.algebra.specs.Iteration.{iterate}
use Rattle.algebra.specs.Modular.{multiples}
use Rattle.algebra.proofs.Iteration.{iterate_next}
use Rattle.algebra.proofs.Modular.{multiples_more}

-- the first i rows are the powers of w from `first` on, of size v, and the next power is at hand
pub record RowsTo (product : List ℕ → List ℕ → List ℕ) (v : ℕ) (w first : List ℕ) (i : ℕ) (power : List ℕ) (rows : List (List ℕ)) : Type 0 where
  pub next : power ≡ iterate (product w) i first
  pub size : length power ≡ v
  pub done : take i rows ≡ multiples product w first i

module _ (product : List ℕ → List ℕ → List ℕ) (v : ℕ) (w first : List ℕ) where
  pub no_rows : (rows : List (List ℕ)) → length first ≡ v → RowsTo product v w first 0 first rows
  unfolding iterate multiples
  no_rows rows size = record { next = refl; size = size; done = refl }

  pub row_written : (i : ℕ) (power next : List ℕ) (rows : List (List ℕ)) → RowsTo product v w first i power rows
      → i < length rows → next ≡ product w power → length next ≡ v → RowsTo product v w first (i + 1) next (set rows i power)
  row_written i power next rows r h is size = record {
    next = is ∙ ap (product w) r.next ∙ iterate_next (product w) i first;
    size = size;
    done = take_more_set rows i power h ∙ ap₂ (λ (l : List (List ℕ)) (x : List ℕ). l ++ (x ∷ [])) r.done r.next ∙ sym (multiples_more product w first i);
  }
