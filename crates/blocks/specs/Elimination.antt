-- The steps of elimination on rows of bytes. Each changes every row in one way.
use Rattle.std.specs.Prelude.{◌≡◌, ℕ, ◌-◌, ◌^◌, ◌<◌, ◌≤◌, cond, List, [], map, length, ◌==◌, ◌≢◌, bit_xor, nat_eq, slice_index, slice_index_or, slice_set}
use Rattle.algebra.specs.Meaning.{Meaning, on_bytes}
use Rattle.algebra.specs.Linear.{basis, shear_row}
use Rattle.algebra.specs.Search.{first_from}

-- the first code, from 0 on, that makes the one with a; the last code if none does
abbrev pub inverse_code : Meaning → ℕ → ℕ
inverse_code M a = first_from 0 (2 ^ M.width - 1) (λ b. nat_eq ((on_bytes M).mul a b) M.one)

-- from place k on, a row is zero
abbrev pub NoPivot : ℕ → List ℕ → Type 0
NoPivot k row = (j : ℕ) → k ≤ j → j < length row → slice_index row j ≡ 0

-- place j is the first from k on where a row is not zero
pub record PivotAt (k : ℕ) (row : List ℕ) (j : ℕ) : Type 0 where
  pub from : k ≤ j
  pub inside : j < length row
  pub some : slice_index row j ≢ 0
  pub first : (i : ℕ) → k ≤ i → i < j → slice_index row i ≡ 0

-- on rows of n bytes, the element at the pivot's place is added at place k, unless it stands there
abbrev pub lead_step : Meaning → ℕ → ℕ → ℕ → List ℕ → List ℕ
lead_step M n place k row = cond (place == k) row (shear_row (on_bytes M) M.one place (basis (on_bytes M) n k) row)

-- by a pivot row that is not zero at place k, so that the pivot row itself becomes one at place k and zero elsewhere
abbrev pub pivot_step : Meaning → ℕ → List ℕ → List ℕ → List ℕ
pivot_step M k pivot row = shear_row (on_bytes M) (inverse_code M (slice_index pivot k)) k (slice_set pivot k (bit_xor (slice_index pivot k) M.one)) row

-- one row of elimination, by its pivot, on rows W, and the same on rows C
pub record RowReduced (M : Meaning) (k : ℕ) (W C W' C' : List (List ℕ)) : Type 0 where
  pub place : ℕ
  pub pivot : PivotAt k (slice_index_or W k []) place
  pub rows : let led = map (lead_step M (length W) place k) W in W' ≡ map (pivot_step M k (slice_index_or led k [])) led
  pub account : let led = map (lead_step M (length W) place k) in C' ≡ map (pivot_step M k (slice_index_or (led W) k [])) (led C)
