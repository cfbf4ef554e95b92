-- What the survey finds out by going through all codes of a field.
use Rattle.std.specs.Prelude.{ℕ, ◌^◌, max, Bool, nat_eq, List, Option, unwrap_or}
use Rattle.std.specs.List.{range_with_len, list_any, count_by, find, filter_map, reduce}
use Rattle.algebra.specs.Operations.{power}
use Rattle.algebra.specs.Meaning.{Meaning, operations}

-- all codes, from 0 up
abbrev pub all_codes : Meaning → List ℕ
all_codes M = range_with_len 0 (2 ^ M.width)

-- some code times a is one
unfoldable pub has_inverse : Meaning → ℕ → Bool
has_inverse M a = list_any (λ b. nat_eq (M.product a b) M.one) (all_codes M)

-- how many codes have an inverse
unfoldable pub invertible : Meaning → ℕ
invertible M = count_by (has_inverse M) (all_codes M)

-- the smallest number of copies of a, from 1 to 2^width, whose product is one, if there is one
unfoldable pub period : Meaning → ℕ → Option ℕ
period M a = find (λ e. nat_eq (power (operations M) a e) M.one) (range_with_len 1 (2 ^ M.width))

-- the largest period of a code, or 0 if none has one
unfoldable pub longest_period : Meaning → ℕ
longest_period M = unwrap_or (reduce max (filter_map (period M) (all_codes M))) 0
