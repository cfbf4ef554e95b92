-- What a power table keeps.
use Rattle.std.specs.Prelude.{ℕ, cond, List, Some, None, Option, nat_eq, nat_lt, slice_index}
use Rattle.algebra.specs.Search.{first_from}
use Rattle.algebra.specs.PowerTable.{logarithm, stands}

-- for a p that makes a field, the logarithm of a code, if it is not 0 and has one
unfoldable pub kept_log : ℕ → ℕ → ℕ → Option ℕ
kept_log p g a = cond (stands p g a) (Some (logarithm p g a)) None

-- the lowest of the first n places of a list where a stands, if it stands at one
unfoldable pub lowest : List ℕ → ℕ → ℕ → Option ℕ
lowest entries n a = let k = first_from 0 n (λ k. nat_eq (slice_index entries k) a) in cond (nat_lt k n) (Some k) None
