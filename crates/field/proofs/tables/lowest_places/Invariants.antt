use Rattle.std.proofs.Common.{◌≡◌, ℕ, ◌<◌, length, None, get_or}
use Rattle.field.proofs.Places.{lowest_from}
use Rattle.field.proofs.tables.lowest_places.Given as goal

-- the places from k on have been gone through
abbrev pub invariant-loop-k : goal.invariant-loop-k
invariant-loop-k l = (length l.logs ≡ 256) × ((a : ℕ) → a < 256 → get_or l.logs a None ≡ lowest_from l.powers l.places l.k a)
