use Rattle.std.proofs.Common.{◌≡◌, ℕ, ◌<◌, [], length, get_or, take}
use Rattle.algebra.specs.Linear.{basis_from}
use Rattle.algebra.specs.Meaning.{on_bytes}
use Rattle.blocks.proofs.square.Square.units.Given as goal

-- the units below i are written, each of its size
abbrev pub invariant-loop-i : goal.invariant-loop-i
invariant-loop-i g l =
    (take l.i l.rows ≡ basis_from (on_bytes (g.F.Field.meaning l.field)) l.size 0 l.i) × ((k : ℕ) → k < l.i → length (get_or l.rows k []) ≡ l.size)
