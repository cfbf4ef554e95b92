use Rattle.std.proofs.Common.{◌≡◌, map, length, take}
use Rattle.std.specs.Iterator.Adapters.{zip_first, zip_second}
use Rattle.std.specs.Slice.Iter.{iter_rest}
use Rattle.algebra.specs.Linear.{combination}
use Rattle.algebra.specs.Meaning.{on_bytes}
use Rattle.blocks.specs.Rooms.{rows_in}
use Rattle.blocks.proofs.linear.combined.Given as goal

-- what is left, added to the sum, gives the whole; the sum keeps its size
abbrev pub invariant-loop-row : goal.invariant-loop-row
invariant-loop-row g l =
    let O = on_bytes (g.F.Field.meaning l.field) in
    let n = length l.fn.constants in
    (combination O l.sum (map (take n) (iter_rest (zip_first l.row-iterator))) (iter_rest (zip_second l.row-iterator))
    ≡ combination O l.fn.constants (rows_in n l.rows) l.fn.factors)
    × (length l.sum ≡ n)
