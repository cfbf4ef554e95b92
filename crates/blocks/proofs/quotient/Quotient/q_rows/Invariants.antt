use Rattle.std.proofs.Common.{map, length, take}
use Rattle.algebra.specs.Meaning.{on_bytes}
use Rattle.algebra.specs.Tuples.{times}
use Rattle.blocks.proofs.Written.{RowsTo}
use Rattle.blocks.proofs.quotient.Quotient.q_rows.Given as goal

-- the rows that were gone through are written
abbrev pub invariant-loop-row : goal.invariant-loop-row
invariant-loop-row g l =
    let v = length l.self.low in
    RowsTo (times (on_bytes (g.F.Field.meaning l.self.field.now)) l.self.low) v l.factor l.initial.power l.row-index l.power (map (take v) l.rows)
