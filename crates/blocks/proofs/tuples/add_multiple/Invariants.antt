use Rattle.algebra.specs.Meaning.{on_bytes}
use Rattle.algebra.specs.Tuples.{plus, scale}
use Rattle.blocks.proofs.Writing.{Below}
use Rattle.blocks.proofs.tuples.add_multiple.Given as goal

-- the places below i are done, and those from i on as they were
abbrev pub invariant-loop-i : goal.invariant-loop-i
invariant-loop-i g l =
    let O = on_bytes (g.F.Field.meaning l.field) in
    Below l.sum l.initial.sum (plus O (scale O l.factor l.block) l.initial.sum) l.i
