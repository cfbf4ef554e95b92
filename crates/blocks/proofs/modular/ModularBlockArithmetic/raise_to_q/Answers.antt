use Rattle.std.proofs.Common.{sym, ap, ◌∙◌, ap₂, length}
use Rattle.algebra.specs.Linear.{combination}
use Rattle.algebra.specs.Meaning.{on_bytes}
use Rattle.algebra.specs.Tuples.{zeros}
use Rattle.algebra.proofs.Tuples.{length_zeros}
use Rattle.blocks.specs.Rooms.{rows_in}
use Rattle.blocks.proofs.Coefficients.{zeros_are}
use Rattle.blocks.proofs.modular.ModularBlockArithmetic.raise_to_q.Goals as goal

pub returns-clause-value : goal.returns-clause-value
returns-clause-value g c =
    let M = g.F.Field.meaning c.args.self.now.field.now in
    let O = on_bytes M in
    let p = c.args.self.now.modulus.now in
    c.combined.ensures.value ∙ ap (λ z. combination O z (rows_in (length z) p.rows) c.args.block) (c.zeros-zeros.ensures ∙ zeros_are M p.size)
    ∙ ap₂ (λ v n. combination O (zeros O v) (rows_in n p.rows) c.args.block) (sym p.filled.whole) (length_zeros O p.size)
