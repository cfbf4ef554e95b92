use Rattle.std.proofs.Common.{ap, ◌∙◌, length}
use Rattle.algebra.specs.Meaning.{on_bytes}
use Rattle.algebra.proofs.Basis.{length_basis_from}
use Rattle.blocks.proofs.elimination.inverse_rows.Goals as goal

pub invariant_of-start : goal.invariant_of-start
invariant_of-start g c = record {
  alike = ap length c.units.ensures ∙ length_basis_from (on_bytes (g.F.Field.meaning c.args.field.now)) c.size.result 0 c.size.result ∙ c.size.ensures.value;
}
