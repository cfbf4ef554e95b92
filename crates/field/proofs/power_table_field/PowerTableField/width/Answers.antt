use Rattle.std.proofs.Common.{rules}
use Rattle.algebra.specs.Meaning.{dead}
use Rattle.field.proofs.LookUps.{width_is}
use Rattle.field.proofs.Choices.{table_answer}
use Rattle.field.proofs.power_table_field.PowerTableField.width.Goals as goal

pub returns : goal.returns
unfolding dead
returns c = table_answer (λ M. M.width) c.args.self.now c.as_ref.result c.map_or.result c.as_ref.ensures.value (search (rules, width_is))
