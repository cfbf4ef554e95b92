use Rattle.std.proofs.Common.{rules}
use Rattle.algebra.specs.Meaning.{as_code, dead}
use Rattle.field.proofs.Choices.{table_answer}
use Rattle.field.proofs.power_table_field.PowerTableField.product.Goals as goal

pub returns : goal.returns
unfolding dead
returns c = table_answer (λ M. M.product (as_code M c.args.a) (as_code M c.args.b)) c.args.self.now c.as_ref.result c.map_or.result c.as_ref.ensures.value (search (rules))
