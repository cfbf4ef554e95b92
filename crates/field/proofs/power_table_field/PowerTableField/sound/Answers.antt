use Rattle.std.proofs.Common.{rules}
use Rattle.algebra.specs.Meaning.{dead}
use Rattle.field.proofs.Choices.{table_answer}
use Rattle.field.proofs.power_table_field.PowerTableField.sound.Goals as goal

pub returns : goal.returns
unfolding dead
returns c = table_answer (λ M. M.sound) c.args.self.now c.as_ref.result c.is_some_and.result c.as_ref.ensures.value (search (rules))
