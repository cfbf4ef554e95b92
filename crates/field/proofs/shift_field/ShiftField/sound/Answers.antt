use Rattle.std.proofs.Common.{rules}
use Rattle.algebra.specs.Meaning.{dead}
use Rattle.field.proofs.Kept.{shift_answer}
use Rattle.field.proofs.shift_field.ShiftField.sound.Goals as goal

pub returns : goal.returns
unfolding dead
returns c = shift_answer (λ M. M.sound) c.args.self.now c.is_some_and.result (search rules)
