use Rattle.std.proofs.Common.{rules}
use Rattle.algebra.specs.Meaning.{dead}
use Rattle.field.proofs.Kept.{shift_answer, width_is}
use Rattle.field.proofs.shift_field.ShiftField.width.Goals as goal

pub returns : goal.returns
unfolding dead
returns c = shift_answer (λ M. M.width) c.args.self.now c.map_or.result (search (rules, width_is))
