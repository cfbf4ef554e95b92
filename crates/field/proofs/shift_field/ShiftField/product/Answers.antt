use Rattle.std.proofs.Common.{rules}
use Rattle.algebra.specs.Meaning.{as_code, dead}
use Rattle.field.proofs.Kept.{shift_answer}
use Rattle.field.proofs.shift_field.ShiftField.product.Goals as goal

pub returns : goal.returns
unfolding dead
returns c = shift_answer (λ M. M.product (as_code M c.args.a) (as_code M c.args.b)) c.args.self.now c.map_or.result (search rules)
