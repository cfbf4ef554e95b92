use Rattle.field.proofs.Kept.{one_is}
use Rattle.field.proofs.shift_field.ShiftField.one.Goals as goal

pub returns : goal.returns
returns c = one_is c.args.self.now.number
