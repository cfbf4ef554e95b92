use Rattle.algebra.proofs.ShiftRing.{shift_remainder}
use Rattle.algebra.proofs.shift_remainder_stands.Goals as goal

pub returns : goal.returns
returns c = shift_remainder
