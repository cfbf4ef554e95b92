use Rattle.algebra.proofs.Exponent.{inverse_stands}
use Rattle.algebra.proofs.inverse_exponent_stands.Goals as goal

pub returns : goal.returns
returns c = inverse_stands
