use Rattle.algebra.proofs.Quotient.{quotient_stands}
use Rattle.algebra.proofs.quotient_stands.Goals as goal

pub returns : goal.returns
returns g c O R f = quotient_stands R f
