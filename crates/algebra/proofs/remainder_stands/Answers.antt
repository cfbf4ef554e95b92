use Rattle.algebra.proofs.Polynomials.{only_remainder}
use Rattle.algebra.proofs.remainder_stands.Goals as goal

pub returns : goal.returns
returns g c O R f = only_remainder R f
