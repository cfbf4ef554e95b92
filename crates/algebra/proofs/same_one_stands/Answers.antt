use Rattle.algebra.proofs.Alike.{same_one}
use Rattle.algebra.proofs.same_one_stands.Goals as goal

pub returns : goal.returns
returns c = same_one
