use Rattle.algebra.proofs.Steps.{steps_undo}
use Rattle.algebra.proofs.steps_undo_stands.Goals as goal

pub returns : goal.returns
returns g c O R = steps_undo R
