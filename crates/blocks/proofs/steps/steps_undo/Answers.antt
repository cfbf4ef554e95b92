use Rattle.algebra.proofs.BlockSteps.{blocks_undo}
use Rattle.blocks.proofs.steps.steps_undo.Goals as goal

pub returns : goal.returns
returns g c =
    let x = c.args.blocks.now in
    blocks_undo (g.B.BlockArithmetic.arithmetic x)
