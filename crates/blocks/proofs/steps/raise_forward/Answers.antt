use Rattle.std.proofs.Common.{◌≡◌, ap, ◌∙◌}
use Rattle.algebra.specs.BlockSteps.{forward_step}
use Rattle.algebra.proofs.BlockSteps.{forward_raises}
use Rattle.blocks.proofs.steps.raise_forward.Goals as goal

pub returns : goal.returns
unfolding forward_step
returns g c =
    let A = g.B.BlockArithmetic.arithmetic c.args.blocks.now in
    let u = c.args.block in
    let step : c.multiply.result ≡ forward_step A c.args.t u = c.multiply.ensures.value ∙ ap (λ z. A.product z u) c.raise_repeatedly.ensures.value in
    record { step = step; power = λ lawful h. step ∙ forward_raises A lawful c.args.t u h; size = c.multiply.ensures.size }
