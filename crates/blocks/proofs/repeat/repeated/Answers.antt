use Rattle.std.proofs.Common.{refl, ap, ◌∙◌}
use Rattle.algebra.specs.Iteration.{iterate}
use Rattle.algebra.proofs.Iteration.{iterate_next}
use Rattle.blocks.proofs.repeat.repeated.Goals as goal

pub loop-init : goal.loop-init
unfolding iterate
loop-init g c = (λ f acts. refl, refl)

pub loop-preserved : goal.loop-preserved
loop-preserved g c =
    let x = c.loop.changed in
    let r = c.change-changed.result in
    let did = c.change-changed.ensures in
    (λ f acts. acts x r did ∙ ap f (c.loop.invariant.0 f acts) ∙ iterate_next f c.loop.counter c.args.block, c.requires.stays x r did)
