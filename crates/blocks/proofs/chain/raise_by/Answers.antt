use Rattle.std.proofs.Common.{◌*◌, ◌%◌, ap, ◌∙◌}
use Rattle.algebra.specs.BlockSteps.{q_powers}
use Rattle.algebra.specs.Iteration.{iterate}
use Rattle.algebra.proofs.Exponent.{both_residues}
use Rattle.blocks.proofs.chain.raise_by.Goals as goal

pub returns-clause-value : goal.returns-clause-value
unfolding q_powers
returns-clause-value g c =
    let A = g.B.BlockArithmetic.arithmetic c.args.blocks.now in
    c.raise_repeatedly.ensures.value
    ∙ ap (λ n. iterate A.q_power n c.args.block)
    (both_residues c.size-v.result c.args.k c.args.count ∙ ap (λ v. c.args.k * c.args.count % v) c.size-v.ensures.value)
