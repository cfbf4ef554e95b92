use Rattle.std.proofs.Common.{rules}
use Rattle.algebra.specs.BlockSteps.{squares}
use Rattle.blocks.proofs.chain.square_repeatedly.Goals as goal

pub returns-clause-value : goal.returns-clause-value
unfolding squares
returns-clause-value g c = c.repeated.ensures.value (λ x. (g.B.BlockArithmetic.arithmetic c.args.blocks.now).product x x) (λ x r did. search rules)
