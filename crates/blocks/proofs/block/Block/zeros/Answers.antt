use Rattle.std.proofs.lemmas.List.{take-replicate}
use Rattle.blocks.proofs.Rooms.{zeros}
use Rattle.blocks.proofs.block.Block.zeros.Goals as goal

pub invariant_of-result : goal.invariant_of-result
invariant_of-result c = zeros c.args.size c.requires

pub returns : goal.returns
returns c = take-replicate c.args.size 32 0 c.requires
