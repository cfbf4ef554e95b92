use Rattle.std.proofs.Common.{ap, ◌∙◌, length, arith, length-take}
use Rattle.blocks.proofs.block.Block.at_start.Goals as goal

pub returns : goal.returns
returns c =
    record { value = c.from_bytes.ensures; size = ap length c.from_bytes.ensures ∙ omega (arith, length-take c.args.size c.args.room.now, c.told-room, c.requires) }
