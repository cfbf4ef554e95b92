use Rattle.std.proofs.Common.{length, ap}
use Rattle.blocks.proofs.Rooms.{written}
use Rattle.blocks.proofs.block.Block.from_bytes.Goals as goal

pub invariant_of-result : goal.invariant_of-result
invariant_of-result c = written c.copy_from_slice.new.self (length c.args.bytes.now) (ap length c.copy_from_slice.ensures.after) c.requires
