use Rattle.std.proofs.Common.{sym, ap, ◌∙◌}
use Rattle.blocks.specs.Rooms.{in_room}
use Rattle.blocks.proofs.block.Block.room.Goals as goal

pub returns : goal.returns
returns c = sym c.self.invariant.rest ∙ ap in_room c.self.view_is
