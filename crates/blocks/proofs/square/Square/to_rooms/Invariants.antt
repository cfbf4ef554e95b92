use Rattle.std.proofs.Common.{◌≡◌, map, length, take}
use Rattle.blocks.proofs.square.Square.to_rooms.Given as goal

-- the rooms below i hold the rows
abbrev pub invariant-loop-i : goal.invariant-loop-i
invariant-loop-i l = (map (take (length l.fn.self)) (take l.i l.rooms) ≡ take l.i l.fn.self) × (length l.rooms ≡ 32)
