use Rattle.std.proofs.Common.{◌≡◌, ℕ, ◌<◌, [], map, length, get_or, take}
use Rattle.blocks.proofs.square.Square.from_rooms.Given as goal

-- the rows below i are taken, each of its size
abbrev pub invariant-loop-i : goal.invariant-loop-i
invariant-loop-i l =
    (take l.i l.rows ≡ map (take l.size) (take l.i l.fn.rooms)) × ((k : ℕ) → k < l.i → length (get_or l.rows k []) ≡ l.size)
