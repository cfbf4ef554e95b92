use Rattle.std.proofs.Common.{◌≡◌, ℕ, ◌<◌, List, [], ◌++◌, map, length, get_or, take, drop}
use Rattle.blocks.proofs.square.Square.change.Given as goal

-- the rows that were gone through are changed, the others are as they were, and every row has its size
abbrev pub invariant-loop-row : goal.invariant-loop-row
invariant-loop-row g l =
    ((f : List ℕ → List ℕ) → ((row r : List ℕ) → goal.C-post g l.change row r → r ≡ f row) → l.rows ≡ map f (take l.row-index l.initial.rows) ++ drop l.row-index l.initial.rows)
    × ((k : ℕ) → k < length l.rows → length (get_or l.rows k []) ≡ length l.fn.self)
