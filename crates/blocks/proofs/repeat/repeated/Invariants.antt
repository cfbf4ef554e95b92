use Rattle.std.proofs.Common.{◌≡◌, ℕ, List, length}
use Rattle.algebra.specs.Iteration.{iterate}
use Rattle.blocks.proofs.repeat.repeated.Given as goal

-- changed as many times as there were turns, and of the same size
abbrev pub invariant-loop : goal.invariant-loop
invariant-loop g l =
    ((f : List ℕ → List ℕ) → ((x r : List ℕ) → goal.C-post g l.change x r → r ≡ f x) → l.changed ≡ iterate f l.counter l.fn.block)
    × (length l.changed ≡ length l.fn.block)
