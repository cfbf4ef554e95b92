use Rattle.std.proofs.Common.{◌≡◌, ℕ, ◌/◌, ◌^◌, List, length}
use Rattle.algebra.specs.Chains.{steps_for, follow, by_chain}
use Rattle.blocks.proofs.chain.follow_chain.Given as goal

-- following the steps that are left leads to the end of the chain
abbrev pub invariant-loop-i : goal.invariant-loop-i
invariant-loop-i g l =
    let A = g.B.BlockArithmetic.arithmetic l.blocks in
    ((raised : ℕ → List ℕ → List ℕ) → ((count : ℕ) (x r : List ℕ) → goal.S-post g l.advance count x r → r ≡ raised count x)
    → follow A.product raised l.block (steps_for l.n l.i) (l.n / 2 ^ l.i) l.product ≡ by_chain A.product raised l.n l.block)
    × (length l.product ≡ A.size)
