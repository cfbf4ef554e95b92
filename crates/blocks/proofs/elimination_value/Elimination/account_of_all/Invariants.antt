use Rattle.std.proofs.Common.{◌≡◌, length}
use Rattle.algebra.specs.Affine.{Square}
use Rattle.algebra.specs.Linear.{basis_from}
use Rattle.algebra.specs.Meaning.{Laws, on_bytes}
use Rattle.algebra.proofs.Affine.{Reducing}
use Rattle.blocks.proofs.elimination_value.Elimination.account_of_all.Given as goal

-- over a field that keeps the laws, k rows are done
abbrev pub invariant-loop-k : goal.invariant-loop-k
invariant-loop-k g l =
    let M = g.F.Field.meaning l.field in
    let rows = l.fn.self.work in
    let n = length rows in
    (length l.state.work ≡ n)
    × (Laws M → Square M n rows → l.fn.self.account ≡ basis_from (on_bytes M) n 0 n → Reducing M (g.met.F.Field.shape l.field) n rows l.k l.state.work l.state.account)
