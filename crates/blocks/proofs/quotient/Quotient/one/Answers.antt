use Rattle.std.proofs.Common.{◌≡◌, ℕ, zero, suc, ◌≤◌, List, ◌∷◌, length, set, replicate, ap, ◌∙◌, ap₂, not-suc-le-zero}
use Rattle.algebra.specs.Meaning.{Meaning, on_bytes}
use Rattle.algebra.specs.Tuples.{unit}
use Rattle.algebra.proofs.Tuples.{length_unit}
use Rattle.blocks.proofs.Coefficients.{zeros_are}
use Rattle.blocks.proofs.quotient.Quotient.one.Goals as goal

-- one over zeros
written : (M : Meaning) (n : ℕ) → 1 ≤ n → set (replicate n 0) 0 M.one ≡ unit (on_bytes M) n
unfolding unit on_bytes
written M zero h = absurd (not-suc-le-zero h)
written M (suc n) h = ap (λ (t : List ℕ). M.one ∷ t) (zeros_are M n)

pub returns : goal.returns
returns g c =
    let M = g.F.Field.meaning c.args.self.now.field.now in
    let n = length c.args.self.now.low in
    let value = c.with.ensures ∙ ap₂ (λ (l : List ℕ) (x : ℕ). set l 0 x) (c.zeros.ensures ∙ ap (λ n. replicate n 0) c.size.ensures.value) c.one.ensures ∙ written M n c.args.self.now.some in
    record { value = value; size = ap length value ∙ length_unit (on_bytes M) n }
