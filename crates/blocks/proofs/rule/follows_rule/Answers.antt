use Rattle.std.proofs.Common.{◌≡◌, ℕ, List, Decides, ◌∙◌, subst, ap₂, arith}
use Rattle.algebra.specs.Iteration.{iterate}
use Rattle.algebra.specs.Meaning.{on_bytes}
use Rattle.algebra.specs.Modular.{variable}
use Rattle.blocks.specs.Moduli.{coefficients, arithmetic_of}
use Rattle.blocks.proofs.Moduli.{verdict}
use Rattle.blocks.specs.RoomsLemmas.{same_blocks}
use Rattle.blocks.proofs.rule.follows_rule.Goals as goal

pub returns : goal.returns
returns g c =
    let p = c.args.modulus.now in
    let M = g.F.Field.meaning c.args.field.now in
    let A = arithmetic_of M p in
    let x : c.x-x.result ≡ variable (on_bytes M) (coefficients p)
    = c.x-x.ensures.value ∙ ap₂ (λ f (l : List ℕ). variable (on_bytes (g.F.Field.meaning f)) l) c.quotient.ensures.field c.quotient.ensures.low in
    let raised : c.raise_repeatedly.result ≡ iterate A.q_power A.size (variable (on_bytes M) (coefficients p))
    = c.raise_repeatedly.ensures.value ∙ ap₂ (iterate A.q_power) (omega (arith, p.filled.whole)) x in
    verdict M p c.eq.result
    (subst (Decides c.eq.result) (ap₂ (λ (a b : List ℕ). a ≡ b) raised x) (same_blocks c.raise_repeatedly.result c.x-x.result c.eq.result c.eq.ensures))
