use Rattle.std.proofs.Common.{◌≡◌, ℕ, ◌-◌, ◌*◌, List, ap, ◌∙◌, ap₂, arith, rules}
use Rattle.algebra.specs.BlockSteps.{squares, q_powers, back_step}
use Rattle.algebra.specs.Chains.{by_chain}
use Rattle.algebra.proofs.BlockSteps.{back_raises}
use Rattle.blocks.proofs.steps.raise_back.Goals as goal

pub returns : goal.returns
unfolding back_step
returns g c =
    let A = g.B.BlockArithmetic.arithmetic c.args.blocks.now in
    let u = c.args.block in
    let t = c.args.t in
    let l = c.args.l in
    let P = A.product in
    let m : c.from-width.result ≡ A.field.width = c.from-width.ensures ∙ c.width.ensures in
    let low : c.follow_chain-low.result ≡ by_chain P (squares A) A.field.width u
    = c.follow_chain-low.ensures.value (squares A) (λ n x r did. search rules) ∙ ap (λ n. by_chain P (squares A) n u) m in
    let middle = c.follow_chain-middle.ensures.value (q_powers A 1) (λ n x r did. search rules) ∙ ap (by_chain P (q_powers A 1) t) low in
    let high = c.follow_chain-high.ensures.value (q_powers A (2 * t)) (λ n x r did. search rules) ∙ ap (by_chain P (q_powers A (2 * t)) l) middle in
    let all = c.raise_by-raised.ensures.value ∙ ap (q_powers A 1 (t - 1)) (c.multiply-whole.ensures.value ∙ ap₂ P c.raise_by-top.ensures.value high) in
    let step : c.square_repeatedly.result ≡ back_step A l t u = c.square_repeatedly.ensures.value ∙ ap₂ (λ (n : ℕ) (z : List ℕ). squares A (n - 1) z) m all in
    record {
      step = step;
      power = λ lawful returns suits h. step ∙ back_raises A lawful returns l t suits u h;
      size = c.square_repeatedly.ensures.size;
    }

pub follow_chain-low-requires-clause-some : goal.follow_chain-low-requires-clause-some
follow_chain-low-requires-clause-some g c = omega (arith, c.from-width.ensures, c.width.ensures, (g.met.B.BlockArithmetic.formed c.args.blocks.now).shape.at_least)

pub overflow_sub-width : goal.overflow_sub-width
overflow_sub-width g c = omega (arith, c.from-width.ensures, c.width.ensures, (g.met.B.BlockArithmetic.formed c.args.blocks.now).shape.at_least)
