use Rattle.std.proofs.Common.{◌≡◌, ℕ, suc, ◌+◌, ◌-◌, ◌/◌, ◌^◌, ◌<◌, List, sym, ap, ◌∙◌, add-one, arith}
use Rattle.algebra.specs.Chains.{steps_for, follow, by_chain}
use Rattle.algebra.proofs.Chains.{chain_start, chain_end, turn_set, turn_clear}
use Rattle.blocks.proofs.chain.follow_chain.Goals as goal

pub loop-i-init : goal.loop-i-init
loop-i-init g c =
    let A = g.B.BlockArithmetic.arithmetic c.args.blocks.now in (
      λ raised acts. chain_start A.product raised c.args.block c.args.n c.ilog2-i.result c.requires.some c.ilog2-i.ensures.power_le c.ilog2-i.ensures.next_power_gt,
      c.requires.size,
    )

-- the turn at bit i − 1, when what it makes leads where following from bit i did
after_turn : (P : List ℕ → List ℕ → List ℕ) (raised : ℕ → List ℕ → List ℕ) (u : List ℕ) (n i : ℕ) (x next end : List ℕ) → 0 < i
    → follow P raised u (steps_for n (i - 1)) (n / 2 ^ (i - 1)) next ≡ follow P raised u (steps_for n (suc (i - 1))) (n / 2 ^ suc (i - 1)) x
    → follow P raised u (steps_for n i) (n / 2 ^ i) x ≡ end → follow P raised u (steps_for n (i - 1)) (n / 2 ^ (i - 1)) next ≡ end
after_turn P raised u n i x next end pos turn inv =
    let back : suc (i - 1) ≡ i = omega arith in
    turn ∙ ap (λ k. follow P raised u (steps_for n k) (n / 2 ^ k) x) back ∙ inv

-- the doubled product, with the number of terms as the chain has it
doubled : (P : List ℕ → List ℕ → List ℕ) (raised : ℕ → List ℕ → List ℕ) (n i : ℕ) (x y z : List ℕ) → y ≡ raised (n / 2 ^ (i + 1)) x → z ≡ P y x → z ≡ P (raised (n / 2 ^ suc i) x) x
doubled P raised n i x y z is e = e ∙ ap (λ w. P w x) (is ∙ ap (λ k. raised (n / 2 ^ k) x) (add-one i))

pub loop-i-preserved : goal.loop-i-preserved
loop-i-preserved g c =
    let P = (g.B.BlockArithmetic.arithmetic c.args.blocks.now).product in
    let u = c.args.block in
    let n = c.args.n in
    let i = c.loop-i.i in
    let x = c.loop-i.product in
    let z = c.multiply-product.result in (
      λ raised acts.
          after_turn P raised u n i x z (by_chain P raised n u) c.loop-i-test.true
          (ap (follow P raised u (steps_for n (i - 1)) (n / 2 ^ (i - 1)))
          (doubled P raised n (i - 1) x c.advance.result z (acts (n / 2 ^ (i - 1 + 1)) x c.advance.result c.advance.ensures) c.multiply-product.ensures.value)
          ∙ turn_clear P raised u n (i - 1) x c.if-n-i-eq1.false) (c.loop-i.invariant.0 raised acts),
      c.multiply-product.ensures.size,
    )

pub loop-i-preserved-then-n-i-eq1 : goal.loop-i-preserved-then-n-i-eq1
loop-i-preserved-then-n-i-eq1 g c =
    let P = (g.B.BlockArithmetic.arithmetic c.args.blocks.now).product in
    let u = c.args.block in
    let n = c.args.n in
    let i = c.loop-i.i in
    let x = c.loop-i.product in
    let z = c.multiply-product.result in
    let one = c.advance-then-n-i-eq1 in
    let last = c.multiply-product-then-n-i-eq1 in (
      λ raised acts.
          after_turn P raised u n i x last.result (by_chain P raised n u) c.loop-i-test.true
          (ap (follow P raised u (steps_for n (i - 1)) (n / 2 ^ (i - 1)))
          (last.ensures.value ∙ ap (P u) (acts 1 z one.result one.ensures
          ∙ ap (raised 1)
          (doubled P raised n (i - 1) x c.advance.result z (acts (n / 2 ^ (i - 1 + 1)) x c.advance.result c.advance.ensures) c.multiply-product.ensures.value)))
          ∙ turn_set P raised u n (i - 1) x c.if-n-i-eq1.true) (c.loop-i.invariant.0 raised acts),
      last.ensures.size,
    )

pub returns-clause-value : goal.returns-clause-value
returns-clause-value g c raised acts =
    let A = g.B.BlockArithmetic.arithmetic c.args.blocks.now in
    let done : c.loop-i.i ≡ 0 = omega (arith, c.loop-i-test.false) in
    sym (chain_end A.product raised c.args.block c.args.n c.loop-i.i c.loop-i.product done) ∙ c.loop-i.invariant.0 raised acts
