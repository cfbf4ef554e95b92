use Rattle.std.proofs.Common.{◌≡◌, get_or, set, length, replicate, ◌∙◌, arith, get_or-set_other, get_or-set_same, below_more}
use Rattle.std.proofs.lemmas.List.{get_or_append_left, length-take-le}
use Rattle.algebra.specs.PowerTable.{entry}
use Rattle.field.proofs.LookUps.{entry_first, entry_more, mask_byte}
use Rattle.field.proofs.tables.powers_of.Goals as goal

pub loop-power-init : goal.loop-power-init
loop-power-init c = record { next = entry_first c.args.base.now.modulus.coefficients c.args.generator; filled = λ i h. absurd (omega arith) }

pub loop-power-preserved : goal.loop-power-preserved
loop-power-preserved c =
    let s = c.args.base.now in
    let g = c.args.generator in
    let k = c.loop-power.power-index in
    let x = c.loop-power.x in
    let inv = c.loop-power.invariant in
    record {
      next = entry_more s g k x c.product-x.result inv.next c.product-x.ensures;
      filled = below_more (λ i. get_or (set c.loop-power.places k x) i 0 ≡ entry s.modulus.coefficients g i) k
          (λ i h. get_or-set_other c.loop-power.places k i x 0 (λ e. omega arith) ∙ inv.filled i h)
          (get_or-set_same c.loop-power.places k x 0 (omega (arith, c.loop-power-test.true, c.loop-power.auto.places)) ∙ inv.next);
    }

pub returns : goal.returns
returns c k h =
    let s = c.args.base.now in
    let places = c.loop-power.places in
    let byte = mask_byte s c.args.generator in
    let long : length places ≡ s.mask = c.loop-power.auto.places ∙ length-take-le s.mask (replicate 256 0) (omega arith) in
    get_or_append_left places _ 0 k (omega arith) ∙ c.loop-power.invariant.filled k (omega (arith, c.loop-power-test.false, c.loop-power.auto.power-index-end, c.loop-power.auto.places, long))
