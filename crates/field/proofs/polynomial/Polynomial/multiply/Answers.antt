use Rattle.std.proofs.Common.{◌≡◌, ◌-◌, ◌/◌, ◌^◌, ◌<◌, sym, ap, ◌∙◌, subst, ap₂, div-one, arith, pow_pos}
use native.Mathlib.Nat.{sub_self, sub-zero}
use Rattle.algebra.proofs.Binary.{horner, horner_lt, horner_times}
use Rattle.field.proofs.Widths.{range}
use Rattle.field.proofs.Turns.{turn}
use Rattle.field.proofs.polynomial.Polynomial.multiply.Goals as goal

pub overflow_shr-doubled : goal.overflow_shr-doubled
overflow_shr-doubled c = omega (arith, (range c.args.self.now).at_most)

pub loop-i-init : goal.loop-i-init
unfolding horner
loop-i-init c =
    (sym (ap (λ n. horner c.args.self.now.width c.args.self.now.coefficients c.args.b n (c.args.a / 2 ^ c.args.digits)) (sub_self c.args.digits)), pow_pos c.args.self.now.width)

pub loop-i-preserved : goal.loop-i-preserved
loop-i-preserved c =
    let w = c.args.self.now.width in
    let p = c.args.self.now.coefficients in
    let next = turn w p c.args.b c.args.digits c.loop-i.i c.args.a c.loop-i.r c.select.result c.select-in-loop-i.result
    (range c.args.self.now).at_most (omega (arith, c.loop-i-test.true)) (omega (arith, c.loop-i.auto.i)) c.loop-i.invariant.1 c.loop-i.invariant.0 c.select.ensures c.select-in-loop-i.ensures in
    (next, subst (λ z. z < 2 ^ w) (sym next) (horner_lt w p (range c.args.self.now).reaches (range c.args.self.now).stays_below c.args.b c.requires.code (c.args.digits - (c.loop-i.i - 1)) (c.args.a / 2 ^ (c.loop-i.i - 1))))

pub returns : goal.returns
returns c =
    let w = c.args.self.now.width in
    let p = c.args.self.now.coefficients in
    let done : c.loop-i.i ≡ 0 = omega (arith, c.loop-i-test.false) in
    c.loop-i.invariant.0
    ∙ ap (λ i. horner w p c.args.b (c.args.digits - i) (c.args.a / 2 ^ i)) done
    ∙ ap₂ (horner w p c.args.b) (sub-zero c.args.digits) (div-one c.args.a)
    ∙ sym (horner_times w p (range c.args.self.now).reaches (range c.args.self.now).stays_below c.args.b c.requires.code c.args.digits c.args.a)
