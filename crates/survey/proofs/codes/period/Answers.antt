use Rattle.std.proofs.Common.{◌≡◌, ◌+◌, ◌-◌, ◌^◌, ◌<◌, eqb, sym, ap, ◌∙◌, subst, pow_pos, arith}
use Rattle.std.proofs.lemmas.Bool.{eq-eqb}
use Rattle.algebra.specs.Operations.{power}
use Rattle.algebra.specs.Meaning.{as_code, operations}
use Rattle.algebra.proofs.Codes.{is_code}
use Rattle.survey.specs.Codes.{period}
use Rattle.survey.proofs.Copies.{found, not_found, none_more, power_more}
use Rattle.survey.proofs.codes.period.Goals as goal

pub loop-e-init : goal.loop-e-init
unfolding power operations
loop-e-init g c =
    let x = c.args.field.now in
    record {
      product = c.one-one.ensures;
      code = subst (λ n. n < 2 ^ (g.F.Field.meaning x).width) (sym c.one-one.ensures) (g.met.F.Field.shape x).one_code;
      none = λ k lo hi. absurd (omega arith);
    }

pub returns-then-x-one : goal.returns-then-x-one
unfolding period
returns-then-x-one g c =
    let M = g.F.Field.meaning c.args.field.now in
    let n = 2 ^ M.width in
    let a = as_code M c.args.a in
    let e = c.loop-e.e in
    let inv = c.loop-e.invariant in
    let is = power_more M a c.loop-e.x e c.product-x.result inv.code c.loop-e.auto.e inv.product c.product-x.ensures in
    let within : e < 1 + n = omega (arith, c.loop-e-test.true, c.from-e-end.ensures, c.largest_code.ensures, pow_pos M.width) in
    sym (found (λ k. eqb (power (operations M) a k) M.one) n 1 e c.loop-e.auto.e within inv.none
    (eq-eqb (power (operations M) a e) M.one (sym is ∙ c.if-x-one.true ∙ c.one-one.ensures)))

pub loop-e-preserved : goal.loop-e-preserved
loop-e-preserved g c =
    let x = c.args.field.now in
    let M = g.F.Field.meaning x in
    let a = as_code M c.args.a in
    let e = c.loop-e.e in
    let inv = c.loop-e.invariant in
    let is = power_more M a c.loop-e.x e c.product-x.result inv.code c.loop-e.auto.e inv.product c.product-x.ensures in
    let back : e ≡ e + 1 - 1 = omega arith in
    record {
      product = is ∙ ap (power (operations M) a) back;
      code = subst (λ n. n < 2 ^ M.width) (sym c.product-x.ensures) ((g.met.F.Field.shape x).product_code a (as_code M c.loop-e.x) (is_code M c.args.a) (is_code M c.loop-e.x));
      none = none_more M a e c.one-one.result c.product-x.result c.one-one.ensures inv.none is c.if-x-one.false;
    }

pub returns-else-x-one : goal.returns-else-x-one
unfolding period
returns-else-x-one g c =
    let M = g.F.Field.meaning c.args.field.now in
    let n = 2 ^ M.width in
    let a = as_code M c.args.a in
    let e = c.loop-e.e in
    let inv = c.loop-e.invariant in
    let is = power_more M a c.loop-e.x e c.product-x.result inv.code c.loop-e.auto.e inv.product c.product-x.ensures in
    let all : 1 + n ≡ e + 1 = omega (arith, c.from-e-end.ensures, c.largest_code.ensures, pow_pos M.width) in
    let none = none_more M a e c.one-one.result c.product-x.result c.one-one.ensures inv.none is c.if-x-one.false in
    sym (not_found (λ k. eqb (power (operations M) a k) M.one) n 1 (λ k lo hi. none k lo (subst (λ m. k < m) all hi)))
