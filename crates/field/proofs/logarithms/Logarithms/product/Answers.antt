use Rattle.std.proofs.Common.{◌+◌, ◌%◌, ◌<◌, ◌∙◌, sym, ap, inl, inr, mod-lt, arith}
use Rattle.algebra.specs.PowerTable.{entry}
use Rattle.field.proofs.LookUps.{zero_product, entry_product}
use Rattle.field.proofs.logarithms.Logarithms.product.Goals as goal

pub returns-in_default : goal.returns-in_default
returns-in_default c =
    let t = c.args.self.now in
    zero_product t.base t.generator _ _ (inl (sym c.logarithm-i.ensures.kept ∙ c.in_default.is))

pub returns-in_default-j : goal.returns-in_default-j
returns-in_default-j c =
    let t = c.args.self.now in
    zero_product t.base t.generator _ _ (inr (sym c.logarithm-j.ensures.kept ∙ c.in_default-j.is))

pub returns : goal.returns
returns c =
    let t = c.args.self.now in
    let less : (c.in-Some.i + c.in-Some-j.j) % t.base.mask < t.base.mask = mod-lt _ (omega (arith, c.in-Some.ensures.place)) in
    t.entries c.round.result (omega (arith, c.round.ensures))
    ∙ ap (entry t.base.modulus.coefficients t.generator) c.round.ensures
    ∙ entry_product t.base t.generator _ _ c.in-Some.i c.in-Some-j.j c.in-Some.ensures.kept c.in-Some-j.ensures.kept
