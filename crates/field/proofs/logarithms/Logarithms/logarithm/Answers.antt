use Rattle.std.proofs.Common.{◌<◌, sym, ap, ◌∙◌, subst}
use Rattle.std.specs.Option.{IfSome}
use lib.Bits.{and_le_r}
use Rattle.field.specs.Tables.{kept_log}
use Rattle.field.proofs.LookUps.{code_is, place}
use Rattle.field.proofs.logarithms.Logarithms.logarithm.Goals as goal

pub returns : goal.returns
returns c =
    let t = c.args.self.now in
    let s = t.base in
    let kept = t.logarithms _ (and_le_r c.args.a s.mask) ∙ ap (kept_log s.modulus.coefficients t.generator) (code_is s t.generator c.args.a) in
    record { kept = kept; place = subst (λ o. IfSome o (λ i. i < s.mask)) (sym kept) (place s t.generator _) }
