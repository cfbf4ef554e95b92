use Rattle.std.proofs.Common.{◌++◌, codes, refl, sym, subst, ap, ◌∙◌}
use Rattle.named.specs.Makes.{storey}
use Rattle.lines.specs.Scaled.{scaled}
use Rattle.lines.specs.Cases.{NamesAny, over}
use Rattle.lines.proofs.cases.scaled_named.Goals as goal

pub returns : goal.returns
returns c =
    let text = c.args.text.now in
    let base = c.in_ok-field_of.field-0 in
    let factor = c.in_ok-factor.factor in
    let one = c.in_ok-one.one in
    let made = c.new.ensures in
    subst (NamesAny (codes "scaled " ++ text)) (sym (ap (λ b. scaled (storey b) c.new.result.factor c.new.result.one) made.base ∙ ap (λ f. scaled (storey base) f c.new.result.one) made.factor ∙ ap (scaled (storey base) factor) made.one))
    (over (codes "scaled " ++ text) text _ _ factor one (storey base) refl c.in_ok-factor.ensures c.in_ok-one.ensures c.in_ok-field_of.ensures)
