use Rattle.std.proofs.Common.{sym, subst}
use Rattle.lines.specs.Cases.{RuleHolds, Holds}
use Rattle.lines.proofs.Answers.{some_true, same_bool}
use Rattle.lines.proofs.cases.case_holds.Goals as goal

pub returns-in_ok-rule_kept-in-Rule : goal.returns-in_ok-rule_kept-in-Rule
returns-in_ok-rule_kept-in-Rule g c = λ e.
    let M = g.F.Field.meaning c.args.field.now in
    let kept = c.in_ok-rule_kept-in-Rule in
    subst (Holds M) (sym c.in-Rule.is)
    (subst (RuleHolds M c.in-Rule.modulus) (same_bool kept.field-0 c.in-Rule.kept (some_true _ e)) kept.ensures)
