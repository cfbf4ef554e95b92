use Rattle.std.proofs.Common.{codes, ◌++◌, sym, subst, ◌∙◌, ap}
use Rattle.named.specs.Makes.{storey}
use Rattle.lines.specs.Scaled.{scaled}
use Rattle.lines.specs.Cases.{NamesAny, plain}
use Rattle.lines.proofs.cases.says.Goals as goal

pub returns-in_ok-scaled_named-in-Some-strip_prefix : goal.returns-in_ok-scaled_named-in-Some-strip_prefix
returns-in_ok-scaled_named-in-Some-strip_prefix c = λ e.
    let cut = c.in-Some-strip_prefix.ensures.cases in
    let f = c.in_ok-scaled_named-in-Some-strip_prefix.field-0 in
    let M = scaled (storey f.base) f.factor f.one in
    record {
      case = c.in-Some.case;
      name = c.in-Some.name.now;
      M = M;
      says = c.in-Some.ensures;
      names = subst (λ t. NamesAny t M) (sym (cut.1.1 ∙ ap (λ z. codes "scaled " ++ z) (sym cut.2))) c.in_ok-scaled_named-in-Some-strip_prefix.ensures;
      holds = c.case_holds.ensures e;
    }

pub returns-in_ok-field_of-in-None : goal.returns-in_ok-field_of-in-None
returns-in_ok-field_of-in-None c = λ e.
    let f = c.in_ok-field_of-in-None.field-0 in
    record {
      case = c.in-Some.case;
      name = c.in-Some.name.now;
      M = storey f;
      says = c.in-Some.ensures;
      names = plain c.in-Some.name.now (storey f) c.in_ok-field_of-in-None.ensures;
      holds = c.case_holds-in-None.ensures e;
    }
