use Rattle.std.proofs.Common.{refl, rules, ◌&&◌, ◌∙◌}
use borrow.Author.Tests.{tests}
use Rattle.std.proofs.lemmas.Iterator.{YieldsList-from_range}
use Rattle.std.proofs.lemmas.Iterator.Search.{any_from_yields_List}
use Rattle.algebra.specs.Shift.{in_range}
use Rattle.field.specs.Division.{divides}
use Rattle.field.proofs.Factors.{trial_is}
use Rattle.field.proofs.polynomial.Polynomial.has_factor.Goals as goal

pub returns : goal.returns
returns c =
    let p = c.args.self.now in
    any_from_yields_List (λ d. in_range d && divides d p.coefficients) _ _ _ c.any.ensures.ran (YieldsList-from_range 2 32 30 refl refl) (λ x b q k. search (rules, tests))
    ∙ trial_is p.coefficients p.low p.high
