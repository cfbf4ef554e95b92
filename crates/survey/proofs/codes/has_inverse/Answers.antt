use Rattle.std.proofs.Common.{◌∙◌, eqb, rules}
use borrow.Author.Tests.{tests}
use Rattle.std.proofs.lemmas.Iterator.Search.{any_from_yields_List}
use Rattle.algebra.specs.Meaning.{as_code}
use Rattle.survey.specs.Codes.{has_inverse}
use Rattle.survey.proofs.AllCodes.{all_codes_yield}
use Rattle.survey.proofs.codes.has_inverse.Goals as goal

pub returns : goal.returns
unfolding has_inverse
returns g c =
    let M = g.F.Field.meaning c.args.field.now in
    any_from_yields_List (λ b. eqb (M.product (as_code M c.args.a) b) M.one) _ _ _ c.any.ensures.ran
    (all_codes_yield M c.new.result c.new.ensures.start (c.new.ensures.end ∙ c.largest_code.ensures) c.new.ensures.exhausted)
    (λ x b q k. search (rules, tests))
