use Rattle.std.proofs.Common.{◌∙◌, rules}
use borrow.Author.Tests.{tests}
use Rattle.std.proofs.lemmas.Iterator.Consumers.{YieldsList-at, YieldsList-from_filter, count_from_yields_List}
use Rattle.std.proofs.lemmas.List.Sums.{length-filter}
use Rattle.survey.specs.Codes.{all_codes, has_inverse, invertible}
use Rattle.survey.proofs.AllCodes.{all_codes_yield}
use Rattle.survey.proofs.codes.invertible.Goals as goal

pub returns : goal.returns
unfolding invertible
returns g c =
    let M = g.F.Field.meaning c.args.field.now in
    count_from_yields_List c.filter.result _ c.count.ensures.ran
    (YieldsList-from_filter _ (has_inverse M)
    (YieldsList-at c.filter.ensures.source (all_codes_yield M c.new.result c.new.ensures.start (c.new.ensures.end ∙ c.largest_code.ensures) c.new.ensures.exhausted))
    c.filter.ensures.closure (λ x b q k. search (rules, tests)))
    ∙ length-filter (has_inverse M) (all_codes M)
