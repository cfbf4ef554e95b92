use Rattle.std.proofs.Common.{◌∙◌, sym, ap, rules, unwrap_or}
use Rattle.std.proofs.lemmas.Iterator.Consumers.{YieldsList-at, YieldsList-from_filter_map, max_from_yields_List}
use Rattle.std.proofs.lemmas.Iterator.Adapters.{option_map_id}
use Rattle.survey.specs.Codes.{period, longest_period}
use Rattle.survey.proofs.AllCodes.{all_codes_yield}
use Rattle.survey.proofs.codes.longest_period.Goals as goal

pub returns : goal.returns
unfolding longest_period
returns g c =
    let M = g.F.Field.meaning c.args.field.now in
    let largest = max_from_yields_List c.filter_map.result _ c.max.ensures.ran
    (YieldsList-from_filter_map _ (period M)
    (YieldsList-at c.filter_map.ensures.source (all_codes_yield M c.new.result c.new.ensures.start (c.new.ensures.end ∙ c.largest_code.ensures) c.new.ensures.exhausted))
    c.filter_map.ensures.closure (λ x r q k. search rules)) in
    c.unwrap_or.ensures ∙ ap (λ r. unwrap_or r 0) (sym (option_map_id _) ∙ largest)
