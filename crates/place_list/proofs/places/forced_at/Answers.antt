use Rattle.std.proofs.Common.{rules, tests, not, sym, ◌∙◌, ap, Some, None}
use Rattle.std.specs.Option.{option_map}
use Rattle.std.proofs.lemmas.Iterator.{YieldsList-from_slice}
use Rattle.std.proofs.lemmas.Iterator.Consumers.{YieldsList-at, YieldsList-from_filter, nth_from_yields_List}
use Rattle.place_list.proofs.PlaceLaws.{place_at}
use Rattle.place_list.proofs.places.forced_at.Goals as goal

pub returns-in-Some : goal.returns-in-Some
returns-in-Some c =
    let at = nth_from_yields_List c.nth.result c.nth.new.self c.args.k c.nth.ensures.ran
    (YieldsList-from_filter _ (λ p. not p.desired) (YieldsList-at c.filter.ensures.source (YieldsList-from_slice c.args.list.now (cc))) c.filter.ensures.closure (λ x r q k. search (rules, tests))) in
    sym (place_at _ c.args.k (Some c.in-Some.p.now) (sym (ap (option_map (λ p. p.now)) c.in-Some.is) ∙ at))

pub returns-in-None : goal.returns-in-None
returns-in-None c =
    let at = nth_from_yields_List c.nth.result c.nth.new.self c.args.k c.nth.ensures.ran
    (YieldsList-from_filter _ (λ p. not p.desired) (YieldsList-at c.filter.ensures.source (YieldsList-from_slice c.args.list.now (cc))) c.filter.ensures.closure (λ x r q k. search (rules, tests))) in
    sym (place_at _ c.args.k None (sym (ap (option_map (λ p. p.now)) c.in-None.is) ∙ at))
