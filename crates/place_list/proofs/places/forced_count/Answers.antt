use Rattle.std.proofs.Common.{rules, tests, not, sym, ◌∙◌}
use Rattle.std.proofs.lemmas.Iterator.{YieldsList-from_slice}
use Rattle.std.proofs.lemmas.Iterator.Consumers.{YieldsList-at, YieldsList-from_filter, count_from_yields_List}
use Rattle.std.proofs.lemmas.List.{length-map}
use Rattle.place_list.proofs.places.forced_count.Goals as goal

pub returns : goal.returns
returns c =
    count_from_yields_List c.filter.result c.count.result c.count.ensures.ran
    (YieldsList-from_filter _ (λ p. not p.desired) (YieldsList-at c.filter.ensures.source (YieldsList-from_slice c.args.list.now (cc))) c.filter.ensures.closure (λ x r q k. search (rules, tests)))
    ∙ sym (length-map _ _)
