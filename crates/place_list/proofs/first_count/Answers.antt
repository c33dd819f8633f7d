use Rattle.std.proofs.Common.{length, not, ap, ◌∙◌, arith}
use Rattle.ttm_base.specs.Placement.{first_places}
use Rattle.place_list.proofs.PlaceLaws.{few}
use Rattle.place_list.proofs.first_count.Goals as goal

pub overflow_cast-result : goal.overflow_cast-result
overflow_cast-result c =
    let e = c.first_count.ensures ∙ ap (λ l. length (first_places l)) c.items.ensures in
    let few = few (λ p. not p.fallback) c.args.placement.now.list in
    omega (arith, e, few, c.requires)
