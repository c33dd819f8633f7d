use Rattle.std.proofs.Common.{slice_get, sym, ◌∙◌, ap}
use Rattle.std.specs.Option.{option_copied}
use Rattle.ttm_base.specs.Placement.{first_places}
use Rattle.place_list.proofs.PlaceLaws.{none_at}
use Rattle.place_list.proofs.first_at.Goals as goal

pub unreachable-requires : goal.unreachable-requires
unreachable-requires c = none_at _ c.args.k (sym (ap option_copied c.in_default.is) ∙ c.first_at.ensures ∙ ap (λ l. slice_get (first_places l) c.args.k) c.items.ensures) c.requires
