use Rattle.std.proofs.Common.{slice_get, sym, ◌∙◌, ap}
use Rattle.std.specs.Option.{option_copied}
use Rattle.ttm_base.specs.Placement.{forced_places}
use Rattle.place_list.proofs.PlaceLaws.{none_at}
use Rattle.place_list.proofs.forced_at.Goals as goal

pub unreachable-requires : goal.unreachable-requires
unreachable-requires c = none_at _ c.args.k (sym (ap option_copied c.in_default.is) ∙ c.forced_at.ensures ∙ ap (λ l. slice_get (forced_places l) c.args.k) c.items.ensures) c.requires
