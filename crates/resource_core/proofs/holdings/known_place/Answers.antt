use Rattle.std.proofs.Common.{is_some, ap, ◌∙◌}
use Rattle.resource_core.proofs.holdings.known_place.Goals as goal

pub unreachable-requires : goal.unreachable-requires
unreachable-requires c = let e = ap is_some c.in-None.ensures ∙ c.requires in cc
