use Rattle.std.proofs.Common.{is_some, ap, ◌∙◌}
use Rattle.std.specs.HashMap.{get_by}
use Rattle.resource_core.specs.Places.{same_key}
use Rattle.resource_core.specs.Resources.{holds}
use Rattle.resource_core.proofs.TableLaws.{found_some}
use Rattle.resource_core.proofs.holdings.Holdings.holds.Goals as goal

pub returns : goal.returns
returns c =
    c.is_some.ensures ∙ ap is_some c.place_of.ensures
    ∙ found_some (λ key. get_by (same_key key) c.self.inside.places) (λ key. get_by (same_key key) c.self.inside.places) _ _ c.self.invariant c.args.owner
    ∙ ap (holds c.args.owner) c.self.view_is
