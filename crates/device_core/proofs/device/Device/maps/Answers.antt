use Rattle.std.proofs.Common.{subst}
use Rattle.journal_model.specs.rules.Legal.{made_of}
use Rattle.map_follow.specs.Follows.{KnowExactly}
use Rattle.device_core.specs.Kept.{Kept}
use Rattle.device_core.specs.Mapped.{NamePlaces}
use Rattle.device_core.proofs.Mappings.{names_places}
use Rattle.device_core.proofs.device.Device.maps.Goals as goal

pub returns-clause-places : goal.returns-clause-places
returns-clause-places c = subst (λ (k : Kept). NamePlaces k c.self.inside.maps) c.self.view_is (names_places c.self.inside.rooms c.self.inside.maps c.self.invariant)

pub returns-clause-exact : goal.returns-clause-exact
returns-clause-exact c = subst (λ (k : Kept). KnowExactly k.script (made_of k.script k.journal) c.self.inside.maps) c.self.view_is c.self.invariant.follows.know
