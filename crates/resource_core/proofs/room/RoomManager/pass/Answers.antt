use Rattle.std.proofs.Common.{ap, ◌∙◌, refl}
use Rattle.resource_core.specs.Resources.{Resources, holds}
use Rattle.resource_core.proofs.TieLaws.{tied_is, tied_renamed}
use Rattle.resource_core.proofs.room.RoomManager.pass.Goals as goal

pub invariant_of-self : goal.invariant_of-self
invariant_of-self g c = (
  tied_is _ _ _ _ _ _ _ refl refl c.rename.ensures
      (tied_renamed _ _ _ _ c.self.invariant.0 c.args.from c.args.to (ap (λ (r : Resources). holds c.args.to r.held) c.self.view_is ∙ c.requires.to)),
  c.self.invariant.1,
)
