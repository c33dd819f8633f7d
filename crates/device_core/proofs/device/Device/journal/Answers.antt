use Rattle.std.proofs.Common.{subst}
use Rattle.journal_model.specs.rules.Transparent.{IsTransparent}
use Rattle.laws.proofs.law_transparent.Law.{transparent_given}
use Rattle.laws.proofs.law_transparent.Ways.{have_ways}
use Rattle.device_core.specs.Kept.{Kept}
use Rattle.device_core.proofs.device.Device.journal.Goals as goal

pub returns-clause-transparent : goal.returns-clause-transparent
returns-clause-transparent c =
    let k = c.self.inside.rooms in
    subst (λ (k : Kept). IsTransparent k.script k.journal) c.self.view_is (transparent_given k.script c.self.invariant.fits (have_ways k.script c.self.invariant.fits) k.journal c.self.invariant.legal)
