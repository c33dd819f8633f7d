use Rattle.std.proofs.Common.{◌≡◌, false, sym, subst}
use Rattle.std.specs.Prelude.{Bool, ◌↔◌}
use Rattle.journal_model.specs.rules.Legal.{state_of}
use Rattle.laws.specs.law_sound.Sound.{SomeGoesOn}
use Rattle.laws.proofs.law_sound.Orders.{until_the_end}
use Rattle.device_core.specs.Kept.{Kept}
use Rattle.device_core.proofs.device.Device.over.Goals as goal

pub returns-clause-goes_on : goal.returns-clause-goes_on
returns-clause-goes_on c =
    let until = until_the_end c.self.inside.rooms.script c.self.inside.rooms.journal c.self.invariant.fits c.self.invariant.legal in
    subst (λ (k : Kept). (c.over.result ≡ false) ↔ SomeGoesOn k.script (state_of k.script k.journal)) c.self.view_is
    (subst (λ (b : Bool). (b ≡ false) ↔ SomeGoesOn c.self.inside.rooms.script (state_of c.self.inside.rooms.script c.self.inside.rooms.journal)) (sym c.over.ensures) until)
