use Rattle.std.proofs.Common.{◌≡◌, ◌∙◌, subst, sym, false}
use Rattle.std.specs.Prelude.{Bool, ◌↔◌}
use Rattle.journal_model.specs.rules.Legal.{state_of}
use Rattle.journal_model.specs.statements.Complete.{is_complete}
use Rattle.laws.specs.law_sound.Sound.{SomeGoesOn}
use Rattle.rules_stores.specs.Kept.{bytes_of}
use Rattle.laws.proofs.law_sound.Orders.{until_the_end}
use Rattle.plain_device.proofs.DeviceLaws.{over}
use Rattle.plain_device.proofs.device.Device.over.Goals as goal

pub returns-clause-complete : goal.returns-clause-complete
returns-clause-complete c =
    subst (λ k. c.is_over.result ≡ is_complete k.script k.journal) c.self.view_is
    (c.is_over.ensures ∙ over c.self.inside.script c.self.inside.journal c.self.inside.state c.self.inside.stores.sizes (bytes_of c.self.inside.stores) c.self.invariant)

pub returns-clause-goes_on : goal.returns-clause-goes_on
returns-clause-goes_on c =
    let complete = c.is_over.ensures ∙ over c.self.inside.script c.self.inside.journal c.self.inside.state c.self.inside.stores.sizes (bytes_of c.self.inside.stores) c.self.invariant in
    let until = until_the_end c.self.inside.script c.self.inside.journal c.self.invariant.fits c.self.invariant.legal in
    subst (λ k. (c.is_over.result ≡ false) ↔ SomeGoesOn k.script (state_of k.script k.journal)) c.self.view_is
    (subst (λ (b : Bool). (b ≡ false) ↔ SomeGoesOn c.self.inside.script (state_of c.self.inside.script c.self.inside.journal)) (sym complete) until)
