use Rattle.std.proofs.Common.{sym, subst}
use Rattle.journal_model.specs.statements.MarkLaws.{MapsAreRight}
use Rattle.device_core.specs.Kept.{Kept}
use Rattle.device_core.proofs.Mappings.{right_now}
use Rattle.device_core.proofs.device.Device.step.Goals as goal

pub returns-then-over-clause-places : goal.returns-then-over-clause-places
returns-then-over-clause-places c = subst (λ (k : Kept). MapsAreRight k.script k.journal) c.self.view_is (right_now c.self.inside.rooms c.self.inside.maps c.self.invariant)

pub returns-in_err-turn-clause-places : goal.returns-in_err-turn-clause-places
returns-in_err-turn-clause-places c =
    subst (λ (k : Kept). MapsAreRight k.script k.journal) (sym c.in_err-turn.ensures.err)
    (subst (λ (k : Kept). MapsAreRight k.script k.journal) c.self.view_is (right_now c.self.inside.rooms c.self.inside.maps c.self.invariant))

pub returns-clause-places : goal.returns-clause-places
returns-clause-places c = subst (λ (k : Kept). MapsAreRight k.script k.journal) c.self-2.view_is (right_now c.self-2.inside.rooms c.self-2.inside.maps c.self-2.invariant)
