use Rattle.std.proofs.Common.{◌≡◌, ◌+◌, ◌^◌, ◌<◌, length, Ok, sym, ◌∙◌, subst}
use Rattle.rules_stores.specs.Kept.{bytes_of}
use Rattle.plain_device.specs.Kept.{entry_of}
use Rattle.plain_device.proofs.ReadyLaws.{has_room}
use Rattle.plain_device.proofs.DeviceLaws.{known, entry_shown}
use Rattle.plain_device.proofs.device.Device.next_entry.Goals as goal

pub next-requires : goal.next-requires
next-requires c =
    has_room c.self.inside.script c.self.inside.state (length c.self.inside.journal)
    (known c.self.inside.script c.self.inside.journal c.self.inside.state c.self.inside.stores.sizes (bytes_of c.self.inside.stores) c.self.invariant
    (subst (λ k. length k.journal + 1 < 2 ^ 64) (sym c.self.view_is) c.requires))

pub returns-in_ok-kind-in-Ok : goal.returns-in_ok-kind-in-Ok
returns-in_ok-kind-in-Ok c =
    subst (λ k. Ok (record { who = c.args.who; kind = c.in_ok-kind-in-Ok.kind }) ≡ entry_of k c.args.who) c.self.view_is
    (entry_shown c.self.inside.script c.self.inside.journal c.self.inside.state c.self.inside.stores.sizes (bytes_of c.self.inside.stores) c.self.invariant
    c.args.who c.in-Ok.kind c.in_ok-kind-in-Ok.kind (sym c.in_ok-kind.ensures ∙ c.in-Ok.is) c.in_ok-kind-in-Ok.ensures)
