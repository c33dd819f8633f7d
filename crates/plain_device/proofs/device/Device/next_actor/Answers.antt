use Rattle.std.proofs.Common.{◌≡◌, ◌+◌, ◌^◌, ◌<◌, length, arith}
use Rattle.std.proofs.lemmas.Bool.Decides.{nat_tests}
use Rattle.rules_stores.specs.Kept.{bytes_of}
use Rattle.plain_device.proofs.ReadyLaws.{has_room}
use Rattle.plain_device.proofs.DeviceLaws.{known}
use Rattle.plain_device.proofs.device.Device.next_actor.Goals as goal

pub next_actor-requires : goal.next_actor-requires
next_actor-requires c =
    let least = c.if-len.false in
    let is = c.len.ensures in
    let short : length c.self.inside.journal + 1 < 2 ^ 64 = grind (arith, nat_tests) in
    has_room c.self.inside.script c.self.inside.state (length c.self.inside.journal)
    (known c.self.inside.script c.self.inside.journal c.self.inside.state c.self.inside.stores.sizes (bytes_of c.self.inside.stores) c.self.invariant short)
