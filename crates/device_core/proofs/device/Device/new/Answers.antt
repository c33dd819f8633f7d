use Rattle.std.proofs.Common.{[], sym, subst}
use Rattle.map_follow.specs.Follows.{Follows}
use Rattle.map_follow.proofs.First.{follows_first}
use Rattle.device_core.specs.Kept.{Kept}
use Rattle.device_core.specs.Mapped.{IsDevice}
use Rattle.device_core.proofs.device.Device.new.Goals as goal

pub invariant_of-result : goal.invariant_of-result
invariant_of-result c =
    subst (λ (k : Kept). IsDevice k c.in_ok-maps.maps) (sym c.in_ok-rooms.ensures)
    (record { fits = c.requires; legal = tt; follows = subst (Follows c.args.script []) (sym c.in_ok-maps.ensures) (follows_first c.args.script) })
