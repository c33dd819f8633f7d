use Rattle.std.proofs.Common.{refl}
use Rattle.device_core.proofs.Mappings.{device_made, device_needed}
use Rattle.device_core.proofs.device.Device.turn.Goals as goal

pub invariant_of-self-in-Made : goal.invariant_of-self-in-Made
invariant_of-self-in-Made c =
    device_made c.self.inside.rooms c.turn.new.rooms c.args.who c.self.inside.maps c.follow.new.maps c.self.invariant c.in_ok-step.ensures.made
    c.in_ok-step.step c.in-Made.is c.in_ok-step.ensures.step c.follow.ensures

pub invariant_of-self-in_default : goal.invariant_of-self-in_default
invariant_of-self-in_default c =
    device_needed c.self.inside.rooms c.turn.new.rooms c.args.who c.self.inside.maps c.self.inside.maps c.self.invariant c.in_ok-step.ensures.made
    c.in_default.field-0 c.in_ok-step.step c.in_default.is c.in_ok-step.ensures.step refl
