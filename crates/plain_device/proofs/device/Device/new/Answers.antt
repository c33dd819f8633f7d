use Rattle.plain_device.proofs.DeviceLaws.{held_first}
use Rattle.plain_device.proofs.device.Device.new.Goals as goal

pub invariant_of-result : goal.invariant_of-result
invariant_of-result c = held_first c.args.script c.new-2.result c.in_ok-state.state c.in_ok-stores.stores c.requires c.new-2.ensures c.in_ok-state.ensures c.in_ok-stores.ensures.sizes c.in_ok-stores.ensures.bytes
