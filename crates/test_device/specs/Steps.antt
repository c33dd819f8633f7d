-- A device and the parts that follow it.
use Rattle.std.specs.Prelude.{◌≡◌}
use Rattle.plain_device.specs.Kept as device
use Rattle.room_state.specs.Kept as rooms

-- the device and the parts have the same script and the same entries
pub record AreInStep (d : device.Kept) (r : rooms.Kept) : Type 0 where
  pub same_script : d.script ≡ r.script
  pub same_journal : d.journal ≡ r.journal
