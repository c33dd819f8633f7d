use Rattle.std.proofs.Common.{refl}
use Rattle.std.specs.Prelude.{slice_index}
use Rattle.rules_stores.proofs.KeptLaws.{wrote_vram, wrote_frame, wrote_slot, wrote_nowhere}
use Rattle.rules_stores.proofs.stores.PlainStores.write.Goals as goal

pub returns-in-Nowhere : goal.returns-in-Nowhere
returns-in-Nowhere c =
    rw (← c.self.view_is, c.in-Nowhere.is) (record { same_sizes = refl; bytes_are = wrote_nowhere _ _ _ _ c.self.invariant _ _ (slice_index c.args.from.now) })

pub returns-in-Vram : goal.returns-in-Vram
returns-in-Vram c =
    rw (← c.self.view_is, c.in-Vram.is)
    (record { same_sizes = refl; bytes_are = wrote_vram _ _ _ _ c.self.invariant _ _ _ _ (slice_index c.args.from.now) c.write.ensures.bytes })

pub returns-in-Frame : goal.returns-in-Frame
returns-in-Frame c =
    rw (← c.self.view_is, c.in-Frame.is)
    (record { same_sizes = refl; bytes_are = wrote_frame _ _ _ _ c.self.invariant _ _ _ _ (slice_index c.args.from.now) c.write-in-Frame.ensures.bytes })

pub returns-in-Slot : goal.returns-in-Slot
returns-in-Slot c =
    rw (← c.self.view_is, c.in-Slot.is)
    (record { same_sizes = refl; bytes_are = wrote_slot _ _ _ _ c.self.invariant _ _ _ _ (slice_index c.args.from.now) c.write-in-Slot.ensures.bytes })
