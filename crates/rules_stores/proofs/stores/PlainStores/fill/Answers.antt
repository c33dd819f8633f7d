use Rattle.std.proofs.Common.{refl}
use Rattle.rules_stores.proofs.KeptLaws.{wrote_vram, wrote_frame, wrote_slot, wrote_nowhere}
use Rattle.rules_stores.proofs.stores.PlainStores.fill.Goals as goal

pub returns-in-Nowhere : goal.returns-in-Nowhere
returns-in-Nowhere c =
    rw (← c.self.view_is, c.in-Nowhere.is) (record { same_sizes = refl; bytes_are = wrote_nowhere _ _ _ _ c.self.invariant _ _ (λ i. c.args.byte) })

pub returns-in-Vram : goal.returns-in-Vram
returns-in-Vram c =
    rw (← c.self.view_is, c.in-Vram.is)
    (record { same_sizes = refl; bytes_are = wrote_vram _ _ _ _ c.self.invariant _ _ _ _ (λ i. c.args.byte) c.fill.ensures.bytes })

pub returns-in-Frame : goal.returns-in-Frame
returns-in-Frame c =
    rw (← c.self.view_is, c.in-Frame.is)
    (record { same_sizes = refl; bytes_are = wrote_frame _ _ _ _ c.self.invariant _ _ _ _ (λ i. c.args.byte) c.fill-in-Frame.ensures.bytes })

pub returns-in-Slot : goal.returns-in-Slot
returns-in-Slot c =
    rw (← c.self.view_is, c.in-Slot.is)
    (record { same_sizes = refl; bytes_are = wrote_slot _ _ _ _ c.self.invariant _ _ _ _ (λ i. c.args.byte) c.fill-in-Slot.ensures.bytes })
