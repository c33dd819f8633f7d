use Rattle.std.proofs.Common.{◌∙◌, sym, ap}
use Rattle.device_core.specs.Kept.{Kept}
use Rattle.test_device.proofs.SizeLaws.{vram_bytes, frame_bytes, slot_count}
use Rattle.test_device.proofs.compared.pair.Pair.compare_end.Goals as goal

pub compare_stores-requires : goal.compare_stores-requires
compare_stores-requires c =
    let same = c.script.ensures ∙ sym (ap (λ (k : Kept). k.script) c.rooms.ensures) in
    record {
      vram = vram_bytes c.rooms.result.now.script c.script.result.now c.rooms.result.now.journal c.parts-parts.result.now same c.parts-parts.ensures;
      frames = frame_bytes c.rooms.result.now.script c.script.result.now c.rooms.result.now.journal c.parts-parts.result.now same c.parts-parts.ensures;
      slots = slot_count c.rooms.result.now.script c.script.result.now c.rooms.result.now.journal c.parts-parts.result.now same c.parts-parts.ensures;
    }
