use Rattle.rules_stores.proofs.entries.run_packet.Goals as goal

pub returns-in-Fill : goal.returns-in-Fill
returns-in-Fill c = rw (c.in-Fill.is, ← c.named.ensures) c.fill.ensures

pub returns-in-Copy : goal.returns-in-Copy
returns-in-Copy c =
    rw (c.in-Copy.is, ← c.part_of.ensures.page, ← c.part_of-in-Copy.ensures.page, ← c.part_of.ensures.off, ← c.part_of-in-Copy.ensures.off) c.copy_part.ensures

pub returns-in-Xor : goal.returns-in-Xor
returns-in-Xor c =
    rw (c.in-Xor.is, ← c.part_of-in-Xor.ensures.page, ← c.part_of-in-Xor-2.ensures.page, ← c.part_of-in-Xor.ensures.off, ← c.part_of-in-Xor-2.ensures.off) c.xor_part.ensures
