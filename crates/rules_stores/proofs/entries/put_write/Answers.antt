use Rattle.rules_stores.proofs.entries.put_write.Goals as goal

pub returns-in-Write : goal.returns-in-Write
returns-in-Write c = rw (c.in-Write.is, ← c.items.ensures) c.put_bytes.ensures
