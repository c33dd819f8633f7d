use Rattle.std.proofs.Common.{ℕ, replicate}
use Rattle.std.proofs.lemmas.List.{get_or-replicate, length-replicate}
use Rattle.plain_memory.proofs.ContentLaws.{becomes_range}
use Rattle.plain_memory.proofs.memory.PlainMemory.fill.Goals as goal

pub returns : goal.returns
returns c =
    let fits = rw (← c.self.view_is) at c.requires in
    rw (← c.self.view_is)
    (becomes_range c.self.inside.contents.items c.args.b c.args.off c.args.len fits c.index_mut.result.now c.index_mut.ensures.value (replicate c.args.len c.args.byte) c.fill.new.self (λ i. c.args.byte)
    (length-replicate {A = ℕ} c.args.len c.args.byte) (λ i h. get_or-replicate {A = ℕ} c.args.len i c.args.byte 0 h) c.fill.ensures)
