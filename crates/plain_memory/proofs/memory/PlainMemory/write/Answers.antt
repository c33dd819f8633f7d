use Rattle.std.proofs.Common.{length, refl}
use Rattle.std.specs.Prelude.{slice_index}
use Rattle.plain_memory.proofs.ContentLaws.{becomes_range}
use Rattle.plain_memory.proofs.memory.PlainMemory.write.Goals as goal

pub returns : goal.returns
returns c =
    let fits = rw (← c.self.view_is) at c.requires in
    rw (← c.self.view_is)
    (becomes_range c.self.inside.contents.items c.args.b c.args.off (length c.args.from.now) fits c.index_mut.result.now c.index_mut.ensures.value c.args.from.now c.write.new.self (slice_index c.args.from.now)
    refl (λ i h. refl) c.write.ensures)
