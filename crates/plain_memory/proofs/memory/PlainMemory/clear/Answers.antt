use Rattle.std.proofs.Common.{◌<◌, ◌≤◌, length, ap, arith}
use Rattle.plain_memory.proofs.ContentLaws.{becomes_clear, stays_clear}
use Rattle.plain_memory.proofs.memory.PlainMemory.clear.Goals as goal

pub returns-then-index-as_slice : goal.returns-then-index-as_slice
returns-then-index-as_slice c =
    let there : c.args.b.0 < length c.self.inside.contents.items = omega (arith, ap length c.as_slice.ensures.value) in
    rw (← c.self.view_is) (becomes_clear c.self.inside.contents.items c.args.b c.clear.new.self c.index_mut.result.now there c.index_mut.ensures.value c.clear.ensures)

pub returns-else-index-as_slice : goal.returns-else-index-as_slice
returns-else-index-as_slice c =
    let past : length c.self.inside.contents.items ≤ c.args.b.0 = omega (arith, ap length c.as_slice.ensures.value) in
    rw (← c.self.view_is) (stays_clear c.self.inside.contents.items c.args.b past)
