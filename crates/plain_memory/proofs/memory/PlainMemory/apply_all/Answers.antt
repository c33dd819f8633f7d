use Rattle.plain_memory.proofs.ContentLaws.{becomes_next}
use Rattle.plain_memory.proofs.memory.PlainMemory.apply_all.Goals as goal

pub loop-op-preserved : goal.loop-op-preserved
loop-op-preserved c =
    becomes_next c.args.self.now c.loop-op.self c.apply.new.self c.args.ops.now c.loop-op.op-index _ c.loop-op-test.true c.loop-op.invariant c.in_ok-apply.ensures.ok
