use Rattle.std.proofs.Common.{◌∙◌, ap, get_or}
use Rattle.bo_table.specs.Seen.{with_use}
use Rattle.room_jobs.proofs.Sets.{uses_more}
use Rattle.room_jobs.proofs.uses.add_uses.Goals as goal

pub loop-b-preserved : goal.loop-b-preserved
loop-b-preserved c =
    uses_more c.args.job c.args.ops.now c.args.bos.now c.args.bs.now c.loop-b.b-index (record { 0 = 0 }) c.loop-b-test.true c.loop-b.bos c.loop-b.invariant
    c.add_fence.new.self (c.add_fence.ensures ∙ ap (λ how. with_use c.args.job how c.loop-b.bos (get_or c.args.bs.now c.loop-b.b-index (record { 0 = 0 }))) c.use_of.ensures)
