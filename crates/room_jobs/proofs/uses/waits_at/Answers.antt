use Rattle.std.proofs.Common.{◌∙◌, ap₂, replicate}
use Rattle.fence_core.specs.Fences.{nothing_kept, all_added}
use Rattle.room_jobs.proofs.Sets.{waits_more}
use Rattle.room_jobs.proofs.uses.waits_at.Goals as goal

pub loop-b-preserved : goal.loop-b-preserved
loop-b-preserved c =
    waits_more c.args.ops.now c.args.bos.now.fences (replicate c.args.contexts nothing_kept) c.args.bs.now c.loop-b.b-index (record { 0 = 0 }) c.loop-b-test.true c.args.contexts c.requires.wide c.loop-b.waits c.loop-b.invariant _ c.get-bo.ensures.fences
    c.add_all.new.self (c.add_all.ensures ∙ ap₂ (λ how set. all_added how c.loop-b.waits set) c.waited_use.ensures c.fences.ensures)
