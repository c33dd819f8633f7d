use Rattle.turn_lock.proofs.Onward.{onward_fenced, onward_trans}
use Rattle.test_device.proofs.threaded.workers.raised_to.Goals as goal

pub returns : goal.returns
returns c = let first = onward_fenced c.args.pass.now c.peek_fence-first.new.pass _ _ c.requires.free c.peek_fence-first.ensures.same c.peek_fence-first.ensures.found.1 in
    onward_trans c.args.pass.now c.peek_fence-first.new.pass c.peek_fence-second.new.pass first
    (onward_fenced c.peek_fence-first.new.pass c.peek_fence-second.new.pass _ _ first.free c.peek_fence-second.ensures.same c.peek_fence-second.ensures.found.1)
