use Rattle.turn_lock.proofs.Onward.{onward_self, onward_fenced}
use Rattle.worker_pool.proofs.still_blocked.Goals as goal

pub returns-in_err-job : goal.returns-in_err-job
returns-in_err-job g c = onward_self c.args.pass.now c.requires.free

pub returns-then-job-contexts : goal.returns-then-job-contexts
returns-then-job-contexts g c = onward_self c.args.pass.now c.requires.free

pub returns-then-peek_fence : goal.returns-then-peek_fence
returns-then-peek_fence g c = onward_fenced c.args.pass.now c.peek_fence.new.pass _ _ c.requires.free c.peek_fence.ensures.same c.peek_fence.ensures.found.1

pub returns : goal.returns
returns g c = onward_fenced c.args.pass.now c.peek_fence.new.pass _ _ c.requires.free c.peek_fence.ensures.same c.peek_fence.ensures.found.1
