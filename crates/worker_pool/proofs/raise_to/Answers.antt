use Rattle.turn_lock.proofs.Onward.{onward_self, onward_fenced}
use Rattle.worker_pool.proofs.raise_to.Goals as goal

pub returns-in-Some-clause-onward : goal.returns-in-Some-clause-onward
returns-in-Some-clause-onward g c = onward_fenced c.args.pass.now c.raise_fence.new.pass _ _ c.requires.free c.raise_fence.ensures.0 c.raise_fence.ensures.1

pub returns-in_default-clause-onward : goal.returns-in_default-clause-onward
returns-in_default-clause-onward g c = onward_self c.args.pass.now c.requires.free
