use Rattle.turn_lock.proofs.Onward.{onward_same, onward_trans}
use Rattle.worker_pool.proofs.crowd.work_all.Goals as goal

pub returns-in_default-clause-onward : goal.returns-in_default-clause-onward
returns-in_default-clause-onward g c = onward_trans _ _ _ (onward_same c.args.pass c.jobs_below.new.pass c.requires.free c.jobs_below.ensures.same.0 c.jobs_below.ensures.same.1) c.worked.ensures.onward

pub returns-in-Ok-backs-clause-onward : goal.returns-in-Ok-backs-clause-onward
returns-in-Ok-backs-clause-onward g c = onward_trans _ _ _
    (onward_trans _ _ _ (onward_same c.args.pass c.jobs_below.new.pass c.requires.free c.jobs_below.ensures.same.0 c.jobs_below.ensures.same.1) c.side_by_side-backs.ensures.onward)
    c.with_all.ensures.onward

pub returns-in-Err-clause-onward : goal.returns-in-Err-clause-onward
returns-in-Err-clause-onward g c = onward_trans _ _ _ (onward_same c.args.pass c.jobs_below.new.pass c.requires.free c.jobs_below.ensures.same.0 c.jobs_below.ensures.same.1) c.side_by_side-backs.ensures.onward
