use Rattle.turn_lock.proofs.Onward.{onward_trans}
use Rattle.test_device.proofs.threaded.workers.job_of.Goals as goal

pub returns : goal.returns
returns g c = onward_trans c.args.pass.now c.turn_of.new.pass c.turn_of-2.new.pass c.turn_of.ensures c.turn_of-2.ensures
