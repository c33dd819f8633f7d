use Rattle.std.proofs.Common.{refl, sym, ap}
use Rattle.std.specs.Prelude.{is_none}
use Rattle.journal_model.specs.rules.Legal.{state_of}
use Rattle.journal_model.specs.rules.Next.{head_of}
use Rattle.room_device.proofs.Absent.{headless}
use Rattle.room_device.proofs.idle.has_no_job.Goals as goal

pub returns-then-engine-script : goal.returns-then-engine-script
returns-then-engine-script c =
    let script = c.args.script.now in
    let journal = c.args.before.now in
    sym (ap is_none (headless script journal c.requires.fits c.requires.legal c.args.engine c.if-engine-script.true (head_of (state_of script journal) c.args.engine) refl))
