use Rattle.std.proofs.Common.{length}
use Rattle.rules_apply.proofs.jobs.+add_uses.Given as goal

abbrev pub decreases-add_uses : goal.decreases-add_uses
decreases-add_uses l = length l.bs.now
