use Rattle.std.proofs.Common.{◌≡◌, take}
use Rattle.room_jobs.specs.Uses.{HaveContext, with_uses}
use Rattle.room_jobs.proofs.uses.add_uses.Given as goal

abbrev pub invariant-loop-b : goal.invariant-loop-b
invariant-loop-b l = (l.bos ≡ with_uses l.job l.ops l.initial.bos (take l.b-index l.bs)) × HaveContext l.job.ctx l.bos.fences
