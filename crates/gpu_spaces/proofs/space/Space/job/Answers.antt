use Rattle.std.proofs.Common.{subst}
use Rattle.std.specs.Prelude.{IfOk}
use Rattle.gpu_spaces.specs.Kept.{regions_in}
use Rattle.gpu_spaces.proofs.Meant.{Means, job_means}
use Rattle.gpu_spaces.proofs.space.Space.job.Goals as goal

pub returns-clause-means : goal.returns-clause-means
returns-clause-means c =
    subst (λ rs. IfOk c.job_of.result (Means rs c.args.ops.now)) c.self.view_is
    (job_means c.job_of.result (regions_in c.self.inside.mappings) c.args.ops.now c.self.invariant.rising c.job_of.ensures)
