use Rattle.std.proofs.Common.{◌≡◌, length, ap, ◌∙◌}
use Rattle.fence_core.specs.Fences.{needed}
use Rattle.fence_core.specs.Histories.{waiting}
use Rattle.ttm_base.specs.Fences.{named_job}
use Rattle.fence_core.proofs.NeedLaws.{set_needs, named_none}
use Rattle.fence_core.proofs.fence_set.FenceSet.need_of_all.Goals as goal

pub returns-clause-job : goal.returns-clause-job
returns-clause-job c =
    λ fences e known. ap (needed c.args.usage c.args.timeline.now) e ∙ set_needs c.args.usage c.args.timeline.now (length c.args.self.now) fences known

pub returns-clause-none : goal.returns-clause-none
returns-clause-none c =
    λ fences e known.
    let named : needed c.args.usage c.args.timeline.now c.args.self.now ≡ named_job (waiting c.args.usage c.args.timeline.now fences) =
    ap (needed c.args.usage c.args.timeline.now) e ∙ set_needs c.args.usage c.args.timeline.now (length c.args.self.now) fences known in
    rw named (named_none (waiting c.args.usage c.args.timeline.now fences))
