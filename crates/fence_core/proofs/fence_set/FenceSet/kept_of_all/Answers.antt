use Rattle.std.proofs.Common.{length}
use Rattle.fence_core.proofs.AddLaws.{set_of_both, set_of_more}
use Rattle.fence_core.proofs.fence_set.FenceSet.kept_of_all.Goals as goal

pub returns-clause-one : goal.returns-clause-one
returns-clause-one c = λ fences f. set_of_more (length c.args.self.now) fences f

pub returns-clause-all : goal.returns-clause-all
returns-clause-all c = λ usage fences others known. set_of_both usage (length c.args.self.now) fences others known
