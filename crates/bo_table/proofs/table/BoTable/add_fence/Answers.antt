use Rattle.std.proofs.Common.{subst, sym}
use Rattle.std.specs.Prelude.{◌<◌, length, slice_get}
use Rattle.std.specs.Option.{ForSome}
use Rattle.bo_table.specs.Seen.{Bos}
use Rattle.bo_table.proofs.TableLaws.{knows}
use Rattle.bo_table.proofs.table.BoTable.add_fence.Goals as goal

pub add_fence-requires-clause-known : goal.add_fence-requires-clause-known
add_fence-requires-clause-known c =
    knows c.self.inside.bos c.args.b c.get_mut.result.now c.args.job.ctx
    (subst (λ (t : Bos). ForSome (slice_get t.fences c.args.b.0) (λ set. c.args.job.ctx < length set)) (sym c.self.view_is) c.requires.known) c.get_mut.ensures.value
