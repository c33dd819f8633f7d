use Rattle.std.proofs.Common.{arith}
use Rattle.gpu_spaces.specs.Kept.{regions_in}
use Rattle.gpu_spaces.proofs.Meeting.{around_parts}
use Rattle.gpu_spaces.proofs.Small.{around_is_small}
use Rattle.gpu_spaces.proofs.space.Space.at.Goals as goal

pub overflow_sub-result : goal.overflow_sub-result
overflow_sub-result c = (around_parts c.args.page (regions_in c.self.inside.mappings) c.around.result c.in-Some.mapping c.around.ensures c.in-Some.is).0

pub overflow_add-result : goal.overflow_add-result
overflow_add-result c =
    let parts = around_parts c.args.page (regions_in c.self.inside.mappings) c.around.result c.in-Some.mapping c.around.ensures c.in-Some.is in
    let small = around_is_small c.args.page (regions_in c.self.inside.mappings) c.around.result c.in-Some.mapping c.self.invariant.small c.around.ensures c.in-Some.is in
    let high = parts.1 in
    omega (arith, small, high)
