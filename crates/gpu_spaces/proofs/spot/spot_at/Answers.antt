use Rattle.std.proofs.Common.{◌/◌, arith}
use Rattle.gpu_spaces.specs.Kept.{regions_in}
use Rattle.gpu_spaces.proofs.Meeting.{around_parts}
use Rattle.gpu_spaces.proofs.Small.{around_is_small}
use Rattle.gpu_spaces.proofs.spot.spot_at.Goals as goal

pub overflow_sub-off : goal.overflow_sub-off
overflow_sub-off c =
    let parts = around_parts (c.args.addr / 4096) (regions_in c.args.mappings.now) c.around.result c.in_ok-mapping.mapping c.around.ensures c.in_ok-mapping.was in
    let low = parts.0 in
    omega (arith, low, c.from-first.ensures)

pub overflow_cast-result : goal.overflow_cast-result
overflow_cast-result c =
    let parts = around_parts (c.args.addr / 4096) (regions_in c.args.mappings.now) c.around.result c.in_ok-mapping.mapping c.around.ensures c.in_ok-mapping.was in
    let small = around_is_small (c.args.addr / 4096) (regions_in c.args.mappings.now) c.around.result c.in_ok-mapping.mapping c.requires.kept.small c.around.ensures c.in_ok-mapping.was in
    let low = parts.0 in
    let high = parts.1 in
    omega (arith, low, high, small, c.from-first.ensures, c.from.ensures)

pub overflow_sub-result : goal.overflow_sub-result
overflow_sub-result c =
    let parts = around_parts (c.args.addr / 4096) (regions_in c.args.mappings.now) c.around.result c.in_ok-mapping.mapping c.around.ensures c.in_ok-mapping.was in
    let high = parts.1 in
    omega (arith, high, c.from-2.ensures)

pub returns-clause-room : goal.returns-clause-room
returns-clause-room c =
    let parts = around_parts (c.args.addr / 4096) (regions_in c.args.mappings.now) c.around.result c.in_ok-mapping.mapping c.around.ensures c.in_ok-mapping.was in
    let high = parts.1 in
    omega (arith, high, c.from-2.ensures)

pub returns-clause-small : goal.returns-clause-small
returns-clause-small c =
    let parts = around_parts (c.args.addr / 4096) (regions_in c.args.mappings.now) c.around.result c.in_ok-mapping.mapping c.around.ensures c.in_ok-mapping.was in
    let small = around_is_small (c.args.addr / 4096) (regions_in c.args.mappings.now) c.around.result c.in_ok-mapping.mapping c.requires.kept.small c.around.ensures c.in_ok-mapping.was in
    let low = parts.0 in
    let high = parts.1 in
    omega (arith, low, high, small, c.from-first.ensures, c.from.ensures, c.from-2.ensures)
