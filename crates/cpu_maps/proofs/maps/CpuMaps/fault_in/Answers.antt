use Rattle.std.proofs.Common.{◌<◌, length, arith, ◌∙◌}
use Rattle.std.proofs.Math.ListN.{length-set}
use Rattle.journal_model.proofs.ListSteps.{map_over_step}
use Rattle.cpu_maps.specs.Areas.{with_fault}
use Rattle.cpu_maps.proofs.maps.CpuMaps.fault_in.Goals as goal

pub loop-i-preserved : goal.loop-i-preserved
loop-i-preserved c =
    let within : c.loop-i.i < length c.self.inside.areas = omega arith in
    rw c.fault_in.ensures (map_over_step (with_fault c.args.thread c.args.b c.args.page c.args.place) _ _ _ _ within c.loop-i.invariant.0 c.get_mut.ensures.value, length-set _ _ _ ∙ c.loop-i.invariant.1)
