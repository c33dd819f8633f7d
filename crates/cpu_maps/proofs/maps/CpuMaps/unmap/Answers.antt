use Rattle.std.proofs.Common.{◌<◌, length, arith, ◌∙◌}
use Rattle.std.proofs.Math.ListN.{length-set}
use Rattle.journal_model.proofs.ListSteps.{map_over_step}
use Rattle.cpu_maps.specs.Areas.{unmapped}
use Rattle.cpu_maps.proofs.maps.CpuMaps.unmap.Goals as goal

pub loop-i-preserved : goal.loop-i-preserved
loop-i-preserved c =
    let within : c.loop-i.i < length c.self.inside.areas = omega arith in
    rw c.unmap.ensures (map_over_step (unmapped c.args.thread c.args.b) _ _ _ _ within c.loop-i.invariant.0 c.get_mut.ensures.value, length-set _ _ _ ∙ c.loop-i.invariant.1)
