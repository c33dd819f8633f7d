use Rattle.std.proofs.Common.{◌<◌, length, arith, ◌∙◌}
use Rattle.std.proofs.Math.ListN.{length-set}
use Rattle.std.proofs.lemmas.Option.{slice_get-get_or}
use Rattle.ttm_base.specs.declared.Loc.TheVariants as loc
use Rattle.journal_model.proofs.ListSteps.{map_over_step}
use Rattle.rules_state.proofs.parts.buffers.leave_table.Goals as goal

pub loop-i-preserved : goal.loop-i-preserved
loop-i-preserved c =
    let within : c.loop-i.i < length c.args.table.now = omega arith in
    let here : c.loop-i.i < length c.loop-i.table = omega (arith, c.loop-i.invariant.1) in
    rw c.set.ensures (map_over_step (λ place. loc.Zero) _ _ _ _ within c.loop-i.invariant.0 (slice_get-get_or _ _ loc.Zero here), length-set _ _ _ ∙ c.loop-i.invariant.1)
