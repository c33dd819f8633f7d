use Rattle.std.proofs.Common.{◌<◌, length, arith, ◌∙◌}
use Rattle.std.proofs.Math.ListN.{length-set}
use Rattle.journal_model.specs.rules.ApplyVictims.{failed_if}
use Rattle.journal_model.proofs.ListSteps.{map_over_step}
use Rattle.state_words.proofs.courses.fail_victim.Goals as goal

pub loop-i-preserved : goal.loop-i-preserved
loop-i-preserved c =
    let within : c.loop-i.i < length c.args.caught.now = omega arith in
    rw (c.set.ensures, c.failed.ensures) (map_over_step (failed_if c.args.deny c.args.b) _ _ _ _ within c.loop-i.invariant.0 c.at.ensures, length-set _ _ _ ∙ c.loop-i.invariant.1)
