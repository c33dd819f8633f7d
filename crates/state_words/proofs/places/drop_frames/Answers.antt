use Rattle.std.proofs.Common.{◌<◌, length, arith, ◌∙◌}
use Rattle.std.proofs.Math.ListN.{length-set}
use Rattle.journal_model.specs.rules.ApplyPages.{without_frame}
use Rattle.journal_model.proofs.ListSteps.{map_over_step}
use Rattle.state_words.proofs.places.drop_frames.Goals as goal

pub loop-i-preserved : goal.loop-i-preserved
loop-i-preserved c =
    let within : c.loop-i.i < length c.args.table.now = omega arith in
    rw (c.set.ensures, c.without_its_frame.ensures) (map_over_step without_frame _ _ _ _ within c.loop-i.invariant.0 c.at.ensures, length-set _ _ _ ∙ c.loop-i.invariant.1)
