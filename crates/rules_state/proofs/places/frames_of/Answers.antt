use Rattle.std.proofs.Common.{arith}
use Rattle.std.proofs.lemmas.Grind.{common_steps}
use Rattle.ttm_base.specs.declared.Loc.TheVariants.{Zero}
use Rattle.journal_model.specs.rules.Places.{frame_of}
use Rattle.state_words.proofs.ListSteps.{filter_map_more}
use Rattle.rules_state.proofs.places.frames_of.Goals as goal

pub loop-loc-preserved : goal.loop-loc-preserved
loop-loc-preserved c =
    let more = filter_map_more frame_of c.items-loc-items.result.now c.loop-loc.loc-index Zero c.loop-loc-test.true in
    grind (arith, common_steps, more)
