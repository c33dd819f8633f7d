use Rattle.std.proofs.Common.{arith}
use Rattle.std.proofs.lemmas.Grind.{common_steps}
use Rattle.ttm_base.specs.declared.Loc.TheVariants.{Zero}
use Rattle.journal_model.specs.rules.Places.{frame_of}
use Rattle.state_words.proofs.ListSteps.{filter_map_more}
use Rattle.room_pages.proofs.binding.frames.frames_in.Goals as goal

pub loop-place-preserved : goal.loop-place-preserved
loop-place-preserved c =
    let more = filter_map_more frame_of c.args.places.now c.loop-place.place-index Zero c.loop-place-test.true in
    grind (arith, common_steps, more)
