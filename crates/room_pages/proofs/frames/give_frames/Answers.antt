use Rattle.std.proofs.Common.{◌∙◌, ap, refl}
use Rattle.journal_model.specs.rules.Places.{frame_of}
use Rattle.room_representation.specs.lemma_bytes.GivenBack.{given_back}
use Rattle.room_representation.proofs.lemma_bytes.Walks.{table_done}
use Rattle.room_pages.proofs.Turns.{frame_held, frame_back, page_passed}
use Rattle.room_pages.proofs.frames.give_frames.Goals as goal
use Rattle.room_pages.proofs.frames.give_frames.Goals.{in-Frame, in_default}

pub give-requires : goal.give-requires
give-requires c =
    frame_held c.args.pool.now c.args.places.now c.loop-place.place-index _ c.loop-place-test.true c.in-Frame.is c.in-Frame.frame c.loop-place.pool c.requires refl c.loop-place.invariant

pub loop-place-preserved : goal.loop-place-preserved
loop-place-preserved c =
    elim c.match-place.branch [
      | in-Frame w ↦ frame_back c.args.pool.now c.args.places.now c.loop-place.place-index _ c.loop-place-test.true w.in-Frame.is w.in-Frame.frame c.loop-place.pool c.match-place.pool refl c.loop-place.invariant (w.pool-is ∙ w.give.ensures)
      | in_default w ↦ page_passed c.args.pool.now c.args.places.now c.loop-place.place-index _ c.loop-place-test.true refl c.loop-place.pool c.match-place.pool w.in_default.not-Frame c.loop-place.invariant w.pool-is
    ]

pub returns : goal.returns
returns c = c.loop-place.invariant ∙ ap (given_back c.args.pool.now) (table_done frame_of c.args.places.now c.loop-place.place-index c.loop-place-test.false)
