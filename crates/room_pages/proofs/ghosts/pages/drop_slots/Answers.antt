use Rattle.std.proofs.Common.{◌∙◌, ap}
use Rattle.std.proofs.lemmas.Option.{slice_get-get_or}
use Rattle.ttm_base.specs.declared.Loc.TheVariants.{Zero}
use Rattle.journal_model.specs.rules.Places.{slot_of}
use Rattle.room_pages.proofs.ghosts.Loops.{dropped_next, dropped_passed, no_slot}
use Rattle.room_pages.proofs.ghosts.pages.drop_slots.Goals as goal
use Rattle.room_pages.proofs.ghosts.pages.drop_slots.Goals.{in-Slot, in_default}

pub loop-place-preserved : goal.loop-place-preserved
loop-place-preserved c =
    let at = slice_get-get_or c.args.places.now c.loop-place.place-index Zero c.loop-place-test.true in
    elim c.match-place.branch [
      | in-Slot w ↦ w.swap-is ∙ w.drop_slot.ensures ∙ dropped_next c.args.swap.now c.args.places.now c.loop-place.place-index _ at c.loop-place.swap c.loop-place.invariant w.in-Slot.slot (ap slot_of w.in-Slot.is)
      | in_default w ↦ w.swap-is ∙ dropped_passed c.args.swap.now c.args.places.now c.loop-place.place-index _ at c.loop-place.swap c.loop-place.invariant (no_slot _ w.in_default.not-Slot)
    ]
