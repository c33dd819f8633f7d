use Rattle.std.proofs.Common.{take}
use Rattle.std.specs.Prelude.{filter_map}
use Rattle.ttm_base.specs.declared.Loc.TheVariants.{Zero}
use Rattle.journal_model.specs.rules.Places.{slot_of}
use Rattle.state_words.proofs.ListSteps.{filter_map_more}
use Rattle.rules_holds.proofs.MarkLaws.{marked_then}
use Rattle.report_check.proofs.given.give_slots.Goals as goal

pub loop-loc-preserved : goal.loop-loc-preserved
loop-loc-preserved c =
    let more = filter_map_more slot_of c.args.table.now c.loop-loc.loc-index Zero c.loop-loc-test.true in
    rw more (marked_then _ _ _ (filter_map slot_of (take c.loop-loc.loc-index c.args.table.now)) _ c.loop-loc.invariant c.give_slot.ensures)
