use Rattle.std.proofs.Common.{◌≡◌, [], Some, sym, subst, ◌∙◌, ap}
use Rattle.std.specs.Prelude.{filter_map}
use Rattle.journal_model.specs.rules.State.{live_in}
use Rattle.journal_model.specs.rules.Places.{frame_of, frames_of}
use Rattle.journal_model.specs.rules.ApplyPages.{after_depopulate}
use Rattle.rules_holds.specs.declared.free_sets.FreeSets.{FreeSets}
use Rattle.rules_holds.specs.Marked.{AreMarked}
use Rattle.rules_holds.proofs.MarkLaws.{marked_nothing}
use Rattle.report_check.proofs.GivenLaws.{free_given, depopulate_gives}
use Rattle.report_check.proofs.given.free_after_depopulate.Goals as goal

pub returns : goal.returns
returns c script owner are =
    let s = c.args.state.now in
    let b = c.args.b in
    let x = c.in_ok-buffer.buffer.now in
    let live : live_in s.core.buffers b ≡ Some x = ap (λ bs. live_in bs b) (sym c.items.ensures) ∙ sym c.in_ok-buffer.ensures in
    let given : FreeSets = record { frames = c.give_frames.new.free; slots = c.args.free.slots } in
    free_given script s.core (after_depopulate s b).core (frames_of x) [] c.args.free given owner (depopulate_gives s b x live)
    (subst (λ t. AreMarked c.args.free.frames (filter_map frame_of t) c.give_frames.new.free) c.items-2.ensures c.give_frames.ensures)
    (marked_nothing c.args.free.slots) are
