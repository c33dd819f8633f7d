use Rattle.std.proofs.Common.{◌≡◌, [], Some, sym, subst, ◌∙◌, ap}
use Rattle.std.specs.Prelude.{◌==◌, filter_map}
use Rattle.std.proofs.lemmas.Bool.{ne_eqb}
use Rattle.journal_model.specs.rules.State.{live_in}
use Rattle.journal_model.specs.rules.Places.{frame_of, frames_of, slot_of, slots_of}
use Rattle.journal_model.specs.rules.ApplyCommands.{after_free}
use Rattle.rules_holds.specs.declared.free_sets.FreeSets.{FreeSets}
use Rattle.rules_holds.specs.Marked.{AreMarked}
use Rattle.rules_holds.proofs.MarkLaws.{marked_nothing}
use Rattle.report_check.proofs.GivenLaws.{free_given, free_gives, free_leaves}
use Rattle.report_check.proofs.given.free_after_free.Goals as goal

pub returns-then-g-ne0 : goal.returns-then-g-ne0
returns-then-g-ne0 c script thread owner are =
    let s = c.args.state.now in
    let b = c.args.b in
    let x = c.in_ok-buffer.buffer.now in
    let live : live_in s.core.buffers b ≡ Some x = ap (λ bs. live_in bs b) (sym c.items.ensures) ∙ sym c.in_ok-buffer.ensures in
    let given : FreeSets = record { frames = c.args.free.frames; slots = c.give_slots.new.free } in
    free_given script s.core (after_free s thread b c.args.g).core [] (slots_of x) c.args.free given owner (free_leaves s b x live thread c.args.g (ne_eqb c.args.g 0 c.if-g-ne0.true))
    (marked_nothing c.args.free.frames)
    (subst (λ t. AreMarked c.args.free.slots (filter_map slot_of t) c.give_slots.new.free) c.items-2.ensures c.give_slots.ensures) are

pub returns : goal.returns
returns c script thread owner are =
    let s = c.args.state.now in
    let b = c.args.b in
    let x = c.in_ok-buffer.buffer.now in
    let live : live_in s.core.buffers b ≡ Some x = ap (λ bs. live_in bs b) (sym c.items.ensures) ∙ sym c.in_ok-buffer.ensures in
    let given : FreeSets = record { frames = c.give_frames.new.free; slots = c.give_slots.new.free } in
    free_given script s.core (after_free s thread b c.args.g).core (frames_of x) (slots_of x) c.args.free given owner (free_gives s b x live thread c.args.g (ap (λ g. g == 0) c.if-g-ne0.false))
    (subst (λ t. AreMarked c.args.free.frames (filter_map frame_of t) c.give_frames.new.free) c.items-3.ensures c.give_frames.ensures)
    (subst (λ t. AreMarked c.args.free.slots (filter_map slot_of t) c.give_slots.new.free) c.items-2.ensures c.give_slots.ensures) are
