use Rattle.std.proofs.Common.{◌≡◌, [], Some, sym, subst, ◌∙◌, ap}
use Rattle.std.specs.Prelude.{filter_map}
use Rattle.ttm_base.specs.declared.JobId.{JobId}
use Rattle.journal_model.specs.declared.entry.Left.TheVariants as left
use Rattle.journal_model.specs.rules.State.{live_in}
use Rattle.journal_model.specs.rules.Places.{frame_of, frames_of, slot_of, slots_of}
use Rattle.journal_model.specs.rules.ApplyMoves.{core_after_move}
use Rattle.rules_holds.specs.declared.free_sets.FreeSets.{FreeSets}
use Rattle.rules_holds.specs.Free.{AreFree}
use Rattle.rules_holds.specs.Marked.{AreMarked}
use Rattle.rules_holds.proofs.MarkLaws.{marked_nothing}
use Rattle.report_check.proofs.GivenLaws.{free_given, move_now_gives, move_leaves, move_keeps}
use Rattle.report_check.proofs.given.free_after_move.Goals as goal

pub returns-in-Now : goal.returns-in-Now
returns-in-Now c script mem num owner are =
    let s = c.args.state.now in
    let b = c.args.b in
    let x = c.in_ok-buffer.buffer.now in
    let job : JobId = record { ctx = 0; num = num } in
    let live : live_in s.core.buffers b ≡ Some x = ap (λ bs. live_in bs b) (sym c.items.ensures) ∙ sym c.in_ok-buffer.ensures in
    let given : FreeSets = record { frames = c.give_frames.new.free; slots = c.give_slots.new.free } in
    subst (λ l. AreFree script (core_after_move s.core b mem job l) given) (sym c.in-Now.is)
    (free_given script s.core (core_after_move s.core b mem job left.Now) (frames_of x) (slots_of x) c.args.free given owner (move_now_gives s b x live mem job c.in-Tt.is)
    (subst (λ t. AreMarked c.args.free.frames (filter_map frame_of t) c.give_frames.new.free) c.items-in-Now.ensures c.give_frames.ensures)
    (subst (λ t. AreMarked c.args.free.slots (filter_map slot_of t) c.give_slots.new.free) c.items-2.ensures c.give_slots.ensures) are)

pub returns-in-Ghost : goal.returns-in-Ghost
returns-in-Ghost c script mem num owner are =
    let s = c.args.state.now in
    let b = c.args.b in
    let x = c.in_ok-buffer.buffer.now in
    let g = c.in-Ghost.field-0 in
    let job : JobId = record { ctx = 0; num = num } in
    let live : live_in s.core.buffers b ≡ Some x = ap (λ bs. live_in bs b) (sym c.items.ensures) ∙ sym c.in_ok-buffer.ensures in
    let given : FreeSets = record { frames = c.args.free.frames; slots = c.give_slots.new.free } in
    subst (λ l. AreFree script (core_after_move s.core b mem job l) given) (sym c.in-Ghost.is)
    (free_given script s.core (core_after_move s.core b mem job (left.Ghost g)) [] (slots_of x) c.args.free given owner (move_leaves s b x live mem job g c.in-Tt.is)
    (marked_nothing c.args.free.frames)
    (subst (λ t. AreMarked c.args.free.slots (filter_map slot_of t) c.give_slots.new.free) c.items-2.ensures c.give_slots.ensures) are)

pub returns-in_default : goal.returns-in_default
returns-in_default c script mem num owner are =
    let s = c.args.state.now in
    let b = c.args.b in
    let x = c.in_ok-buffer.buffer.now in
    let job : JobId = record { ctx = 0; num = num } in
    let live : live_in s.core.buffers b ≡ Some x = ap (λ bs. live_in bs b) (sym c.items.ensures) ∙ sym c.in_ok-buffer.ensures in
    free_given script s.core (core_after_move s.core b mem job c.args.left) [] [] c.args.free c.args.free owner (move_keeps s b x live mem job c.args.left c.in_default.not-Tt)
    (marked_nothing c.args.free.frames) (marked_nothing c.args.free.slots) are
