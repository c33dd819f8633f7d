use Rattle.std.proofs.Common.{◌≡◌, ◌++◌, false, replicate, sym, subst, arith}
use Rattle.std.specs.Prelude.{flat_map}
use Rattle.std.proofs.lemmas.Grind.{common_steps}
use Rattle.journal_model.specs.rules.Holds.{held_frames}
use Rattle.rules_holds.specs.Held.{frames_of_slot}
use Rattle.rules_holds.specs.Marked.{AreMarked}
use Rattle.rules_holds.proofs.HeldLaws.{live_frames_of}
use Rattle.rules_holds.proofs.MarkLaws.{marked_then}
use Rattle.rules_holds.proofs.free.frame_marks.Goals as goal

pub returns-clause-marked : goal.returns-clause-marked
returns-clause-marked c =
    let live = live_frames_of c.args.core.now in
    let held : held_frames c.args.core.now ≡ flat_map frames_of_slot c.items.result.now ++ flat_map (λ g. g.frames) c.items-2.result.now =
    grind (arith, common_steps, live, c.items.ensures, c.items-2.ensures) in
    let marked = marked_then _ _ _ _ _ c.mark_live_frames.ensures c.mark_ghost_frames.ensures in
    subst (λ numbers. AreMarked (replicate c.args.script.now.sizes.frames false) numbers c.mark_ghost_frames.new.marks.items) (sym held)
    (subst (λ first. AreMarked first (flat_map frames_of_slot c.items.result.now ++ flat_map (λ g. g.frames) c.items-2.result.now) c.mark_ghost_frames.new.marks.items) c.in_ok-marks.ensures marked)
