use Rattle.std.proofs.Common.{[], subst}
use Rattle.std.specs.Prelude.{◌==◌, filter, flat_map}
use Rattle.journal_model.specs.rules.ApplyJobs.{after_reap}
use Rattle.rules_holds.specs.declared.free_sets.FreeSets.{FreeSets}
use Rattle.rules_holds.specs.Marked.{AreMarked}
use Rattle.rules_holds.proofs.MarkLaws.{marked_nothing}
use Rattle.report_check.proofs.GivenLaws.{free_given, reap_gives}
use Rattle.report_check.proofs.given.free_after_reap.Goals as goal

pub returns : goal.returns
returns c script owner are =
    let s = c.args.state.now in
    let g = c.args.g in
    let given : FreeSets = record { frames = c.give_ghosts.new.free; slots = c.args.free.slots } in
    free_given script s.core (after_reap s g).core (flat_map (λ h. h.frames) (filter (λ h. h.num == g) s.core.ghosts)) [] c.args.free given owner (reap_gives s g)
    (subst (λ ghosts. AreMarked c.args.free.frames (flat_map (λ h. h.frames) (filter (λ h. h.num == g) ghosts)) c.give_ghosts.new.free) c.items.ensures c.give_ghosts.ensures)
    (marked_nothing c.args.free.slots) are
