use Rattle.std.proofs.Common.{◌≡◌, [], None, sym, ◌∙◌, ap}
use Rattle.journal_model.specs.rules.State.{live_in}
use Rattle.journal_model.specs.rules.ApplyCommands.{after_new}
use Rattle.rules_holds.proofs.MarkLaws.{marked_nothing}
use Rattle.report_check.proofs.GivenLaws.{free_given, new_gives}
use Rattle.report_check.proofs.given.free_after_new.Goals as goal

pub returns-in-None : goal.returns-in-None
returns-in-None c script thread owner are =
    let s = c.args.state.now in
    let b = c.args.b in
    let dead : live_in s.core.buffers b ≡ None = ap (λ bs. live_in bs b) (sym c.items.ensures) ∙ sym c.in-None.ensures in
    free_given script s.core (after_new script s thread b).core [] [] c.args.free c.args.free owner (new_gives script s thread b dead)
    (marked_nothing c.args.free.frames) (marked_nothing c.args.free.slots) are
