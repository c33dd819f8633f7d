use Rattle.std.proofs.Common.{◌≡◌, false, replicate, sym, subst, arith}
use Rattle.std.specs.Prelude.{flat_map}
use Rattle.std.proofs.lemmas.Grind.{common_steps}
use Rattle.journal_model.specs.rules.Holds.{held_slots}
use Rattle.rules_holds.specs.Held.{slots_of_slot}
use Rattle.rules_holds.specs.Marked.{AreMarked}
use Rattle.rules_holds.proofs.HeldLaws.{held_slots_of}
use Rattle.rules_holds.proofs.free.slot_marks.Goals as goal

pub returns-clause-marked : goal.returns-clause-marked
returns-clause-marked c =
    let slots = held_slots_of c.args.core.now in
    let held : held_slots c.args.core.now ≡ flat_map slots_of_slot c.items.result.now = grind (arith, common_steps, slots, c.items.ensures) in
    subst (λ numbers. AreMarked (replicate c.args.script.now.sizes.swap false) numbers c.mark_live_slots.new.marks.items) (sym held)
    (subst (λ first. AreMarked first (flat_map slots_of_slot c.items.result.now) c.mark_live_slots.new.marks.items) c.in_ok-marks.ensures c.mark_live_slots.ensures)
