use Rattle.std.proofs.Common.{◌+◌, ◌≤◌, IsTrue, sym, ◌∙◌, ap, subst, arith, inr}
use Rattle.journal_model.specs.scripts.ScriptRules.{is_script}
use Rattle.device_core.specs.Kept.{Kept}
use Rattle.sim_drive.proofs.Stops.{free_turn, run_ends, scheduled_turn}
use Rattle.sim_drive.proofs.turns.drive.Goals as goal
use Rattle.sim_drive.proofs.turns.drive.Goals.{then-loop-turns-test+in_ok-step_next+else-is_some, else-loop-turns-test}

pub loop-who-preserved : goal.loop-who-preserved
loop-who-preserved c =
    let l = c.loop-who.invariant in
    let taken =
    scheduled_turn c.args.device.now.script c.loop-who.turns c.loop-who.who-index c.items-who-items.result.now _ c.loop-who.device c.step.new.self c.in_ok-step.field-0
    l.0 l.1 l.4 l.2 c.loop-who-test.true c.in_ok-step.ensures.turn c.in_default.not-Over c.in_ok-step.ensures.made in
    let few : c.loop-who.turns + 1 ≤ c.args.allowed = grind (arith, c.if-turns-allowed.false, l.3) in
    (taken.0, taken.1, ap (λ n. n + 1) l.2, few, l.4)

pub loop-turns-preserved : goal.loop-turns-preserved
loop-turns-preserved c =
    let l = c.loop-turns.invariant in
    let fits = subst (λ (k : Kept). IsTrue (is_script k.script)) c.rooms.ensures c.journal-legal.ensures.fits in
    let taken =
    free_turn c.args.device.now.script c.loop-turns.turns fits c.loop-turns.device l.0 l.1 c.step_next.new.self c.in_ok-step_next.field-0
    l.3 c.in_ok-step_next.ensures.found (sym c.is_some.ensures ∙ c.if-is_some.true) c.in_ok-step_next.ensures.made in
    (taken.0, taken.1, omega arith, omega (arith, l.3))

pub returns-clause-turns : goal.returns-clause-turns
returns-clause-turns c =
    let l = c.loop-turns.invariant in
    elim c.loop-turns-test.branch [
      | then-loop-turns-test+in_ok-step_next+else-is_some w ↦
          let fits = subst (λ (k : Kept). IsTrue (is_script k.script)) c.rooms.ensures c.journal-legal.ensures.fits in
          run_ends c.args.device.now.script c.loop-turns.turns fits c.loop-turns.device l.0 l.1 c.args.allowed w.in_ok-step_next.field-0
          l.2 w.in_ok-step_next.ensures.found (sym w.is_some.ensures ∙ w.if-is_some.false)
      | else-loop-turns-test w ↦ record { not_before = l.1; within = l.2; ends = inr (omega (arith, l.2, w.loop-turns-test.false)) }
    ]
