use Rattle.std.proofs.Common.{◌<◌, sym, ap, subst}
use Rattle.journal_model.specs.declared.script.Script.{Script}
use Rattle.room_state.specs.turns.Turns.{after_step, step_of}
use Rattle.room_device.proofs.Absent.{absent_needs}
use Rattle.room_device.proofs.turns.turn_of_engine.Goals as goal

pub returns-then-engine-script-clause-step : goal.returns-then-engine-script-clause-step
returns-then-engine-script-clause-step c =
    let beyond = subst (λ (x : Script). x.sizes.engines < c.args.engine) c.script.ensures.script c.if-engine-script.true in
    sym (ap step_of (absent_needs c.args.rooms.now c.args.engine c.journal-legal.ensures.fits c.journal-legal.ensures.legal beyond))

pub returns-then-engine-script-clause-made : goal.returns-then-engine-script-clause-made
returns-then-engine-script-clause-made c =
    let beyond = subst (λ (x : Script). x.sizes.engines < c.args.engine) c.script.ensures.script c.if-engine-script.true in
    sym (ap (after_step c.args.rooms.now) (absent_needs c.args.rooms.now c.args.engine c.journal-legal.ensures.fits c.journal-legal.ensures.legal beyond))
