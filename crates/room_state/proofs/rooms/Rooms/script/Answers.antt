use Rattle.std.proofs.Common.{IsTrue, subst}
use Rattle.journal_model.specs.scripts.ScriptRules.{is_script}
use Rattle.room_state.specs.Kept.{Kept}
use Rattle.room_state.proofs.rooms.Rooms.script.Goals as goal

pub returns-clause-fits : goal.returns-clause-fits
returns-clause-fits c = subst (λ (k : Kept). IsTrue (is_script k.script)) c.self.view_is c.self.invariant.fits
