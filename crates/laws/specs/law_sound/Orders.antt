-- The simulator's own order finds an actor that has an entry.
use Rattle.std.specs.Prelude.{◌≡◌, true, Some, find}
use Rattle.ttm_base.specs.declared.Actor.{Actor}
use Rattle.journal_model.specs.declared.script.Script.{Script}
use Rattle.journal_model.specs.declared.state.State.{State}
use Rattle.journal_model.specs.statements.DeadEnd.{can_step}
use Rattle.journal_model.specs.statements.Scheduled.{own_order}

-- the first actor of the own order that has an entry
pub record FindsOne (script : Script) (s : State) : Type 0 where
  pub who : Actor
  pub found : find (can_step script s) (own_order script s) ≡ Some who
  pub goes : can_step script s who ≡ true
