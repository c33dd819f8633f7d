-- An actor that has nothing to do, and so has no entry.
use Rattle.std.specs.Prelude.{Bool, is_none, slice_get}
use Rattle.ttm_base.specs.declared.Actor.{Actor}
use Rattle.ttm_base.specs.declared.Actor.TheVariants as actor
use Rattle.ttm_base.specs.declared.Need.{Need}
use Rattle.ttm_base.specs.declared.Need.TheVariants as need
use Rattle.journal_model.specs.declared.script.Script.{Script}
use Rattle.journal_model.specs.declared.state.State.{State}
use Rattle.journal_model.specs.rules.Commands.{command_at_work}
use Rattle.journal_model.specs.rules.Next.{head_of}

-- the thread has no command left, the engine no job that isn't done, the reaper no ghost
abbrev pub is_idle : Script → State → Actor → Bool
is_idle script s (actor.Thread t) = is_none (command_at_work script s t)
is_idle script s (actor.Engine e) = is_none (head_of s e)
is_idle script s actor.Reaper = is_none (slice_get s.core.ghosts 0)

-- what such an actor needs
abbrev pub work_of : Actor → Need
work_of (actor.Thread t) = need.NoCommand
work_of (actor.Engine e) = need.NoJob
work_of actor.Reaper = need.NoGhost
