-- Refusals for lack of space or pages.
use Rattle.std.specs.Prelude.{◌≡◌, ◌⊎◌, ℕ, List, Some, slice_get, take}
use Rattle.ttm_base.specs.declared.BufId.{BufId}
use Rattle.ttm_base.specs.declared.Deny.{Deny}
use Rattle.ttm_base.specs.declared.Deny.TheVariants as deny
use Rattle.ttm_base.specs.declared.Actor.TheVariants as actor
use Rattle.journal_model.specs.declared.script.Script.{Script}
use Rattle.journal_model.specs.declared.script.Command.{Command}
use Rattle.journal_model.specs.declared.entry.Entry.{Entry}
use Rattle.journal_model.specs.declared.entry.Kind.TheVariants as kind
use Rattle.journal_model.specs.declared.state.State.{State}
use Rattle.journal_model.specs.rules.Commands.{command_at_work}
use Rattle.journal_model.specs.rules.Ready.{first_unready}
use Rattle.journal_model.specs.rules.Legal.{state_of}

-- the thread's command has a buffer at work: one that isn't in place or isn't filled
pub record HasBufferAtWork (script : Script) (s : State) (t : ℕ) : Type 0 where
  pub command : Command
  pub at_work : command_at_work script s t ≡ Some command
  pub b : BufId
  pub first : first_unready script s command ≡ Some b

-- at each refusal for lack of space or pages, the thread's command has a buffer at work in the state after the entries before it
abbrev pub RefusalsHaveBuffers : Script → List Entry → Type 0
RefusalsHaveBuffers script journal =
    (i t : ℕ) (d : Deny) → (d ≡ deny.NoSpace) ⊎ (d ≡ deny.NoPages) →
    slice_get journal i ≡ Some (record { who = actor.Thread t; kind = kind.Refused d }) → HasBufferAtWork script (state_of script (take i journal)) t
