-- What a refused command leaves.
use Rattle.std.specs.Prelude.{◌≡◌, ℕ, List, Some, slice_get}
use Rattle.ttm_base.specs.declared.BufId.{BufId}
use Rattle.ttm_base.specs.declared.Deny.{Deny}
use Rattle.ttm_base.specs.declared.Stamp.{Stamp}
use Rattle.ttm_base.specs.declared.Actor.TheVariants as actor
use Rattle.journal_model.specs.declared.script.Script.{Script}
use Rattle.journal_model.specs.declared.state.State.{State}
use Rattle.journal_model.specs.declared.entry.Kind.TheVariants as kind
use Rattle.journal_model.specs.rules.State.{course, reservation}
use Rattle.journal_model.specs.rules.Apply.{applied}
use Rattle.journal_model.specs.rules.Legal.{Made}
use Rattle.journal_model.specs.rules.PlainMemory.{Plain, plain_after, plain_after_kind}
use Rattle.journal_model.specs.statements.Causes.{in_command}

-- no entry of the command changes a byte of the plain memory, nor does the refusal; and no buffer is held by its ticket any more
pub record LeavesNothing (script : Script) (before : List Made) (s : State) (t : ℕ) (d : Deny) : Type 0 where
  pub memory : (i : ℕ) (m : Made) (p : Plain) → slice_get (in_command t before) i ≡ Some m → (plain_after script p m.entry).memory ≡ p.memory
  pub refusal : (p : Plain) → (plain_after_kind script p t (kind.Refused d)).memory ≡ p.memory
  pub free : (b : BufId) (stamp : Stamp) → (course s t).stamp ≡ Some stamp → (reservation (applied script s (actor.Thread t) (kind.Refused d)) b).holder ≡ Some stamp → ⊥
