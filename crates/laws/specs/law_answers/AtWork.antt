-- Jobs, victims and targets of a state.
use Rattle.std.specs.Prelude.{◌≡◌, ℕ, ◌<◌, ◌≤◌, true, Some, length, slice_get}
use Rattle.ttm_base.specs.declared.BufId.{BufId}
use Rattle.ttm_base.specs.declared.Stamp.{Stamp}
use Rattle.journal_model.specs.declared.state.State.{State}
use Rattle.journal_model.specs.declared.state.Job.{Job}
use Rattle.journal_model.specs.rules.State.{buffer, reservation, course}
use Rattle.journal_model.specs.rules.Ready.{has_some_target}
use Rattle.laws.specs.law_sound.Sound.{Has}

-- the buffer's holder is the stamp of a thread that holds it, as a named one or as a victim
pub record IsHeld (s : State) (b : BufId) : Type 0 where
  pub stamp : Stamp
  pub holder : (reservation s b).holder ≡ Some stamp
  pub thread : ℕ
  pub by : (course s thread).stamp ≡ Some stamp
  pub has : Has s thread b

-- every job has a packet, at most two victims are caught, and only a held buffer has a target
pub record AreFew (s : State) : Type 0 where
  pub packets : (i : ℕ) (j : Job) → slice_get s.core.jobs i ≡ Some j → 0 < length j.packets
  pub victims : (t : ℕ) → length (course s t).caught ≤ 2
  pub targets : (b : BufId) → has_some_target (buffer s b) ≡ true → IsHeld s b
