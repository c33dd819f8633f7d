-- Which jobs use a buffer tells no task.
use Rattle.std.proofs.Common.{◌≡◌, true, false, refl, ap}
use Rattle.std.specs.Prelude.{◌&&◌, not, nat_lt}
use Rattle.ttm_base.specs.declared.BufId.{BufId}
use Rattle.ttm_base.specs.declared.Deny.TheVariants as deny
use Rattle.ttm_base.specs.declared.Mem.{Mem}
use Rattle.ttm_base.specs.declared.Mem.TheVariants.{System, Tt, Vram}
use Rattle.journal_model.specs.declared.script.Script.{Script}
use Rattle.journal_model.specs.declared.script.Command.{Command}
use Rattle.journal_model.specs.declared.script.Command.TheVariants as command
use Rattle.journal_model.specs.declared.state.Buffer.{Buffer}
use Rattle.journal_model.specs.declared.state.Reservation.{Reservation}
use Rattle.journal_model.specs.declared.state.Victim.{Victim}
use Rattle.journal_model.specs.declared.state.SearchAim.TheVariants.{Asked}
use Rattle.journal_model.specs.declared.state.Task.TheVariants as task
use Rattle.journal_model.specs.rules.Ready.{has_some_target, meets, is_in_place, is_filled}
use Rattle.journal_model.specs.rules.Tasks.{task_of_victim, carried, task_of_misplaced}
use Rattle.room_representation.specs.Bos.{unfenced}

meets_same : (script : Script) (cmd : Command) (b : BufId) (x : Buffer) → meets script cmd b (unfenced x) ≡ meets script cmd b x
meets_same script (command.Submit engine ops) b x = refl
meets_same script (command.Find c) b x = refl
meets_same script (command.Move c mem) b x = refl
meets_same script (command.SwapOut c) b x = refl
meets_same script cmd b x = refl

-- it is in place
pub in_place_same : (script : Script) (cmd : Command) (b : BufId) (x : Buffer) → is_in_place script cmd b (unfenced x) ≡ is_in_place script cmd b x
in_place_same script cmd b x = ap (λ q. not (has_some_target x) && q) (meets_same script cmd b x)

-- and filled
pub ready_same : (script : Script) (cmd : Command) (b : BufId) (x : Buffer) → (is_in_place script cmd b (unfenced x) && is_filled cmd (unfenced x)) ≡ (is_in_place script cmd b x && is_filled cmd x)
ready_same script cmd b x = ap (λ q. q && is_filled cmd x) (in_place_same script cmd b x)

-- what is to be done with a victim
pub victim_same : (v : Victim) (x : Buffer) → task_of_victim v (unfenced x) ≡ task_of_victim v x
victim_same v x = refl

-- and with a buffer that isn't in place
pub misplaced_same : (b : BufId) (g : Reservation) (x : Buffer) → task_of_misplaced b g (unfenced x) ≡ task_of_misplaced b g x
misplaced_same b g x = ap (λ q. elim (nat_lt 0 g.pins) [ true ↦ task.Refuse deny.Pinned | false ↦ elim (has_some_target x) [ true ↦ q | false ↦ task.Search b Asked ] ]) (carried_same x.mem b x)
  where
    carried_same : (mem : Mem) (b : BufId) (x : Buffer) → carried mem b (unfenced x) ≡ carried mem b x
    carried_same System b x = refl
    carried_same Tt b x = refl
    carried_same Vram b x = refl
