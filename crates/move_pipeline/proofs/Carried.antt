-- Buffers that a thread carries or gives back.
use Rattle.std.proofs.Common.{◌≡◌, ℕ, ◌<◌, true, false, Bool, Ok, IsTrue, length, refl, sym, ◌∙◌, ap}
use Rattle.std.specs.Prelude.{◌&&◌, not}
use Rattle.ttm_base.specs.declared.Actor.TheVariants as actor
use Rattle.ttm_base.specs.declared.BufId.{BufId}
use Rattle.ttm_base.specs.declared.Mem.{Mem}
use Rattle.ttm_base.specs.declared.Mem.TheVariants.{System, Tt, Vram}
use Rattle.ttm_base.specs.Reach.{same_mem}
use Rattle.journal_model.specs.declared.state.State.{State}
use Rattle.journal_model.specs.declared.state.Stage.TheVariants as stage
use Rattle.journal_model.specs.declared.state.Task.TheVariants as task
use Rattle.journal_model.specs.declared.entry.Kind.TheVariants as kind
use Rattle.journal_model.specs.rules.State.{buffer}
use Rattle.journal_model.specs.rules.Dry.{has_frame}
use Rattle.journal_model.specs.rules.Legal.{IsLegal}
use Rattle.journal_model.specs.rules.PageSteps.{step_of_give_back, target_to_untake}
use Rattle.journal_model.specs.scripts.ScriptRules.{is_script}
use Rattle.journal_model.specs.rules.Search.{Step}
use Rattle.journal_model.specs.rules.Tasks.{task_of, stage_of}
use Rattle.laws.specs.lemma_bytes_told.Told.{IsThere}
use Rattle.room_state.specs.turns.Turns.{Kept, state_behind}
use Rattle.room_state.specs.turns.Acting.{is_untake}
use Rattle.room_state.specs.turns.Turns.{entry_of}
use Rattle.room_state.proofs.turns.Threads.{command_at, entry_is, next_at}
use Rattle.room_state.proofs.turns.Works.{given_has, has_declared, has_live, unbound_has}

module _ (k : Kept) (t : ℕ) where
  abbrev s : State
  s = state_behind k

  -- the buffer that is unbound is declared
  pub unbound_declared : (b : BufId) → task_of k.script s t ≡ task.Unbind b → IsTrue (is_script k.script) → IsLegal k.script k.journal → b.0 < length k.script.buffers
  unbound_declared b is fits legal =
      let work = command_at k.script s t stage.Carry (ap stage_of is) (λ e. cc) in
      has_declared k.script k.journal fits legal t b (unbound_has k.script s t work.0 work.1 b is)

  -- the one that gives back is live
  pub given_there : (b : BufId) → task_of k.script s t ≡ task.GiveBack b → IsTrue (is_script k.script) → IsLegal k.script k.journal → IsThere s b
  given_there b is fits legal =
      let work = command_at k.script s t stage.Fail (ap stage_of is) (λ e. cc) in
      has_live k.script k.journal fits legal t b (given_has k.script s t work.0 work.1 b is)

  -- it gives its target back, where it has no frame to give
  give_step : (b : BufId) → is_untake s (task.GiveBack b) ≡ true → step_of_give_back s b ≡ Ok (kind.Untake b (target_to_untake (buffer s b)))
  give_step b due = by (buffer s b).mem (has_frame (buffer s b)) refl due
    where
      step_by : Mem → Step
      step_by m = Ok (elim m [ Vram ↦ elim (has_frame (buffer s b)) [ true ↦ kind.Depopulate b | false ↦ kind.Untake b (target_to_untake (buffer s b)) ] | Tt ↦ kind.Untake b (target_to_untake (buffer s b)) | System ↦ kind.Untake b (target_to_untake (buffer s b)) ])

      by : (m : Mem) (q : Bool) → has_frame (buffer s b) ≡ q → not (same_mem m Vram && q) ≡ true → step_by m ≡ Ok (kind.Untake b (target_to_untake (buffer s b)))
      by System q e h = refl
      by Tt q e h = refl
      by Vram true e h = cc
      by Vram false e h = ap (λ f. Ok (elim f [ true ↦ kind.Depopulate b | false ↦ kind.Untake b (target_to_untake (buffer s b)) ])) e

  -- so that is the entry
  pub untake_entry : (b : BufId) (mem : Mem) → task_of k.script s t ≡ task.GiveBack b → is_untake s (task.GiveBack b) ≡ true → mem ≡ target_to_untake (buffer s b) → entry_of k (actor.Thread t) ≡ Ok (record { who = actor.Thread t; kind = kind.Untake b mem })
  untake_entry b mem is due e =
      let work = command_at k.script s t stage.Fail (ap stage_of is) (λ e. cc) in
      entry_is k t (kind.Untake b mem) refl (next_at k.script s t work.0 (task.GiveBack b) work.1 is ∙ give_step b due ∙ ap (λ m. Ok (kind.Untake b m)) (sym e))
