-- Entries that no manager of VRAM or TT sees: their buffers keep memory type, spans and targets there.
use Rattle.std.proofs.Common.{◌≡◌, ℕ, List, [], ◌∷◌, Option, Some, None, refl, sym, ◌∙◌, ap, subst}
use Rattle.std.specs.Prelude.{fold, option_map, unwrap_or}
use Rattle.ttm_base.specs.declared.Mem.{Mem}
use Rattle.ttm_base.specs.declared.Mem.TheVariants.{System, Tt, Vram}
use Rattle.ttm_base.specs.declared.BufId.{BufId}
use Rattle.ttm_base.specs.declared.JobId.{JobId}
use Rattle.ttm_base.specs.declared.Op.{Op}
use Rattle.resource_core.specs.Resources.{Resources}
use Rattle.journal_model.specs.declared.script.Script.{Script}
use Rattle.journal_model.specs.declared.entry.Why.{Why}
use Rattle.journal_model.specs.declared.state.Core.{Core}
use Rattle.journal_model.specs.declared.state.State.{State}
use Rattle.journal_model.specs.declared.state.Buffer.{Buffer}
use Rattle.journal_model.specs.declared.state.Ghost.{Ghost}
use Rattle.journal_model.specs.rules.State.{live_in, changed, new_buffer, target_spans}
use Rattle.journal_model.specs.rules.Commands.{decl, command_at_work}
use Rattle.journal_model.specs.rules.Holds.{spans_in}
use Rattle.journal_model.specs.rules.ApplyCommands.{after_new, named_in}
use Rattle.journal_model.specs.rules.ApplyPages.{after_populate, after_swap_in, after_swap_out, after_depopulate}
use Rattle.journal_model.specs.rules.ApplyVictims.{leaves_tt, after_catch}
use Rattle.journal_model.specs.rules.ApplyJobs.{with_use, ops_of, after_arm, after_packet_run, after_done}
use Rattle.room_representation.specs.lemma_spans.Owned.{HoldsAsOwned, HoldsAsIn}
use Rattle.room_representation.proofs.lemma_spans.Held.{told_as}
use Rattle.room_representation.proofs.lemma_spans.Changed.{told_kept, told_made, same_owned}

-- ---- one buffer

module _ (size : ℕ) (mine : Mem) (gs : List Ghost) (r : Resources) where
  -- a buffer was changed, and keeps its spans and its target's in this memory type
  pub kept_representation : (f : Buffer → Buffer) (bs : List (Option Buffer)) (b : BufId) → ((x : Buffer) → live_in bs b ≡ Some x → spans_in mine (f x) ≡ spans_in mine x) →
      ((x : Buffer) → live_in bs b ≡ Some x → target_spans mine (f x) ≡ target_spans mine x) → HoldsAsOwned size mine bs gs r → HoldsAsOwned size mine (changed f bs b) gs r
  kept_representation f bs b own waits representation =
      told_as size _ r representation _ (same_owned mine gs bs b (option_map f (live_in bs b)) (told_kept (spans_in mine) f bs b own) (told_kept (target_spans mine) f bs b waits))

  -- a job joins the fences of buffers
  pub uses_representation : (job : JobId) (ops : List Op) (bs : List BufId) (buffers : List (Option Buffer)) → HoldsAsOwned size mine buffers gs r → HoldsAsOwned size mine (fold (with_use job ops) buffers bs) gs r
  uses_representation job ops [] buffers representation = representation
  uses_representation job ops (b ∷ bs) buffers representation = uses_representation job ops bs (with_use job ops buffers b) (kept_representation _ buffers b (λ x e. refl) (λ x e. refl) representation)

-- ---- by entry

module _ (size : ℕ) (mine : Mem) (s : State) (r : Resources) (representation : HoldsAsIn size mine s r) where
  -- an entry leaves the core alone: tickets, reservations, searches, bulk moves and answers
  pub core_spans : (after : State) → after.core ≡ s.core → HoldsAsIn size mine after r
  core_spans after same = subst (λ (c : Core). HoldsAsOwned size mine c.buffers c.ghosts r) (sym same) representation

  -- a page gets a frame
  pub populate_spans : (b : BufId) (page frame : ℕ) → HoldsAsIn size mine (after_populate s b page frame) r
  populate_spans b page frame = kept_representation size mine s.core.ghosts r _ s.core.buffers b (λ x e. refl) (λ x e. refl) representation

  -- a page gets a frame in the place of its slot
  pub swap_in_spans : (b : BufId) (page frame : ℕ) → HoldsAsIn size mine (after_swap_in s b page frame) r
  swap_in_spans b page frame = kept_representation size mine s.core.ghosts r _ s.core.buffers b (λ x e. refl) (λ x e. refl) representation

  -- a page gets a slot in the place of its frame
  pub swap_out_spans : (b : BufId) (page slot : ℕ) → HoldsAsIn size mine (after_swap_out s b page slot) r
  swap_out_spans b page slot = kept_representation size mine s.core.ghosts r _ s.core.buffers b (λ x e. refl) (λ x e. refl) representation

  -- frames are given back
  pub depopulate_spans : (b : BufId) → HoldsAsIn size mine (after_depopulate s b) r
  depopulate_spans b = kept_representation size mine s.core.ghosts r _ s.core.buffers b (λ x e. refl) (λ x e. refl) representation

  -- a victim is caught: its target in SYSTEM has no pages of VRAM or TT
  pub catch_spans : (t : ℕ) (b : BufId) (w : Why) → (mine ≡ System → ⊥) → HoldsAsIn size mine (after_catch s t b w) r
  catch_spans t b w out = kept_representation size mine s.core.ghosts r _ s.core.buffers b (λ x e. own x x.mem) (λ x e. waits mine out x x.mem) representation
    where
      own : (x : Buffer) (l : Mem) → spans_in mine (leaves_tt l x) ≡ spans_in mine x
      own x System = refl
      own x Tt = refl
      own x Vram = refl

      waits : (m : Mem) → (m ≡ System → ⊥) → (x : Buffer) (l : Mem) → target_spans m (leaves_tt l x) ≡ target_spans m x
      waits System out x l = absurd (out refl)
      waits Tt out x System = refl
      waits Tt out x Tt = refl
      waits Tt out x Vram = refl
      waits Vram out x System = refl
      waits Vram out x Tt = refl
      waits Vram out x Vram = refl

  -- a job is emitted
  pub arm_spans : (script : Script) (t engine n : ℕ) → HoldsAsIn size mine (after_arm script s t engine n) r
  arm_spans script t engine n =
      uses_representation size mine s.core.ghosts r (record { ctx = engine; num = n }) (ops_of (command_at_work script s t)) (named_in (command_at_work script s t)) s.core.buffers representation

  -- a packet has run
  pub packet_spans : (i : JobId) → HoldsAsIn size mine (after_packet_run s i) r
  packet_spans i = representation

  -- a job is done
  pub done_spans : (i : JobId) → HoldsAsIn size mine (after_done s i) r
  done_spans i = representation

  -- a buffer is made, without pages
  pub new_spans : (script : Script) (t : ℕ) (b : BufId) → live_in s.core.buffers b ≡ None → HoldsAsIn size mine (after_new script s t b) r
  new_spans script t b dead =
      told_as size _ r representation _ (same_owned mine s.core.ghosts s.core.buffers b (Some (new_buffer (decl script b).pages))
      (told_made (spans_in mine) s.core.buffers b (new_buffer (decl script b).pages) (own mine) dead ∙ sym (ap (λ o. unwrap_or (option_map (spans_in mine) o) []) dead))
      (told_made (target_spans mine) s.core.buffers b (new_buffer (decl script b).pages) (waits mine) dead ∙ sym (ap (λ o. unwrap_or (option_map (target_spans mine) o) []) dead)))
    where
      own : (m : Mem) → spans_in m (new_buffer (decl script b).pages) ≡ []
      own System = refl
      own Tt = refl
      own Vram = refl

      waits : (m : Mem) → target_spans m (new_buffer (decl script b).pages) ≡ []
      waits System = refl
      waits Tt = refl
      waits Vram = refl
