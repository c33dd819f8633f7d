-- The pool and the swap store after an entry of any kind are those of the state and the bytes after it.
use Rattle.std.proofs.Common.{◌≡◌, ℕ, zero, suc, ◌*◌, Bool, true, false, List, [], ◌∷◌, arith, length, Some, refl, sym, subst, ◌∙◌, ap}
use Rattle.std.specs.Prelude.{◌==◌, find, option_map, slice_get, unwrap_or, if◌then◌else◌}
use Rattle.std.proofs.lemmas.Bool.{eqb-true, eq-eqb, ne_eqb}
use Rattle.ttm_base.specs.declared.Actor.{Actor}
use Rattle.ttm_base.specs.declared.BufId.{BufId}
use Rattle.ttm_base.specs.declared.Mem.{Mem}
use Rattle.ttm_base.specs.declared.Mem.TheVariants.{System, Tt, Vram}
use Rattle.ttm_base.specs.Pages.{PageBytes}
use Rattle.journal_model.specs.declared.entry.Kind.{Kind}
use Rattle.journal_model.specs.declared.entry.Kind.TheVariants as kind
use Rattle.journal_model.specs.declared.entry.Left.{Left}
use Rattle.journal_model.specs.declared.entry.Left.TheVariants as left
use Rattle.journal_model.specs.declared.script.Script.{Script}
use Rattle.journal_model.specs.declared.state.Ghost.{Ghost}
use Rattle.journal_model.specs.declared.state.State.{State}
use Rattle.journal_model.specs.rules.State.{buffer}
use Rattle.journal_model.specs.rules.Apply.{applied, thread_of}
use Rattle.journal_model.specs.rules.ApplyCommands.{after_free}
use Rattle.journal_model.specs.rules.ApplyMoves.{after_move, frames_left}
use Rattle.journal_model.specs.rules.Holds.{held_frames, held_slots}
use Rattle.journal_model.specs.rules.Places.{frames_of}
use Rattle.journal_model.specs.rules.Stores.{stores_after, within}
use Rattle.swap_store.specs.Slots.{SwapSlots}
use Rattle.laws.specs.law_owners.OneOwner.{HaveOneOwner}
use Rattle.laws.specs.lemma_bytes_told.Told.{IsThere}
use Rattle.room_representation.specs.Pages.{ArePooled, AreSlots}
use Rattle.room_representation.specs.lemma_bytes.GivenBack.{given_back, slots_left}
use Rattle.room_representation.specs.lemma_bytes.After.{frame_at, frames_behind, pool_after, slots_after, IsOnlyGhost, IsSwappedOut, HaveNoSlotsInTt, Tells}
use Rattle.room_representation.proofs.lemma_bytes.Held.{no_slots}
use Rattle.room_representation.proofs.lemma_bytes.Pools.{populate_pooled, swap_in_pooled, swap_out_pooled, depopulate_pooled, free_pooled, free_to_ghost_pooled, move_to_ghost_pooled, move_now_pooled, reap_pooled}
use Rattle.room_representation.proofs.lemma_bytes.SlotKinds.{populate_slots, swap_in_slots, swap_out_slots, depopulate_slots, free_slots, move_slots, reap_slots}
use Rattle.room_representation.proofs.lemma_bytes.Others.{others_same, new_same, pool_stays, slots_stay, new_slots}

-- ---- the pool

-- the only ghost of its number is found
found : (ghosts : List Ghost) (num : ℕ) (i : ℕ) (g : Ghost) → slice_get ghosts i ≡ Some g → g.num ≡ num → ((k : ℕ) (h : Ghost) → slice_get ghosts k ≡ Some h → h.num ≡ num → k ≡ i) → find (λ h. h.num == num) ghosts ≡ Some g
found [] num i g at is only = cc
found (h ∷ ghosts) num zero g at is only =
    let same : h ≡ g = cc in
    ap (λ q. if q then Some h else find (λ h. h.num == num) ghosts) (eq-eqb h.num num (ap (λ (y : Ghost). y.num) same ∙ is)) ∙ ap (λ y. Some y) same
found (h ∷ ghosts) num (suc i) g at is only =
    ap (λ q. if q then Some h else find (λ h. h.num == num) ghosts) (ne_eqb h.num num (λ e. (let no = only 0 h refl e in absurd (omega (arith, no)))))
    ∙ found ghosts num i g at is (λ k y e f. (let r = only (suc k) y e f in omega (arith, r)))

-- what follows the only ghost of its number are its frames
pub frames_behind_is : (ghosts : List Ghost) (num : ℕ) (g : IsOnlyGhost ghosts num) → frames_behind num ghosts ≡ g.ghost.frames
frames_behind_is ghosts num g = ap (λ o. unwrap_or (option_map (λ (h : Ghost). h.frames) o) []) (found ghosts num g.place g.ghost g.at g.number g.only)

module _ (script : Script) (s : State) (who : Actor) (owned : HaveOneOwner script s.core) where
  freed_pool : (b : BufId) (g : ℕ) (pool : List Bool) → IsThere s b → ArePooled script.sizes.frames (held_frames s.core) pool →
      ArePooled script.sizes.frames (held_frames (after_free s (thread_of who) b g).core) (if g == 0 then given_back pool (frames_of (buffer s b)) else pool)
  freed_pool b g pool live representation = by (g == 0) refl
    where
      by : (q : Bool) → (g == 0) ≡ q → ArePooled script.sizes.frames (held_frames (after_free s (thread_of who) b g).core) (if q then given_back pool (frames_of (buffer s b)) else pool)
      by true e =
          subst (λ n. ArePooled script.sizes.frames (held_frames (after_free s (thread_of who) b n).core) (given_back pool (frames_of (buffer s b)))) (sym (eqb-true g 0 e))
          (free_pooled script s b live pool representation (thread_of who) owned.frames)
      by false e = free_to_ghost_pooled script s b live pool representation (thread_of who) g e

  moved_pool : (b : BufId) (mem : Mem) (n : ℕ) (l : Left) (pool : List Bool) → IsThere s b → (l ≡ left.Now → (buffer s b).mem ≡ Tt → ⊥) → ArePooled script.sizes.frames (held_frames s.core) pool →
      ArePooled script.sizes.frames (held_frames (after_move script s b mem n l).core) pool
  moved_pool b mem n (left.Ghost g) pool live out representation = move_to_ghost_pooled script s b live pool representation mem (record { ctx = 0; num = n }) g
  moved_pool b mem n left.Now pool live out representation =
      subst (λ fs. ArePooled script.sizes.frames (held_frames (after_move script s b mem n left.Now).core) (given_back pool fs)) (by (buffer s b).mem refl)
      (move_now_pooled script s b live pool representation mem (record { ctx = 0; num = n }) owned.frames)
    where
      by : (m : Mem) → (buffer s b).mem ≡ m → frames_left m (buffer s b) ≡ []
      by Tt e = absurd (out refl e)
      by Vram e = refl
      by System e = refl

  reaped_pool : (num : ℕ) (pool : List Bool) → IsOnlyGhost s.core.ghosts num → ArePooled script.sizes.frames (held_frames s.core) pool →
      ArePooled script.sizes.frames (held_frames (applied script s who (kind.Reap num)).core) (given_back pool (frames_behind num s.core.ghosts))
  reaped_pool num pool g representation =
      let is = frames_behind_is s.core.ghosts num g in
      subst (λ fs. ArePooled script.sizes.frames (held_frames (applied script s who (kind.Reap num)).core) (given_back pool fs)) (sym is)
      (reap_pooled script s pool representation owned.frames num g.place g.ghost g.at g.number g.only)

  -- the pool after an entry holds what the state after it holds
  pub pool_behind : (k : Kind) (pool : List Bool) → Tells script s who k → ArePooled script.sizes.frames (held_frames s.core) pool →
      ArePooled script.sizes.frames (held_frames (applied script s who k).core) (pool_after s k pool)
  pool_behind (kind.New b) pool told representation = pool_stays script.sizes.frames s.core (applied script s who (kind.New b)).core pool (new_same script s (thread_of who) b told) representation
  pool_behind (kind.Free b g) pool told representation = freed_pool b g pool told representation
  pool_behind (kind.Populate b page f) pool told representation = populate_pooled script s b told.0.live pool representation page f told.0.at
  pool_behind (kind.SwapIn b page j f) pool told representation = swap_in_pooled script s b told.0.live pool representation page j f told.0.at
  pool_behind (kind.SwapOut b page j) pool told representation = swap_out_pooled script s b told.0.live pool representation page (frame_at (buffer s b) page) j owned.frames told.0.at
  pool_behind (kind.Depopulate b) pool told representation = depopulate_pooled script s b told pool representation owned.frames
  pool_behind (kind.Move b mem n l) pool told representation = moved_pool b mem n l pool told.0 told.1 representation
  pool_behind (kind.Reap g) pool told representation = reaped_pool g pool told representation
  pool_behind k pool told representation = pool_stays script.sizes.frames s.core (applied script s who k).core pool (others_same script s who k refl) representation

  -- ---- the swap store

  moved_slots : (b : BufId) (mem : Mem) (n : ℕ) (l : Left) (bytes : PageBytes) (swap : SwapSlots) → HaveNoSlotsInTt s.core → IsThere s b → AreSlots script.sizes.swap (held_slots s.core) bytes swap →
      AreSlots script.sizes.swap (held_slots (after_move script s b mem n l).core) (within script.sizes (stores_after script s who (kind.Move b mem n l) bytes)) swap
  moved_slots b mem n l bytes swap full live representation =
      subst (λ js. AreSlots script.sizes.swap (held_slots (after_move script s b mem n l).core) (within script.sizes bytes) (record { held = given_back swap.held js; bytes = swap.bytes })) (by (buffer s b).mem refl)
      (move_slots script s who bytes swap representation b live mem n l owned.slots)
    where
      by : (m : Mem) → (buffer s b).mem ≡ m → slots_left m (buffer s b) ≡ []
      by Tt e = no_slots (buffer s b).table (full b (buffer s b) live e)
      by Vram e = refl
      by System e = refl

  -- the swap store after an entry holds what the state after it holds, with the bytes after it
  pub slots_behind : (k : Kind) (bytes : PageBytes) (swap : SwapSlots) (copy : List ℕ) → HaveNoSlotsInTt s.core → length swap.bytes ≡ 4096 * length swap.held → Tells script s who k → IsSwappedOut s k bytes copy →
      AreSlots script.sizes.swap (held_slots s.core) bytes swap → AreSlots script.sizes.swap (held_slots (applied script s who k).core) (within script.sizes (stores_after script s who k bytes)) (slots_after s k copy swap)
  slots_behind (kind.New b) bytes swap copy full long told out representation = new_slots script s who b bytes swap told representation
  slots_behind (kind.Free b g) bytes swap copy full long told out representation = free_slots script s who bytes swap representation b told (thread_of who) g owned.slots
  slots_behind (kind.Populate b page f) bytes swap copy full long told out representation = populate_slots script s who bytes swap representation b told.0.live page f told.0.at
  slots_behind (kind.SwapIn b page j f) bytes swap copy full long told out representation = swap_in_slots script s who bytes swap representation b told.0.live page j f owned.slots told.0.at
  slots_behind (kind.SwapOut b page j) bytes swap copy full long told out representation =
      swap_out_slots script s who bytes swap representation b told.0.live page (frame_at (buffer s b) page) j copy told.0.at told.1 out.0 long out.1
  slots_behind (kind.Depopulate b) bytes swap copy full long told out representation = depopulate_slots script s who bytes swap representation b told
  slots_behind (kind.Move b mem n l) bytes swap copy full long told out representation = moved_slots b mem n l bytes swap full told.0 representation
  slots_behind (kind.Reap g) bytes swap copy full long told out representation = reap_slots script s who bytes swap representation g
  slots_behind (kind.Result r) bytes swap copy full long told out representation = slots_stay script s who (kind.Result r) bytes swap refl told representation
  slots_behind k bytes swap copy full long told out representation = slots_stay script s who k bytes swap refl tt representation
