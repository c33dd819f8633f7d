-- From a legal journal with one entry more, and what the part's call ensures: the stores have the bytes and the aperture after it.
use Rattle.std.proofs.Common.{◌≡◌, ℕ, ◌*◌, ◌<◌, true, false, List, Option, Some, IsTrue, refl, sym, ◌∙◌, ap}
use Rattle.std.specs.Prelude.{slice_get, ◌==◌}
use Rattle.ttm_base.specs.declared.Actor.{Actor}
use Rattle.ttm_base.specs.declared.Actor.TheVariants as actor
use Rattle.ttm_base.specs.declared.BufId.{BufId}
use Rattle.ttm_base.specs.declared.Mem.TheVariants.{System, Tt, Vram}
use Rattle.byte_store.specs.Parts.{filled, overwritten, part}
use Rattle.copy_packet.specs.StoreBytes.{HasPage}
use Rattle.copy_packet.specs.declared.stores.Stores.{Stores}
use Rattle.swap_store.specs.Slots.{SwapSlots}
use Rattle.journal_model.specs.declared.script.Script.{Script}
use Rattle.journal_model.specs.declared.entry.Entry.{Entry}
use Rattle.journal_model.specs.declared.entry.Kind.{Kind}
use Rattle.journal_model.specs.declared.entry.Kind.TheVariants as kind
use Rattle.journal_model.specs.declared.entry.Left.{Left}
use Rattle.journal_model.specs.declared.entry.Left.TheVariants as left
use Rattle.journal_model.specs.declared.state.Buffer.{Buffer}
use Rattle.journal_model.specs.declared.state.Ghost.{Ghost}
use Rattle.journal_model.specs.declared.state.State.{State}
use Rattle.journal_model.specs.rules.State.{buffer, live_in, target_spans}
use Rattle.journal_model.specs.rules.Apply.{applied}
use Rattle.journal_model.specs.rules.Holds.{spans_in}
use Rattle.journal_model.specs.rules.Legal.{IsLegal, IsLegalNext, state_of, stores_of, world_of}
use Rattle.journal_model.specs.rules.Places.{pages_of}
use Rattle.journal_model.specs.scripts.ScriptRules.{is_script}
use Rattle.laws.proofs.law_owners.Law.{AreHeldOnce, once_law}
use Rattle.room_representation.specs.Pages.{AreSlots}
use Rattle.room_representation.specs.lemma_bytes.Mapped.{HasStores, HasStoresAfter, mapped_to, cleared}
use Rattle.room_representation.specs.lemma_bytes.Telling.{IsOutside}
use Rattle.room_representation.proofs.lemma_bytes.Holders.{held_after}
use Rattle.room_representation.proofs.lemma_bytes.Fills.{new_stores, depopulate_stores, swap_out_stores, populate_stores, swap_in_stores}
use Rattle.room_representation.proofs.lemma_bytes.Carries.{bind_stores, unbind_stores, free_stores, free_left_stores, move_out_stores, move_in_stores, reap_stores}
use Rattle.room_representation.proofs.lemma_bytes.Legal.{full_in_tt, entry_tells, reap_tells}

-- the entry is legal next
abbrev pub IsNext : Script → List Entry → Actor → Kind → Type 0
IsNext script journal who k = IsLegalNext script (world_of script journal) (record { who = who; kind = k })

is_outside : (s : State) (b : BufId) → IsOutside s b → (x : Buffer) → live_in s.core.buffers b ≡ Some x → x.mem ≡ Tt → ⊥
is_outside s b h x e m =
    let both : Some (buffer s b) ≡ Some x = sym h.live ∙ e in
    let same : buffer s b ≡ x = cc in
    h.out (ap (λ (y : Buffer). y.mem) same ∙ m)

vram_tt : Vram ≡ Tt → ⊥
vram_tt e = cc

system_tt : System ≡ Tt → ⊥
system_tt e = cc

module _ (script : Script) (journal : List Entry) (fits : IsTrue (is_script script)) (legal : IsLegal script journal) (st : Stores) (t : HasStores script (state_of script journal) (stores_of script journal) st) where
  held : AreHeldOnce script (state_of script journal).core
  held = once_law script journal fits legal

  held_then : (who : Actor) (k : Kind) → IsNext script journal who k → AreHeldOnce script (applied script (state_of script journal) who k).core
  held_then who k legal_next = held_after script journal (record { who = who; kind = k }) fits legal legal_next

  -- a buffer is made
  pub new_representation : (thread : ℕ) (b : BufId) → IsNext script journal (actor.Thread thread) (kind.New b)
      → HasStoresAfter script (state_of script journal) (stores_of script journal) (actor.Thread thread) (kind.New b) st
  new_representation thread b legal_next =
      new_stores script (state_of script journal) (stores_of script journal) st t (actor.Thread thread) b (entry_tells script journal fits legal thread (kind.New b) refl legal_next)

  -- a page gets a frame, which is zeroed
  pub populate_representation : (thread page f : ℕ) (b : BufId) (new : List ℕ) → IsNext script journal (actor.Thread thread) (kind.Populate b page f) → new ≡ overwritten st.frames (4096 * f) (filled 4096 0)
      → HasStoresAfter script (state_of script journal) (stores_of script journal) (actor.Thread thread) (kind.Populate b page f) (record st { frames = new })
  populate_representation thread page f b new legal_next is =
      let g = entry_tells script journal fits legal thread (kind.Populate b page f) refl legal_next in
      populate_stores script (state_of script journal) (stores_of script journal) st t (actor.Thread thread) b (is_outside (state_of script journal) b g.outside) page f g.frame new is

  -- a page comes back from its slot: the slot's bytes are put over the frame
  pub swap_in_representation : (thread page k f : ℕ) (b : BufId) (named : List ℕ) (slots : SwapSlots) (xs new : List ℕ) → IsNext script journal (actor.Thread thread) (kind.SwapIn b page k f)
      → AreSlots script.sizes.swap named (stores_of script journal) slots → k < script.sizes.swap → HasPage slots.bytes k → xs ≡ part slots.bytes (4096 * k) 4096
      → new ≡ overwritten st.frames (4096 * f) xs → HasStoresAfter script (state_of script journal) (stores_of script journal) (actor.Thread thread) (kind.SwapIn b page k f) (record st { frames = new })
  swap_in_representation thread page k f b named slots xs new legal_next u below has whole is =
      let g = (entry_tells script journal fits legal thread (kind.SwapIn b page k f) refl legal_next).gets in
      swap_in_stores script (state_of script journal) (stores_of script journal) st t (actor.Thread thread) b (is_outside (state_of script journal) b g.outside) page f g.frame new k named slots xs u below has whole is

  -- a page goes to a slot
  pub swap_out_representation : (thread page k : ℕ) (b : BufId) → IsNext script journal (actor.Thread thread) (kind.SwapOut b page k)
      → HasStoresAfter script (state_of script journal) (stores_of script journal) (actor.Thread thread) (kind.SwapOut b page k) st
  swap_out_representation thread page k b legal_next =
      let g = entry_tells script journal fits legal thread (kind.SwapOut b page k) refl legal_next in
      swap_out_stores script (state_of script journal) (stores_of script journal) st t (actor.Thread thread) b (is_outside (state_of script journal) b g) page k

  -- frames are given back
  pub depopulate_representation : (thread : ℕ) (b : BufId) → IsNext script journal (actor.Thread thread) (kind.Depopulate b)
      → HasStoresAfter script (state_of script journal) (stores_of script journal) (actor.Thread thread) (kind.Depopulate b) st
  depopulate_representation thread b legal_next =
      let g = entry_tells script journal fits legal thread (kind.Depopulate b) refl legal_next in
      depopulate_stores script (state_of script journal) (stores_of script journal) st t (actor.Thread thread) b (is_outside (state_of script journal) b g)

  -- a buffer goes from SYSTEM to TT: the pages of its target are mapped
  pub bind_representation : (thread : ℕ) (b : BufId) (list : List (Option ℕ)) → IsNext script journal (actor.Thread thread) (kind.Bind b)
      → list ≡ mapped_to st.aper (pages_of (target_spans Tt (buffer (state_of script journal) b))) (buffer (state_of script journal) b).table
      → HasStoresAfter script (state_of script journal) (stores_of script journal) (actor.Thread thread) (kind.Bind b) (record st { aper = list })
  bind_representation thread b list legal_next is =
      let g = entry_tells script journal fits legal thread (kind.Bind b) refl legal_next in
      bind_stores script (state_of script journal) (stores_of script journal) st t (actor.Thread thread) held b g.live list (held_then (actor.Thread thread) (kind.Bind b) legal_next) (λ e. system_tt (sym g.mem ∙ e)) g.full is

  -- a buffer goes to SYSTEM: its pages of TT are cleared
  pub unbind_representation : (thread : ℕ) (b : BufId) (list : List (Option ℕ)) → IsNext script journal (actor.Thread thread) (kind.Unbind b)
      → list ≡ cleared st.aper (pages_of (spans_in Tt (buffer (state_of script journal) b)))
      → HasStoresAfter script (state_of script journal) (stores_of script journal) (actor.Thread thread) (kind.Unbind b) (record st { aper = list })
  unbind_representation thread b list legal_next is =
      unbind_stores script (state_of script journal) (stores_of script journal) st t (actor.Thread thread) held b (entry_tells script journal fits legal thread (kind.Unbind b) refl legal_next) list
      (held_then (actor.Thread thread) (kind.Unbind b) legal_next) is

  -- an idle buffer is freed: its pages of TT are cleared
  pub free_representation : (thread : ℕ) (b : BufId) (list : List (Option ℕ)) → IsNext script journal (actor.Thread thread) (kind.Free b 0)
      → list ≡ cleared st.aper (pages_of (spans_in Tt (buffer (state_of script journal) b)))
      → HasStoresAfter script (state_of script journal) (stores_of script journal) (actor.Thread thread) (kind.Free b 0) (record st { aper = list })
  free_representation thread b list legal_next is =
      free_stores script (state_of script journal) (stores_of script journal) st t (actor.Thread thread) held b (entry_tells script journal fits legal thread (kind.Free b 0) refl legal_next) list
      (held_then (actor.Thread thread) (kind.Free b 0) legal_next) is

  -- a buffer is freed and leaves a ghost: its pages stay mapped
  pub free_left_representation : (thread g : ℕ) (b : BufId) → (g == 0) ≡ false → IsNext script journal (actor.Thread thread) (kind.Free b g)
      → HasStoresAfter script (state_of script journal) (stores_of script journal) (actor.Thread thread) (kind.Free b g) st
  free_left_representation thread g b some legal_next =
      let live = entry_tells script journal fits legal thread (kind.Free b g) refl legal_next in
      free_left_stores script (state_of script journal) (stores_of script journal) st t (actor.Thread thread) held b live (full_in_tt script journal fits legal b (buffer (state_of script journal) b) live) g some
      (held_then (actor.Thread thread) (kind.Free b g) legal_next)

  -- a buffer moves to VRAM: its pages of TT stay mapped for its ghost
  pub move_out_representation : (thread n : ℕ) (b : BufId) (l : Left) → IsNext script journal (actor.Thread thread) (kind.Move b Vram n l)
      → HasStoresAfter script (state_of script journal) (stores_of script journal) (actor.Thread thread) (kind.Move b Vram n l) st
  move_out_representation thread n b left.Now legal_next = absurd (entry_tells script journal fits legal thread (kind.Move b Vram n left.Now) refl legal_next)
  move_out_representation thread n b (left.Ghost g) legal_next =
      let live = entry_tells script journal fits legal thread (kind.Move b Vram n (left.Ghost g)) refl legal_next in
      move_out_stores script (state_of script journal) (stores_of script journal) st t (actor.Thread thread) held b live (full_in_tt script journal fits legal b (buffer (state_of script journal) b) live) Vram n g vram_tt
      (held_then (actor.Thread thread) (kind.Move b Vram n (left.Ghost g)) legal_next)

  -- a buffer moves into TT: the pages of its target are mapped
  pub move_in_representation : (thread n : ℕ) (b : BufId) (l : Left) (list : List (Option ℕ)) → IsNext script journal (actor.Thread thread) (kind.Move b Tt n l)
      → list ≡ mapped_to st.aper (pages_of (target_spans Tt (buffer (state_of script journal) b))) (buffer (state_of script journal) b).table
      → HasStoresAfter script (state_of script journal) (stores_of script journal) (actor.Thread thread) (kind.Move b Tt n l) (record st { aper = list })
  move_in_representation thread n b l list legal_next is =
      let g = entry_tells script journal fits legal thread (kind.Move b Tt n l) refl legal_next in
      move_in_stores script (state_of script journal) (stores_of script journal) st t (actor.Thread thread) held b g.live n l list (held_then (actor.Thread thread) (kind.Move b Tt n l) legal_next) g.mem g.full is

  -- the first ghost is reaped: its pages of TT are cleared
  pub reap_representation : (n : ℕ) (g : Ghost) (list : List (Option ℕ)) → IsNext script journal actor.Reaper (kind.Reap n) → slice_get (state_of script journal).core.ghosts 0 ≡ Some g → list ≡ cleared st.aper (pages_of g.tt)
      → HasStoresAfter script (state_of script journal) (stores_of script journal) actor.Reaper (kind.Reap n) (record st { aper = list })
  reap_representation n g list legal_next first is =
      let r = reap_tells script journal fits legal n legal_next in
      let both : Some r.ghost ≡ Some g = sym r.is ∙ first in
      let same : r.ghost ≡ g = cc in
      reap_stores script (state_of script journal) (stores_of script journal) st t actor.Reaper held n 0 g list (held_then actor.Reaper (kind.Reap n) legal_next) first (ap (λ (x : Ghost). x.num) (sym same) ∙ r.num) r.only is
