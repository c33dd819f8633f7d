-- All parts after entries that give a page of a buffer a frame.
use Rattle.std.proofs.Common.{◌≡◌, ℕ, ◌*◌, ◌+◌, ◌<◌, ◌≤◌, Bool, true, List, [], ◌∷◌, ◌++◌, Option, Some, length, refl, sym, ◌∙◌, ap, subst, arith}
use Rattle.std.specs.Prelude.{IfSome, not, position, slice_get, slice_set}
use Rattle.ttm_base.specs.declared.Actor.TheVariants as actor
use Rattle.ttm_base.specs.declared.BufId.{BufId}
use Rattle.ttm_base.specs.declared.Loc.TheVariants as loc
use Rattle.ttm_base.specs.declared.Mem.TheVariants.{Tt, Vram}
use Rattle.byte_store.specs.Parts.{filled, overwritten}
use Rattle.bo_table.specs.Seen.{Bos, with_changed}
use Rattle.journal_model.specs.declared.script.Script.{Script}
use Rattle.journal_model.specs.declared.state.State.{State}
use Rattle.journal_model.specs.declared.state.Buffer.{Buffer}
use Rattle.journal_model.specs.declared.entry.Entry.{Entry}
use Rattle.journal_model.specs.declared.entry.Kind.TheVariants as kind
use Rattle.journal_model.specs.rules.State.{buffer, live_in}
use Rattle.journal_model.specs.rules.ApplyPages.{with_loc, after_populate}
use Rattle.journal_model.specs.rules.Holds.{free_frame, held_frames}
use Rattle.journal_model.specs.rules.Stores.{stores_after}
use Rattle.journal_model.specs.rules.Legal.{IsLegalNext, state_of, world_of, world_after}
use Rattle.laws.specs.lemma_bytes_told.Told.{IsThere, Told, still, populates}
use Rattle.laws.proofs.law_transparent.Carried.{told_law}
use Rattle.room_representation.proofs.lemma_lists.KindLaws.{changed_unseen}
use Rattle.room_representation.proofs.lemma_spans.Still.{populate_spans}
use Rattle.room_representation.specs.declared.parts.Parts.{Parts}
use Rattle.room_representation.specs.Held.{AreHeld}
use Rattle.room_representation.specs.Pages.{ArePooled}
use Rattle.room_representation.specs.Represents.{Represents}
use Rattle.room_representation.proofs.lemma_jobs.Packets.{nothing_beyond}
use Rattle.room_representation.proofs.lemma_bytes.Lowest.{pool_first, lowest_is_unheld}
use Rattle.room_representation.proofs.lemma_bytes.Pools.{populate_pooled}
use Rattle.room_representation.proofs.lemma_bytes.SlotKinds.{populate_slots}
use Rattle.room_representation.proofs.lemma_bytes.Telling.{to_fill}
use Rattle.room_representation.proofs.lemma_bytes.Fills.{populate_stores}
use Rattle.room_representation.proofs.steps.Steps.{held_after, step_as}
use Rattle.room_representation.proofs.steps.Frames.{changed_bos}

-- a live buffer out of TT, whose page was never written, gets the lowest free frame
record IsFresh (script : Script) (s : State) (b : BufId) (page f : ℕ) : Type 0 where
  live : IsThere s b
  free : free_frame script s.core ≡ Some f
  at : slice_get (buffer s b).table page ≡ Some loc.Zero
  out : (buffer s b).mem ≡ Tt → ⊥

fresh_in : (script : Script) (s : State) (t : ℕ) (b : BufId) (page f : ℕ) → Told script s t (kind.Populate b page f) → IsFresh script s b page f
fresh_in script s t b page f (still h) = cc
fresh_in script s t b _ f (populates there free l some out) = record { live = there; free = free; at = to_fill (buffer s b) loc.Zero some l; out = out }

module _ (script : Script) (journal : List Entry) (p : Parts) (entry : Entry) (t : ℕ) (b : BufId) (page f : ℕ) (held : AreHeld script journal p) (is : entry ≡ record { who = actor.Thread t; kind = kind.Populate b page f }) (legal : IsLegalNext script (world_of script journal) entry) where
  abbrev s : State
  s = state_of script journal

  fresh : IsFresh script s b page f
  fresh = fresh_in script s t b page f (told_law script journal t (kind.Populate b page f) held.fits held.legal (step_as script journal entry (record { who = actor.Thread t; kind = kind.Populate b page f }) is legal refl))

  below : f < script.sizes.frames
  below = (lowest_is_unheld (held_frames s.core) script.sizes.frames f fresh.free).1

  -- the frame is in the stores
  pub populate_inside : 4096 * f + 4096 ≤ length p.stores.frames
  populate_inside = let n = held.represents.stores.frame_size in let l = below in omega (arith, n, l)

  pub populate_held : (pool : List Bool) (frames : List ℕ) (bos : Bos) (o : Option ℕ) → o ≡ position not p.pool → IfSome o (λ k. pool ≡ slice_set p.pool k true) →
      frames ≡ overwritten p.stores.frames (4096 * f) (filled 4096 0) → bos ≡ with_changed (with_loc page (loc.Frame f)) p.bos b →
      AreHeld script (journal ++ entry ∷ []) (record p { pool = pool; stores = record p.stores { frames = frames }; bos = bos })
  populate_held pool frames bos o first taken zeros e =
      let w = world_of script journal in
      let represents = held.represents in
      let q : Parts = record p { pool = pool; stores = record p.stores { frames = frames }; bos = bos } in
      let lowest : o ≡ Some f = first ∙ pool_first script s.core p.pool represents.pool ∙ fresh.free in
      let now : pool ≡ slice_set p.pool f true = subst (λ x. IfSome x (λ k. pool ≡ slice_set p.pool k true)) lowest taken in
      held_after script journal p q entry held legal
      (subst (λ (y : Entry). Represents script (world_after script w y).state (world_after script w y).stores q) (sym is)
      (record {
        bos = changed_bos (with_loc page (loc.Frame f)) (λ x. refl) (λ x. refl) script s.core.buffers s.reservations s.last_jobs p.bos represents.bos b bos e;
        timeline = represents.timeline;
        rings = represents.rings;
        ghosts = represents.ghosts;
        vram = record { rule = represents.vram.rule; held_as = populate_spans script.sizes.vram Vram s p.vram.resources represents.vram.held_as b page f; fence = represents.vram.fence };
        tt = populate_spans script.sizes.tt Tt s p.tt represents.tt b page f;
        pool = subst (λ l. ArePooled script.sizes.frames (held_frames (after_populate s b page f).core) l) (sym now) (populate_pooled script s b fresh.live p.pool represents.pool page f fresh.at);
        swap = populate_slots script s (actor.Thread t) w.stores p.swap represents.swap b fresh.live page f fresh.at;
        stores = populate_stores script s w.stores p.stores represents.stores (actor.Thread t) b (λ x l m. fresh.out (ap (λ (y : Buffer). y.mem) (there x l) ∙ m)) page f below frames zeros;
        lists = changed_unseen script (with_loc page (loc.Frame f)) s.core.buffers s.reservations s.lists p.lru b (λ x. refl) represents.lists;
        courses = represents.courses;
        stamp = represents.stamp;
        ghost = represents.ghost;
        no_more = nothing_beyond script.sizes (stores_after script s (actor.Thread t) (kind.Populate b page f) w.stores);
      }))
    where
      there : (x : Buffer) → live_in s.core.buffers b ≡ Some x → buffer s b ≡ x
      there x l = let g : Some (buffer s b) ≡ Some x = sym fresh.live ∙ l in cc
