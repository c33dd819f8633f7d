-- All parts after a buffer that gives its frames back.
use Rattle.std.proofs.Common.{◌≡◌, ℕ, ◌<◌, Bool, List, [], ◌∷◌, ◌++◌, Some, length, refl, sym, ◌∙◌, ap, subst}
use Rattle.std.specs.List.{filter_map}
use Rattle.ttm_base.specs.declared.Actor.TheVariants as actor
use Rattle.ttm_base.specs.declared.BufId.{BufId}
use Rattle.ttm_base.specs.declared.Mem.TheVariants.{Tt, Vram}
use Rattle.bo_table.specs.declared.bo.Bo.{Bo}
use Rattle.bo_table.specs.Seen.{Bos, IsBo, with_changed}
use Rattle.journal_model.specs.declared.script.Script.{Script}
use Rattle.journal_model.specs.declared.state.Buffer.{Buffer}
use Rattle.journal_model.specs.declared.entry.Entry.{Entry}
use Rattle.journal_model.specs.declared.entry.Kind.TheVariants as kind
use Rattle.journal_model.specs.rules.State.{buffer, live_in}
use Rattle.journal_model.specs.rules.ApplyPages.{without_frames, after_depopulate}
use Rattle.journal_model.specs.rules.Holds.{held_frames}
use Rattle.journal_model.specs.rules.Places.{frame_of, frames_of}
use Rattle.journal_model.specs.rules.Stores.{stores_after}
use Rattle.journal_model.specs.rules.Legal.{IsLegalNext, state_of, world_of, world_after}
use Rattle.laws.proofs.law_owners.Law.{owner_law}
use Rattle.laws.specs.lemma_bytes_told.Told as told
use Rattle.laws.specs.lemma_bytes_told.Told.{IsThere, Told}
use Rattle.laws.proofs.law_transparent.Carried.{told_law}
use Rattle.room_representation.proofs.lemma_lists.KindLaws.{changed_unseen}
use Rattle.room_representation.proofs.lemma_spans.Still.{depopulate_spans}
use Rattle.room_representation.specs.declared.parts.Parts.{Parts}
use Rattle.room_representation.specs.Held.{AreHeld}
use Rattle.room_representation.specs.Pages.{ArePooled}
use Rattle.room_representation.specs.Represents.{Represents}
use Rattle.room_representation.proofs.lemma_jobs.Packets.{nothing_beyond}
use Rattle.room_representation.specs.lemma_bytes.GivenBack.{given_back}
use Rattle.room_representation.proofs.lemma_bytes.Pools.{depopulate_pooled}
use Rattle.room_representation.proofs.lemma_bytes.SlotKinds.{depopulate_slots}
use Rattle.room_representation.proofs.lemma_bytes.Walks.{frames_within, table_held_still}
use Rattle.room_representation.proofs.lemma_bytes.Fills.{depopulate_stores}
use Rattle.room_pages.specs.Tables.{AreHeldInTurn}
use Rattle.room_representation.proofs.steps.Steps.{held_after, step_as}
use Rattle.room_representation.proofs.steps.Frames.{changed_bos}
use Rattle.room_representation.proofs.steps.Lent.{lent_below, lent_table}

module _ (script : Script) (journal : List Entry) (p : Parts) (entry : Entry) (t : ℕ) (b : BufId) (held : AreHeld script journal p) (is : entry ≡ record { who = actor.Thread t; kind = kind.Depopulate b }) (legal : IsLegalNext script (world_of script journal) entry) where
  -- the buffer is live in VRAM
  emptied_in : Told script (state_of script journal) t (kind.Depopulate b) → IsThere (state_of script journal) b × ((buffer (state_of script journal) b).mem ≡ Vram)
  emptied_in (told.still h) = cc
  emptied_in (told.depopulates l m) = (l, m)

  emptied : IsThere (state_of script journal) b × ((buffer (state_of script journal) b).mem ≡ Vram)
  emptied = emptied_in (told_law script journal t (kind.Depopulate b) held.fits held.legal (step_as script journal entry (record { who = actor.Thread t; kind = kind.Depopulate b }) is legal refl))

  -- the table has the buffer
  pub depopulate_below : b.0 < length p.bos.reservations
  depopulate_below = lent_below script journal p held b emptied.0

  -- each of its frames is held when its turn comes
  pub depopulate_turns : (bo : Bo) → IsBo p.bos b bo → AreHeldInTurn p.pool bo.table
  depopulate_turns bo at =
      subst (AreHeldInTurn p.pool) (sym (lent_table script journal p held b emptied.0 bo at))
      (table_held_still frame_of script.sizes.frames (held_frames (state_of script journal).core) p.pool held.represents.pool.held_are (owner_law script journal held.fits held.legal).frames (buffer (state_of script journal) b).table (frames_within (state_of script journal).core b (buffer (state_of script journal) b) emptied.0))

  -- all parts after the entry
  pub depopulate_held : (pool : List Bool) (bos : Bos) (bo : Bo) → IsBo p.bos b bo → pool ≡ given_back p.pool (filter_map frame_of bo.table) → bos ≡ with_changed without_frames p.bos b →
      AreHeld script (journal ++ entry ∷ []) (record p { pool = pool; bos = bos })
  depopulate_held pool bos bo at back e =
      let w = world_of script journal in
      let represents = held.represents in
      let q : Parts = record p { pool = pool; bos = bos } in
      let given : pool ≡ given_back p.pool (frames_of (buffer (state_of script journal) b)) = back ∙ ap (λ l. given_back p.pool (filter_map frame_of l)) (lent_table script journal p held b emptied.0 bo at) in
      held_after script journal p q entry held legal
      (subst (λ (y : Entry). Represents script (world_after script w y).state (world_after script w y).stores q) (sym is)
      (record {
        bos = changed_bos without_frames (λ x. refl) (λ x. refl) script (state_of script journal).core.buffers (state_of script journal).reservations (state_of script journal).last_jobs p.bos represents.bos b bos e;
        timeline = represents.timeline;
        rings = represents.rings;
        ghosts = represents.ghosts;
        vram = record { rule = represents.vram.rule; held_as = depopulate_spans script.sizes.vram Vram (state_of script journal) p.vram.resources represents.vram.held_as b; fence = represents.vram.fence };
        tt = depopulate_spans script.sizes.tt Tt (state_of script journal) p.tt represents.tt b;
        pool = subst (λ l. ArePooled script.sizes.frames (held_frames (after_depopulate (state_of script journal) b).core) l) (sym given) (depopulate_pooled script (state_of script journal) b emptied.0 p.pool represents.pool (owner_law script journal held.fits held.legal).frames);
        swap = depopulate_slots script (state_of script journal) (actor.Thread t) w.stores p.swap represents.swap b emptied.0;
        stores = depopulate_stores script (state_of script journal) w.stores p.stores represents.stores (actor.Thread t) b out;
        lists = changed_unseen script without_frames (state_of script journal).core.buffers (state_of script journal).reservations (state_of script journal).lists p.lru b (λ x. refl) represents.lists;
        courses = represents.courses;
        stamp = represents.stamp;
        ghost = represents.ghost;
        no_more = nothing_beyond script.sizes (stores_after script (state_of script journal) (actor.Thread t) (kind.Depopulate b) w.stores);
      }))
    where
      out : (x : Buffer) → live_in (state_of script journal).core.buffers b ≡ Some x → x.mem ≡ Tt → ⊥
      out x l m =
          let g : Some (buffer (state_of script journal) b) ≡ Some x = sym emptied.0 ∙ l in
          let there : buffer (state_of script journal) b ≡ x = cc in
          let z : Vram ≡ Tt = sym emptied.1 ∙ ap (λ (y : Buffer). y.mem) there ∙ m in
          cc
