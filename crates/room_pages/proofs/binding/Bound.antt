-- All parts after a buffer that went from SYSTEM to TT.
use Rattle.std.proofs.Common.{◌≡◌, ℕ, ◌<◌, false, List, [], ◌∷◌, ◌++◌, Option, Ok, length, refl, sym, ◌∙◌, ap, ap₂, subst}
use Rattle.std.specs.Prelude.{slice_get}
use Rattle.ttm_base.specs.declared.Actor.TheVariants as actor
use Rattle.ttm_base.specs.declared.BufId.{BufId}
use Rattle.ttm_base.specs.declared.Loc.{Loc}
use Rattle.ttm_base.specs.declared.Mem.TheVariants.{System, Tt, Vram}
use Rattle.ttm_base.specs.declared.Owner.TheVariants as owner
use Rattle.bo_table.specs.declared.bo.Bo.{Bo}
use Rattle.bo_table.specs.Seen.{Bos, IsBo, with_changed}
use Rattle.lru_bulk.specs.Lists.{Order, relisted}
use Rattle.lru_bulk.specs.Members.{AreMembersListed}
use Rattle.resource_core.specs.Resources.{Resources, holds, spans_at}
use Rattle.journal_model.specs.declared.script.Script.{Script}
use Rattle.journal_model.specs.declared.state.State.{State}
use Rattle.journal_model.specs.declared.entry.Entry.{Entry}
use Rattle.journal_model.specs.declared.entry.Kind.TheVariants as kind
use Rattle.journal_model.specs.rules.State.{buffer, target_spans}
use Rattle.journal_model.specs.rules.ApplyPages.{bound, after_bind}
use Rattle.journal_model.specs.rules.Next.{next}
use Rattle.journal_model.specs.rules.Places.{pages_of}
use Rattle.journal_model.specs.rules.Stores.{stores_after}
use Rattle.journal_model.specs.rules.Legal.{IsLegalNext, state_of, world_of, world_after}
use Rattle.laws.proofs.law_owners.Law.{once_law}
use Rattle.laws.proofs.law_transparent.PagesLaw.{ghosts_law}
use Rattle.laws.proofs.law_transparent.Carried.{told_law}
use Rattle.laws.specs.lemma_bytes_told.Told.{IsThere, Told}
use Rattle.room_representation.specs.lemma_bytes.Mapped.{mapped_to}
use Rattle.room_representation.specs.lemma_bytes.Telling.{ComesIn}
use Rattle.room_representation.proofs.lemma_bytes.Entries.{bind_representation}
use Rattle.room_representation.proofs.lemma_bytes.Holders.{target_inside}
use Rattle.room_representation.proofs.lemma_bytes.Legal.{entry_tells}
use Rattle.room_representation.proofs.lemma_bytes.Others.{others_same, pool_stays, slots_stay}
use Rattle.room_representation.proofs.lemma_jobs.Packets.{nothing_beyond}
use Rattle.room_representation.specs.lemma_lists.Listed.{HasLists}
use Rattle.room_representation.proofs.lemma_lists.KindLaws.{bind_lists}
use Rattle.room_representation.specs.lemma_spans.Calls.{passed_on}
use Rattle.room_representation.specs.lemma_spans.Owned.{HoldsAsIn}
use Rattle.room_representation.proofs.lemma_spans.Entries as spans
use Rattle.room_representation.proofs.lemma_spans.Holders.{target_kept}
use Rattle.room_representation.specs.declared.parts.Parts.{Parts}
use Rattle.room_representation.specs.Held.{AreHeld}
use Rattle.room_representation.specs.Represents.{Represents}
use Rattle.room_representation.proofs.steps.Frames.{changed_bos}
use Rattle.room_representation.proofs.steps.Lent.{lent_below, lent_table}
use Rattle.room_representation.proofs.steps.Steps.{held_after, step_as}
use Rattle.room_pages.specs.binding.Apertures.{AreBelow}
use Rattle.room_pages.proofs.binding.Holding.{kept_spans}

module _ (script : Script) (journal : List Entry) (p : Parts) (entry : Entry) (t : ℕ) (b : BufId) (held : AreHeld script journal p) (is : entry ≡ record { who = actor.Thread t; kind = kind.Bind b }) (legal : IsLegalNext script (world_of script journal) entry) where
  abbrev s : State
  s = state_of script journal

  -- the entry, written out, is legal next
  next_is : IsLegalNext script (world_of script journal) (record { who = actor.Thread t; kind = kind.Bind b })
  next_is = subst (IsLegalNext script (world_of script journal)) is legal

  -- it is its thread's step
  step : next script s (actor.Thread t) ≡ Ok (kind.Bind b)
  step = step_as script journal entry (record { who = actor.Thread t; kind = kind.Bind b }) is legal refl

  -- what it tells of the state
  told : Told script s t (kind.Bind b)
  told = told_law script journal t (kind.Bind b) held.fits held.legal step

  -- the buffer stands in SYSTEM with all its frames
  comes : ComesIn s b System
  comes = entry_tells script journal held.fits held.legal t (kind.Bind b) refl next_is

  live : IsThere s b
  live = comes.live

  -- what the manager of TT keeps for its target
  target_is : spans_at (owner.Target b) p.tt.held ≡ target_spans Tt (buffer s b)
  target_is = kept_spans p.tt (owner.Target b) (target_spans Tt (buffer s b)) (target_kept script.sizes.tt Tt s p.tt held.represents.tt b live)

  -- it can be lent
  pub bind_there : b.0 < length p.bos.reservations
  bind_there = lent_below script journal p held b live

  -- its target's pages are in the aperture
  pub bind_below : AreBelow (pages_of (spans_at (owner.Target b) p.tt.held)) (length p.stores.aper)
  bind_below k page h =
      subst (λ n. page < n) (sym held.represents.stores.aper_size)
      (target_inside script s.core (once_law script journal held.fits held.legal) page b (buffer s b) k live (ap (λ ss. slice_get (pages_of ss) k) (sym target_is) ∙ h))

  -- the buffer has no page of TT yet
  pub bind_fresh : holds (owner.Live b) p.tt.held ≡ false
  bind_fresh =
      let ghosts = ghosts_law script journal held.fits held.legal in
      spans.bind_fresh script journal held.fits held.legal Tt (λ e. (let x : Tt ≡ System = e in cc)) ghosts.first (λ i g at. (ghosts.drawn i g at).1) p.tt held.represents.tt t b told

  -- after the calls all parts are represented
  pub bind_held : (bo : Bo) (table : List Loc) (aper : List (Option ℕ)) (u : Resources) (bos : Bos) (o : Order) → IsBo p.bos b bo → table ≡ bo.table → aper ≡ mapped_to p.stores.aper (pages_of (spans_at (owner.Target b) p.tt.held)) table →
      u ≡ passed_on (owner.Target b) (owner.Live b) p.tt → bos ≡ with_changed bound p.bos b → o ≡ relisted p.lru b Tt → AreMembersListed p.lru →
      AreHeld script (journal ++ entry ∷ []) (record p { stores = record p.stores { aper = aper }; tt = u; bos = bos; lru = o })
  bind_held bo table aper u bos o lent of mapped passed be l members =
      let w = world_of script journal in
      let represents = held.represents in
      let ghosts = ghosts_law script journal held.fits held.legal in
      let q : Parts = record p { stores = record p.stores { aper = aper }; tt = u; bos = bos; lru = o } in
      let all : aper ≡ mapped_to p.stores.aper (pages_of (target_spans Tt (buffer s b))) (buffer s b).table =
      mapped ∙ ap₂ (λ ss xs. mapped_to p.stores.aper (pages_of ss) xs) target_is (of ∙ lent_table script journal p held b live bo lent) in
      held_after script journal p q entry held legal
      (subst (λ (y : Entry). Represents script (world_after script w y).state (world_after script w y).stores q) (sym is)
      (record {
        bos = changed_bos bound (λ x. refl) (λ x. refl) script s.core.buffers s.reservations s.last_jobs p.bos represents.bos b bos be;
        timeline = represents.timeline;
        rings = represents.rings;
        ghosts = represents.ghosts;
        vram = record {
          rule = represents.vram.rule;
          held_as = spans.thread_spans script journal held.fits held.legal Vram (λ e. (let x : Vram ≡ System = e in cc)) ghosts.first (λ i g at. (ghosts.drawn i g at).1) p.vram.resources represents.vram.held_as t (kind.Bind b) step told;
          fence = represents.vram.fence;
        };
        tt = subst (λ r. HoldsAsIn script.sizes.tt Tt (after_bind script s b) r) (sym passed)
            (spans.thread_spans script journal held.fits held.legal Tt (λ e. (let x : Tt ≡ System = e in cc)) ghosts.first (λ i g at. (ghosts.drawn i g at).1) p.tt represents.tt t (kind.Bind b) step told);
        pool = pool_stays script.sizes.frames s.core (after_bind script s b).core p.pool (others_same script s (actor.Thread t) (kind.Bind b) refl) represents.pool;
        swap = slots_stay script s (actor.Thread t) (kind.Bind b) w.stores p.swap refl tt represents.swap;
        stores = bind_representation script journal held.fits held.legal p.stores represents.stores t b aper next_is all;
        lists = subst (λ x. HasLists script (after_bind script s b) x) (sym l) (bind_lists script s p.lru b represents.lists members (buffer s b) live);
        courses = represents.courses;
        stamp = represents.stamp;
        ghost = represents.ghost;
        no_more = nothing_beyond script.sizes (stores_after script s (actor.Thread t) (kind.Bind b) w.stores);
      }))
