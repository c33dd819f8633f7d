-- All parts after a buffer that went from TT to SYSTEM.
use Rattle.std.proofs.Common.{◌≡◌, ℕ, ◌<◌, List, [], ◌∷◌, ◌++◌, Option, Some, Ok, length, refl, sym, ◌∙◌, ap, subst}
use Rattle.std.specs.Prelude.{slice_get}
use Rattle.ttm_base.specs.declared.Actor.TheVariants as actor
use Rattle.ttm_base.specs.declared.BufId.{BufId}
use Rattle.ttm_base.specs.declared.Mem.TheVariants.{System, Tt, Vram}
use Rattle.ttm_base.specs.declared.Owner.TheVariants as owner
use Rattle.bo_table.specs.Seen.{Bos, with_changed}
use Rattle.lru_bulk.specs.Lists.{Order, relisted}
use Rattle.lru_bulk.specs.Members.{AreMembersListed}
use Rattle.resource_core.specs.Resources.{Resources, spans_at}
use Rattle.journal_model.specs.declared.script.Script.{Script}
use Rattle.journal_model.specs.declared.state.State.{State}
use Rattle.journal_model.specs.declared.entry.Entry.{Entry}
use Rattle.journal_model.specs.declared.entry.Kind.TheVariants as kind
use Rattle.journal_model.specs.rules.State.{buffer}
use Rattle.journal_model.specs.rules.ApplyPages.{unbound, after_unbind}
use Rattle.journal_model.specs.rules.Holds.{spans_in}
use Rattle.journal_model.specs.rules.Next.{next}
use Rattle.journal_model.specs.rules.Places.{pages_of}
use Rattle.journal_model.specs.rules.Stores.{stores_after}
use Rattle.journal_model.specs.rules.Legal.{IsLegalNext, state_of, world_of, world_after}
use Rattle.laws.proofs.law_owners.Law.{once_law}
use Rattle.laws.proofs.law_transparent.PagesLaw.{ghosts_law}
use Rattle.laws.proofs.law_transparent.Carried.{told_law}
use Rattle.laws.specs.lemma_bytes_told.Told.{IsThere, Told}
use Rattle.room_representation.specs.lemma_bytes.Mapped.{cleared}
use Rattle.room_representation.proofs.lemma_bytes.Entries.{unbind_representation}
use Rattle.room_representation.proofs.lemma_bytes.Holders.{own_spans, is_in_tt, buffer_inside}
use Rattle.room_representation.proofs.lemma_bytes.Legal.{entry_tells}
use Rattle.room_representation.proofs.lemma_bytes.Others.{others_same, pool_stays, slots_stay}
use Rattle.room_representation.proofs.lemma_jobs.Packets.{nothing_beyond}
use Rattle.room_representation.specs.lemma_lists.Listed.{HasLists}
use Rattle.room_representation.proofs.lemma_lists.KindLaws.{unbind_lists}
use Rattle.room_representation.specs.lemma_spans.Calls.{given}
use Rattle.room_representation.specs.lemma_spans.Owned.{HoldsAsIn}
use Rattle.room_representation.proofs.lemma_spans.Entries.{thread_spans}
use Rattle.room_representation.proofs.lemma_spans.Holders.{live_kept}
use Rattle.room_representation.specs.declared.parts.Parts.{Parts}
use Rattle.room_representation.specs.Held.{AreHeld}
use Rattle.room_representation.specs.Represents.{Represents}
use Rattle.room_representation.proofs.steps.Frames.{changed_bos}
use Rattle.room_representation.proofs.steps.Steps.{held_after, step_as}
use Rattle.room_pages.specs.binding.Apertures.{AreBelow}
use Rattle.room_pages.proofs.binding.Holding.{kept_spans}

module _ (script : Script) (journal : List Entry) (p : Parts) (entry : Entry) (t : ℕ) (b : BufId) (held : AreHeld script journal p) (is : entry ≡ record { who = actor.Thread t; kind = kind.Unbind b }) (legal : IsLegalNext script (world_of script journal) entry) where
  abbrev s : State
  s = state_of script journal

  -- the entry, written out, is legal next
  next_is : IsLegalNext script (world_of script journal) (record { who = actor.Thread t; kind = kind.Unbind b })
  next_is = subst (IsLegalNext script (world_of script journal)) is legal

  -- it is its thread's step
  step : next script s (actor.Thread t) ≡ Ok (kind.Unbind b)
  step = step_as script journal entry (record { who = actor.Thread t; kind = kind.Unbind b }) is legal refl

  -- what it tells of the state
  told : Told script s t (kind.Unbind b)
  told = told_law script journal t (kind.Unbind b) held.fits held.legal step

  live : IsThere s b
  live = entry_tells script journal held.fits held.legal t (kind.Unbind b) refl next_is

  -- what the manager of TT keeps for the buffer
  own_is : spans_at (owner.Live b) p.tt.held ≡ spans_in Tt (buffer s b)
  own_is = kept_spans p.tt (owner.Live b) (spans_in Tt (buffer s b)) (live_kept script.sizes.tt Tt s p.tt held.represents.tt b live)

  -- its pages are in the aperture
  pub unbind_below : AreBelow (pages_of (spans_at (owner.Live b) p.tt.held)) (length p.stores.aper)
  unbind_below k page h =
      let here : slice_get (pages_of (spans_in Tt (buffer s b))) k ≡ Some page = ap (λ ss. slice_get (pages_of ss) k) (sym own_is) ∙ h in
      let in_tt = is_in_tt (buffer s b) k page here in
      subst (λ n. page < n) (sym held.represents.stores.aper_size)
      (buffer_inside script s.core (once_law script journal held.fits held.legal) page b (buffer s b) k live in_tt (ap (λ ss. slice_get (pages_of ss) k) (sym (own_spans (buffer s b) in_tt)) ∙ here))

  -- after the calls all parts are represented
  pub unbind_held : (aper : List (Option ℕ)) (u : Resources) (bos : Bos) (o : Order) → aper ≡ cleared p.stores.aper (pages_of (spans_at (owner.Live b) p.tt.held)) →
      u ≡ given (owner.Live b) p.tt → bos ≡ with_changed unbound p.bos b → o ≡ relisted p.lru b System → AreMembersListed p.lru →
      AreHeld script (journal ++ entry ∷ []) (record p { stores = record p.stores { aper = aper }; tt = u; bos = bos; lru = o })
  unbind_held aper u bos o gone left be l members =
      let w = world_of script journal in
      let represents = held.represents in
      let ghosts = ghosts_law script journal held.fits held.legal in
      let q : Parts = record p { stores = record p.stores { aper = aper }; tt = u; bos = bos; lru = o } in
      held_after script journal p q entry held legal
      (subst (λ (y : Entry). Represents script (world_after script w y).state (world_after script w y).stores q) (sym is)
      (record {
        bos = changed_bos unbound (λ x. refl) (λ x. refl) script s.core.buffers s.reservations s.last_jobs p.bos represents.bos b bos be;
        timeline = represents.timeline;
        rings = represents.rings;
        ghosts = represents.ghosts;
        vram = record {
          rule = represents.vram.rule;
          held_as = thread_spans script journal held.fits held.legal Vram (λ e. (let x : Vram ≡ System = e in cc)) ghosts.first (λ i g at. (ghosts.drawn i g at).1) p.vram.resources represents.vram.held_as t (kind.Unbind b) step told;
          fence = represents.vram.fence;
        };
        tt = subst (λ r. HoldsAsIn script.sizes.tt Tt (after_unbind script s b) r) (sym left)
            (thread_spans script journal held.fits held.legal Tt (λ e. (let x : Tt ≡ System = e in cc)) ghosts.first (λ i g at. (ghosts.drawn i g at).1) p.tt represents.tt t (kind.Unbind b) step told);
        pool = pool_stays script.sizes.frames s.core (after_unbind script s b).core p.pool (others_same script s (actor.Thread t) (kind.Unbind b) refl) represents.pool;
        swap = slots_stay script s (actor.Thread t) (kind.Unbind b) w.stores p.swap refl tt represents.swap;
        stores = unbind_representation script journal held.fits held.legal p.stores represents.stores t b aper next_is (gone ∙ ap (λ ss. cleared p.stores.aper (pages_of ss)) own_is);
        lists = subst (λ x. HasLists script (after_unbind script s b) x) (sym l) (unbind_lists script s p.lru b represents.lists members (buffer s b) live);
        courses = represents.courses;
        stamp = represents.stamp;
        ghost = represents.ghost;
        no_more = nothing_beyond script.sizes (stores_after script s (actor.Thread t) (kind.Unbind b) w.stores);
      }))
