-- All parts after a ghost that is reaped.
use Rattle.std.proofs.Common.{◌≡◌, ℕ, ◌<◌, Bool, true, List, [], ◌∷◌, ◌++◌, Option, Some, length, take, drop, refl, sym, ◌∙◌, ap, subst}
use Rattle.std.specs.Prelude.{unwrap_or, slice_get}
use Rattle.ttm_base.specs.declared.Actor.TheVariants as actor
use Rattle.ttm_base.specs.declared.Mem.TheVariants.{System, Tt, Vram}
use Rattle.ttm_base.specs.declared.Owner.TheVariants as owner
use Rattle.resource_core.specs.Resources.{Resources, spans_at}
use Rattle.resource_core.specs.Vram as room
use Rattle.journal_model.specs.declared.script.Script.{Script}
use Rattle.journal_model.specs.declared.state.State.{State}
use Rattle.journal_model.specs.declared.state.Ghost as state
use Rattle.journal_model.specs.declared.entry.Entry.{Entry}
use Rattle.journal_model.specs.declared.entry.Kind.TheVariants as kind
use Rattle.journal_model.specs.rules.ApplyJobs.{after_reap}
use Rattle.journal_model.specs.rules.Holds.{held_frames}
use Rattle.journal_model.specs.rules.Places.{pages_of}
use Rattle.journal_model.specs.rules.Stores.{stores_after}
use Rattle.journal_model.specs.rules.Legal.{IsLegalNext, state_of, world_of, world_after}
use Rattle.laws.proofs.law_owners.Law.{owner_law, once_law}
use Rattle.laws.specs.law_transparent.OwnPages.{GoodGhosts}
use Rattle.laws.proofs.law_transparent.PagesLaw.{ghosts_law}
use Rattle.room_representation.specs.lemma_spans.Calls.{given}
use Rattle.room_representation.specs.lemma_spans.Owned.{HoldsAsOwned}
use Rattle.room_representation.proofs.lemma_spans.Carried.{reap_spans}
use Rattle.room_representation.proofs.lemma_spans.Holders.{ghost_kept}
use Rattle.room_representation.proofs.lemma_spans.MoveFence.{behind_fence}
use Rattle.room_representation.proofs.lemma_jobs.GhostSteps.{IsFound, IsReap, ghost_found, ghosts_reaped, reap_of}
use Rattle.room_representation.proofs.lemma_jobs.Packets.{nothing_beyond}
use Rattle.room_representation.specs.lemma_bytes.GivenBack.{given_back}
use Rattle.room_representation.proofs.lemma_bytes.Asks.{ghost_frame_may_go}
use Rattle.room_representation.proofs.lemma_bytes.Pools.{reap_pooled}
use Rattle.room_representation.proofs.lemma_bytes.SlotKinds.{reap_slots}
use Rattle.room_representation.specs.lemma_bytes.Mapped.{cleared}
use Rattle.room_representation.proofs.lemma_bytes.Entries.{reap_representation}
use Rattle.room_representation.proofs.lemma_bytes.Holders.{ghost_inside}
use Rattle.room_representation.specs.declared.parts.Ghost.{Ghost}
use Rattle.room_representation.specs.declared.parts.Parts.{Parts}
use Rattle.room_representation.specs.Ghosts.{AreGhosts}
use Rattle.room_representation.specs.Held.{AreHeld}
use Rattle.room_representation.specs.Pages.{ArePooled}
use Rattle.room_representation.specs.Represents.{Represents}
use Rattle.room_pages.specs.binding.Apertures.{AreBelow}
use Rattle.room_representation.proofs.steps.Lent.{is_below}
use Rattle.room_representation.proofs.steps.Steps.{held_after, step_as}
use Rattle.room_pages.proofs.ghosts.Lent.{kept_spans}
use Rattle.room_pages.specs.ghosts.InTurn.{AreHeldInTurn}

-- VRAM isn't SYSTEM
no_system_vram : Vram ≡ System → ⊥
no_system_vram e = cc

-- nor is TT
no_system_tt : Tt ≡ System → ⊥
no_system_tt e = cc

module _ (script : Script) (journal : List Entry) (p : Parts) (entry : Entry) (n : ℕ) (held : AreHeld script journal p) (is : entry ≡ record { who = actor.Reaper; kind = kind.Reap n }) (legal : IsLegalNext script (world_of script journal) entry) where
  abbrev s : State
  s = state_of script journal

  -- the ghost that goes
  reaped : IsReap s n
  reaped = reap_of script s n (step_as script journal entry (record { who = actor.Reaper; kind = kind.Reap n }) is legal refl)

  -- ghosts have numbers of their own
  good : GoodGhosts s.last_ghost s.core.ghosts
  good = ghosts_law script journal held.fits held.legal

  -- no other has its number
  only : (k : ℕ) (h : state.Ghost) → slice_get s.core.ghosts k ≡ Some h → h.num ≡ n → k ≡ 0
  only k h at e = good.distinct k 0 h reaped.ghost at reaped.first (e ∙ sym reaped.num)

  -- the first of the parts' ghosts stands for it
  found : IsFound s.core.jobs s.last_jobs reaped.ghost p.ghosts 0
  found = ghost_found s.core.jobs s.last_jobs s.core.ghosts p.ghosts held.represents.ghosts 0 reaped.ghost reaped.first

  -- there is a ghost
  pub reap_some : 0 < length p.ghosts
  reap_some = is_below p.ghosts 0 found.ghost found.here

  -- what it has of TT
  tt_is : spans_at (owner.Ghost n) p.tt.held ≡ reaped.ghost.tt
  tt_is =
      ap (λ m. spans_at (owner.Ghost m) p.tt.held) (sym reaped.num)
      ∙ ap (λ o. unwrap_or o []) (ghost_kept script.sizes.tt Tt s p.tt held.represents.tt good.first 0 reaped.ghost reaped.first) ∙ kept_spans reaped.ghost.tt

  -- these pages are within the aperture
  pub reap_pages : AreBelow (pages_of (spans_at (owner.Ghost n) p.tt.held)) (length p.stores.aper)
  reap_pages i k at =
      subst (λ size. k < size) (sym held.represents.stores.aper_size)
      (ghost_inside script s.core (once_law script journal held.fits held.legal) k 0 i reaped.ghost reaped.first (ap (λ ss. slice_get (pages_of ss) i) (sym tt_is) ∙ at))

  module _ (ghost : Ghost) (first : slice_get p.ghosts 0 ≡ Some ghost) where
    -- this is that one
    same : found.ghost ≡ ghost
    same = let both : Some found.ghost ≡ Some ghost = sym found.here ∙ first in cc

    -- with its frames
    frames_are : ghost.frames ≡ reaped.ghost.frames
    frames_are = ap (λ (g : Ghost). g.frames) (sym same) ∙ found.is.frames

    -- its frames are held
    pub reap_turns : AreHeldInTurn p.pool ghost.frames
    reap_turns i f at =
        subst (λ fs. slice_get (given_back p.pool (take i fs)) f ≡ Some true) (sym frames_are)
        (ghost_frame_may_go script s (owner_law script journal held.fits held.legal) p.pool held.represents.pool 0 reaped.ghost i f reaped.first (ap (λ fs. slice_get fs i) (sym frames_are) ∙ at))

    -- the parts tell the journal with the entry
    pub reap_held : (ghosts : List Ghost) (v : room.Vram) (u : Resources) (pool : List Bool) (aper : List (Option ℕ)) → ghosts ≡ drop 1 p.ghosts → v.resources ≡ given (owner.Ghost n) p.vram.resources →
        room.spans_of_kind v.kind ≡ room.spans_of_kind p.vram.kind → u ≡ given (owner.Ghost n) p.tt → pool ≡ given_back p.pool ghost.frames → aper ≡ cleared p.stores.aper (pages_of (spans_at (owner.Ghost n) p.tt.held)) →
        AreHeld script (journal ++ entry ∷ []) (record p { ghosts = ghosts; vram = v; tt = u; pool = pool; stores = record p.stores { aper = aper } })
    reap_held ghosts v u pool aper ge ve rule ue pe ae =
        let w = world_of script journal in
        let represents = held.represents in
        let q : Parts = record p { ghosts = ghosts; vram = v; tt = u; pool = pool; stores = record p.stores { aper = aper } } in
        let given_now : pool ≡ given_back p.pool reaped.ghost.frames = pe ∙ ap (given_back p.pool) frames_are in
        let cleared_now : aper ≡ cleared p.stores.aper (pages_of reaped.ghost.tt) = ae ∙ ap (λ ss. cleared p.stores.aper (pages_of ss)) tt_is in
        held_after script journal p q entry held legal
        (subst (λ (y : Entry). Represents script (world_after script w y).state (world_after script w y).stores q) (sym is)
        (record {
          bos = represents.bos;
          timeline = represents.timeline;
          rings = represents.rings;
          ghosts = subst (λ rs. AreGhosts s.core.jobs s.last_jobs (after_reap s n).core.ghosts rs) (sym ge)
              (ghosts_reaped s.core.jobs s.last_jobs s.core.ghosts p.ghosts represents.ghosts n reaped.ghost reaped.first reaped.num good.distinct);
          vram = record {
            rule = rule ∙ represents.vram.rule;
            held_as = subst (λ x. HoldsAsOwned script.sizes.vram Vram s.core.buffers (after_reap s n).core.ghosts x) (sym ve) (reap_spans script.sizes.vram Vram no_system_vram s p.vram.resources represents.vram.held_as n);
            fence = record { kept_is = ap (λ (x : Resources). x.move_fence) ve ∙ behind_fence Vram (kind.Reap n) p.vram.resources ∙ represents.vram.fence.kept_is; known = represents.vram.fence.known };
          };
          tt = subst (λ x. HoldsAsOwned script.sizes.tt Tt s.core.buffers (after_reap s n).core.ghosts x) (sym ue) (reap_spans script.sizes.tt Tt no_system_tt s p.tt represents.tt n);
          pool = subst (λ l. ArePooled script.sizes.frames (held_frames (after_reap s n).core) l) (sym given_now)
              (reap_pooled script s p.pool represents.pool (owner_law script journal held.fits held.legal).frames n 0 reaped.ghost reaped.first reaped.num only);
          swap = reap_slots script s actor.Reaper w.stores p.swap represents.swap n;
          stores = reap_representation script journal held.fits held.legal p.stores represents.stores n reaped.ghost aper (subst (λ (y : Entry). IsLegalNext script w y) is legal) reaped.first cleared_now;
          lists = represents.lists;
          courses = represents.courses;
          stamp = represents.stamp;
          ghost = represents.ghost;
          no_more = nothing_beyond script.sizes (stores_after script s actor.Reaper (kind.Reap n) w.stores);
        }))
