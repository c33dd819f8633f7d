-- All parts after a buffer that is freed.
use Rattle.std.proofs.Common.{◌≡◌, ℕ, ◌<◌, Bool, false, List, [], ◌∷◌, ◌++◌, ◌≤◌, Option, Some, None, Ok, IsSome, length, refl, sym, ◌∙◌, ap, subst, arith}
use Rattle.std.specs.Prelude.{unwrap_or, ◌==◌, filter_map, option_map, slice_get, slice_set, if◌then◌else◌}
use Rattle.std.proofs.lemmas.Bool.{ne_eqb}
use Rattle.ttm_base.specs.declared.Actor.TheVariants as actor
use Rattle.ttm_base.specs.declared.BufId.{BufId}
use Rattle.ttm_base.specs.declared.Mem.{Mem}
use Rattle.ttm_base.specs.declared.Mem.TheVariants.{System, Tt, Vram}
use Rattle.ttm_base.specs.declared.Owner.TheVariants as owner
use Rattle.swap_store.specs.Slots.{SwapSlots}
use Rattle.lru_bulk.specs.declared.nodes.Listing.{Listing}
use Rattle.lru_bulk.specs.Lists.{Order, listing_of}
use Rattle.lru_bulk.specs.Members.{AreMembersListed}
use Rattle.resource_core.specs.Resources.{Resources, holds, spans_at}
use Rattle.resource_core.specs.Vram as room
use Rattle.bo_table.specs.declared.bo.Bo.{Bo}
use Rattle.bo_table.specs.Seen.{Bos, IsBo, with_killed}
use Rattle.bo_table.proofs.TableLaws.{map_set}
use Rattle.journal_model.specs.declared.script.Script.{Script}
use Rattle.journal_model.specs.declared.state.State.{State}
use Rattle.journal_model.specs.declared.state.Buffer.{Buffer}
use Rattle.journal_model.specs.declared.state.Course.{Course}
use Rattle.journal_model.specs.declared.state.Ghost as state
use Rattle.journal_model.specs.declared.state.Reservation.{Reservation}
use Rattle.journal_model.specs.declared.entry.Entry.{Entry}
use Rattle.journal_model.specs.declared.entry.Kind.TheVariants as kind
use Rattle.journal_model.specs.rules.ApplyCommands.{after_free, ghost_of_freed}
use Rattle.journal_model.specs.rules.Holds.{held_frames, held_slots, size_of, spans_in}
use Rattle.journal_model.specs.rules.Next.{next}
use Rattle.journal_model.specs.rules.PageSteps.{next_ghost}
use Rattle.journal_model.specs.rules.Places.{frame_of, slot_of, frames_of, slots_of, pages_of}
use Rattle.journal_model.specs.rules.State.{buffer, no_reservation}
use Rattle.journal_model.specs.rules.Stores.{stores_after}
use Rattle.journal_model.specs.rules.Legal.{IsLegalNext, state_of, world_of, world_after}
use Rattle.laws.specs.law_owners.OneOwner.{HaveOneOwner}
use Rattle.laws.proofs.law_owners.Law.{owner_law, once_law}
use Rattle.laws.specs.law_transparent.OwnPages.{GoodGhosts}
use Rattle.laws.proofs.law_transparent.PagesLaw.{ghosts_law}
use Rattle.laws.proofs.law_transparent.Carried.{told_law}
use Rattle.laws.specs.lemma_bytes_told.Told.{IsThere, Told, still, frees, leaves}
use Rattle.room_representation.specs.lemma_lists.Listed.{HasLists}
use Rattle.room_representation.proofs.lemma_lists.KindLaws.{free_lists, free_unlisted}
use Rattle.room_representation.specs.lemma_spans.Calls.{given, passed_on, freed}
use Rattle.room_representation.specs.lemma_spans.Owned.{HoldsAsIn, HoldsAsOwned}
use Rattle.room_representation.proofs.lemma_spans.Entries.{thread_spans, next_ghost_fresh}
use Rattle.room_representation.proofs.lemma_spans.Holders.{live_kept}
use Rattle.room_representation.proofs.lemma_spans.MoveFence.{behind_fence}
use Rattle.room_representation.proofs.lemma_jobs.GhostSteps.{ghosts_push}
use Rattle.room_representation.proofs.lemma_jobs.Sets.{fences_cleared}
use Rattle.room_representation.proofs.lemma_jobs.Packets.{nothing_beyond}
use Rattle.room_representation.specs.lemma_bytes.GivenBack.{given_back}
use Rattle.room_representation.proofs.lemma_bytes.Pools.{free_pooled, free_to_ghost_pooled}
use Rattle.room_representation.proofs.lemma_bytes.SlotKinds.{free_slots}
use Rattle.room_representation.proofs.lemma_bytes.Walks.{frames_within, slots_within, table_held_still}
use Rattle.room_representation.specs.lemma_bytes.Mapped.{cleared}
use Rattle.room_representation.proofs.lemma_bytes.Entries.{free_representation, free_left_representation}
use Rattle.room_representation.proofs.lemma_bytes.Holders.{buffer_inside, is_in_tt, own_spans}
use Rattle.room_representation.specs.declared.parts.Ghost.{Ghost}
use Rattle.room_representation.specs.declared.parts.Parts.{Parts}
use Rattle.room_representation.specs.Bos.{AreBos, unfenced}
use Rattle.room_representation.specs.Ghosts.{AreGhosts}
use Rattle.room_representation.specs.Held.{AreHeld}
use Rattle.room_representation.specs.Managers.{IsVram, IsTt}
use Rattle.room_representation.specs.Pages.{ArePooled, AreSlots}
use Rattle.room_representation.specs.Represents.{Represents}
use Rattle.room_representation.specs.steps.Courses.{course_at, with_course_by}
use Rattle.room_representation.proofs.steps.Lent.{stands_at, lent_below, lent_table}
use Rattle.room_representation.proofs.steps.Steps.{held_after, step_as, thread_there}
use Rattle.room_pages.specs.Tables.{AreHeldInTurn}
use Rattle.room_pages.specs.binding.Apertures.{AreBelow}
use Rattle.room_pages.specs.ghosts.InTurn.{AreHeldAlong}
use Rattle.room_pages.specs.ghosts.Leaving.{freeing, ghost_of, off_list, off_list_as}
use Rattle.room_pages.proofs.ghosts.Lent.{kept_spans, lent_ghost}

-- VRAM isn't SYSTEM
no_system_vram : Vram ≡ System → ⊥
no_system_vram e = cc

-- nor is TT
no_system_tt : Tt ≡ System → ⊥
no_system_tt e = cc

-- the table without a buffer that was freed
killed_bos : (script : Script) (bs : List (Option Buffer)) (reservations : List Reservation) (last : List ℕ) (t : Bos) → AreBos script bs reservations last t → (b : BufId) (old : Option Buffer) → slice_get bs b.0 ≡ Some old →
    AreBos script (slice_set bs b.0 None) (slice_set reservations b.0 no_reservation) last (with_killed t b)
killed_bos script bs reservations last t h b old at =
    record {
      buffers_are = ap (λ xs. slice_set xs b.0 None) h.buffers_are ∙ sym (map_set (option_map unfenced) bs b.0 None);
      reservations_are = ap (λ gs. slice_set gs b.0 no_reservation) h.reservations_are;
      fences_are = fences_cleared last bs b old None at refl t.fences h.fences_are;
      pages_are = h.pages_are;
    }

-- the lists without it
freed_lists : (script : Script) (s : State) (o : Order) (t : ℕ) (b : BufId) (g : ℕ) → HasLists script s o → AreMembersListed o → HasLists script (after_free s t b g) (off_list o b)
freed_lists script s o t b g representation members = by (listing_of o b) refl
  where
    by : (y : Option Listing) → listing_of o b ≡ y → HasLists script (after_free s t b g) (off_list_as o b y)
    by None e = free_unlisted script s o t b representation members g (sym (representation.listings_are b) ∙ e)
    by (Some x) e = free_lists script s o t b representation members g x (sym (representation.listings_are b) ∙ e)

-- where it leaves a ghost, the ghost has the next number
number_in : (script : Script) (s : State) (t : ℕ) (b : BufId) (g : ℕ) → 0 < g → Told script s t (kind.Free b g) → g ≡ next_ghost s
number_in script s t b g l (still h) = cc
number_in script s t b _ l (frees there quiet) = absurd (omega (arith, l))
number_in script s t b _ l (leaves there) = refl

-- the buffer is live
there_in : (script : Script) (s : State) (t : ℕ) (b : BufId) (g : ℕ) → Told script s t (kind.Free b g) → IsThere s b
there_in script s t b g (still h) = cc
there_in script s t b _ (frees there quiet) = there
there_in script s t b _ (leaves there) = there

module _ (script : Script) (journal : List Entry) (p : Parts) (entry : Entry) (t : ℕ) (b : BufId) (g : ℕ) (held : AreHeld script journal p) (is : entry ≡ record { who = actor.Thread t; kind = kind.Free b g }) (legal : IsLegalNext script (world_of script journal) entry) where
  abbrev s : State
  s = state_of script journal

  -- the entry is the thread's step
  step : next script s (actor.Thread t) ≡ Ok (kind.Free b g)
  step = step_as script journal entry (record { who = actor.Thread t; kind = kind.Free b g }) is legal refl

  -- what it tells of the state
  told : Told script s t (kind.Free b g)
  told = told_law script journal t (kind.Free b g) held.fits held.legal step

  -- the buffer is live
  live : IsThere s b
  live = there_in script s t b g told

  -- ghosts have numbers of their own
  good : GoodGhosts s.last_ghost s.core.ghosts
  good = ghosts_law script journal held.fits held.legal

  -- what is held has one owner
  owned : HaveOneOwner script s.core
  owned = owner_law script journal held.fits held.legal

  -- ---- what the calls ask for

  -- the thread is there
  pub free_there : IsSome (course_at p.courses t)
  free_there = thread_there script journal p held t (kind.Free b g) entry is legal refl

  -- the buffer can be lent
  pub free_below : b.0 < length p.bos.reservations
  free_below = lent_below script journal p held b live

  -- what it has of TT
  tt_is : spans_at (owner.Live b) p.tt.held ≡ spans_in Tt (buffer s b)
  tt_is = ap (λ o. unwrap_or o []) (live_kept script.sizes.tt Tt s p.tt held.represents.tt b live) ∙ kept_spans (spans_in Tt (buffer s b))

  -- these pages are within the aperture
  pub free_pages : AreBelow (pages_of (spans_at (owner.Live b) p.tt.held)) (length p.stores.aper)
  free_pages i k at =
      let here : slice_get (pages_of (spans_in Tt (buffer s b))) i ≡ Some k = ap (λ ss. slice_get (pages_of ss) i) (sym tt_is) ∙ at in
      let mem = is_in_tt (buffer s b) i k here in
      subst (λ size. k < size) (sym held.represents.stores.aper_size)
      (buffer_inside script s.core (once_law script journal held.fits held.legal) k b (buffer s b) i live mem (ap (λ ss. slice_get (pages_of ss) i) (sym (own_spans (buffer s b) mem)) ∙ here))

  module _ (bo : Bo) (lent : IsBo p.bos b bo) where
    -- its frames are held
    pub free_frames : AreHeldInTurn p.pool bo.table
    free_frames =
        subst (AreHeldInTurn p.pool) (sym (lent_table script journal p held b live bo lent))
        (table_held_still frame_of script.sizes.frames (held_frames s.core) p.pool held.represents.pool.held_are owned.frames (buffer s b).table (frames_within s.core b (buffer s b) live))

    -- its slots are
    pub free_held_slots : AreHeldAlong slot_of p.swap.held bo.table
    free_held_slots =
        subst (AreHeldAlong slot_of p.swap.held) (sym (lent_table script journal p held b live bo lent))
        (table_held_still slot_of script.sizes.swap (held_slots s.core) p.swap.held held.represents.swap.held_are owned.slots (buffer s b).table (slots_within s.core b (buffer s b) live))

  -- ---- what is represented again

  -- a manager after its call
  spans_now : (mine : Mem) → (mine ≡ System → ⊥) → (r : Resources) → HoldsAsIn (size_of script mine) mine s r → HoldsAsIn (size_of script mine) mine (after_free s t b g) (freed b g r)
  spans_now mine out r representation = thread_spans script journal held.fits held.legal mine out good.first (λ i h e. (good.drawn i h e).1) r representation t (kind.Free b g) step told

  -- that of VRAM
  vram_now : (v : room.Vram) → v.resources ≡ freed b g p.vram.resources → room.spans_of_kind v.kind ≡ room.spans_of_kind p.vram.kind →
      IsVram script.sizes s.last_jobs (after_free s t b g).core.buffers (after_free s t b g).core.ghosts s.core.move_fence v
  vram_now v e rule =
      record {
        rule = rule ∙ held.represents.vram.rule;
        held_as = subst (λ r. HoldsAsOwned script.sizes.vram Vram (after_free s t b g).core.buffers (after_free s t b g).core.ghosts r) (sym e) (spans_now Vram no_system_vram p.vram.resources held.represents.vram.held_as);
        fence = record { kept_is = ap (λ (r : Resources). r.move_fence) e ∙ behind_fence Vram (kind.Free b g) p.vram.resources ∙ held.represents.vram.fence.kept_is; known = held.represents.vram.fence.known };
      }

  -- that of TT
  tt_now : (u : Resources) → u ≡ freed b g p.tt → IsTt script.sizes (after_free s t b g).core.buffers (after_free s t b g).core.ghosts u
  tt_now u e = subst (λ r. HoldsAsOwned script.sizes.tt Tt (after_free s t b g).core.buffers (after_free s t b g).core.ghosts r) (sym e) (spans_now Tt no_system_tt p.tt held.represents.tt)

  -- the table of buffers
  bos_now : (bos : Bos) → bos ≡ with_killed p.bos b → AreBos script (after_free s t b g).core.buffers (after_free s t b g).reservations s.last_jobs bos
  bos_now bos e =
      subst (λ x. AreBos script (after_free s t b g).core.buffers (after_free s t b g).reservations s.last_jobs x) (sym e)
      (killed_bos script s.core.buffers s.reservations s.last_jobs p.bos held.represents.bos b (Some (buffer s b)) (stands_at s.core.buffers b (buffer s b) live))

  -- the lists
  lists_now : (o : Order) → o ≡ off_list p.lru b → AreMembersListed p.lru → HasLists script (after_free s t b g) o
  lists_now o e members = subst (λ x. HasLists script (after_free s t b g) x) (sym e) (freed_lists script s p.lru t b g held.represents.lists members)

  -- the slots of the lent table are the buffer's
  slots_now : (bo : Bo) → IsBo p.bos b bo → (swap : SwapSlots) → swap ≡ record { held = given_back p.swap.held (filter_map slot_of bo.table); bytes = p.swap.bytes } →
      swap ≡ record { held = given_back p.swap.held (slots_of (buffer s b)); bytes = p.swap.bytes }
  slots_now bo lent swap e =
      e ∙ ap (λ places. let y : SwapSlots = record { held = given_back p.swap.held (filter_map slot_of places); bytes = p.swap.bytes } in y) (lent_table script journal p held b live bo lent)

-- ---- no job uses it

module _ (script : Script) (journal : List Entry) (p : Parts) (entry : Entry) (t : ℕ) (b : BufId) (held : AreHeld script journal p) (is : entry ≡ record { who = actor.Thread t; kind = kind.Free b 0 }) (legal : IsLegalNext script (world_of script journal) entry) where
  -- the parts tell the journal with the entry
  pub idle_held : (bo : Bo) → IsBo p.bos b bo → (v : room.Vram) (u : Resources) (aper : List (Option ℕ)) (pool : List Bool) (swap : SwapSlots) (bos : Bos) (o : Order) (courses : List Course) →
      v.resources ≡ given (owner.Live b) p.vram.resources → room.spans_of_kind v.kind ≡ room.spans_of_kind p.vram.kind → u ≡ given (owner.Live b) p.tt →
      aper ≡ cleared p.stores.aper (pages_of (spans_at (owner.Live b) p.tt.held)) → pool ≡ given_back p.pool (filter_map frame_of bo.table) →
      swap ≡ record { held = given_back p.swap.held (filter_map slot_of bo.table); bytes = p.swap.bytes } → bos ≡ with_killed p.bos b → o ≡ off_list p.lru b → AreMembersListed p.lru →
      courses ≡ with_course_by (freeing b) p.courses t →
      AreHeld script (journal ++ entry ∷ []) (record p { vram = v; tt = u; stores = record p.stores { aper = aper }; pool = pool; swap = swap; bos = bos; lru = o; courses = courses })
  idle_held bo lent v u aper pool swap bos o courses ve rule ue ae pe se be oe members ce =
      let s = state_of script journal in
      let w = world_of script journal in
      let represents = held.represents in
      let there = live script journal p entry t b 0 held is legal in
      let one_owner = owner_law script journal held.fits held.legal in
      let q : Parts = record p { vram = v; tt = u; stores = record p.stores { aper = aper }; pool = pool; swap = swap; bos = bos; lru = o; courses = courses } in
      let pool_is : pool ≡ given_back p.pool (frames_of (buffer s b)) = pe ∙ ap (λ places. given_back p.pool (filter_map frame_of places)) (lent_table script journal p held b there bo lent) in
      let aper_is : aper ≡ cleared p.stores.aper (pages_of (spans_in Tt (buffer s b))) = ae ∙ ap (λ ss. cleared p.stores.aper (pages_of ss)) (tt_is script journal p entry t b 0 held is legal) in
      held_after script journal p q entry held legal
      (subst (λ (y : Entry). Represents script (world_after script w y).state (world_after script w y).stores q) (sym is)
      (record {
        bos = bos_now script journal p entry t b 0 held is legal bos be;
        timeline = represents.timeline;
        rings = represents.rings;
        ghosts = represents.ghosts;
        vram = vram_now script journal p entry t b 0 held is legal v ve rule;
        tt = tt_now script journal p entry t b 0 held is legal u ue;
        pool = subst (λ l. ArePooled script.sizes.frames (held_frames (after_free s t b 0).core) l) (sym pool_is) (free_pooled script s b there p.pool represents.pool t one_owner.frames);
        swap = subst (λ l. AreSlots script.sizes.swap (held_slots (after_free s t b 0).core) (world_after script w (record { who = actor.Thread t; kind = kind.Free b 0 })).stores l)
            (sym (slots_now script journal p entry t b 0 held is legal bo lent swap se))
            (free_slots script s (actor.Thread t) w.stores p.swap represents.swap b there t 0 one_owner.slots);
        stores = free_representation script journal held.fits held.legal p.stores represents.stores t b aper (subst (λ (y : Entry). IsLegalNext script w y) is legal) aper_is;
        lists = lists_now script journal p entry t b 0 held is legal o oe members;
        courses = ce ∙ ap (λ cs. with_course_by (freeing b) cs t) represents.courses;
        stamp = represents.stamp;
        ghost = represents.ghost;
        no_more = nothing_beyond script.sizes (stores_after script s (actor.Thread t) (kind.Free b 0) w.stores);
      }))

-- ---- jobs use it

module _ (script : Script) (journal : List Entry) (p : Parts) (entry : Entry) (t : ℕ) (b : BufId) (g : ℕ) (held : AreHeld script journal p) (is : entry ≡ record { who = actor.Thread t; kind = kind.Free b g }) (legal : IsLegalNext script (world_of script journal) entry) (some : 0 < g) where
  -- its number isn't 0
  is_some_number : (g == 0) ≡ false
  is_some_number = ne_eqb g 0 (λ e. absurd (omega (arith, e, some)))

  -- but the next one
  number : g ≡ next_ghost (state_of script journal)
  number = number_in script (state_of script journal) t b g some (told script journal p entry t b g held is legal)

  -- no ghost has it yet
  below : (i : ℕ) (h : state.Ghost) → slice_get (state_of script journal).core.ghosts i ≡ Some h → h.num ≤ (state_of script journal).last_ghost
  below i h e = ((good script journal p entry t b g held is legal).drawn i h e).1

  -- the ghost has nothing of VRAM yet
  pub busy_vram : holds (owner.Ghost g) p.vram.resources.held ≡ false
  busy_vram =
      ap (λ n. holds (owner.Ghost n) p.vram.resources.held) number
      ∙ next_ghost_fresh script journal held.fits held.legal Vram no_system_vram (good script journal p entry t b g held is legal).first below p.vram.resources held.represents.vram.held_as

  -- nor of TT
  pub busy_tt : holds (owner.Ghost g) p.tt.held ≡ false
  busy_tt =
      ap (λ n. holds (owner.Ghost n) p.tt.held) number
      ∙ next_ghost_fresh script journal held.fits held.legal Tt no_system_tt (good script journal p entry t b g held is legal).first below p.tt held.represents.tt

  -- what the buffer has is the ghost's
  to_ghost : (r : Resources) → freed b g r ≡ passed_on (owner.Live b) (owner.Ghost g) r
  to_ghost r = ap (λ q. if q then given (owner.Live b) r else passed_on (owner.Live b) (owner.Ghost g) r) is_some_number

  -- it is the last of the ghosts
  ghosts_are : (s : State) → (after_free s t b g).core.ghosts ≡ s.core.ghosts ++ ghost_of_freed s.core (buffer s b) g ∷ []
  ghosts_are s = ap (λ q. if q then s.core.ghosts else s.core.ghosts ++ ghost_of_freed s.core (buffer s b) g ∷ []) is_some_number

  -- the parts tell the journal with the entry
  pub busy_held : (bo : Bo) → IsBo p.bos b bo → (ghosts : List Ghost) (v : room.Vram) (u : Resources) (swap : SwapSlots) (bos : Bos) (o : Order) (courses : List Course) →
      ghosts ≡ p.ghosts ++ ghost_of bo g ∷ [] → v.resources ≡ passed_on (owner.Live b) (owner.Ghost g) p.vram.resources → room.spans_of_kind v.kind ≡ room.spans_of_kind p.vram.kind →
      u ≡ passed_on (owner.Live b) (owner.Ghost g) p.tt → swap ≡ record { held = given_back p.swap.held (filter_map slot_of bo.table); bytes = p.swap.bytes } → bos ≡ with_killed p.bos b →
      o ≡ off_list p.lru b → AreMembersListed p.lru → courses ≡ with_course_by (freeing b) p.courses t →
      AreHeld script (journal ++ entry ∷ []) (record p { ghosts = ghosts; vram = v; tt = u; swap = swap; bos = bos; lru = o; courses = courses; last_ghost = g })
  busy_held bo lent ghosts v u swap bos o courses ge ve rule ue se be oe members ce =
      let s = state_of script journal in
      let w = world_of script journal in
      let represents = held.represents in
      let there = live script journal p entry t b g held is legal in
      let q : Parts = record p { ghosts = ghosts; vram = v; tt = u; swap = swap; bos = bos; lru = o; courses = courses; last_ghost = g } in
      held_after script journal p q entry held legal
      (subst (λ (y : Entry). Represents script (world_after script w y).state (world_after script w y).stores q) (sym is)
      (record {
        bos = bos_now script journal p entry t b g held is legal bos be;
        timeline = represents.timeline;
        rings = represents.rings;
        ghosts = subst (λ gs. AreGhosts s.core.jobs s.last_jobs gs ghosts) (sym (ghosts_are s))
            (subst (λ rs. AreGhosts s.core.jobs s.last_jobs (s.core.ghosts ++ ghost_of_freed s.core (buffer s b) g ∷ []) rs) (sym ge)
            (ghosts_push s.core.jobs s.last_jobs s.core.ghosts p.ghosts represents.ghosts (ghost_of_freed s.core (buffer s b) g) (ghost_of bo g) (lent_ghost script journal p held b there bo lent g)));
        vram = vram_now script journal p entry t b g held is legal v (ve ∙ sym (to_ghost p.vram.resources)) rule;
        tt = tt_now script journal p entry t b g held is legal u (ue ∙ sym (to_ghost p.tt));
        pool = free_to_ghost_pooled script s b there p.pool represents.pool t g is_some_number;
        swap = subst (λ l. AreSlots script.sizes.swap (held_slots (after_free s t b g).core) (world_after script w (record { who = actor.Thread t; kind = kind.Free b g })).stores l)
            (sym (slots_now script journal p entry t b g held is legal bo lent swap se))
            (free_slots script s (actor.Thread t) w.stores p.swap represents.swap b there t g (owner_law script journal held.fits held.legal).slots);
        stores = free_left_representation script journal held.fits held.legal p.stores represents.stores t g b is_some_number (subst (λ (y : Entry). IsLegalNext script w y) is legal);
        lists = lists_now script journal p entry t b g held is legal o oe members;
        courses = ce ∙ ap (λ cs. with_course_by (freeing b) cs t) represents.courses;
        stamp = represents.stamp;
        ghost = sym (ap (λ q. if q then s.last_ghost else g) is_some_number);
        no_more = nothing_beyond script.sizes (stores_after script s (actor.Thread t) (kind.Free b g) w.stores);
      }))
