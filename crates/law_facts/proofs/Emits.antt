-- What a new job touches: places of buffers whose jobs it waits for, and, where it moves a buffer, the pages to which the buffer goes.
use Rattle.std.proofs.Common.{◌≡◌, ℕ, ◌+◌, ◌<◌, zero, suc, true, length, Option, Some, None, refl, sym, subst, ◌∙◌, ap, ◌⊎◌, inl, inr, arith, ⊎_elim, eqb-true}
use Rattle.std.specs.Prelude.{slice_get, map, unwrap_or, ◌||◌}
use Rattle.std.specs.List.{list_any}
use Rattle.std.proofs.lemmas.Bool.{or_cases}
use Rattle.ttm_base.specs.declared.Mem.{Mem}
use Rattle.ttm_base.specs.declared.Mem.TheVariants.{System, Tt, Vram}
use Rattle.ttm_base.specs.declared.BufId.{BufId}
use Rattle.ttm_base.specs.declared.JobId.{JobId}
use Rattle.ttm_base.specs.declared.Loc.TheVariants as loc
use Rattle.ttm_base.specs.declared.PagePlace.{PagePlace}
use Rattle.ttm_base.specs.declared.PagePlace.TheVariants as place
use Rattle.ttm_base.specs.ListWords.{count_from}
use Rattle.ttm_base.specs.Pages as pages
use Rattle.ttm_base.specs.Packets.{packet_touches}
use Rattle.journal_model.specs.declared.script.Script.{Script}
use Rattle.journal_model.specs.declared.state.Core.{Core}
use Rattle.journal_model.specs.declared.state.Job.{Job}
use Rattle.journal_model.specs.rules.State.{buffer_in, live_in, changed, new_buffer, target_spans, has_target}
use Rattle.journal_model.specs.rules.Places.{pages_of, page_in_vram, page_at, place_of, frames_of, packet_place, name_in_spans, aperture}
use Rattle.journal_model.specs.rules.Holds.{has_number}
use Rattle.journal_model.specs.rules.Ready.{has_all_frames}
use Rattle.journal_model.specs.rules.Waits.{same_job, unfinished, jobs_before_read, jobs_before_write}
use Rattle.journal_model.specs.rules.ApplyMoves.{moved, move_packets, copy_of_page, table_left}
use Rattle.law_facts.specs.Facts.{touches, writes_to}
use Rattle.laws.specs.law_holders.Holding.{seen}
use Rattle.laws.specs.law_holders.Maps.{Maps}
use Rattle.laws.proofs.law_owners.Law.{AreHeldOnce}
use Rattle.laws.proofs.law_holders.Mapped.{aperture_maps, maps_aperture}
use Rattle.laws.proofs.law_spares.Holders.{changed_here}
use Rattle.laws.proofs.lemma_bytes_view.Tables.{get_at, has_at, full_is, frame_listed}
use Rattle.laws.proofs.lemma_bytes_told.Shapes.{Shapely}
use Rattle.laws.proofs.law_transparent.Acts.{reached}
use Rattle.law_facts.proofs.Lasting.{any_dropped}
use Rattle.law_facts.proofs.Growth.{Clear}

-- ---- what a new job touches

-- it waits for all unfinished jobs of the buffer
abbrev pub WaitsForAll : Core → Job → BufId → Type 0
WaitsForAll c y b = (i : JobId) → list_any (same_job i) (unfinished c (jobs_before_write (buffer_in c b))) ≡ true → list_any (same_job i) y.waits ≡ true

-- or for those that change it
abbrev pub WaitsForChanges : Core → Job → BufId → Type 0
WaitsForChanges c y b = (i : JobId) → list_any (same_job i) (unfinished c (jobs_before_read (buffer_in c b))) ≡ true → list_any (same_job i) y.waits ≡ true

-- A page that it touches is a place of a buffer, a page to which it moves one, or one that nobody else touches.
pub data NewPage (c d : Core) (y : Job) (p : pages.Page) : Type 0 where
  stands : (b : BufId) (k : ℕ) → place_of c b k ≡ p → WaitsForAll c y b ⊎ ((writes_to d p y ≡ true → ⊥) × WaitsForChanges c y b) → NewPage c d y p
  arrives : (b : BufId) (k q : ℕ) → p ≡ pages.vram q → has_number (pages_of (target_spans Vram (buffer_in c b))) q ≡ true → place_of d b k ≡ p → WaitsForAll c y b → NewPage c d y p
  kept : (f : ℕ) → p ≡ pages.frame f → Clear c p → NewPage c d y p

-- ---- pages

pub same_page_is : (p q : pages.Page) → pages.same_page p q ≡ true → p ≡ q
same_page_is pages.nowhere pages.nowhere e = refl
same_page_is (pages.vram p) (pages.vram q) e = ap pages.vram (eqb-true p q e)
same_page_is (pages.frame p) (pages.frame q) e = ap pages.frame (eqb-true p q e)
same_page_is (pages.slot p) (pages.slot q) e = ap pages.slot (eqb-true p q e)
same_page_is p q e = cc

pub seen_is : (p q : pages.Page) → seen p ≡ seen q → p ≡ q
seen_is pages.nowhere pages.nowhere e = refl
seen_is (pages.vram p) (pages.vram q) e = let same : p ≡ q = cc in ap pages.vram same
seen_is (pages.frame p) (pages.frame q) e = let same : p ≡ q = cc in ap pages.frame same
seen_is (pages.slot p) (pages.slot q) e = let same : p ≡ q = cc in ap pages.slot same
seen_is p q e = cc

-- copies of pages touch where they come from and where they go
copies_touch : (a : pages.Aperture) (p : pages.Page) (to from : ℕ → PagePlace) (n start : ℕ) → list_any (packet_touches a p) (map (λ i. copy_of_page (to i) (from i)) (count_from 1 n start)) ≡ true →
    (k : ℕ) × (k < start + n) × ((p ≡ pages.translated a (to k)) ⊎ (p ≡ pages.translated a (from k)))
copies_touch a p to from zero start h = cc
copies_touch a p to from (suc n) start h =
    ⊎_elim
    (λ e. (
      start,
      omega arith,
      ⊎_elim (λ g. inl (same_page_is p (pages.translated a (to start)) g)) (λ g. inr (same_page_is p (pages.translated a (from start)) g))
          (or_cases (pages.same_page p (pages.translated a (to start))) (pages.same_page p (pages.translated a (from start))) e),
    ))
    (λ e. let r = copies_touch a p to from n (1 + start) e in let l = r.1 in (r.0, omega (arith, l), r.2))
    (or_cases (pages.same_page p (pages.translated a (to start)) || pages.same_page p (pages.translated a (from start))) (list_any (packet_touches a p) (map (λ i. copy_of_page (to i) (from i)) (count_from 1 n (1 + start)))) h)

-- ---- a move

module _ (script : Script) (c d : Core) (b : BufId) (mem : Mem) (job : JobId) (held : AreHeldOnce script c) (once : AreHeldOnce script d)
    (there : live_in c.buffers b ≡ Some (buffer_in c b)) (sh : Shapely (buffer_in c b)) (out : (buffer_in c b).mem ≡ System → ⊥)
    (maps : (p q : ℕ) → Maps c p q → Maps d p q) (is : d.buffers ≡ changed (moved mem job) c.buffers b) where
  moved_there : live_in d.buffers b ≡ Some (moved mem job (buffer_in c b))
  moved_there = ap (λ xs. live_in xs b) is ∙ changed_here (moved mem job) c.buffers b (buffer_in c b) there

  stays_mapped : (page f : ℕ) → aperture c page ≡ Some f → aperture d page ≡ Some f
  stays_mapped page f e = maps_aperture script d once page f (maps page f (aperture_maps c page f e))

  -- a name that stands for a page stands for it still
  name_stays : (at : PagePlace) → (pages.translated (aperture c) at ≡ pages.nowhere → ⊥) → pages.translated (aperture d) at ≡ pages.translated (aperture c) at
  name_stays (place.Vram p) some = refl
  name_stays (place.Frame f) some = refl
  name_stays (place.Aper p) some = by (aperture c p) refl
    where
      by : (o : Option ℕ) → aperture c p ≡ o → pages.mapped_page (aperture d p) ≡ pages.mapped_page (aperture c p)
      by None e = absurd (some (ap pages.mapped_page e))
      by (Some f) e = ap pages.mapped_page (stays_mapped p f e ∙ sym e)

  from_place : (k : ℕ) → k < length (buffer_in c b).table → pages.translated (aperture d) (packet_place (buffer_in c b) k) ≡ place_of c b k
  from_place k l =
      let r = reached script c held b there sh (λ e. absurd (out e)) k l in
      let here : pages.translated (aperture c) (packet_place (buffer_in c b) k) ≡ place_of c b k = seen_is (pages.translated (aperture c) (packet_place (buffer_in c b) k)) (place_of c b k) r.names in
      name_stays (packet_place (buffer_in c b) k) (λ e. r.somewhere (ap seen (sym here ∙ e))) ∙ here

  module _ (y : Job) (packets : y.packets ≡ move_packets (buffer_in c b) mem) (waits : y.waits ≡ unfinished c (jobs_before_write (buffer_in c b))) where
    for_all : WaitsForAll c y b
    for_all i h = subst (λ is. list_any (same_job i) is ≡ true) (sym waits) h

    by_copy : (p : pages.Page) → touches d p y ≡ true →
        ((k : ℕ) → k < length (buffer_in c b).table → p ≡ pages.translated (aperture d) (name_in_spans mem (target_spans mem (buffer_in c b)) k) → NewPage c d y p) → NewPage c d y p
    by_copy p t goes =
        let some : list_any (packet_touches (aperture d) p) (move_packets (buffer_in c b) mem) ≡ true = subst (λ qs. list_any (packet_touches (aperture d) p) qs ≡ true) packets (any_dropped (packet_touches (aperture d) p) y.ran y.packets t) in
        let r = copies_touch (aperture d) p (λ i. name_in_spans mem (target_spans mem (buffer_in c b)) i) (λ i. packet_place (buffer_in c b) i) (length (buffer_in c b).table) 0 some in
        let l : r.0 < length (buffer_in c b).table = (let z = r.1 in omega (arith, z)) in
        ⊎_elim
        (λ e. goes r.0 l e)
        (λ e. stands b r.0 (sym (from_place r.0 l) ∙ sym e) (inl for_all))
        r.2

    -- into VRAM
    pub up_page : mem ≡ Vram → has_target Vram (buffer_in c b) ≡ true → (p : pages.Page) → touches d p y ≡ true → NewPage c d y p
    up_page m target p t = by_copy p t goes
      where
        goes : (k : ℕ) → k < length (buffer_in c b).table → p ≡ pages.translated (aperture d) (name_in_spans mem (target_spans mem (buffer_in c b)) k) → NewPage c d y p
        goes k l e =
            let long = sh.targets Vram (λ z. cc) target in
            let q = get_at (pages_of (target_spans Vram (buffer_in c b))) k (omega (arith, l, long)) in
            let page : p ≡ pages.vram q.0 = e ∙ ap (λ n. pages.translated (aperture d) (name_in_spans n (target_spans n (buffer_in c b)) k)) m ∙ ap (λ o. pages.vram (unwrap_or o 0)) q.1 in
            let now : place_of d b k ≡ pages.vram q.0 = ap (λ o. page_at (unwrap_or o (new_buffer 0)) k) moved_there ∙ ap (λ n. page_at (moved n job (buffer_in c b)) k) m ∙ ap page_in_vram q.1 in
            arrives b k q.0 page (has_at (pages_of (target_spans Vram (buffer_in c b))) k q.0 q.1) (now ∙ sym page) for_all

    -- out of VRAM into TT
    pub down_page : mem ≡ Tt → (buffer_in c b).mem ≡ Vram → has_target Tt (buffer_in c b) ≡ true → has_all_frames (buffer_in c b) ≡ true → ((f : ℕ) → has_number (frames_of (buffer_in c b)) f ≡ true → Clear c (pages.frame f)) →
        (p : pages.Page) → touches d p y ≡ true → NewPage c d y p
    down_page m v target full clear p t = by_copy p t goes
      where
        goes : (k : ℕ) → k < length (buffer_in c b).table → p ≡ pages.translated (aperture d) (name_in_spans mem (target_spans mem (buffer_in c b)) k) → NewPage c d y p
        goes k l e =
            let long = sh.targets Tt (λ z. cc) target in
            let q = get_at (pages_of (target_spans Tt (buffer_in c b))) k (omega (arith, l, long)) in
            let f = full_is (buffer_in c b).table full k l in
            let in_table : slice_get (table_left (buffer_in c b).mem (buffer_in c b).table) k ≡ Some (loc.Frame f.0) = ap (λ n. slice_get (table_left n (buffer_in c b).table) k) v ∙ f.1 in
            let mapped : aperture d q.0 ≡ Some f.0 =
            maps_aperture script d once q.0 f.0
            (inl (record { b = b; buffer = moved mem job (buffer_in c b); live = moved_there; mem = m; at = k; here = ap (λ n. slice_get (pages_of (target_spans n (buffer_in c b))) k) m ∙ q.1; there = in_table })) in
            let page : p ≡ pages.frame f.0 = e ∙ ap (λ n. pages.translated (aperture d) (name_in_spans n (target_spans n (buffer_in c b)) k)) m ∙ ap (λ o. pages.mapped_page (aperture d (unwrap_or o 0))) q.1 ∙ ap pages.mapped_page mapped in
            kept f.0 page (subst (Clear c) (sym page) (clear f.0 (frame_listed (buffer_in c b).table k f.0 f.1)))
