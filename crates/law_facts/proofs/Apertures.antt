-- What an unfinished job names of the aperture stays mapped, to one frame.
use Rattle.std.proofs.Common.{◌≡◌, ℕ, ◌+◌, zero, suc, Bool, true, false, List, [], ◌∷◌, ◌++◌, length, Some, Ok, IsTrue, take, drop, refl, sym, subst, ◌∙◌, ap, ◌⊎◌, inl, inr, ⊎_elim}
use Rattle.std.specs.Prelude.{slice_get, not, nat_eq, ◌&&◌}
use Rattle.std.specs.List.{list_any}
use Rattle.std.proofs.lemmas.Bool.{and_parts, or_cases, or_left, or_right, eqb-true}
use Rattle.ttm_base.specs.declared.Actor.{Actor}
use Rattle.ttm_base.specs.declared.Actor.TheVariants as actor
use Rattle.ttm_base.specs.declared.Packet.{Packet}
use Rattle.ttm_base.specs.declared.Packet.TheVariants as packet
use Rattle.ttm_base.specs.declared.PagePlace.{PagePlace}
use Rattle.ttm_base.specs.declared.PagePlace.TheVariants as place
use Rattle.ttm_base.specs.Packets.{is_aper, packet_names}
use Rattle.journal_model.specs.declared.script.Script.{Script}
use Rattle.journal_model.specs.declared.state.State.{State}
use Rattle.journal_model.specs.declared.state.Core.{Core}
use Rattle.journal_model.specs.declared.state.Job.{Job}
use Rattle.journal_model.specs.declared.entry.Entry.{Entry}
use Rattle.journal_model.specs.declared.entry.Kind.{Kind}
use Rattle.journal_model.specs.declared.entry.Kind.TheVariants as kind
use Rattle.journal_model.specs.scripts.ScriptRules.{is_script}
use Rattle.journal_model.specs.rules.Places.{aperture}
use Rattle.journal_model.specs.rules.Holds.{has_number}
use Rattle.journal_model.specs.rules.Waits.{same_job}
use Rattle.journal_model.specs.statements.Spares.{pages_taken, pages_given, job_names, are_unnamed, remaining}
use Rattle.journal_model.specs.rules.Next.{next}
use Rattle.journal_model.specs.rules.Apply.{applied}
use Rattle.journal_model.specs.rules.Stores.{showing}
use Rattle.journal_model.specs.rules.Legal.{World, first_world, world_after, world_along, world_of, state_of, IsLegalNext, IsLegalFrom, IsLegal}
use Rattle.law_facts.specs.Facts.{MappingsStay, LegalMappingsStay}
use Rattle.laws.specs.law_holders.Maps.{Maps}
use Rattle.laws.specs.law_transparent.NamedPlaces.{IsThere, IsRunnable}
use Rattle.laws.specs.lemma_bytes_told.Told.{Told, still, makes, frees, leaves, takes, untakes, populates, swaps_in, depopulates, binds, unbinds, moves_up, moves_across, moves_down, evicts, catches, swaps_out, arms, reads, writes, results}
use Rattle.laws.proofs.law_state.Shown.{LegalStep, legal_step}
use Rattle.laws.proofs.law_state.GoodStates.{good_law}
use Rattle.laws.proofs.law_state.JournalCourses.{is_of_engine, is_of_reaper, of_engine, of_reaper}
use Rattle.laws.proofs.law_state.Lists.{get_pushed}
use Rattle.laws.proofs.law_sound.Along.{OfWorker, of_worker, packet, done, reap}
use Rattle.laws.proofs.law_owners.Law.{once_law}
use Rattle.laws.proofs.law_owners.Fronts.{legal_front}
use Rattle.laws.proofs.law_holders.Mapped.{aperture_maps, maps_aperture}
use Rattle.laws.proofs.lemma_bytes_model.Actions.{or_first, or_second}
use Rattle.laws.proofs.lemma_bytes_view.Jobs.{same_job-refl, changed_at}
use Rattle.laws.proofs.lemma_bytes_told.Shapes.{still_core}
use Rattle.laws.proofs.law_transparent.Law.{world_push, legal_push}
use Rattle.laws.proofs.law_transparent.Carried.{clear_law, told_law}
use Rattle.laws.proofs.law_transparent.PacketPlacesLaw.{places_law}
use Rattle.laws.proofs.law_spares.Law.{entry_spares}
use Rattle.law_facts.proofs.Jobs.{at_of, GoOn, go_same, go_more, go_ran, go_done, go_through}
use Rattle.law_facts.proofs.Mapped.{has_left, alike, maps_keep, maps_reaped}

-- ---- jobs go on with each entry

module _ (script : Script) (s : State) where
  thread_goes : (t : ℕ) (k : Kind) → Told script s t k → GoOn s.core.jobs (applied script s (actor.Thread t) k).core.jobs
  thread_goes t k (still e) = subst (λ (c : Core). GoOn s.core.jobs c.jobs) (sym (still_core script s t k e)) (go_same s.core.jobs)
  thread_goes t k (makes {b} dead) = go_same s.core.jobs
  thread_goes t k (frees {b} there quiet) = go_same s.core.jobs
  thread_goes t k (leaves {b} there) = go_same s.core.jobs
  thread_goes t k (takes {b} {mem} {spans} place there m c free) = go_same s.core.jobs
  thread_goes t k (untakes {b} {mem} there) = go_same s.core.jobs
  thread_goes t k (populates {b} {f} there free l some tt_not) = go_same s.core.jobs
  thread_goes t k (swaps_in {b} {k = slot} {f} there free l some tt_not) = go_same s.core.jobs
  thread_goes t k (depopulates {b} there m) = go_same s.core.jobs
  thread_goes t k (binds {b} there m t' f) = go_same s.core.jobs
  thread_goes t k (unbinds {b} there quiet m) = go_same s.core.jobs
  thread_goes t k (moves_up {b} there m t') = go_more s.core.jobs _
  thread_goes t k (moves_across {b} there m t') = go_more s.core.jobs _
  thread_goes t k (moves_down {b} there m t' f) = go_more s.core.jobs _
  thread_goes t k (evicts {b} there m t' f) = go_more s.core.jobs _
  thread_goes t k (catches {b} {w}) = go_same s.core.jobs
  thread_goes t k (swaps_out {b} {k = slot} there m quiet f free) = go_same s.core.jobs
  thread_goes t k (arms {engine} ops at live ready) = go_more s.core.jobs _
  thread_goes t k (reads b off len at none) = go_same s.core.jobs
  thread_goes t k (writes b off bytes at there ready quiet) = go_same s.core.jobs
  thread_goes t k (results cmd at w nr r) = go_same s.core.jobs

  worker_goes : (who : Actor) (k : Kind) → OfWorker k → GoOn s.core.jobs (applied script s who k).core.jobs
  worker_goes who k (packet {n} {k = i} {piece}) = go_ran _ s.core.jobs
  worker_goes who k (done {n}) = go_done _ s.core.jobs
  worker_goes who k (reap {g}) = go_same s.core.jobs

  -- a job after the entry was there before, or is the last and has run nothing
  abbrev pub WasThere : ℕ → Job → Type 0
  WasThere i x = ((y : Job) × (slice_get s.core.jobs i ≡ Some y)) ⊎ ((i ≡ length s.core.jobs) × (x.ran ≡ 0))

  pushed : (y : Job) → y.ran ≡ 0 → (i : ℕ) (x : Job) → slice_get (s.core.jobs ++ y ∷ []) i ≡ Some x → WasThere i x
  pushed y r i x e = ⊎_elim (λ a. inl (x, a)) (λ a. inr (a.0, ap (λ (j : Job). j.ran) a.1 ∙ r)) (get_pushed s.core.jobs y x i e)

  thread_was : (t : ℕ) (k : Kind) → Told script s t k → (i : ℕ) (x : Job) → slice_get (applied script s (actor.Thread t) k).core.jobs i ≡ Some x → WasThere i x
  thread_was t k (still e) i x at = inl (x, subst (λ (c : Core). slice_get c.jobs i ≡ Some x) (still_core script s t k e) at)
  thread_was t k (makes {b} dead) i x at = inl (x, at)
  thread_was t k (frees {b} there quiet) i x at = inl (x, at)
  thread_was t k (leaves {b} there) i x at = inl (x, at)
  thread_was t k (takes {b} {mem} {spans} place there m c free) i x at = inl (x, at)
  thread_was t k (untakes {b} {mem} there) i x at = inl (x, at)
  thread_was t k (populates {b} {f} there free l some tt_not) i x at = inl (x, at)
  thread_was t k (swaps_in {b} {k = slot} {f} there free l some tt_not) i x at = inl (x, at)
  thread_was t k (depopulates {b} there m) i x at = inl (x, at)
  thread_was t k (binds {b} there m t' f) i x at = inl (x, at)
  thread_was t k (unbinds {b} there quiet m) i x at = inl (x, at)
  thread_was t k (moves_up {b} there m t') i x at = pushed _ refl i x at
  thread_was t k (moves_across {b} there m t') i x at = pushed _ refl i x at
  thread_was t k (moves_down {b} there m t' f) i x at = pushed _ refl i x at
  thread_was t k (evicts {b} there m t' f) i x at = pushed _ refl i x at
  thread_was t k (catches {b} {w}) i x at = inl (x, at)
  thread_was t k (swaps_out {b} {k = slot} there m quiet f free) i x at = inl (x, at)
  thread_was t k (arms {engine} ops c live ready) i x at = pushed _ refl i x at
  thread_was t k (reads b off len c none) i x at = inl (x, at)
  thread_was t k (writes b off bytes c there ready quiet) i x at = inl (x, at)
  thread_was t k (results cmd c w nr r) i x at = inl (x, at)

  worker_was : (who : Actor) (k : Kind) → OfWorker k → (i : ℕ) (x : Job) → slice_get (applied script s who k).core.jobs i ≡ Some x → WasThere i x
  worker_was who k (packet {n} {k = j} {piece}) i x at = let r = changed_at (λ j. record j { ran = j.ran + 1 }) _ s.core.jobs i x at in inl (r.old, r.at)
  worker_was who k (done {n}) i x at = let r = changed_at (λ j. record j { finished = true }) _ s.core.jobs i x at in inl (r.old, r.at)
  worker_was who k (reap {g}) i x at = inl (x, at)

  -- the mappings that stay, after an entry of an engine or of the reaper
  worker_maps : (who : Actor) (k : Kind) → OfWorker k → (p q : ℕ) → (has_number (pages_taken s.core k) p ≡ true → ⊥) → Maps s.core p q → Maps (applied script s who k).core p q
  worker_maps who k (packet {n} {k = i} {piece}) p q not_taken m = alike p q s.core (applied script s who (kind.Packet n i piece)).core refl refl m
  worker_maps who k (done {n}) p q not_taken m = alike p q s.core (applied script s who (kind.Done n)).core refl refl m
  worker_maps who k (reap {g}) p q not_taken m = maps_reaped s.core g p q not_taken m

-- ---- a journal in two parts

module _ (script : Script) where
  split_world : (w : World) (xs ys : List Entry) → world_along script w (xs ++ ys) ≡ world_along script (world_along script w xs) ys
  split_world w [] ys = refl
  split_world w (x ∷ xs) ys = split_world (world_after script w x) xs ys

  split_legal : (w : World) (xs ys : List Entry) → IsLegalFrom script w (xs ++ ys) → IsLegalFrom script (world_along script w xs) ys
  split_legal w [] ys h = h
  split_legal w (x ∷ xs) ys h = split_legal (world_after script w x) xs ys h.1

both_parts : (n : ℕ) (xs : List Entry) → take n xs ++ drop n xs ≡ xs
both_parts zero xs = refl
both_parts (suc n) [] = refl
both_parts (suc n) (x ∷ xs) = ap (λ ys. x ∷ ys) (both_parts n xs)

-- ---- names of packets

-- a place of the aperture that is there is mapped
mapped_name : (script : Script) (c : Core) (page : ℕ) (to : PagePlace) → is_aper page to ≡ true → IsThere script c to → (f : ℕ) × (aperture c page ≡ Some f)
mapped_name script c page (place.Aper p) h m = (m.frame, ap (aperture c) (sym (eqb-true p page h)) ∙ m.maps)
mapped_name script c page (place.Vram p) h m = cc
mapped_name script c page (place.Frame p) h m = cc

mapped_packet : (script : Script) (c : Core) (page : ℕ) (q : Packet) → packet_names page q ≡ true → IsRunnable script c q → (f : ℕ) × (aperture c page ≡ Some f)
mapped_packet script c page (packet.Fill to off len byte) h r = mapped_name script c page to h r.page
mapped_packet script c page (packet.Copy to toff from foff len) h r =
    ⊎_elim (λ e. mapped_name script c page to e r.0.page) (λ e. mapped_name script c page from e r.1.page) (or_cases (is_aper page to) (is_aper page from) h)
mapped_packet script c page (packet.Xor to toff from foff len) h r =
    ⊎_elim (λ e. mapped_name script c page to e r.0.page) (λ e. mapped_name script c page from e r.1.page) (or_cases (is_aper page to) (is_aper page from) h)
mapped_packet script c page (packet.Probe from off len) h r = mapped_name script c page from h r.0.page

-- one of the packets names the page
naming : (page : ℕ) (ps : List Packet) → list_any (packet_names page) ps ≡ true → (k : ℕ) × (q : Packet) × (slice_get ps k ≡ Some q) × (packet_names page q ≡ true)
naming page [] h = cc
naming page (p ∷ ps) h = ⊎_elim (λ e. (0, p, refl, e)) (λ e. let r = naming page ps e in (suc r.0, r.1, r.2, r.3)) (or_cases (packet_names page p) (list_any (packet_names page) ps) h)

-- ---- an entry takes no page that a job names

none_of : (c : Core) (pages : List ℕ) (page : ℕ) → are_unnamed c pages ≡ true → has_number pages page ≡ true → list_any (job_names page) c.jobs ≡ false
none_of c [] page u h = cc
none_of c (p ∷ pages) page u h =
    let parts = and_parts (not (list_any (job_names p) c.jobs)) (are_unnamed c pages) u in
    ⊎_elim
    (λ e. subst (λ n. list_any (job_names n) c.jobs ≡ false) (sym (eqb-true page p e)) (un (list_any (job_names p) c.jobs) parts.0))
    (λ e. none_of c pages page parts.1 e)
    (or_cases (nat_eq page p) (has_number pages page) h)
  where
    un : (a : Bool) → not a ≡ true → a ≡ false
    un false e = refl
    un true e = cc

any_job : (p : Job → Bool) (jobs : List Job) (k : ℕ) (x : Job) → slice_get jobs k ≡ Some x → p x ≡ true → list_any p jobs ≡ true
any_job p [] k x e h = cc
any_job p (y ∷ jobs) zero x e h = let same : y ≡ x = cc in or_first (p y) (list_any p jobs) (ap p same ∙ h)
any_job p (y ∷ jobs) (suc k) x e h = or_second (p y) (list_any p jobs) (any_job p jobs k x e h)

names_it : (page : ℕ) (x : Job) → x.finished ≡ false → list_any (packet_names page) x.packets ≡ true → job_names page x ≡ true
names_it page x f n = ap (λ q. not q && list_any (packet_names page) x.packets) f ∙ n

clash : (a : Bool) → a ≡ true → a ≡ false → ⊥
clash true e f = cc
clash false e f = cc

module _ (script : Script) (fits : IsTrue (is_script script)) where
  -- ---- one entry

  pub record OneStep (journal : List Entry) (e : Entry) : Type 0 where
    pub goes : GoOn (state_of script journal).core.jobs (state_of script (journal ++ e ∷ [])).core.jobs
    pub maps : (page f : ℕ) (k : ℕ) (x : Job) → slice_get (state_of script journal).core.jobs k ≡ Some x → x.finished ≡ false → list_any (packet_names page) x.packets ≡ true →
        aperture (state_of script journal).core page ≡ Some f → aperture (state_of script (journal ++ e ∷ [])).core page ≡ Some f

  pub one_step : (journal : List Entry) (e : Entry) → IsLegal script journal → IsLegalNext script (world_of script journal) e → OneStep journal e
  one_step journal e l n = record {
    goes = subst (λ (z : State). GoOn (state_of script journal).core.jobs z.core.jobs) (sym is) (goes e.who step.kind step.step);
    maps = λ page f k x at undone named m.
        maps_aperture script (state_of script (journal ++ e ∷ [])).core (once_law script (journal ++ e ∷ []) fits more) page f
        (subst (λ (z : State). Maps z.core page f) (sym is)
        (keeps e.who step.kind step.step page f (free page k x at undone named) (aperture_maps (state_of script journal).core page f m)));
  }
    where
      step : LegalStep script (world_of script journal) e
      step = legal_step script (world_of script journal) e n

      more : IsLegal script (journal ++ e ∷ [])
      more = legal_push script (first_world script) journal e l n

      is : state_of script (journal ++ e ∷ []) ≡ applied script (state_of script journal) e.who step.kind
      is = ap (λ (w : World). w.state) (world_push script (first_world script) journal e) ∙ step.state

      goes : (who : Actor) (k : Kind) → next script (state_of script journal) who ≡ Ok k → GoOn (state_of script journal).core.jobs (applied script (state_of script journal) who k).core.jobs
      goes (actor.Thread t) k h = thread_goes script (state_of script journal) t k (told_law script journal t k fits l h)
      goes (actor.Engine i) k h = worker_goes script (state_of script journal) (actor.Engine i) k (of_worker k (or_left (is_of_engine k) (is_of_reaper k) (of_engine script (state_of script journal) i k h)))
      goes actor.Reaper k h = worker_goes script (state_of script journal) actor.Reaper k (of_worker k (or_right (is_of_engine k) (is_of_reaper k) (of_reaper script (state_of script journal) k h)))

      keeps : (who : Actor) (k : Kind) → next script (state_of script journal) who ≡ Ok k → (page f : ℕ) → (has_number (pages_taken (state_of script journal).core k) page ≡ true → ⊥) →
          Maps (state_of script journal).core page f → Maps (applied script (state_of script journal) who k).core page f
      keeps (actor.Thread t) k h page f u m = maps_keep script (state_of script journal) t (clear_law script fits journal l).shapes page f k (told_law script journal t k fits l h) u m
      keeps (actor.Engine i) k h page f u m = worker_maps script (state_of script journal) (actor.Engine i) k (of_worker k (or_left (is_of_engine k) (is_of_reaper k) (of_engine script (state_of script journal) i k h))) page f u m
      keeps actor.Reaper k h page f u m = worker_maps script (state_of script journal) actor.Reaper k (of_worker k (or_right (is_of_engine k) (is_of_reaper k) (of_reaper script (state_of script journal) k h))) page f u m

      unshown : (c : Core) (z : Kind) → pages_taken c (showing script (world_of script journal).stores (state_of script journal) e.who z) ≡ pages_taken c z
      unshown c (kind.Packet n i piece) = refl
      unshown c (kind.Result r) = refl
      unshown c z = refl

      free : (page k : ℕ) (x : Job) → slice_get (state_of script journal).core.jobs k ≡ Some x → x.finished ≡ false → list_any (packet_names page) x.packets ≡ true → has_number (pages_taken (state_of script journal).core step.kind) page ≡ true → ⊥
      free page k x at undone named taken =
          let c : Core = (state_of script journal).core in
          let same : pages_taken (state_of script journal).core e.kind ≡ pages_taken (state_of script journal).core step.kind = ap (λ (z : Entry). pages_taken (state_of script journal).core z.kind) step.entry ∙ unshown (state_of script journal).core step.kind in
          let in_taken : has_number (pages_taken (state_of script journal).core e.kind) page ≡ true = ap (λ ns. has_number ns page) same ∙ taken in
          clash (list_any (job_names page) (state_of script journal).core.jobs)
          (any_job (job_names page) (state_of script journal).core.jobs k x at (names_it page x undone named))
          (none_of (state_of script journal).core (pages_taken (state_of script journal).core e.kind ++ pages_given (state_of script journal).core e.kind) page (entry_spares script fits journal e l n)
          (has_left (pages_taken (state_of script journal).core e.kind) (pages_given (state_of script journal).core e.kind) page in_taken))

  -- ---- more entries

  record Stays (journal es : List Entry) : Type 0 where
    goes : GoOn (state_of script journal).core.jobs (world_along script (world_of script journal) es).state.core.jobs
    maps : (page f k : ℕ) (x y : Job) → slice_get (state_of script journal).core.jobs k ≡ Some x → slice_get (world_along script (world_of script journal) es).state.core.jobs k ≡ Some y →
        y.finished ≡ false → list_any (packet_names page) y.packets ≡ true →
        aperture (state_of script journal).core page ≡ Some f → aperture (world_along script (world_of script journal) es).state.core page ≡ Some f

  stays : (journal es : List Entry) → IsLegal script journal → IsLegalFrom script (world_of script journal) es → Stays journal es
  stays journal [] l h = record { goes = go_same (state_of script journal).core.jobs; maps = λ page f k x y a b u n m. m }
  stays journal (e ∷ es) l h =
      let push = world_push script (first_world script) journal e in
      let one = one_step journal e l h.0 in
      let rest = stays (journal ++ e ∷ []) es (legal_push script (first_world script) journal e l h.0) (subst (λ (w : World). IsLegalFrom script w es) (sym push) h.1) in
      let ends : world_along script (world_of script (journal ++ e ∷ [])) es ≡ world_along script (world_after script (world_of script journal) e) es = ap (λ (w : World). world_along script w es) push in
      let goes = go_through (state_of script journal).core.jobs (state_of script (journal ++ e ∷ [])).core.jobs (world_along script (world_of script (journal ++ e ∷ [])) es).state.core.jobs one.goes rest.goes in
      record {
        goes = subst (λ (w : World). GoOn (state_of script journal).core.jobs w.state.core.jobs) ends goes;
        maps = λ page f k x y a b u n m.
            let b' : slice_get (world_along script (world_of script (journal ++ e ∷ [])) es).state.core.jobs k ≡ Some y = subst (λ (w : World). slice_get w.state.core.jobs k ≡ Some y) (sym ends) b in
            let mid = one.goes k x a in
            let last = rest.goes k mid.job mid.at in
            let two : Some last.job ≡ Some y = sym last.at ∙ b' in
            let is : last.job ≡ y = cc in
            let undone : mid.job.finished ≡ false = last.undone (subst (λ (z : Job). z.finished ≡ false) (sym is) u) in
            let named : list_any (packet_names page) mid.job.packets ≡ true = subst (λ ps. list_any (packet_names page) ps ≡ true) (last.packets) (subst (λ (z : Job). list_any (packet_names page) z.packets ≡ true) (sym is) n) in
            let named' : list_any (packet_names page) x.packets ≡ true = subst (λ ps. list_any (packet_names page) ps ≡ true) mid.packets named in
            subst (λ (w : World). aperture w.state.core page ≡ Some f) ends
            (rest.maps page f k mid.job y mid.at b' u n (one.maps page f k x a (mid.undone undone) named' m));
      }

  -- ---- where a job is emitted

  -- each page that an unfinished job names is mapped
  abbrev pub AreMapped : State → Type 0
  AreMapped s = (page k : ℕ) (x : Job) → slice_get s.core.jobs k ≡ Some x → x.finished ≡ false → list_any (packet_names page) x.packets ≡ true → (f : ℕ) × (aperture s.core page ≡ Some f)

  fresh_mapped : (journal : List Entry) → IsLegal script journal → (page k : ℕ) (x : Job) → slice_get (state_of script journal).core.jobs k ≡ Some x → x.ran ≡ 0 → list_any (packet_names page) x.packets ≡ true → (f : ℕ) × (aperture (state_of script journal).core page ≡ Some f)
  fresh_mapped journal l page k x at ran named =
      let r = naming page x.packets named in
      let here : slice_get (remaining x) r.0 ≡ Some r.1 = ap (λ n. slice_get (drop n x.packets) r.0) ran ∙ r.2 in
      mapped_packet script (state_of script journal).core page r.1 r.3 (places_law script journal fits l k r.0 x r.1 at here)

  -- the job is a new one, or was there before
  pub old_or_new : (journal : List Entry) (e : Entry) → IsLegal script journal → IsLegalNext script (world_of script journal) e → (k : ℕ) (x : Job) → slice_get (state_of script (journal ++ e ∷ [])).core.jobs k ≡ Some x → WasThere script (state_of script journal) k x
  old_or_new journal e l n k x at = by e.who step.kind step.step (subst (λ (z : State). slice_get z.core.jobs k ≡ Some x) is at)
    where
      step : LegalStep script (world_of script journal) e
      step = legal_step script (world_of script journal) e n

      is : state_of script (journal ++ e ∷ []) ≡ applied script (state_of script journal) e.who step.kind
      is = ap (λ (w : World). w.state) (world_push script (first_world script) journal e) ∙ step.state

      by : (who : Actor) (z : Kind) → next script (state_of script journal) who ≡ Ok z → slice_get (applied script (state_of script journal) who z).core.jobs k ≡ Some x → WasThere script (state_of script journal) k x
      by (actor.Thread t) z h a = thread_was script (state_of script journal) t z (told_law script journal t z fits l h) k x a
      by (actor.Engine i) z h a = worker_was script (state_of script journal) (actor.Engine i) z (of_worker z (or_left (is_of_engine z) (is_of_reaper z) (of_engine script (state_of script journal) i z h))) k x a
      by actor.Reaper z h a = worker_was script (state_of script journal) actor.Reaper z (of_worker z (or_right (is_of_engine z) (is_of_reaper z) (of_reaper script (state_of script journal) z h))) k x a

  mapped_more : (journal : List Entry) (e : Entry) → IsLegal script journal → IsLegalNext script (world_of script journal) e → AreMapped (state_of script journal) → AreMapped (state_of script (journal ++ e ∷ []))
  mapped_more journal e l n h page k x at undone named =
      ⊎_elim
      (λ r.
      let one = one_step journal e l n in
      let mid = one.goes k r.0 r.1 in
      let two : Some mid.job ≡ Some x = sym mid.at ∙ at in
      let is : mid.job ≡ x = cc in
      let u : r.0.finished ≡ false = mid.undone (subst (λ (z : Job). z.finished ≡ false) (sym is) undone) in
      let m : list_any (packet_names page) r.0.packets ≡ true = subst (λ ps. list_any (packet_names page) ps ≡ true) mid.packets (subst (λ (z : Job). list_any (packet_names page) z.packets ≡ true) (sym is) named) in
      let was = h page k r.0 r.1 u m in
      (was.0, one.maps page was.0 k r.0 r.1 u m was.1))
      (λ r. fresh_mapped (journal ++ e ∷ []) (legal_push script (first_world script) journal e l n) page k x at r.1 named)
      (old_or_new journal e l n k x at)

  mapped_along : (journal es : List Entry) → IsLegal script journal → IsLegalFrom script (world_of script journal) es → AreMapped (state_of script journal) → AreMapped (world_along script (world_of script journal) es).state
  mapped_along journal [] l h m = m
  mapped_along journal (e ∷ es) l h m =
      let push = world_push script (first_world script) journal e in
      subst (λ (w : World). AreMapped (world_along script w es).state) push
      (mapped_along (journal ++ e ∷ []) es (legal_push script (first_world script) journal e l h.0) (subst (λ (w : World). IsLegalFrom script w es) (sym push) h.1) (mapped_more journal e l h.0 m))

  pub mapped_law : (journal : List Entry) → IsLegal script journal → AreMapped (state_of script journal)
  mapped_law journal l = mapped_along [] journal tt l (λ page k x e u n. cc)

  pub mapping_stays : (journal : List Entry) → IsLegal script journal → MappingsStay script journal
  mapping_stays journal l n i was page ci undone named cw id =
      let pre : List Entry = take n journal in
      let front = legal_front script journal n l in
      let whole : IsLegal script (take n journal ++ drop n journal) = subst (IsLegal script) (sym (both_parts n journal)) l in
      let st = stays (take n journal) (drop n journal) front (split_legal script (first_world script) (take n journal) (drop n journal) whole) in
      let ends : world_along script (world_of script (take n journal)) (drop n journal) ≡ world_of script journal = sym (split_world script (first_world script) (take n journal) (drop n journal)) ∙ ap (world_of script) (both_parts n journal) in
      let a = at_of was (state_of script (take n journal)).core.jobs cw in
      let b = at_of i (state_of script journal).core.jobs ci in
      let last = st.goes a.0 was a.1 in
      let there : slice_get (state_of script journal).core.jobs a.0 ≡ Some last.job = subst (λ (w : World). slice_get w.state.core.jobs a.0 ≡ Some last.job) ends last.at in
      let name : last.job.id ≡ i.id = last.id ∙ id in
      let place = (good_law script fits journal l).jobs.names a.0 b.0 last.job i there b.1 (subst (λ z. same_job last.job.id z ≡ true) name (same_job-refl last.job.id)) in
      let two : Some last.job ≡ Some i = sym there ∙ ap (slice_get (state_of script journal).core.jobs) place ∙ b.1 in
      let is : last.job ≡ i = cc in
      let here : slice_get (world_along script (world_of script (take n journal)) (drop n journal)).state.core.jobs a.0 ≡ Some i = last.at ∙ ap Some is in
      let was_undone : was.finished ≡ false = last.undone (subst (λ (z : Job). z.finished ≡ false) (sym is) undone) in
      let was_named : list_any (packet_names page) was.packets ≡ true = subst (λ ps. list_any (packet_names page) ps ≡ true) last.packets (subst (λ (z : Job). list_any (packet_names page) z.packets ≡ true) (sym is) named) in
      let m = mapped_law (take n journal) front page a.0 was a.1 was_undone was_named in
      (m.0, subst (λ (w : World). aperture w.state.core page ≡ Some m.0) ends (st.maps page m.0 a.0 was i a.1 here undone named m.1), m.1)

pub mappings_law : LegalMappingsStay
mappings_law script journal fits legal = mapping_stays script fits journal legal
