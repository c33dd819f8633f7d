-- The holders of named aperture pages stay until their jobs are done, so no entry takes or gives such a page.
use Rattle.std.proofs.Common.{◌≡◌, ℕ, ◌+◌, ◌≤◌, suc, Bool, true, false, List, [], ◌∷◌, ◌++◌, Option, Some, None, Ok, IsTrue, refl, sym, subst, ◌∙◌, ap, arith, inl, inr, ⊎_elim}
use Rattle.std.specs.Prelude.{slice_get, not, nat_eq, ◌==◌, ◌&&◌, ◌||◌, option_and_then, unwrap_or, if◌then◌else◌}
use Rattle.std.specs.List.{list_any, list_all}
use Rattle.std.proofs.lemmas.Bool.{cases_eq, and_parts, or_left, eq-eqb, false_from_ne_true}
use Rattle.ttm_base.specs.declared.Mem.TheVariants.{System, Tt, Vram}
use Rattle.ttm_base.specs.declared.BufId.{BufId}
use Rattle.ttm_base.specs.declared.JobId.{JobId}
use Rattle.ttm_base.specs.declared.Actor.{Actor}
use Rattle.ttm_base.specs.declared.Actor.TheVariants as actor
use Rattle.ttm_base.specs.Packets.{packet_names}
use Rattle.journal_model.specs.declared.script.Script.{Script}
use Rattle.journal_model.specs.declared.state.State.{State}
use Rattle.journal_model.specs.declared.state.Core.{Core}
use Rattle.journal_model.specs.declared.state.Buffer.{Buffer}
use Rattle.journal_model.specs.declared.state.Job.{Job}
use Rattle.journal_model.specs.declared.entry.Entry.{Entry}
use Rattle.journal_model.specs.declared.entry.Kind.{Kind}
use Rattle.journal_model.specs.declared.entry.Kind.TheVariants as kind
use Rattle.journal_model.specs.rules.State.{new_buffer, buffer_in, live_in, target_spans}
use Rattle.journal_model.specs.scripts.ScriptRules.{is_script}
use Rattle.journal_model.specs.rules.Places.{pages_of}
use Rattle.journal_model.specs.rules.Holds.{spans_in, has_number}
use Rattle.journal_model.specs.rules.Next.{next}
use Rattle.journal_model.specs.rules.Apply.{applied}
use Rattle.journal_model.specs.rules.ApplyCommands.{ghost_of_freed}
use Rattle.journal_model.specs.rules.Stores.{Stores, showing}
use Rattle.journal_model.specs.statements.Spares.{tt_of_ghosts, pages_taken, pages_given, job_names, are_unnamed, spares_jobs}
use Rattle.journal_model.specs.rules.Legal.{World, Made, first_world, world_after, world_of, made_along, state_of, IsLegalNext, IsLegalFrom, IsLegal}
use Rattle.journal_model.specs.statements.Laws.{SparesJobs}
use Rattle.laws.proofs.law_state.Shown.{legal_step}
use Rattle.laws.proofs.law_state.JournalCourses.{is_of_engine, is_of_reaper, of_engine}
use Rattle.laws.proofs.law_state.Rules.{rules_of}
use Rattle.laws.proofs.law_state.GoodStates.{good_law}
use Rattle.laws.proofs.law_sound.Along.{of_worker}
use Rattle.laws.proofs.law_owners.Counts.{stands, weigh}
use Rattle.laws.proofs.law_owners.Weights.{tt_pages, of_buffer, of_ghost, weight}
use Rattle.laws.proofs.law_owners.Law.{AreHeldOnce, once_law}
use Rattle.laws.proofs.law_holders.Positions.{has_times, in_sum, two_in_sum, in_list}
use Rattle.laws.proofs.lemma_bytes_model.Actions.{or_first, or_second}
use Rattle.laws.proofs.law_transparent.Law.{world_push, legal_push}
use Rattle.laws.proofs.law_transparent.Carried.{clear_law, view_law, told_law, kept_law}
use Rattle.laws.proofs.law_transparent.PagesLaw.{ghosts_law}
use Rattle.laws.proofs.law_transparent.Spared.{weighs_once, unbind_takes, free_takes, reap_takes, in_first}
use Rattle.laws.proofs.law_spares.Holders.{Holder, HaveHolders}
use Rattle.laws.proofs.law_spares.Keeps.{Kept, HaveBegun, holders_keep, order_keeps, engine_keeps, reaper_keeps}

-- ---- a held page weighs

module _ (c : Core) (page i : ℕ) (id : JobId) where
  holder_weighs : Holder c.buffers c.ghosts c.jobs page i id → 1 ≤ weight tt_pages page c
  holder_weighs (inl m) =
      let here = has_times page (pages_of (spans_in Tt m.buffer)) m.holding.here in
      let some : 1 ≤ weigh (of_buffer tt_pages page) (option_and_then (λ o. o) (slice_get c.buffers m.b.0)) = subst (λ o. 1 ≤ weigh (of_buffer tt_pages page) o) (sym m.live) (omega (arith, here)) in
      let less = in_sum (of_buffer tt_pages page) c.buffers m.b.0 in
      omega (arith, some, less)
  holder_weighs (inr m) =
      let some : 1 ≤ of_ghost tt_pages page m.ghost = has_times page (pages_of m.ghost.tt) m.here in
      let less = in_list (of_ghost tt_pages page) c.ghosts m.place m.ghost m.is in
      omega (arith, some, less)

  -- beside the target of a buffer
  holder_beside : (b : BufId) (x : Buffer) → live_in c.buffers b ≡ Some x → 1 ≤ stands page (target_spans Tt x) → Holder c.buffers c.ghosts c.jobs page i id → 2 ≤ weight tt_pages page c
  holder_beside b x e t (inl m) =
      let here = has_times page (pages_of (spans_in Tt m.buffer)) m.holding.here in
      let mine : weigh (of_buffer tt_pages page) (option_and_then (λ o. o) (slice_get c.buffers b.0)) ≡ of_buffer tt_pages page x = ap (weigh (of_buffer tt_pages page)) e in
      let other : weigh (of_buffer tt_pages page) (option_and_then (λ o. o) (slice_get c.buffers m.b.0)) ≡ of_buffer tt_pages page m.buffer = ap (weigh (of_buffer tt_pages page)) m.live in
      ⊎_elim
      (λ q.
      let both : Some x ≡ Some m.buffer = sym e ∙ ap (λ k. option_and_then (λ o. o) (slice_get c.buffers k)) q ∙ m.live in
      let is : m.buffer ≡ x = cc in
      let also : 1 ≤ stands page (spans_in Tt x) = subst (λ y. 1 ≤ stands page (spans_in Tt y)) is here in
      let less = in_sum (of_buffer tt_pages page) c.buffers b.0 in
      omega (arith, also, less, mine, t))
      (λ ne. let less = two_in_sum (of_buffer tt_pages page) c.buffers b.0 m.b.0 ne in omega (arith, here, less, mine, other, t))
      (cases_eq b.0 m.b.0)
  holder_beside b x e t (inr m) =
      let mine : weigh (of_buffer tt_pages page) (option_and_then (λ o. o) (slice_get c.buffers b.0)) ≡ of_buffer tt_pages page x = ap (weigh (of_buffer tt_pages page)) e in
      let some : 1 ≤ of_ghost tt_pages page m.ghost = has_times page (pages_of m.ghost.tt) m.here in
      let less = in_list (of_ghost tt_pages page) c.ghosts m.place m.ghost m.is in
      let first = in_sum (of_buffer tt_pages page) c.buffers b.0 in
      omega (arith, mine, some, less, first, t)

-- the page of a target is held for no job
given : (script : Script) (c : Core) → AreHeldOnce script c → (b : BufId) (page i : ℕ) (id : JobId) → has_number (pages_of (target_spans Tt (buffer_in c b))) page ≡ true → Holder c.buffers c.ghosts c.jobs page i id → ⊥
given script c once b page i id h m = by (live_in c.buffers b) refl h
  where
    by : (o : Option Buffer) → live_in c.buffers b ≡ o → has_number (pages_of (target_spans Tt (unwrap_or o (new_buffer 0)))) page ≡ true → ⊥
    by None e g = cc
    by (Some x) e g =
        let two = holder_beside c page i id b x e (has_times page (pages_of (target_spans Tt x)) g) m in
        let few = weighs_once script c once page in
        absurd (omega (arith, two, few))

-- nor is a page that is free afterwards
taken : (script : Script) (c new : Core) → AreHeldOnce script c → (page i : ℕ) (id : JobId) → weight tt_pages page new + 1 ≤ weight tt_pages page c → Holder new.buffers new.ghosts new.jobs page i id → ⊥
taken script c new once page i id less m =
    let some = holder_weighs new page i id m in
    let few = weighs_once script c once page in
    absurd (omega (arith, some, few, less))

-- ---- each kind

module _ (script : Script) (s : State) (who : Actor) (once : AreHeldOnce script s.core) (before : HaveHolders s.core) where
  -- no unfinished job names a page that is taken or given
  unnamed : (k : Kind) → HaveHolders (applied script s who k).core → (page i : ℕ) (j : Job) → has_number (pages_taken s.core k ++ pages_given s.core k) page ≡ true →
      slice_get s.core.jobs i ≡ Some j → j.finished ≡ false → list_any (packet_names page) j.packets ≡ true → ⊥
  unnamed (kind.Unbind b) after page i j h e f n =
      taken script s.core (applied script s who (kind.Unbind b)).core once page i j.id (unbind_takes s.core (applied script s who (kind.Unbind b)).core b page refl refl (in_first (pages_of (spans_in Tt (buffer_in s.core b))) page h))
      (after i page j e f n)
  unnamed (kind.Free b g) after page i j h e f n = by (g == 0) refl h
    where
      by : (q : Bool) → (g == 0) ≡ q → has_number ((if q then pages_of (spans_in Tt (buffer_in s.core b)) else []) ++ []) page ≡ true → ⊥
      by true r k =
          taken script s.core (applied script s who (kind.Free b g)).core once page i j.id
          (free_takes s.core (applied script s who (kind.Free b g)).core b page refl (ap (λ q. if q then s.core.ghosts else s.core.ghosts ++ ghost_of_freed s.core (buffer_in s.core b) g ∷ []) r) (in_first (pages_of (spans_in Tt (buffer_in s.core b))) page k))
          (after i page j e f n)
      by false r k = cc
  unnamed (kind.Reap g) after page i j h e f n =
      taken script s.core (applied script s who (kind.Reap g)).core once page i j.id (reap_takes s.core (applied script s who (kind.Reap g)).core g page refl refl (in_first (tt_of_ghosts g s.core.ghosts) page h)) (after i page j e f n)
  unnamed (kind.Bind b) after page i j h e f n = given script s.core once b page i j.id h (before i page j e f n)
  unnamed (kind.Move b Tt m l) after page i j h e f n = given script s.core once b page i j.id h (before i page j e f n)
  unnamed (kind.Move b Vram m l) after page i j h e f n = cc
  unnamed (kind.Move b System m l) after page i j h e f n = cc
  unnamed k after page i j h e f n = cc

-- ---- the same as a test

both : (a b : Bool) → a ≡ true → b ≡ true → (a && b) ≡ true
both true true e f = refl
both true false e f = cc
both false b e f = cc

none_names : (page : ℕ) (jobs : List Job) → ((i : ℕ) (j : Job) → slice_get jobs i ≡ Some j → job_names page j ≡ true → ⊥) → list_any (job_names page) jobs ≡ false
none_names page [] h = refl
none_names page (j ∷ jobs) h = neither (job_names page j) (list_any (job_names page) jobs) (false_from_ne_true (job_names page j) (h 0 j refl)) (none_names page jobs (λ i k e. h (suc i) k e))
  where
    neither : (a b : Bool) → a ≡ false → b ≡ false → (a || b) ≡ false
    neither false b e f = f
    neither true b e f = cc

all_unnamed : (c : Core) (pages : List ℕ) → ((page : ℕ) → has_number pages page ≡ true → list_any (job_names page) c.jobs ≡ false) → are_unnamed c pages ≡ true
all_unnamed c [] h = refl
all_unnamed c (p ∷ pages) h =
    both (not (list_any (job_names p) c.jobs)) (are_unnamed c pages) (ap not (h p (or_first (nat_eq p p) (has_number pages p) (eq-eqb p p refl))))
    (all_unnamed c pages (λ q e. h q (or_second (nat_eq q p) (has_number pages q) e)))

undone : (a : Bool) → not a ≡ true → a ≡ false
undone false h = refl
undone true h = cc

-- what an entry shows is no matter
shown_spares : (script : Script) (stores : Stores) (s : State) (who : Actor) (c : Core) (k : Kind) → spares_jobs c (showing script stores s who k) ≡ spares_jobs c k
shown_spares script stores s who c (kind.Ticket stamp) = refl
shown_spares script stores s who c (kind.Reserve b) = refl
shown_spares script stores s who c (kind.Backoff b stamp) = refl
shown_spares script stores s who c (kind.New b) = refl
shown_spares script stores s who c (kind.Free b g) = refl
shown_spares script stores s who c (kind.Take b mem spans) = refl
shown_spares script stores s who c (kind.Untake b mem) = refl
shown_spares script stores s who c (kind.Populate b page frame) = refl
shown_spares script stores s who c (kind.SwapIn b page slot frame) = refl
shown_spares script stores s who c (kind.Depopulate b) = refl
shown_spares script stores s who c (kind.Bind b) = refl
shown_spares script stores s who c (kind.Unbind b) = refl
shown_spares script stores s who c (kind.Move b mem n l) = refl
shown_spares script stores s who c (kind.Catch b w) = refl
shown_spares script stores s who c (kind.Loose b) = refl
shown_spares script stores s who c (kind.Skip b) = refl
shown_spares script stores s who c (kind.Dry b k w) = refl
shown_spares script stores s who c (kind.SwapOut b page slot) = refl
shown_spares script stores s who c (kind.NoPages b) = refl
shown_spares script stores s who c (kind.Arm engine n) = refl
shown_spares script stores s who c (kind.Packet n k piece) = refl
shown_spares script stores s who c (kind.Done n) = refl
shown_spares script stores s who c (kind.Reap g) = refl
shown_spares script stores s who c (kind.Bulk group) = refl
shown_spares script stores s who c (kind.Result r) = refl
shown_spares script stores s who c (kind.Refused d) = refl

-- ---- along a journal

module _ (script : Script) (fits : IsTrue (is_script script)) where
  pub begun : (journal : List Entry) → IsLegal script journal → HaveBegun (state_of script journal).core.jobs
  begun journal l i x e f = let u = view_law script journal fits l in sym (u.seen.begun i x e) ∙ u.good.begins i (u.seen.done i x e ∙ f)

  keeps : (journal : List Entry) (who : Actor) (k : Kind) → IsLegal script journal → next script (state_of script journal) who ≡ Ok k → Kept (state_of script journal).core → Kept (applied script (state_of script journal) who k).core
  keeps journal (actor.Thread t) k l h c =
      let told = told_law script journal t k fits l h in
      record {
        holders = holders_keep script (rules_of script fits) (state_of script journal) t (good_law script fits journal l) (clear_law script fits journal l).shapes k told c.holders;
        order = order_keeps script (state_of script journal) t k told c.order;
      }
  keeps journal (actor.Engine e) k l h c =
      engine_keeps script (state_of script journal) e k (good_law script fits journal l) (of_worker k (or_left (is_of_engine k) (is_of_reaper k) (of_engine script (state_of script journal) e k h))) h c
  keeps journal actor.Reaper k l h c = reaper_keeps script (state_of script journal) k (state_of script journal).last_ghost (ghosts_law script journal fits l) (begun journal l) h c

  pub carried : (journal : List Entry) → IsLegal script journal → Kept (state_of script journal).core
  carried journal l = kept_law script (λ n s. Kept s.core) (λ es who k m h c. keeps es who k m h c) (record { holders = λ i page j e f n. cc; order = λ i k x y m e f w b. cc }) journal l

  pub entry_spares : (journal : List Entry) (e : Entry) → IsLegal script journal → IsLegalNext script (world_of script journal) e → spares_jobs (state_of script journal).core e.kind ≡ true
  entry_spares journal e l h =
      let step = legal_step script (world_of script journal) e h in
      let c = (state_of script journal).core in
      let kept = carried journal l in
      let after = keeps journal e.who step.kind l step.step kept in
      ap (λ (f : Entry). spares_jobs (state_of script journal).core f.kind) step.entry
      ∙ shown_spares script (world_of script journal).stores (state_of script journal) e.who (state_of script journal).core step.kind
      ∙ all_unnamed (state_of script journal).core (pages_taken (state_of script journal).core step.kind ++ pages_given (state_of script journal).core step.kind)
      (λ page p.
      none_names page (state_of script journal).core.jobs
      (λ i j at n.
      let parts = and_parts (not j.finished) (list_any (packet_names page) j.packets) n in
      unnamed script (state_of script journal) e.who (once_law script journal fits l) kept.holders step.kind after.holders page i j p at (undone j.finished parts.0) parts.1))

  along : (journal es : List Entry) → IsLegal script journal → IsLegalFrom script (world_of script journal) es →
      list_all (λ (m : Made). spares_jobs m.before.core m.entry.kind) (made_along script (world_of script journal) es) ≡ true
  along journal [] l m = refl
  along journal (e ∷ es) l m =
      let push = world_push script (first_world script) journal e in
      both (spares_jobs (state_of script journal).core e.kind) (list_all (λ (m : Made). spares_jobs m.before.core m.entry.kind) (made_along script (world_after script (world_of script journal) e) es))
      (entry_spares journal e l m.0)
      (subst (λ (w : World). list_all (λ (m : Made). spares_jobs m.before.core m.entry.kind) (made_along script w es) ≡ true) push
      (along (journal ++ e ∷ []) es (legal_push script (first_world script) journal e l m.0) (subst (λ (w : World). IsLegalFrom script w es) (sym push) m.1)))

pub spares_law : (script : Script) (journal : List Entry) → IsTrue (is_script script) → IsLegal script journal → SparesJobs script journal
spares_law script journal fits l = along script fits [] journal tt l
