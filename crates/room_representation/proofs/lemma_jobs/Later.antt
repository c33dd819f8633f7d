-- What the parts tell of jobs stays true of a later state: jobs were emitted since, and some were done, but none came back.
use Rattle.std.proofs.Common.{◌≡◌, ℕ, true, List, [], ◌∷◌, length, Option, sym, ◌∙◌, ap}
use Rattle.std.specs.Prelude.{map}
use Rattle.std.specs.List.{list_all}
use Rattle.std.proofs.lemmas.Bool.{and_parts}
use Rattle.ttm_base.specs.declared.JobId.{JobId}
use Rattle.fence_core.specs.declared.fence_set.Latest.{Latest}
use Rattle.fence_core.specs.Histories.{set_of}
use Rattle.copy_engine.specs.Pushes.{Pushed}
use Rattle.journal_model.specs.declared.state.Buffer.{Buffer}
use Rattle.journal_model.specs.declared.state.Job.{Job}
use Rattle.journal_model.specs.declared.state.Ghost as state
use Rattle.room_representation.specs.declared.parts.Ghost.{Ghost}
use Rattle.room_representation.specs.Fences.{fences_of, jobs_in, is_unfinished_in, unfinished_in, is_emitted, are_emitted, WaitsFor, AreFences}
use Rattle.room_representation.specs.RingJobs.{IsPushed, IsRing}
use Rattle.room_representation.specs.Ghosts.{IsGhost, AreGhosts}
use Rattle.room_representation.specs.MoveFences.{IsMoveFence}
use Rattle.room_representation.proofs.lemma_jobs.Lists.{both, filter_within}

-- what was emitted still is, and what of it isn't done wasn't done before
pub record IsLater (jobs : List Job) (last : List ℕ) (jobs_then : List Job) (last_then : List ℕ) : Type 0 where
  pub contexts : length last_then ≡ length last
  pub emitted : (i : JobId) → is_emitted last i ≡ true → is_emitted last_then i ≡ true
  pub unfinished : (i : JobId) → is_emitted last i ≡ true → is_unfinished_in jobs_then i ≡ true → is_unfinished_in jobs i ≡ true

module _ (jobs : List Job) (last : List ℕ) (jobs_then : List Job) (last_then : List ℕ) (later : IsLater jobs last jobs_then last_then) where
  -- jobs that were emitted still are
  pub are_later : (is : List JobId) → are_emitted last is ≡ true → are_emitted last_then is ≡ true
  are_later [] h = h
  are_later (i ∷ is) h =
      let r = and_parts (is_emitted last i) (are_emitted last is) h in
      both (is_emitted last_then i) (are_emitted last_then is) (later.emitted i r.0) (are_later is r.1)

  -- those that aren't done later are among those that weren't
  pub left_later : (is : List JobId) → are_emitted last is ≡ true → unfinished_in jobs_then (unfinished_in jobs is) ≡ unfinished_in jobs_then is
  left_later is h = filter_within (is_unfinished_in jobs) (is_emitted last) (is_unfinished_in jobs_then) later.unfinished is h

  -- a set that waits for a list still does
  pub waits_later : (is : List JobId) (set : List Latest) → WaitsFor jobs last is set → WaitsFor jobs_then last_then is set
  waits_later is set w =
      record {
        history = w.history;
        kept = w.kept ∙ ap (λ n. set_of n w.history) (sym later.contexts);
        known = are_later (jobs_in w.history) w.known;
        listed = are_later is w.listed;
        same = sym (left_later (jobs_in w.history) w.known) ∙ ap (unfinished_in jobs_then) w.same ∙ left_later is w.listed;
      }

  -- a pushed job is still the state's
  pub pushed_later : (j : Job) (p : Pushed) → IsPushed jobs last j p → IsPushed jobs_then last_then j p
  pushed_later j p h = record { job = h.job; packets = h.packets; ran = h.ran; waits = waits_later j.waits p.waits h.waits }

  -- so is each job of a ring
  pub ring_later : (js : List Job) (ps : List Pushed) → IsRing jobs last js ps → IsRing jobs_then last_then js ps
  ring_later [] [] h = h
  ring_later [] (p ∷ ps) h = h
  ring_later (j ∷ js) [] h = h
  ring_later (j ∷ js) (p ∷ ps) h = (pushed_later j p h.0, ring_later js ps h.1)

  -- a ghost is still the state's
  pub ghost_later : (g : state.Ghost) (r : Ghost) → IsGhost jobs last g r → IsGhost jobs_then last_then g r
  ghost_later g r h = record { num = h.num; vram = h.vram; tt = h.tt; frames = h.frames; waits = waits_later g.jobs r.jobs h.waits }

  -- so is each ghost
  pub ghosts_later : (gs : List state.Ghost) (rs : List Ghost) → AreGhosts jobs last gs rs → AreGhosts jobs_then last_then gs rs
  ghosts_later [] [] h = h
  ghosts_later [] (r ∷ rs) h = h
  ghosts_later (g ∷ gs) [] h = h
  ghosts_later (g ∷ gs) (r ∷ rs) h = (ghost_later g r h.0, ghosts_later gs rs h.1)

  known_later : (buffers : List (Option Buffer)) → list_all (λ o. are_emitted last (jobs_in (fences_of o))) buffers ≡ true → list_all (λ o. are_emitted last_then (jobs_in (fences_of o))) buffers ≡ true
  known_later [] h = h
  known_later (o ∷ buffers) h =
      let r = and_parts (are_emitted last (jobs_in (fences_of o))) (list_all (λ o. are_emitted last (jobs_in (fences_of o))) buffers) h in
      both (are_emitted last_then (jobs_in (fences_of o))) (list_all (λ o. are_emitted last_then (jobs_in (fences_of o))) buffers) (are_later (jobs_in (fences_of o)) r.0) (known_later buffers r.1)

  -- the sets of buffers are still those of their fences
  pub fences_later : (buffers : List (Option Buffer)) (sets : List (List Latest)) → AreFences last buffers sets → AreFences last_then buffers sets
  fences_later buffers sets h =
      record {
        sets_are = h.sets_are ∙ ap (λ n. map (λ o. set_of n (fences_of o)) buffers) (sym later.contexts);
        known = known_later buffers h.known;
      }

  -- the move fence was emitted
  pub move_later : (move kept : Option JobId) → IsMoveFence last move kept → IsMoveFence last_then move kept
  move_later move kept h = record { kept_is = h.kept_is; known = λ i e. later.emitted i (h.known i e) }
