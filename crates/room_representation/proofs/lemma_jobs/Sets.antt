-- Sets of jobs that are made of buffers' sets: for a move, for a job with operations, for a ghost.
use Rattle.std.proofs.Common.{◌≡◌, ℕ, Bool, true, false, List, [], ◌∷◌, ◌++◌, Option, Some, None, refl, sym, ◌∙◌, ap, subst, length}
use Rattle.std.specs.Prelude.{◌&&◌, filter, map, fold, flat_map, replicate, slice_get, slice_set, option_map, is_some, if◌then◌else◌}
use Rattle.std.specs.List.{list_all}
use Rattle.std.proofs.lemmas.Bool.{and_parts}
use Rattle.std.proofs.lemmas.List.{length-replicate, append_assoc, append-nil}
use Rattle.ttm_base.specs.declared.BufId.{BufId}
use Rattle.ttm_base.specs.declared.Fence.{Fence}
use Rattle.ttm_base.specs.declared.JobId.{JobId}
use Rattle.ttm_base.specs.declared.Op.{Op}
use Rattle.ttm_base.specs.declared.Usage.{Usage}
use Rattle.ttm_base.specs.declared.Usage.TheVariants.{Write, Read}
use Rattle.fence_core.specs.declared.fence_set.Latest.{Latest}
use Rattle.fence_core.specs.Fences.{nothing_kept, added, all_added}
use Rattle.fence_core.specs.Histories.{set_of, is_covered}
use Rattle.fence_core.proofs.AddLaws.{set_of_both, set_of_more, length-after}
use Rattle.journal_model.specs.declared.state.Buffer.{Buffer}
use Rattle.journal_model.specs.declared.state.Core.{Core}
use Rattle.journal_model.specs.declared.state.Job.{Job}
use Rattle.journal_model.specs.rules.State.{buffer_in, live_in, changed}
use Rattle.journal_model.specs.rules.Waits.{changes, unfinished, is_written, use_of, jobs_before_read, jobs_before_write, jobs_before_use}
use Rattle.journal_model.specs.rules.ApplyPages.{with_fence}
use Rattle.journal_model.specs.rules.ApplyJobs.{with_use}
use Rattle.room_representation.specs.Fences.{fences_of, jobs_in, is_unfinished_in, unfinished_in, is_emitted, are_emitted, WaitsFor, AreFences, set_at, with_use_in, without_jobs_in}
use Rattle.room_representation.proofs.lemma_jobs.Lists.{both, all_append, all_filter, all_set, filter_append, filter_again, map_append, map_set, is_there, unseen, still_there}
use Rattle.room_representation.proofs.lemma_jobs.Needs.{covered_all, changes_covered, known_of, set_is, fences_known, fences_in}

-- a set has a place for each context
pub set_length : (contexts : ℕ) (fences : List Fence) → length (set_of contexts fences) ≡ contexts
set_length contexts fences = length-after (replicate contexts nothing_kept) fences ∙ length-replicate contexts nothing_kept

-- a set that waits for a list has one too
pub waits_length : (jobs : List Job) (last : List ℕ) (is : List JobId) (set : List Latest) → WaitsFor jobs last is set → length set ≡ length last
waits_length jobs last is set w = ap length w.kept ∙ set_length (length last) w.history

known_covered : (last : List ℕ) (how : Usage) (fences : List Fence) → are_emitted last (jobs_in fences) ≡ true → are_emitted last (jobs_in (filter (is_covered how) fences)) ≡ true
known_covered last how [] h = h
known_covered last how (f ∷ fences) h =
    let r = and_parts (is_emitted last f.job) (are_emitted last (jobs_in fences)) h in
    by (known_covered last how fences r.1) r.0 (is_covered how f) refl
  where
    by : are_emitted last (jobs_in (filter (is_covered how) fences)) ≡ true → is_emitted last f.job ≡ true → (b : Bool) → is_covered how f ≡ b → are_emitted last (jobs_in (filter (is_covered how) (f ∷ fences))) ≡ true
    by ih r true e = rw e (both (is_emitted last f.job) (are_emitted last (jobs_in (filter (is_covered how) fences))) r ih)
    by ih r false e = rw e ih

module _ (jobs : List Job) (last : List ℕ) where
  -- an empty set waits for nothing
  pub waits_none : WaitsFor jobs last [] (replicate (length last) nothing_kept)
  waits_none = record { history = []; kept = refl; known = refl; listed = refl; same = refl }

  -- after one more job, which was emitted, it waits for that one too
  pub waits_one : (is : List JobId) (set : List Latest) → WaitsFor jobs last is set → (job : JobId) (how : Usage) → is_emitted last job ≡ true → WaitsFor jobs last (is ++ job ∷ []) (added set job how)
  waits_one is set w job how k =
      let f : Fence = record { job = job; usage = how } in
      let one : are_emitted last (job ∷ []) ≡ true = both (is_emitted last job) true k refl in
      record {
        history = w.history ++ f ∷ [];
        kept = ap (λ s. added s job how) w.kept ∙ set_of_more (length last) w.history f;
        known = subst (λ js. are_emitted last js ≡ true) (sym (map_append (λ g. g.job) w.history (f ∷ []))) (all_append (is_emitted last) (jobs_in w.history) (job ∷ []) w.known one);
        listed = all_append (is_emitted last) is (job ∷ []) w.listed one;
        same = ap (unfinished_in jobs) (map_append (λ g. g.job) w.history (f ∷ [])) ∙ filter_append (is_unfinished_in jobs) (jobs_in w.history) (job ∷ [])
            ∙ ap (λ js. js ++ unfinished_in jobs (job ∷ [])) w.same ∙ sym (filter_append (is_unfinished_in jobs) is (job ∷ []));
      }

  -- after the set of some fences was added by usage, it waits for those that this usage covers and that aren't done
  pub waits_more : (is : List JobId) (set : List Latest) → WaitsFor jobs last is set → (how : Usage) (fences : List Fence) → are_emitted last (jobs_in fences) ≡ true →
      WaitsFor jobs last (is ++ unfinished_in jobs (jobs_in (filter (is_covered how) fences))) (all_added how set (set_of (length last) fences))
  waits_more is set w how fences k =
      let more = filter (is_covered how) fences in
      let known : are_emitted last (jobs_in more) ≡ true = known_covered last how fences k in
      record {
        history = w.history ++ more;
        kept = ap (λ s. all_added how s (set_of (length last) fences)) w.kept ∙ set_of_both how (length last) w.history fences (known_of last fences k);
        known = subst (λ js. are_emitted last js ≡ true) (sym (map_append (λ g. g.job) w.history more)) (all_append (is_emitted last) (jobs_in w.history) (jobs_in more) w.known known);
        listed = all_append (is_emitted last) is (unfinished_in jobs (jobs_in more)) w.listed (all_filter (is_emitted last) (is_unfinished_in jobs) (jobs_in more) known);
        same = ap (unfinished_in jobs) (map_append (λ g. g.job) w.history more) ∙ filter_append (is_unfinished_in jobs) (jobs_in w.history) (jobs_in more)
            ∙ ap (λ js. js ++ unfinished_in jobs (jobs_in more)) w.same ∙ ap (λ js. unfinished_in jobs is ++ js) (sym (filter_again (is_unfinished_in jobs) (jobs_in more)))
            ∙ sym (filter_append (is_unfinished_in jobs) is (unfinished_in jobs (jobs_in more)));
      }

  -- the set of some fences waits for those that aren't done
  pub waits_fences : (fences : List Fence) → are_emitted last (jobs_in fences) ≡ true → WaitsFor jobs last (unfinished_in jobs (jobs_in fences)) (set_of (length last) fences)
  waits_fences fences k =
      record {
        history = fences;
        kept = refl;
        known = k;
        listed = all_filter (is_emitted last) (is_unfinished_in jobs) (jobs_in fences) k;
        same = sym (filter_again (is_unfinished_in jobs) (jobs_in fences));
      }

-- ---- sets of buffers

-- the usage whose jobs a job with operations waits for at a buffer: all where it writes, those that change it where it only reads
abbrev pub waited_use : List Op → BufId → Usage
waited_use ops b = if is_written ops b then Read else Write

-- a set with the jobs that a job with operations waits for at these buffers
abbrev pub armed_set : List Op → List (List Latest) → List Latest → List BufId → List Latest
armed_set ops sets set bs = fold (λ s b. all_added (waited_use ops b) s (set_at sets b)) set bs

module _ (c : Core) (last : List ℕ) (sets : List (List Latest)) (f : AreFences last c.buffers sets) where
  -- a set with all jobs of a buffer waits for those that must be done before a move or a write
  pub waits_moved : (is : List JobId) (set : List Latest) → WaitsFor c.jobs last is set → (b : BufId) (o : Option Buffer) → slice_get c.buffers b.0 ≡ Some o →
      WaitsFor c.jobs last (is ++ unfinished c (jobs_before_write (buffer_in c b))) (all_added Read set (set_at sets b))
  waits_moved is set w b o e =
      subst (λ s. WaitsFor c.jobs last (is ++ unfinished c (jobs_before_write (buffer_in c b))) (all_added Read set s)) (sym (set_is last c.buffers sets f b o e))
      (subst (λ fs. WaitsFor c.jobs last (is ++ unfinished_in c.jobs (jobs_in fs)) (all_added Read set (set_of (length last) (fences_of o)))) (covered_all (fences_of o) ∙ fences_in c b o e)
      (waits_more c.jobs last is set w Read (fences_of o) (fences_known last c.buffers sets f b o e)))

  -- a set with those that change a buffer waits for those that must be done before a read
  pub waits_read : (is : List JobId) (set : List Latest) → WaitsFor c.jobs last is set → (b : BufId) (o : Option Buffer) → slice_get c.buffers b.0 ≡ Some o →
      WaitsFor c.jobs last (is ++ unfinished c (jobs_before_read (buffer_in c b))) (all_added Write set (set_at sets b))
  waits_read is set w b o e =
      subst (λ s. WaitsFor c.jobs last (is ++ unfinished c (jobs_before_read (buffer_in c b))) (all_added Write set s)) (sym (set_is last c.buffers sets f b o e))
      (subst (λ fs. WaitsFor c.jobs last (is ++ unfinished_in c.jobs (jobs_in fs)) (all_added Write set (set_of (length last) (fences_of o)))) (sym (changes_covered (fences_of o)) ∙ ap (filter changes) (fences_in c b o e))
      (waits_more c.jobs last is set w Write (fences_of o) (fences_known last c.buffers sets f b o e)))

  -- one more buffer of a job with operations
  pub waits_used : (ops : List Op) (is : List JobId) (set : List Latest) → WaitsFor c.jobs last is set → (b : BufId) (o : Option Buffer) → slice_get c.buffers b.0 ≡ Some o →
      WaitsFor c.jobs last (is ++ jobs_before_use c ops b) (all_added (waited_use ops b) set (set_at sets b))
  waits_used ops is set w b o e = by (is_written ops b) refl
    where
      by : (q : Bool) → is_written ops b ≡ q → WaitsFor c.jobs last (is ++ jobs_before_use c ops b) (all_added (waited_use ops b) set (set_at sets b))
      by true q = rw q (waits_moved is set w b o e)
      by false q = rw q (waits_read is set w b o e)

  -- the set of a job with operations waits for what must be done before each of its buffers is used
  pub waits_armed : (ops : List Op) (bs : List BufId) → list_all (λ b. is_some (live_in c.buffers b)) bs ≡ true → (is : List JobId) (set : List Latest) → WaitsFor c.jobs last is set →
      WaitsFor c.jobs last (is ++ flat_map (jobs_before_use c ops) bs) (armed_set ops sets set bs)
  waits_armed ops [] l is set w = subst (λ js. WaitsFor c.jobs last js set) (sym (append-nil is)) w
  waits_armed ops (b ∷ bs) l is set w =
      let r = and_parts (is_some (live_in c.buffers b)) (list_all (λ b. is_some (live_in c.buffers b)) bs) l in
      by r.0 (live_in c.buffers b) refl (waits_armed ops bs r.1)
    where
      by : is_some (live_in c.buffers b) ≡ true → (o : Option Buffer) → live_in c.buffers b ≡ o →
          ((is : List JobId) (set : List Latest) → WaitsFor c.jobs last is set → WaitsFor c.jobs last (is ++ flat_map (jobs_before_use c ops) bs) (armed_set ops sets set bs)) →
          WaitsFor c.jobs last (is ++ flat_map (jobs_before_use c ops) (b ∷ bs)) (armed_set ops sets set (b ∷ bs))
      by g None e ih = let no : false ≡ true = sym (ap is_some e) ∙ g in cc
      by g (Some x) e ih =
          subst (λ js. WaitsFor c.jobs last js (armed_set ops sets set (b ∷ bs))) (append_assoc is (jobs_before_use c ops b) (flat_map (jobs_before_use c ops) bs))
          (ih (is ++ jobs_before_use c ops b) (all_added (waited_use ops b) set (set_at sets b)) (waits_used ops is set w b (Some x) (is_there c.buffers b.0 x e)))

-- ---- the sets of all buffers

module _ (last : List ℕ) where
  abbrev seen : Option Buffer → List Latest
  seen o = set_of (length last) (fences_of o)

  abbrev fine : Option Buffer → Bool
  fine o = are_emitted last (jobs_in (fences_of o))

  -- they stay where a buffer changes but for its fences
  pub fences_kept : (g : Buffer → Buffer) → ((x : Buffer) → (g x).fences ≡ x.fences) → (buffers : List (Option Buffer)) (b : BufId) (sets : List (List Latest)) → AreFences last buffers sets → AreFences last (changed g buffers b) sets
  fences_kept g same buffers b sets h =
      record {
        sets_are = h.sets_are ∙ sym (unseen seen g (λ x. ap (set_of (length last)) (same x)) buffers b.0);
        known = all_map (changed g buffers b) ∙ ap (list_all (λ q. q)) (unseen fine g (λ x. ap (λ fs. are_emitted last (jobs_in fs)) (same x)) buffers b.0) ∙ sym (all_map buffers) ∙ h.known;
      }
    where
      all_map : (xs : List (Option Buffer)) → list_all fine xs ≡ list_all (λ q. q) (map fine xs)
      all_map [] = refl
      all_map (x ∷ xs) = ap (λ q. fine x && q) (all_map xs)

  -- a live buffer with one more fence, whose job was emitted, and nothing else of its fences changed
  pub fences_used : (g : Buffer → Buffer) (job : JobId) (how : Usage) → ((x : Buffer) → (g x).fences ≡ x.fences ++ record { job = job; usage = how } ∷ []) → is_emitted last job ≡ true →
      (buffers : List (Option Buffer)) (b : BufId) (x : Buffer) → live_in buffers b ≡ Some x → (sets : List (List Latest)) → AreFences last buffers sets → AreFences last (changed g buffers b) (with_use_in job how sets b)
  fences_used g job how more k buffers b x e sets h =
      let f : Fence = record { job = job; usage = how } in
      let at : slice_get buffers b.0 ≡ Some (Some x) = is_there buffers b.0 x e in
      let now : changed g buffers b ≡ slice_set buffers b.0 (Some (g x)) = ap (λ o. slice_set buffers b.0 (option_map g o)) e in
      let set : added (set_at sets b) job how ≡ seen (Some (g x)) =
      ap (λ s. added s job how) (set_is last buffers sets h b (Some x) at) ∙ set_of_more (length last) x.fences f ∙ ap (set_of (length last)) (sym (more x)) in
      let one : are_emitted last (job ∷ []) ≡ true = both (is_emitted last job) true k refl in
      let ok : fine (Some (g x)) ≡ true =
      ap (λ fs. are_emitted last (jobs_in fs)) (more x) ∙ ap (are_emitted last) (map_append (λ d. d.job) x.fences (f ∷ []))
      ∙ all_append (is_emitted last) (jobs_in x.fences) (job ∷ []) (fences_known last buffers sets h b (Some x) at) one in
      subst (λ bs. AreFences last bs (with_use_in job how sets b)) (sym now)
      (record {
        sets_are = ap (slice_set sets b.0) set ∙ ap (λ l. slice_set l b.0 (seen (Some (g x)))) h.sets_are ∙ sym (map_set seen buffers b.0 (Some (g x)));
        known = all_set fine buffers b.0 (Some (g x)) h.known ok;
      })

  -- a buffer that is made, or freed, has no fence
  pub fences_cleared : (buffers : List (Option Buffer)) (b : BufId) (old o : Option Buffer) → slice_get buffers b.0 ≡ Some old → fences_of o ≡ [] → (sets : List (List Latest)) → AreFences last buffers sets →
      AreFences last (slice_set buffers b.0 o) (without_jobs_in sets b)
  fences_cleared buffers b old o at e sets h =
      let wide : length (set_at sets b) ≡ length last = ap length (set_is last buffers sets h b old at) ∙ set_length (length last) (fences_of old) in
      let set : replicate (length (set_at sets b)) nothing_kept ≡ seen o = ap (λ n. replicate n nothing_kept) wide ∙ ap (set_of (length last)) (sym e) in
      record {
        sets_are = ap (slice_set sets b.0) set ∙ ap (λ l. slice_set l b.0 (seen o)) h.sets_are ∙ sym (map_set seen buffers b.0 o);
        known = all_set fine buffers b.0 o h.known (ap (λ fs. are_emitted last (jobs_in fs)) e);
      }

  -- the sets after each buffer of a job with operations got it as a fence
  pub fences_armed : (job : JobId) (ops : List Op) → is_emitted last job ≡ true → (bs : List BufId) (buffers : List (Option Buffer)) → list_all (λ b. is_some (live_in buffers b)) bs ≡ true →
      (sets : List (List Latest)) → AreFences last buffers sets → AreFences last (fold (with_use job ops) buffers bs) (fold (λ s b. with_use_in job (use_of ops b) s b) sets bs)
  fences_armed job ops k [] buffers l sets h = h
  fences_armed job ops k (b ∷ bs) buffers l sets h =
      let r = and_parts (is_some (live_in buffers b)) (list_all (λ d. is_some (live_in buffers d)) bs) l in
      by r.0 (live_in buffers b) refl (fences_armed job ops k bs (with_use job ops buffers b) (live_still bs r.1) (with_use_in job (use_of ops b) sets b))
    where
      live_still : (ds : List BufId) → list_all (λ d. is_some (live_in buffers d)) ds ≡ true → list_all (λ d. is_some (live_in (with_use job ops buffers b) d)) ds ≡ true
      live_still [] g = g
      live_still (d ∷ ds) g =
          let r = and_parts (is_some (live_in buffers d)) (list_all (λ e. is_some (live_in buffers e)) ds) g in
          both (is_some (live_in (with_use job ops buffers b) d)) (list_all (λ e. is_some (live_in (with_use job ops buffers b) e)) ds)
          (still_there (with_fence job (use_of ops b)) buffers b.0 d.0 ∙ r.0) (live_still ds r.1)

      by : is_some (live_in buffers b) ≡ true → (o : Option Buffer) → live_in buffers b ≡ o →
          (AreFences last (with_use job ops buffers b) (with_use_in job (use_of ops b) sets b) → AreFences last (fold (with_use job ops) buffers (b ∷ bs)) (fold (λ s d. with_use_in job (use_of ops d) s d) sets (b ∷ bs))) →
          AreFences last (fold (with_use job ops) buffers (b ∷ bs)) (fold (λ s d. with_use_in job (use_of ops d) s d) sets (b ∷ bs))
      by g None e ih = let no : false ≡ true = sym (ap is_some e) ∙ g in cc
      by g (Some x) e ih = ih (fences_used (with_fence job (use_of ops b)) job (use_of ops b) (λ y. refl) k buffers b x e sets h)
