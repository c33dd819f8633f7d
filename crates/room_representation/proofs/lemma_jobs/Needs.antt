-- What is to be waited for, by timeline and sets, is what the state says.
use Rattle.std.proofs.Common.{◌≡◌, ℕ, zero, suc, ◌+◌, ◌-◌, ◌<◌, ◌≤◌, Bool, true, false, List, [], ◌∷◌, Option, Some, None, refl, sym, ◌∙◌, ap, arith, length}
use Rattle.std.specs.Prelude.{◌==◌, ◌&&◌, not, nat_lt, nat_le, filter, find, option_map, option_and_then, option_to_list, slice_get, unwrap_or, if◌then◌else◌}
use Rattle.std.specs.List.{list_any}
use Rattle.std.proofs.lemmas.Bool.{and_parts}
use Rattle.std.proofs.lemmas.Bool.Decides.{nat_tests}
use Rattle.ttm_base.specs.declared.BufId.{BufId}
use Rattle.ttm_base.specs.declared.Fence.{Fence}
use Rattle.ttm_base.specs.declared.JobId.{JobId}
use Rattle.ttm_base.specs.declared.Usage.{Usage}
use Rattle.ttm_base.specs.declared.Usage.TheVariants.{Kernel, Write, Read}
use Rattle.ttm_base.specs.Fences.{named_job}
use Rattle.ttm_base.specs.ListWords.{count_from}
use Rattle.fence_core.specs.declared.timeline.Progress.{Progress}
use Rattle.fence_core.specs.declared.fence_set.Latest.{Latest}
use Rattle.fence_core.specs.Histories.{set_of, AreKnown, covers, is_covered, waiting}
use Rattle.fence_core.specs.Fences.{needed}
use Rattle.fence_core.specs.Timelines.{is_signalled}
use Rattle.fence_core.proofs.NeedLaws.{set_needs}
use Rattle.copy_engine.specs.Pushes.{Pushed, ring_of, head_of, wait_of}
use Rattle.journal_model.specs.declared.state.Buffer.{Buffer}
use Rattle.journal_model.specs.declared.state.Core.{Core}
use Rattle.journal_model.specs.declared.state.Ghost as state
use Rattle.journal_model.specs.declared.state.Job.{Job}
use Rattle.journal_model.specs.rules.State.{buffer_in, new_buffer}
use Rattle.journal_model.specs.rules.Waits.{same_job, changes, waited_for, jobs_before_read, jobs_before_write}
use Rattle.laws.specs.law_state.GoodState.{last_number}
use Rattle.laws.specs.law_jobs.JobLines.{unfinished_of, numbers_of, done_of}
use Rattle.room_representation.specs.declared.parts.Ghost.{Ghost}
use Rattle.room_representation.specs.Fences.{fences_of, jobs_in, is_unfinished_in, unfinished_in, is_emitted, are_emitted, WaitsFor, AreFences, set_at}
use Rattle.room_representation.specs.Lines.{IsTimeline, AreInLine}
use Rattle.room_representation.specs.RingJobs.{IsRing, AreRings}
use Rattle.room_representation.specs.Ghosts.{AreGhosts}
use Rattle.room_representation.proofs.lemma_jobs.Lists.{all_at, find_is, get_map}

-- ---- jobs that aren't done, by their numbers

abbrev is_left_of : ℕ → Job → Bool
is_left_of ctx j = (j.id.ctx == ctx) && not j.finished

by_number : (i : JobId) (jobs : List Job) → is_unfinished_in jobs i ≡ list_any (λ n. n == i.num) (numbers_of (unfinished_of i.ctx jobs))
by_number i [] = refl
by_number i (j ∷ jobs) = by (by_number i jobs) (is_left_of i.ctx j) refl
  where
    one : (j : Job) → is_left_of i.ctx j ≡ true → (same_job i j.id && not j.finished) ≡ (j.id.num == i.num)
    one j h = grind (arith, nat_tests)

    none : (j : Job) → is_left_of i.ctx j ≡ false → (same_job i j.id && not j.finished) ≡ false
    none j h = grind (arith, nat_tests)

    by : is_unfinished_in jobs i ≡ list_any (λ n. n == i.num) (numbers_of (unfinished_of i.ctx jobs)) → (b : Bool) → is_left_of i.ctx j ≡ b →
        is_unfinished_in (j ∷ jobs) i ≡ list_any (λ n. n == i.num) (numbers_of (unfinished_of i.ctx (j ∷ jobs)))
    by ih true p = let x = one j p in rw (p, x, ih) refl
    by ih false p = let x = none j p in rw (p, x, ih) refl

count_has : (k m x : ℕ) → list_any (λ n. n == x) (count_from 1 k m) ≡ (nat_le m x && nat_lt x (m + k))
count_has zero m x = grind (arith, nat_tests)
count_has (suc k) m x = let ih = count_has k (1 + m) x in rw ih (grind (arith, nat_tests))

-- what it says of a job that it was emitted
pub record Emitted (last : List ℕ) (i : JobId) : Type 0 where
  pub some : 0 < i.num
  pub drawn : i.num ≤ last_number last i.ctx
  pub context : i.ctx < length last

-- an emitted job has a number that was drawn, of a context that there is
pub emitted_parts : (last : List ℕ) (i : JobId) → is_emitted last i ≡ true → Emitted last i
emitted_parts last i h = record { some = some i.num (last_number last i.ctx) i.ctx (length last) h; drawn = drawn i.num (last_number last i.ctx) i.ctx (length last) h; context = context i.num (last_number last i.ctx) i.ctx (length last) h }
  where
    some : (n m c l : ℕ) → (nat_lt 0 n && nat_le n m && nat_lt c l) ≡ true → 0 < n
    some n m c l h = grind (arith, nat_tests)

    drawn : (n m c l : ℕ) → (nat_lt 0 n && nat_le n m && nat_lt c l) ≡ true → n ≤ m
    drawn n m c l h = grind (arith, nat_tests)

    context : (n m c l : ℕ) → (nat_lt 0 n && nat_le n m && nat_lt c l) ≡ true → c < l
    context n m c l h = grind (arith, nat_tests)

-- a filter by a test is that by one that always answers the same
covers_changes : (how : Usage) → (elim how [ Kernel ↦ true | Write ↦ true | Read ↦ false ]) ≡ covers Write how
covers_changes Kernel = refl
covers_changes Write = refl
covers_changes Read = refl

-- the jobs that change a buffer are those that a write covers
pub changes_covered : (fences : List Fence) → filter changes fences ≡ filter (is_covered Write) fences
changes_covered fences = ap (λ p. filter p fences) (λ i f. covers_changes f.usage i)

-- a read covers all
pub covered_all : (fences : List Fence) → filter (is_covered Read) fences ≡ fences
covered_all [] = refl
covered_all (f ∷ fences) = ap (λ fs. f ∷ fs) (covered_all fences)

-- emitted jobs are of contexts that there are
pub known_of : (last : List ℕ) (fences : List Fence) → are_emitted last (jobs_in fences) ≡ true → AreKnown (length last) fences
known_of last [] k = tt
known_of last (f ∷ fences) k = let r = and_parts (is_emitted last f.job) (are_emitted last (jobs_in fences)) k in ((emitted_parts last f.job r.0).context, known_of last fences r.1)

-- the set of a declared buffer is that of its fences
pub set_is : (last : List ℕ) (buffers : List (Option Buffer)) (sets : List (List Latest)) → AreFences last buffers sets → (b : BufId) (o : Option Buffer) → slice_get buffers b.0 ≡ Some o → set_at sets b ≡ set_of (length last) (fences_of o)
set_is last buffers sets h b o e =
    ap (λ l. set_at l b) h.sets_are ∙ ap (λ x. unwrap_or x []) (get_map (λ x. set_of (length last) (fences_of x)) buffers b.0 ∙ ap (option_map (λ x. set_of (length last) (fences_of x))) e)

-- its fences were emitted
pub fences_known : (last : List ℕ) (buffers : List (Option Buffer)) (sets : List (List Latest)) → AreFences last buffers sets → (b : BufId) (o : Option Buffer) → slice_get buffers b.0 ≡ Some o → are_emitted last (jobs_in (fences_of o)) ≡ true
fences_known last buffers sets h b o e = all_at (λ x. are_emitted last (jobs_in (fences_of x))) buffers b.0 o h.known e

-- a dead buffer has no fences in the state either
fences_there : (o : Option Buffer) → fences_of o ≡ (unwrap_or o (new_buffer 0)).fences
fences_there None = refl
fences_there (Some x) = refl

-- the fences of a declared buffer
pub fences_in : (c : Core) (b : BufId) (o : Option Buffer) → slice_get c.buffers b.0 ≡ Some o → fences_of o ≡ (buffer_in c b).fences
fences_in c b o e = fences_there o ∙ ap (λ x. (unwrap_or (option_and_then (λ y. y) x) (new_buffer 0)).fences) (sym e)

module _ (jobs : List Job) (last : List ℕ) (timeline : List Progress) (rows : AreInLine last jobs) (h : IsTimeline jobs last timeline) where
  -- a job that was emitted isn't done exactly where it isn't signalled
  pub line_tells : (i : JobId) → is_emitted last i ≡ true → is_unfinished_in jobs i ≡ not (is_signalled timeline i)
  line_tells i k =
      let e = emitted_parts last i k in
      let row = rows i.ctx in
      let low = e.drawn in
      let within = row.within in
      by_number i jobs ∙ ap (list_any (λ n. n == i.num)) row.unfinished
      ∙ count_has (last_number last i.ctx - done_of i.ctx jobs) (done_of i.ctx jobs + 1) i.num
      ∙ numbers (last_number last i.ctx) (done_of i.ctx jobs) i.num low within
      ∙ ap (λ (p : Progress). not (nat_le i.num p.done)) (sym (h.each i.ctx e.context))
    where
      numbers : (e d x : ℕ) → x ≤ e → d ≤ e → (nat_le (d + 1) x && nat_lt x (d + 1 + (e - d))) ≡ not (nat_le x d)
      numbers e d x p q = grind (arith, nat_tests)

  -- the jobs that a set waits for are those of its history that aren't done
  waiting_left : (how : Usage) (fences : List Fence) → are_emitted last (jobs_in fences) ≡ true → waiting how timeline fences ≡ unfinished_in jobs (jobs_in (filter (is_covered how) fences))
  waiting_left how [] k = refl
  waiting_left how (f ∷ fences) k =
      let r = and_parts (is_emitted last f.job) (are_emitted last (jobs_in fences)) k in
      by (waiting_left how fences r.1) (line_tells f.job r.0) (is_covered how f) refl (is_signalled timeline f.job) refl
    where
      by : waiting how timeline fences ≡ unfinished_in jobs (jobs_in (filter (is_covered how) fences)) → is_unfinished_in jobs f.job ≡ not (is_signalled timeline f.job) →
          (a : Bool) → is_covered how f ≡ a → (b : Bool) → is_signalled timeline f.job ≡ b → waiting how timeline (f ∷ fences) ≡ unfinished_in jobs (jobs_in (filter (is_covered how) (f ∷ fences)))
      by ih e true p true q = let o : is_unfinished_in jobs f.job ≡ false = e ∙ ap not q in rw (p, q, o) ih
      by ih e true p false q = let o : is_unfinished_in jobs f.job ≡ true = e ∙ ap not q in rw (p, q, o) (ap (λ js. f.job ∷ js) ih)
      by ih e false p b q = rw p ih

  -- the job that the set of some fences asks for, by usage
  pub set_asks : (how : Usage) (fences : List Fence) → are_emitted last (jobs_in fences) ≡ true → needed how timeline (set_of (length last) fences) ≡ named_job (unfinished_in jobs (jobs_in (filter (is_covered how) fences)))
  set_asks how fences k = set_needs how timeline (length last) fences (known_of last fences k) ∙ ap named_job (waiting_left how fences k)

  -- the job that a set asks for is the one that its list waits for: `waited_for` of a core with these jobs
  pub set_waits : (is : List JobId) (set : List Latest) → WaitsFor jobs last is set → needed Read timeline set ≡ named_job (unfinished_in jobs is)
  set_waits is set w =
      ap (needed Read timeline) w.kept ∙ set_asks Read w.history w.known ∙ ap (λ fs. named_job (unfinished_in jobs (jobs_in fs))) (covered_all w.history) ∙ ap named_job w.same

  -- ---- heads of rings, and ghosts

  front_waits : (js : List Job) (ps : List Pushed) → IsRing jobs last js ps → option_and_then (wait_of timeline) (slice_get ps 0) ≡ option_and_then (λ j. named_job (unfinished_in jobs j.waits)) (slice_get js 0)
  front_waits [] [] r = refl
  front_waits [] (p ∷ ps) r = absurd r
  front_waits (j ∷ js) [] r = absurd r
  front_waits (j ∷ js) (p ∷ ps) r = set_waits j.waits p.waits r.0.waits

  -- the head of a ring waits for what the head of the context waits for
  pub head_waits : (rings : List (List Pushed)) → AreRings jobs last rings → (ctx : ℕ) → ctx < length last →
      option_and_then (wait_of timeline) (head_of rings ctx) ≡ option_and_then (λ j. named_job (unfinished_in jobs j.waits)) (find (λ j. (j.id.ctx == ctx) && not j.finished) jobs)
  head_waits rings r ctx within =
      front_waits (unfinished_of ctx jobs) (ring_of rings ctx) (r.each ctx within) ∙ ap (option_and_then (λ j. named_job (unfinished_in jobs j.waits))) (sym (find_is (is_left_of ctx) jobs))

  -- a ghost waits for what the state's ghost waits for
  pub ghost_waits : (gs : List state.Ghost) (rs : List Ghost) → AreGhosts jobs last gs rs → (i : ℕ) →
      option_and_then (λ (r : Ghost). needed Read timeline r.jobs) (slice_get rs i) ≡ option_and_then (λ (g : state.Ghost). named_job (unfinished_in jobs g.jobs)) (slice_get gs i)
  ghost_waits [] [] r i = refl
  ghost_waits [] (p ∷ ps) r i = absurd r
  ghost_waits (g ∷ gs) [] r i = absurd r
  ghost_waits (g ∷ gs) (p ∷ ps) r zero = set_waits g.jobs p.jobs r.0.waits
  ghost_waits (g ∷ gs) (p ∷ ps) r (suc i) = ghost_waits gs ps r.1 i

  -- the move fence is to be waited for unless it is signalled
  pub move_waits : (i : JobId) → is_emitted last i ≡ true → unfinished_in jobs (option_to_list (Some i)) ≡ (if is_signalled timeline i then [] else i ∷ [])
  move_waits i k = by (is_signalled timeline i) refl (line_tells i k)
    where
      by : (b : Bool) → is_signalled timeline i ≡ b → is_unfinished_in jobs i ≡ not (is_signalled timeline i) → unfinished_in jobs (i ∷ []) ≡ (if is_signalled timeline i then [] else i ∷ [])
      by true q e = let o : is_unfinished_in jobs i ≡ false = e ∙ ap not q in rw (o, q) refl
      by false q e = let o : is_unfinished_in jobs i ≡ true = e ∙ ap not q in rw (o, q) refl

module _ (c : Core) (last : List ℕ) (timeline : List Progress) (rows : AreInLine last c.jobs) (h : IsTimeline c.jobs last timeline) (sets : List (List Latest)) (f : AreFences last c.buffers sets) where
  -- the set of a buffer asks, whatever the usage, for what is waited for before a write or a move
  pub write_waits : (b : BufId) (o : Option Buffer) → slice_get c.buffers b.0 ≡ Some o → needed Read timeline (set_at sets b) ≡ waited_for c (jobs_before_write (buffer_in c b))
  write_waits b o e =
      ap (needed Read timeline) (set_is last c.buffers sets f b o e) ∙ set_asks c.jobs last timeline rows h Read (fences_of o) (fences_known last c.buffers sets f b o e)
      ∙ ap (λ fs. named_job (unfinished_in c.jobs (jobs_in fs))) (covered_all (fences_of o) ∙ fences_in c b o e)

  -- and, of those that change it, for what is waited for before a read
  pub read_waits : (b : BufId) (o : Option Buffer) → slice_get c.buffers b.0 ≡ Some o → needed Write timeline (set_at sets b) ≡ waited_for c (jobs_before_read (buffer_in c b))
  read_waits b o e =
      ap (needed Write timeline) (set_is last c.buffers sets f b o e) ∙ set_asks c.jobs last timeline rows h Write (fences_of o) (fences_known last c.buffers sets f b o e)
      ∙ ap (λ fs. named_job (unfinished_in c.jobs (jobs_in fs))) (sym (changes_covered (fences_of o)) ∙ ap (filter changes) (fences_in c b o e))
