-- Each stamp and each job of a thread has an entry of its own beside the one that draws its number: the answer of its command.
use Rattle.std.proofs.Common.{◌≡◌, ℕ, ◌+◌, ◌-◌, ◌*◌, ◌≤◌, zero, suc, Bool, true, false, List, [], ◌∷◌, length, Option, Some, None, IsSome, refl, sym, ◌∙◌, ap, arith, ◌⊎◌, inl, inr, ⊎_elim}
use Rattle.std.specs.Prelude.{slice_get, slice_set, replicate, unwrap_or, is_some, ◌==◌, if◌then◌else◌}
use Rattle.std.proofs.lemmas.Bool.{eqb-true}
use Rattle.ttm_base.specs.declared.Stamp.{Stamp}
use Rattle.ttm_base.specs.declared.Actor.{Actor}
use Rattle.ttm_base.specs.declared.Actor.TheVariants as actor
use Rattle.journal_model.specs.declared.script.Script.{Script}
use Rattle.journal_model.specs.declared.script.Command.{Command}
use Rattle.journal_model.specs.declared.state.State.{State}
use Rattle.journal_model.specs.declared.state.Course.{Course}
use Rattle.journal_model.specs.declared.state.Task.{Task}
use Rattle.journal_model.specs.declared.entry.Kind.{Kind}
use Rattle.journal_model.specs.declared.entry.Kind.TheVariants as kind
use Rattle.journal_model.specs.rules.State.{course, course_of, new_course, with_course}
use Rattle.journal_model.specs.rules.PageSteps.{next_job}
use Rattle.journal_model.specs.rules.Apply.{applied}
use Rattle.journal_model.specs.rules.Legal.{first_state}
use Rattle.laws.specs.law_state.GoodState.{last_number}
use Rattle.laws.proofs.law_state.Lists.{set_at}
use Rattle.laws.proofs.law_state.Counters.{is_counted}
use Rattle.laws.proofs.law_owners.Counts.{one, summed}
use Rattle.laws.proofs.law_sound.Turns.{Turn, start, act}
use Rattle.laws.proofs.law_sound.Gifts.{Gives, draws, arms, seeks, fills}
use Rattle.laws.proofs.law_state.JournalCourses.{next_course, courses_after}
use Rattle.laws.proofs.law_sound.Steadies.{locking_command}
use Rattle.laws.proofs.law_sound.Along.{Stepped, OfWorker, packet, done, reap}

-- a thread with a stamp, and one whose command is done but for its answer
abbrev pub stamped : Course → ℕ
stamped c = one (is_some c.stamp)

abbrev pub is_made : Course → ℕ
is_made c = one c.made

-- the number of entries pays for them twice, but for those that aren't answered yet
pub record Drawn (n : ℕ) (s : State) : Type 0 where
  pub stamps : 2 * s.last_stamp ≤ n + summed stamped s.courses
  pub jobs : (ctx : ℕ) → (ctx ≡ 0 → ⊥) → 2 * last_number s.last_jobs ctx ≤ n + summed is_made s.courses

-- ---- one course changes

one_most : (q : Bool) → one q ≤ 1
one_most true = omega arith
one_most false = omega arith

set_sum : (f : Course → ℕ) (xs : List Course) (i : ℕ) (x v : Course) → slice_get xs i ≡ Some x → summed f (slice_set xs i v) + f x ≡ summed f xs + f v
set_sum f [] i x v e = cc
set_sum f (y ∷ xs) zero x v e = let same : f y ≡ f x = (let z : y ≡ x = cc in ap f z) in omega (arith, same)
set_sum f (y ∷ xs) (suc i) x v e = let rest = set_sum f xs i x v e in omega (arith, rest)

course_there : (s : State) (t : ℕ) → IsSome (course_of s t) → slice_get s.courses (t - 1) ≡ Some (course s t)
course_there s t here = by (t == 0) here
  where
    known : (o : Option Course) → IsSome o → (d : Course) → o ≡ Some (unwrap_or o d)
    known (Some c) h d = refl
    known None h d = cc

    by : (q : Bool) → IsSome (if q then None else slice_get s.courses (t - 1)) → slice_get s.courses (t - 1) ≡ Some (unwrap_or (if q then None else slice_get s.courses (t - 1)) (new_course 0))
    by true h = cc
    by false h = known (slice_get s.courses (t - 1)) h (new_course 0)

-- the courses of a thread that is there
set_there : (courses : List Course) (t : ℕ) (c : Course) → IsSome (if t == 0 then None else slice_get courses (t - 1)) → with_course courses t c ≡ slice_set courses (t - 1) c
set_there courses t c here = by (t == 0) here
  where
    by : (q : Bool) → IsSome (if q then None else slice_get courses (t - 1)) → (if q then courses else slice_set courses (t - 1) c) ≡ slice_set courses (t - 1) c
    by true h = cc
    by false h = refl

sum_after : (f : Course → ℕ) (script : Script) (s : State) (t : ℕ) (k : Kind) → IsSome (course_of s t) →
    summed f (applied script s (actor.Thread t) k).courses + f (course s t) ≡ summed f s.courses + f (next_course script s t k)
sum_after f script s t k here =
    ⊎_elim
    (λ e. ap (λ cs. summed f cs + f (course s t)) (e ∙ set_there s.courses t (next_course script s t k) here) ∙ set_sum f s.courses (t - 1) (course s t) (next_course script s t k) (course_there s t here))
    (λ e. ap (λ cs. summed f cs + f (course s t)) e.0 ∙ ap (λ c. summed f s.courses + f c) (sym e.1))
    (courses_after script s t k)

-- ---- a ticket, and a job

module _ (script : Script) (s : State) (c : Course) (cmd : Command) where
  ticket_first : (x : Task) (stamp : Stamp) → Turn script s c cmd x → Gives script s c cmd x (kind.Ticket stamp) → c.stamp ≡ None
  ticket_first x stamp (start m q) (draws l) = locking_command c cmd q l
  ticket_first x stamp turn (seeks k) = elim k [ ]
  ticket_first x stamp turn (fills k) = elim k [ ]

  arm_first : (x : Task) (engine n : ℕ) → Turn script s c cmd x → Gives script s c cmd x (kind.Arm engine n) → c.made ≡ false
  arm_first x engine n (act on a f u) (arms ops e) = on.works.unmade
  arm_first x engine n turn (seeks k) = elim k [ ]
  arm_first x engine n turn (fills k) = elim k [ ]

set_last : (last : List ℕ) (engine n ctx : ℕ) → (last_number (slice_set last engine n) ctx ≡ last_number last ctx) ⊎ ((engine ≡ ctx) × (last_number (slice_set last engine n) ctx ≡ n))
set_last last engine n ctx = ⊎_elim (λ e. inl (ap (λ o. unwrap_or o 0) e)) (λ e. inr (e.0, ap (λ o. unwrap_or o 0) e.1)) (set_at last engine ctx n)

-- ---- each entry

module _ (script : Script) (n : ℕ) (s : State) (t : ℕ) (d : Drawn n s) where
  abbrev Sums : Kind → Type 0
  Sums k = (summed stamped s.courses ≤ summed stamped (applied script s (actor.Thread t) k).courses + 1) × (summed is_made s.courses ≤ summed is_made (applied script s (actor.Thread t) k).courses + 1)

  sums : (k : Kind) → IsSome (course_of s t) → Sums k
  sums k here =
      let a = sum_after stamped script s t k here in
      let b = sum_after is_made script s t k here in
      let p = one_most (is_some (course s t).stamp) in
      let q = one_most (course s t).made in
      (omega (arith, a, p), omega (arith, b, q))

  -- no number is drawn
  same : (k : Kind) → (applied script s (actor.Thread t) k).last_stamp ≡ s.last_stamp → (applied script s (actor.Thread t) k).last_jobs ≡ s.last_jobs → Sums k → Drawn (n + 1) (applied script s (actor.Thread t) k)
  same k a b h =
      let l = h.0 in
      let m = h.1 in
      let old = d.stamps in
      record {
        stamps = omega (arith, a, l, old);
        jobs = λ ctx ne. (let e : last_number (applied script s (actor.Thread t) k).last_jobs ctx ≡ last_number s.last_jobs ctx = ap (λ last. last_number last ctx) b in let o = d.jobs ctx ne in omega (arith, e, m, o));
      }

  ticket : (stamp : Stamp) → IsSome (course_of s t) → (course s t).stamp ≡ None → stamp.0 ≡ s.last_stamp + 1 → Drawn (n + 1) (applied script s (actor.Thread t) (kind.Ticket stamp))
  ticket stamp here none e =
      let a = sum_after stamped script s t (kind.Ticket stamp) here in
      let was : stamped (course s t) ≡ 0 = ap (λ o. one (is_some o)) none in
      let old = d.stamps in
      let m = (sums (kind.Ticket stamp) here).1 in
      record {
        stamps = omega (arith, a, was, old, e);
        jobs = λ ctx ne. (let o = d.jobs ctx ne in omega (arith, m, o));
      }

  job : (engine m : ℕ) → IsSome (course_of s t) → (course s t).made ≡ false → m ≡ next_job s engine → Drawn (n + 1) (applied script s (actor.Thread t) (kind.Arm engine m))
  job engine m here unmade e =
      let b = sum_after is_made script s t (kind.Arm engine m) here in
      let was : is_made (course s t) ≡ 0 = ap one unmade in
      let old = d.stamps in
      let l = (sums (kind.Arm engine m) here).0 in
      record {
        stamps = omega (arith, l, old);
        jobs = λ ctx ne.
            let o = d.jobs ctx ne in
            ⊎_elim
            (λ k. omega (arith, b, was, o, k))
            (λ k. let mine : last_number s.last_jobs engine ≡ last_number s.last_jobs ctx = ap (last_number s.last_jobs) k.0 in let new : last_number (slice_set s.last_jobs engine m) ctx ≡ m = k.1 in omega (arith, b, was, o, mine, new, e))
            (set_last s.last_jobs engine m ctx);
      }

  move : (k : Kind) (m : ℕ) → (applied script s (actor.Thread t) k).last_stamp ≡ s.last_stamp → (applied script s (actor.Thread t) k).last_jobs ≡ slice_set s.last_jobs 0 m → Sums k → Drawn (n + 1) (applied script s (actor.Thread t) k)
  move k m a b h =
      let l = h.0 in
      let u = h.1 in
      let old = d.stamps in
      record {
        stamps = omega (arith, a, l, old);
        jobs = λ ctx ne.
            let o = d.jobs ctx ne in
            let e : last_number (applied script s (actor.Thread t) k).last_jobs ctx ≡ last_number (slice_set s.last_jobs 0 m) ctx = ap (λ last. last_number last ctx) b in
            ⊎_elim (λ k. let q : last_number (slice_set s.last_jobs 0 m) ctx ≡ last_number s.last_jobs ctx = k in omega (arith, e, q, u, o)) (λ k. absurd (ne (sym k.0))) (set_last s.last_jobs 0 m ctx);
      }

  pub drawn_keeps : (k : Kind) → Stepped script s t k → is_counted s k ≡ true → Drawn (n + 1) (applied script s (actor.Thread t) k)
  drawn_keeps (kind.Ticket stamp) st q = ticket stamp st.here (ticket_first script s (course s t) st.step.cmd st.step.task stamp st.turn st.gives) (eqb-true stamp.0 (s.last_stamp + 1) q)
  drawn_keeps (kind.Reserve b) st q = same (kind.Reserve b) refl refl (sums (kind.Reserve b) st.here)
  drawn_keeps (kind.Backoff b stamp) st q = same (kind.Backoff b stamp) refl refl (sums (kind.Backoff b stamp) st.here)
  drawn_keeps (kind.New b) st q = same (kind.New b) refl refl (sums (kind.New b) st.here)
  drawn_keeps (kind.Free b g) st q = same (kind.Free b g) refl refl (sums (kind.Free b g) st.here)
  drawn_keeps (kind.Take b mem spans) st q = same (kind.Take b mem spans) refl refl (sums (kind.Take b mem spans) st.here)
  drawn_keeps (kind.Untake b mem) st q = same (kind.Untake b mem) refl refl (sums (kind.Untake b mem) st.here)
  drawn_keeps (kind.Populate b page f) st q = same (kind.Populate b page f) refl refl (sums (kind.Populate b page f) st.here)
  drawn_keeps (kind.SwapIn b page slot f) st q = same (kind.SwapIn b page slot f) refl refl (sums (kind.SwapIn b page slot f) st.here)
  drawn_keeps (kind.Depopulate b) st q = same (kind.Depopulate b) refl refl (sums (kind.Depopulate b) st.here)
  drawn_keeps (kind.Bind b) st q = same (kind.Bind b) refl refl (sums (kind.Bind b) st.here)
  drawn_keeps (kind.Unbind b) st q = same (kind.Unbind b) refl refl (sums (kind.Unbind b) st.here)
  drawn_keeps (kind.Move b mem m l) st q = move (kind.Move b mem m l) m refl refl (sums (kind.Move b mem m l) st.here)
  drawn_keeps (kind.Catch b w) st q = same (kind.Catch b w) refl refl (sums (kind.Catch b w) st.here)
  drawn_keeps (kind.Loose b) st q = same (kind.Loose b) refl refl (sums (kind.Loose b) st.here)
  drawn_keeps (kind.Skip b) st q = same (kind.Skip b) refl refl (sums (kind.Skip b) st.here)
  drawn_keeps (kind.Dry b k w) st q = same (kind.Dry b k w) refl refl (sums (kind.Dry b k w) st.here)
  drawn_keeps (kind.SwapOut b page slot) st q = same (kind.SwapOut b page slot) refl refl (sums (kind.SwapOut b page slot) st.here)
  drawn_keeps (kind.NoPages b) st q = same (kind.NoPages b) refl refl (sums (kind.NoPages b) st.here)
  drawn_keeps (kind.Arm engine m) st q = job engine m st.here (arm_first script s (course s t) st.step.cmd st.step.task engine m st.turn st.gives) (eqb-true m (next_job s engine) q)
  drawn_keeps (kind.Packet m k piece) st q = same (kind.Packet m k piece) refl refl (sums (kind.Packet m k piece) st.here)
  drawn_keeps (kind.Done m) st q = same (kind.Done m) refl refl (sums (kind.Done m) st.here)
  drawn_keeps (kind.Reap g) st q = same (kind.Reap g) refl refl (sums (kind.Reap g) st.here)
  drawn_keeps (kind.Bulk group) st q = same (kind.Bulk group) refl refl (sums (kind.Bulk group) st.here)
  drawn_keeps (kind.Result r) st q = same (kind.Result r) refl refl (sums (kind.Result r) st.here)
  drawn_keeps (kind.Refused e) st q = same (kind.Refused e) refl refl (sums (kind.Refused e) st.here)

pub drawn_stays : (script : Script) (n : ℕ) (s : State) (who : Actor) (k : Kind) → OfWorker k → Drawn n s → Drawn (n + 1) (applied script s who k)
drawn_stays script n s who k packet d = let old = d.stamps in record { stamps = omega (arith, old); jobs = λ ctx ne. (let o = d.jobs ctx ne in omega (arith, o)) }
drawn_stays script n s who k done d = let old = d.stamps in record { stamps = omega (arith, old); jobs = λ ctx ne. (let o = d.jobs ctx ne in omega (arith, o)) }
drawn_stays script n s who k reap d = let old = d.stamps in record { stamps = omega (arith, old); jobs = λ ctx ne. (let o = d.jobs ctx ne in omega (arith, o)) }

first_number : (n ctx : ℕ) → last_number (replicate n 0) ctx ≡ 0
first_number zero ctx = refl
first_number (suc n) zero = refl
first_number (suc n) (suc ctx) = first_number n ctx

pub drawn_first : (script : Script) → Drawn 0 (first_state script)
drawn_first script = record { stamps = omega arith; jobs = λ ctx ne. (let zeros = first_number (script.sizes.engines + 1) ctx in omega (arith, zeros)) }

-- no more than there are threads
pub few_of : (f : Course → Bool) (cs : List Course) → summed (λ c. one (f c)) cs ≤ length cs
few_of f [] = omega arith
few_of f (c ∷ cs) = let rest = few_of f cs in let here = one_most (f c) in omega (arith, rest, here)
