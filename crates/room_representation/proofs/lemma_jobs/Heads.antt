-- The head of a context: what a packet or an end tells of it, and where it stands in its ring.
use Rattle.std.proofs.Common.{◌≡◌, ℕ, zero, suc, ◌<◌, ◌≤◌, Bool, true, false, List, [], ◌∷◌, Option, Some, None, Result, Ok, Err, IsSome, refl, sym, ◌∙◌, ap, subst, arith, length}
use Rattle.std.specs.Prelude.{◌==◌, ◌&&◌, not, nat_lt, option_map, option_and_then, slice_get}
use Rattle.std.proofs.lemmas.Bool.Decides.{nat_tests}
use Rattle.ttm_base.specs.declared.Actor.TheVariants as actor
use Rattle.ttm_base.specs.declared.JobId.{JobId}
use Rattle.ttm_base.specs.declared.Need.{Need}
use Rattle.ttm_base.specs.declared.Need.TheVariants as need
use Rattle.copy_engine.specs.Pushes as pushes
use Rattle.copy_engine.specs.Pushes.{Pushed, ring_of, next_of, packet_of}
use Rattle.journal_model.specs.declared.script.Script.{Script}
use Rattle.journal_model.specs.declared.entry.Kind.{Kind}
use Rattle.journal_model.specs.declared.entry.Kind.TheVariants as kind
use Rattle.journal_model.specs.declared.state.Job.{Job}
use Rattle.journal_model.specs.declared.state.State.{State}
use Rattle.journal_model.specs.rules.Next.{next, head_of, step_of_job}
use Rattle.journal_model.specs.rules.PageSteps.{unless_waiting}
use Rattle.journal_model.specs.rules.Search.{Step}
use Rattle.journal_model.specs.rules.Waits.{waited_for}
use Rattle.laws.specs.law_jobs.JobLines.{unfinished_of}
use Rattle.room_representation.specs.RingJobs.{IsPushed, IsRing, AreRings}
use Rattle.room_representation.proofs.lemma_jobs.Lists.{find_is}

-- the head of a context, by its number
pub record IsHead (jobs : List Job) (e n : ℕ) (j : Job) : Type 0 where
  pub first : slice_get (unfinished_of e jobs) 0 ≡ Some j
  pub num : j.id.num ≡ n

-- a job that ends is the head, and its packets have run
pub record IsEnd (s : State) (e n : ℕ) : Type 0 where
  pub job : Job
  pub head : IsHead s.core.jobs e n job
  pub over : length job.packets ≤ job.ran

-- a packet that runs is the head's next one, and nothing is waited for
pub record IsRun (s : State) (e n k : ℕ) : Type 0 where
  pub job : Job
  pub head : IsHead s.core.jobs e n job
  pub ran : k ≡ job.ran
  pub left : job.ran < length job.packets
  pub free : waited_for s.core job.waits ≡ None

first_is : (s : State) (e : ℕ) (j : Job) → head_of s e ≡ Some j → slice_get (unfinished_of e s.core.jobs) 0 ≡ Some j
first_is s e j h = sym (find_is (λ x. (x.id.ctx == e) && not x.finished) s.core.jobs) ∙ h

-- what the end of a job tells
pub end_of : (script : Script) (s : State) (e n : ℕ) → next script s (actor.Engine e) ≡ Ok (kind.Done n) → IsEnd s e n
end_of script s e n h = by (head_of s e) refl h
  where
    by_job : (j : Job) → head_of s e ≡ Some j → (b : Bool) → nat_lt j.ran (length j.packets) ≡ b → step_of_job s j ≡ Ok (kind.Done n) → IsEnd s e n
    by_job j q true r h = absurd (busy (waited_for s.core j.waits) (let g : unless_waiting (waited_for s.core j.waits) (kind.Packet j.id.num j.ran []) ≡ Ok (kind.Done n) = rw (r, step_of_job) at h in g))
      where
        busy : (o : Option JobId) → unless_waiting o (kind.Packet j.id.num j.ran []) ≡ Ok (kind.Done n) → ⊥
        busy None h = cc
        busy (Some i) h = cc
    by_job j q false r h =
        let num : j.id.num ≡ n = (let x : Result Kind Need = Ok (kind.Done j.id.num) in let g : x ≡ Ok (kind.Done n) = rw (r, step_of_job) at h in cc) in
        record { job = j; head = record { first = first_is s e j q; num = num }; over = not_less j.ran (length j.packets) r }
      where
        not_less : (x y : ℕ) → nat_lt x y ≡ false → y ≤ x
        not_less x y h = grind (arith, nat_tests)

    by : (o : Option Job) → head_of s e ≡ o → ◌≡◌ {A = Step} (elim o [ None ↦ Err need.NoJob | Some j ↦ step_of_job s j ]) (Ok (kind.Done n)) → IsEnd s e n
    by None q h = cc
    by (Some j) q h = by_job j q (nat_lt j.ran (length j.packets)) refl h

-- what a packet tells
pub run_of : (script : Script) (s : State) (e n k : ℕ) (piece : List ℕ) → next script s (actor.Engine e) ≡ Ok (kind.Packet n k piece) → IsRun s e n k
run_of script s e n k piece h = by (head_of s e) refl h
  where
    by_wait : (j : Job) → head_of s e ≡ Some j → j.ran < length j.packets → (o : Option JobId) → waited_for s.core j.waits ≡ o → unless_waiting o (kind.Packet j.id.num j.ran []) ≡ Ok (kind.Packet n k piece) → IsRun s e n k
    by_wait j q l None w h = let num : j.id.num ≡ n = cc in let at : j.ran ≡ k = cc in record { job = j; head = record { first = first_is s e j q; num = num }; ran = sym at; left = l; free = w }
    by_wait j q l (Some i) w h = cc

    by_job : (j : Job) → head_of s e ≡ Some j → (b : Bool) → nat_lt j.ran (length j.packets) ≡ b → step_of_job s j ≡ Ok (kind.Packet n k piece) → IsRun s e n k
    by_job j q true r h =
        let g : unless_waiting (waited_for s.core j.waits) (kind.Packet j.id.num j.ran []) ≡ Ok (kind.Packet n k piece) = rw (r, step_of_job) at h in
        by_wait j q (less j.ran (length j.packets) r) (waited_for s.core j.waits) refl g
      where
        less : (x y : ℕ) → nat_lt x y ≡ true → x < y
        less x y h = grind (arith, nat_tests)
    by_job j q false r h = let x : Result Kind Need = Ok (kind.Done j.id.num) in let g : x ≡ Ok (kind.Packet n k piece) = rw (r, step_of_job) at h in cc

    by : (o : Option Job) → head_of s e ≡ o → ◌≡◌ {A = Step} (elim o [ None ↦ Err need.NoJob | Some j ↦ step_of_job s j ]) (Ok (kind.Packet n k piece)) → IsRun s e n k
    by None q h = cc
    by (Some j) q h = by_job j q (nat_lt j.ran (length j.packets)) refl h

-- ---- the head's ring

-- the front of a ring
pub record IsFront (jobs : List Job) (last : List ℕ) (j : Job) (ps : List Pushed) : Type 0 where
  pub pushed : Pushed
  pub here : slice_get ps 0 ≡ Some pushed
  pub is : IsPushed jobs last j pushed

front_of : (jobs : List Job) (last : List ℕ) (js : List Job) (ps : List Pushed) (j : Job) → IsRing jobs last js ps → slice_get js 0 ≡ Some j → IsFront jobs last j ps
front_of jobs last [] ps j h e = cc
front_of jobs last (i ∷ js) [] j h e = absurd h
front_of jobs last (i ∷ js) (p ∷ ps) j h e = record { pushed = p; here = refl; is = subst (λ x. IsPushed jobs last x p) (let q : i ≡ j = cc in q) h.0 }

past_end : {X : Type 0} (xs : List X) (i : ℕ) → length xs ≤ i → slice_get xs i ≡ None
past_end [] i h = refl
past_end (x ∷ xs) zero h = absurd (omega (arith, h))
past_end (x ∷ xs) (suc i) h = past_end xs i (omega (arith, h))

some_at : {X : Type 0} (xs : List X) (i : ℕ) → i < length xs → IsSome (slice_get xs i)
some_at [] i h = absurd (omega (arith, h))
some_at (x ∷ xs) zero h = refl
some_at (x ∷ xs) (suc i) h = some_at xs i (omega (arith, h))

module _ (jobs : List Job) (last : List ℕ) (rings : List (List Pushed)) (h : AreRings jobs last rings) (e n : ℕ) (known : e < length last) (j : Job) (head : IsHead jobs e n j) where
  -- the ring is there
  pub ring_known : e < length rings
  ring_known = rw h.contexts known

  -- the head of the context is at the front of its ring
  pub ring_front : IsFront jobs last j (ring_of rings e)
  ring_front = front_of jobs last (unfinished_of e jobs) (ring_of rings e) j (h.each e known) head.first

  -- the ring has a head
  pub ring_head : IsSome (pushes.head_of rings e)
  ring_head = rw ring_front.here refl

  -- of which as many packets have run
  pub ring_ran : option_map (λ (p : Pushed). p.ran) (pushes.head_of rings e) ≡ Some j.ran
  ring_ran = ap (option_map (λ (p : Pushed). p.ran)) ring_front.here ∙ ap Some ring_front.is.ran

  -- and whose next packet is the job's
  pub ring_next : next_of rings e ≡ slice_get j.packets j.ran
  ring_next =
      ap (option_and_then packet_of) ring_front.here ∙ ap (λ ps. slice_get ps ring_front.pushed.ran) ring_front.is.packets ∙ ap (slice_get j.packets) ring_front.is.ran

  -- which is there where not all have run
  pub ring_left : j.ran < length j.packets → IsSome (next_of rings e)
  ring_left l = subst (λ o. IsSome o) (sym ring_next) (some_at j.packets j.ran l)

  -- none is left once all have run
  pub ring_over : length j.packets ≤ j.ran → next_of rings e ≡ None
  ring_over l = ring_next ∙ past_end j.packets j.ran l
