-- No ring has a job exactly where every job is done, so a journal is complete exactly where the parts say so.
use Rattle.std.proofs.Common.{◌≡◌, ℕ, zero, suc, ◌+◌, ◌-◌, ◌<◌, ◌≤◌, Bool, true, false, List, [], ◌∷◌, Some, length, refl, sym, ◌∙◌, ap, ap₂, arith}
use Rattle.std.specs.Prelude.{◌==◌, ◌&&◌, not, is_none, slice_get, drop}
use Rattle.std.specs.List.{list_all}
use Rattle.std.proofs.lemmas.Bool.{and_parts}
use Rattle.std.proofs.lemmas.Bool.Decides.{nat_tests}
use Rattle.ttm_base.specs.ListWords.{count_from}
use Rattle.copy_engine.specs.Pushes.{Pushed, ring_of}
use Rattle.journal_model.specs.declared.script.Script.{Script}
use Rattle.journal_model.specs.declared.entry.Entry.{Entry}
use Rattle.journal_model.specs.declared.state.Course.{Course}
use Rattle.journal_model.specs.declared.state.Ghost as state
use Rattle.journal_model.specs.declared.state.Job.{Job}
use Rattle.journal_model.specs.statements.Complete.{is_complete, thread_numbers}
use Rattle.journal_model.specs.rules.Legal.{state_of}
use Rattle.laws.proofs.law_state.Counted.{over_law}
use Rattle.laws.specs.law_jobs.JobLines.{unfinished_of}
use Rattle.laws.proofs.law_state.GoodStates.{good_law}
use Rattle.room_representation.specs.declared.parts.Parts.{Parts}
use Rattle.room_representation.specs.declared.parts.Ghost.{Ghost}
use Rattle.room_representation.specs.Ghosts.{AreGhosts}
use Rattle.room_representation.specs.Held.{AreHeld}
use Rattle.room_representation.specs.RingJobs.{IsRing}
use Rattle.room_queries.specs.Ends.{answered_in, is_empty}

-- the numbers that are left, the first of them in front
pub numbers_left : (n i m : ℕ) → i < n → count_from 1 (n - i) m ≡ m ∷ count_from 1 (n - (i + 1)) (m + 1)
numbers_left n i m h =
    let more : n - i ≡ suc (n - (i + 1)) = omega (arith, h) in
    let next : 1 + m ≡ m + 1 = omega arith in
    ap (λ k. count_from 1 k m) more ∙ ap (λ k. m ∷ count_from 1 (n - (i + 1)) k) next

-- the rings that are left
pub rings_left : (rings : List (List Pushed)) (i : ℕ) → i < length rings → list_all is_empty (drop i rings) ≡ (is_none (slice_get (ring_of rings i) 0) && list_all is_empty (drop (i + 1) rings))
rings_left [] i h = absurd (omega (arith, h))
rings_left (r ∷ rings) zero h = refl
rings_left (r ∷ rings) (suc i) h =
    let more : suc (i + 1) ≡ suc i + 1 = omega arith in
    rings_left rings i (omega (arith, h)) ∙ ap (λ k. is_none (slice_get (ring_of rings i) 0) && list_all is_empty (drop k (r ∷ rings))) more

-- after all rings none is left
pub none_left : (rings : List (List Pushed)) (i : ℕ) → length rings ≤ i → list_all is_empty (drop i rings) ≡ true
none_left [] zero h = refl
none_left [] (suc i) h = refl
none_left (r ∷ rings) zero h = absurd (omega (arith, h))
none_left (r ∷ rings) (suc i) h = none_left rings i (omega (arith, h))

-- ---- jobs that are done

-- a job of the context that isn't done
abbrev is_left_of : ℕ → Job → Bool
is_left_of ctx j = (j.id.ctx == ctx) && not j.finished

-- where all are done, no context has one left
all_done : (ctx : ℕ) (jobs : List Job) → list_all (λ j. j.finished) jobs ≡ true → unfinished_of ctx jobs ≡ []
all_done ctx [] h = refl
all_done ctx (j ∷ jobs) h =
    let both = and_parts j.finished (list_all (λ j. j.finished) jobs) h in
    let gone : is_left_of ctx j ≡ false = over (j.id.ctx == ctx) j.finished both.0 in
    rw gone (all_done ctx jobs both.1)
  where
    over : (a b : Bool) → b ≡ true → (a && not b) ≡ false
    over true b e = ap not e
    over false b e = refl

-- where no context has one left, all are done
none_open : (n : ℕ) (jobs : List Job) → ((i : ℕ) (j : Job) → slice_get jobs i ≡ Some j → j.id.ctx < n) → ((ctx : ℕ) → ctx < n → unfinished_of ctx jobs ≡ []) → list_all (λ j. j.finished) jobs ≡ true
none_open n [] known none = refl
none_open n (j ∷ jobs) known none = by (none_open n jobs (λ i x g. known (suc i) x g)) j.finished refl
  where
    rest : j.finished ≡ true → (ctx : ℕ) → ctx < n → unfinished_of ctx jobs ≡ []
    rest e ctx l = let gone : is_left_of ctx j ≡ false = over (j.id.ctx == ctx) in sym (let same : unfinished_of ctx (j ∷ jobs) ≡ unfinished_of ctx jobs = rw gone refl in same) ∙ none ctx l
      where
        over : (a : Bool) → (a && not j.finished) ≡ false
        over true = ap not e
        over false = refl

    by : (((ctx : ℕ) → ctx < n → unfinished_of ctx jobs ≡ []) → list_all (λ j. j.finished) jobs ≡ true) → (b : Bool) → j.finished ≡ b → (b && list_all (λ j. j.finished) jobs) ≡ true
    by ih true e = ih (rest e)
    by ih false e =
        let here : is_left_of j.id.ctx j ≡ true = grind (arith, nat_tests, e) in
        let some : unfinished_of j.id.ctx (j ∷ jobs) ≡ j ∷ unfinished_of j.id.ctx jobs = rw here refl in
        let no : j ∷ unfinished_of j.id.ctx jobs ≡ [] = sym some ∙ none j.id.ctx (known 0 j refl) in
        cc

-- ---- rings without a job

-- a ring is empty exactly where no job is left
empty_ring : (all : List Job) (last : List ℕ) (js : List Job) (ps : List Pushed) → IsRing all last js ps → js ≡ [] → is_empty ps ≡ true
empty_ring all last [] [] h e = refl
empty_ring all last [] (q ∷ ps) h e = absurd h
empty_ring all last (j ∷ js) ps h e = cc

-- and no job is left where it is empty
empty_line : (all : List Job) (last : List ℕ) (js : List Job) (ps : List Pushed) → IsRing all last js ps → is_empty ps ≡ true → js ≡ []
empty_line all last [] ps h e = refl
empty_line all last (j ∷ js) [] h e = absurd h
empty_line all last (j ∷ js) (q ∷ ps) h e = cc

-- each ring is empty where all are
ring_at : (rings : List (List Pushed)) → list_all is_empty rings ≡ true → (ctx : ℕ) → ctx < length rings → is_empty (ring_of rings ctx) ≡ true
ring_at [] h ctx l = absurd (omega (arith, l))
ring_at (r ∷ rings) h zero l = (and_parts (is_empty r) (list_all is_empty rings) h).0
ring_at (r ∷ rings) h (suc ctx) l = ring_at rings (and_parts (is_empty r) (list_all is_empty rings) h).1 ctx (omega (arith, l))

-- all rings are empty where each is
all_rings : (rings : List (List Pushed)) → ((ctx : ℕ) → ctx < length rings → is_empty (ring_of rings ctx) ≡ true) → list_all is_empty rings ≡ true
all_rings [] h = refl
all_rings (r ∷ rings) h = ap₂ (λ a b. a && b) (h 0 (omega arith)) (all_rings rings (λ ctx l. h (suc ctx) (omega (arith, l))))

-- tests that hold together
same_bool : (a b : Bool) → (a ≡ true → b ≡ true) → (b ≡ true → a ≡ true) → a ≡ b
same_bool true b f g = sym (f refl)
same_bool false true f g = g refl
same_bool false false f g = refl

-- as many ghosts
as_many : (jobs : List Job) (last : List ℕ) (gs : List state.Ghost) (rs : List Ghost) → AreGhosts jobs last gs rs → length rs ≡ length gs
as_many jobs last [] [] h = refl
as_many jobs last [] (r ∷ rs) h = absurd h
as_many jobs last (g ∷ gs) [] h = absurd h
as_many jobs last (g ∷ gs) (r ∷ rs) h = ap suc (as_many jobs last gs rs h.1)

module _ (script : Script) (journal : List Entry) (p : Parts) (held : AreHeld script journal p) where
  -- no ring has a job where every job is done, and otherwise one has
  idle_is : list_all is_empty p.rings ≡ list_all (λ j. j.finished) (state_of script journal).core.jobs
  idle_is = same_bool (list_all is_empty p.rings) (list_all (λ j. j.finished) (state_of script journal).core.jobs)
      (λ e. none_open (length (state_of script journal).last_jobs) (state_of script journal).core.jobs known
      (λ ctx l. (let r = held.represents.rings.contexts in empty_line (state_of script journal).core.jobs (state_of script journal).last_jobs (unfinished_of ctx (state_of script journal).core.jobs) (ring_of p.rings ctx) (held.represents.rings.each ctx l) (ring_at p.rings e ctx (omega (arith, l, r))))))
      (λ e. all_rings p.rings
      (λ ctx l. (let r = held.represents.rings.contexts in empty_ring (state_of script journal).core.jobs (state_of script journal).last_jobs (unfinished_of ctx (state_of script journal).core.jobs) (ring_of p.rings ctx) (held.represents.rings.each ctx (omega (arith, l, r))) (all_done ctx (state_of script journal).core.jobs e))))
    where
      known : (i : ℕ) (j : Job) → slice_get (state_of script journal).core.jobs i ≡ Some j → j.id.ctx < length (state_of script journal).last_jobs
      known i j e =
          let jobs = (good_law script held.fits journal held.legal).jobs in
          let rooms = jobs.rooms in
          let low = jobs.contexts i j e in
          omega (arith, rooms, low)

  -- the three tests are those of a complete journal
  pub over_is : (list_all (answered_in script p.courses) (thread_numbers script) && list_all is_empty p.rings && (length p.ghosts == 0)) ≡ is_complete script journal
  over_is =
      ap₂ (λ (a b : Bool). a && b)
      (ap₂ (λ (a b : Bool). a && b) (ap (λ (cs : List Course). list_all (answered_in script cs) (thread_numbers script)) held.represents.courses) idle_is)
      (ap (λ n. n == 0) (as_many (state_of script journal).core.jobs (state_of script journal).last_jobs (state_of script journal).core.ghosts p.ghosts held.represents.ghosts))
      ∙ over_law script journal held.legal
