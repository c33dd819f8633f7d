-- Of each context the greatest number that entries end is how many of its jobs are done after them, as the timeline tells.
use Rattle.std.proofs.Common.{◌≡◌, ℕ, zero, suc, ◌+◌, ◌-◌, ◌<◌, ◌≤◌, Bool, true, false, cond, List, [], ◌∷◌, ◌++◌, length, Some, Ok, IsTrue, refl, sym, subst, ◌∙◌, ap, ap₂, arith, ⊎_elim}
use Rattle.std.specs.Prelude.{◌==◌, ◌&&◌, map, max, slice_get, if◌then◌else◌}
use Rattle.std.proofs.lemmas.Grind.{common_steps}
use Rattle.std.proofs.lemmas.Bool.{cases_eq, eq-eqb, ne_eqb}
use Rattle.std.proofs.lemmas.List.Sums.{fold-append, sum_by-cons, sum_by_push}
use Rattle.ttm_base.specs.ListWords.{count_from}
use Rattle.ttm_base.specs.declared.Actor.{Actor}
use Rattle.ttm_base.specs.declared.Actor.TheVariants as actor
use Rattle.ttm_base.specs.declared.JobId.{JobId}
use Rattle.fence_core.specs.declared.timeline.Progress.{Progress}
use Rattle.fence_core.specs.Timelines.{progress_of}
use Rattle.journal_model.specs.declared.script.Script.{Script}
use Rattle.journal_model.specs.declared.script.Command.{Command}
use Rattle.journal_model.specs.declared.state.State.{State}
use Rattle.journal_model.specs.declared.state.Job.{Job}
use Rattle.journal_model.specs.declared.state.Task.{Task}
use Rattle.journal_model.specs.declared.state.Task.TheVariants as task
use Rattle.journal_model.specs.declared.entry.Entry.{Entry}
use Rattle.journal_model.specs.declared.entry.Kind.{Kind}
use Rattle.journal_model.specs.declared.entry.Kind.TheVariants as kind
use Rattle.journal_model.specs.rules.State.{course}
use Rattle.journal_model.specs.scripts.ScriptRules.{is_script}
use Rattle.journal_model.specs.rules.Next.{next}
use Rattle.journal_model.specs.rules.Apply.{applied}
use Rattle.journal_model.specs.rules.ApplyJobs.{after_done, changed_job}
use Rattle.journal_model.specs.rules.Stores.{Stores, showing}
use Rattle.journal_model.specs.rules.Waits.{same_job}
use Rattle.journal_model.specs.rules.Legal.{World, state_of, world_of, IsLegal, IsLegalFrom, IsLegalNext}
use Rattle.journal_model.proofs.JournalLaws.{world_of-append, IsLegal-append}
use Rattle.laws.specs.law_state.GoodState.{last_number}
use Rattle.laws.proofs.law_state.JournalCourses.{is_of_reaper, of_reaper}
use Rattle.laws.proofs.law_state.Moves.{thread_step, is_made_by, made_by_task}
use Rattle.laws.proofs.law_state.Shown.{legal_step}
use Rattle.laws.specs.law_jobs.JobLines.{done_of as done_among, numbers_of, unfinished_of}
use Rattle.laws.proofs.law_jobs.Law.{line_law}
use Rattle.room_representation.specs.Lines.{AreInLine, IsTimeline}
use Rattle.room_representation.proofs.lemma_jobs.Heads.{IsEnd, end_of}
use Rattle.room_representation.proofs.lemma_jobs.Changed.{done_elsewhere, done_end, ended, ends_keep}
use Rattle.device_core.specs.Done.{done_by, done_of, number_done}

-- how many jobs of a context are done
abbrev done_in : ℕ → State → ℕ
done_in ctx s = done_among ctx s.core.jobs

abbrev is_done : ℕ → Job → Bool
is_done ctx j = (j.id.ctx == ctx) && j.finished

-- ---- jobs in which none is done that wasn't

-- one more, which isn't done
count_more : (ctx : ℕ) (jobs : List Job) (y : Job) → y.finished ≡ false → done_among ctx (jobs ++ y ∷ []) ≡ done_among ctx jobs
count_more ctx jobs y f =
    let more = sum_by_push (λ j. cond (is_done ctx j) 1 0) jobs y in
    let none : ◌≡◌ {A = ℕ} (cond (is_done ctx y) 1 0) 0 = ap (λ q. cond ((y.id.ctx == ctx) && q) 1 0) f ∙ never (y.id.ctx == ctx) in
    omega (arith, more, none)
  where
    never : (b : Bool) → ◌≡◌ {A = ℕ} (cond (b && false) 1 0) 0
    never true = refl
    never false = refl

-- changes that leave what is counted
count_kept : (ctx : ℕ) (g : Job → Job) → ((x : Job) → is_done ctx (g x) ≡ is_done ctx x) → (jobs : List Job) → done_among ctx (map g jobs) ≡ done_among ctx jobs
count_kept ctx g same [] = refl
count_kept ctx g same (x ∷ jobs) =
    sum_by-cons (λ j. cond (is_done ctx j) 1 0) (g x) (map g jobs)
    ∙ ap₂ (λ q n. cond q 1 0 + n) (same x) (count_kept ctx g same jobs)
    ∙ sym (sum_by-cons (λ j. cond (is_done ctx j) 1 0) x jobs)

-- a packet has run
count_ran : (ctx : ℕ) (i : JobId) (jobs : List Job) → done_among ctx (changed_job (λ j. record j { ran = j.ran + 1 }) i jobs) ≡ done_among ctx jobs
count_ran ctx i jobs = count_kept ctx (λ j. if same_job i j.id then record j { ran = j.ran + 1 } else j) (λ x. same x (same_job i x.id)) jobs
  where
    same : (x : Job) (q : Bool) → is_done ctx (if q then record x { ran = x.ran + 1 } else x) ≡ is_done ctx x
    same x true = refl
    same x false = refl

-- ---- entries that end no job

-- what such an entry tells
ends_none : (ctx : ℕ) (who : Actor) (k : Kind) → number_done k ≡ 0 → done_by ctx (record { who = who; kind = k }) ≡ 0
ends_none ctx (actor.Engine e) k h = by (e == ctx)
  where
    by : (b : Bool) → (if b then number_done k else 0) ≡ 0
    by true = h
    by false = refl
ends_none ctx (actor.Thread t) k h = refl
ends_none ctx actor.Reaper k h = refl

-- as many are done as before
stays : (ctx : ℕ) (s z : State) (who : Actor) (k : Kind) → number_done k ≡ 0 → done_in ctx z ≡ done_in ctx s → done_in ctx z ≡ max (done_in ctx s) (done_by ctx (record { who = who; kind = k }))
stays ctx s z who k none same = same ∙ unless_more (done_in ctx s) (done_by ctx (record { who = who; kind = k })) (ends_none ctx who k none)
  where
    unless_more : (n m : ℕ) → m ≡ 0 → n ≡ max n m
    unless_more n m h = grind arith

-- ---- the end of a job

-- the first of some numbers
first_number : (js : List Job) (j : Job) (k m : ℕ) → slice_get js 0 ≡ Some j → numbers_of js ≡ count_from 1 k m → (j.id.num ≡ m) × (0 < k)
first_number [] j k m h e = cc
first_number (x ∷ js) j zero m h e = cc
first_number (x ∷ js) j (suc k) m h e =
    let same : x ≡ j = cc in
    let num : x.id.num ≡ m = cc in
    (ap (λ (y : Job). y.id.num) (sym same) ∙ num, omega arith)

-- a context from which a job was emitted is there
is_there : (last : List ℕ) (ctx : ℕ) → 0 < last_number last ctx → ctx < length last
is_there [] ctx h = absurd (omega (arith, h))
is_there (n ∷ last) zero h = omega arith
is_there (n ∷ last) (suc ctx) h = let rest = is_there last ctx h in omega (arith, rest)

-- beyond those that are there, none was
none_beyond : (last : List ℕ) (ctx : ℕ) → length last ≤ ctx → last_number last ctx ≡ 0
none_beyond [] ctx h = refl
none_beyond (n ∷ last) zero h = absurd (omega (arith, h))
none_beyond (n ∷ last) (suc ctx) h = none_beyond last ctx (omega (arith, h))

-- the head of the context has the next number, and is done then
record Ends (e n before after : ℕ) : Type 0 where
  number : n ≡ before + 1
  more : after ≡ before + 1

ends_head : (s : State) → AreInLine s.last_jobs s.core.jobs → (e n : ℕ) → IsEnd s e n → Ends e n (done_in e s) (done_in e (after_done s (record { ctx = e; num = n })))
ends_head s rows e n h =
    let row = rows e in
    let first = first_number (unfinished_of e s.core.jobs) h.job (last_number s.last_jobs e - done_in e s) (done_in e s + 1) h.head.first row.unfinished in
    let left = first.1 in
    record {
      number = sym h.head.num ∙ first.0;
      more = done_end s.core.jobs s.last_jobs rows e n (is_there s.last_jobs e (omega (arith, left))) h.job h.head;
    }

-- no thread ends one
no_thread : (s : State) (cmd : Command) (t : Task) (n : ℕ) → is_made_by s cmd t (kind.Done n) ≡ true → ⊥
no_thread s cmd task.Idle n h = cc
no_thread s cmd t n h = cc

module _ (ctx : ℕ) (script : Script) (s : State) (rows : AreInLine s.last_jobs s.core.jobs) where
  -- the number of the job that ends
  abbrev Tells : Actor → Kind → Type 0
  Tells who k = done_in ctx (applied script s who k) ≡ max (done_in ctx s) (done_by ctx (record { who = who; kind = k }))

  at_end : (n before after : ℕ) → n ≡ before + 1 → after ≡ before + 1 → (b : Bool) → b ≡ true → after ≡ max before (if b then n else 0)
  at_end n before after num more true h = grind arith
  at_end n before after num more false h = cc

  elsewhere : (n before after : ℕ) → after ≡ before → (b : Bool) → b ≡ false → after ≡ max before (if b then n else 0)
  elsewhere n before after same true h = cc
  elsewhere n before after same false h = grind arith

  of_engine : (e n : ℕ) → next script s (actor.Engine e) ≡ Ok (kind.Done n) → Tells (actor.Engine e) (kind.Done n)
  of_engine e n h =
      ⊎_elim
      (λ here.
      let same : e ≡ ctx = here in
      let ends = ends_head s rows e n (end_of script s e n h) in
      at_end n (done_in ctx s) (done_in ctx (after_done s (record { ctx = e; num = n })))
      (ends.number ∙ ap (λ c. done_in c s + 1) same)
      (ap (λ c. done_in c (after_done s (record { ctx = e; num = n }))) (sym same) ∙ ends.more ∙ ap (λ c. done_in c s + 1) same)
      (e == ctx) (eq-eqb e ctx same))
      (λ other.
      let apart : e ≡ ctx → ⊥ = other in
      elsewhere n (done_in ctx s) (done_in ctx (after_done s (record { ctx = e; num = n }))) (done_elsewhere ended ends_keep e n ctx (λ o. apart (sym o)) s.core.jobs) (e == ctx) (ne_eqb e ctx apart))
      (cases_eq e ctx)

  of_end : (who : Actor) (n : ℕ) → next script s who ≡ Ok (kind.Done n) → Tells who (kind.Done n)
  of_end (actor.Engine e) n h = of_engine e n h
  of_end (actor.Thread t) n h = let st = thread_step script s t (kind.Done n) h in absurd (no_thread s st.cmd st.task n (made_by_task script s (course s t) st.cmd st.task (kind.Done n) st.step))
  of_end actor.Reaper n h = let q : is_of_reaper (kind.Done n) ≡ true = of_reaper script s (kind.Done n) h in cc

  -- each kind
  tells : (who : Actor) (k : Kind) → next script s who ≡ Ok k → Tells who k
  tells who (kind.Move b mem n l) h = stays ctx s (applied script s who (kind.Move b mem n l)) who (kind.Move b mem n l) refl (count_more ctx s.core.jobs _ refl)
  tells who (kind.Arm engine n) h = stays ctx s (applied script s who (kind.Arm engine n)) who (kind.Arm engine n) refl (count_more ctx s.core.jobs _ refl)
  tells who (kind.Packet n k piece) h = stays ctx s (applied script s who (kind.Packet n k piece)) who (kind.Packet n k piece) refl (count_ran ctx _ s.core.jobs)
  tells who (kind.Done n) h = of_end who n h
  tells who k h = stays ctx s (applied script s who k) who k refl refl

-- what an entry shows doesn't matter
shown_alike : (ctx : ℕ) (script : Script) (bytes : Stores) (s : State) (who : Actor) (k : Kind) → done_by ctx (record { who = who; kind = showing script bytes s who k }) ≡ done_by ctx (record { who = who; kind = k })
shown_alike ctx script bytes s who (kind.Result r) = refl
shown_alike ctx script bytes s who (kind.Packet n k piece) = refl
shown_alike ctx script bytes s who k = refl

-- ---- along a journal

module _ (script : Script) (fits : IsTrue (is_script script)) (ctx : ℕ) where
  rows_of : (journal : List Entry) → IsLegal script journal → AreInLine (state_of script journal).last_jobs (state_of script journal).core.jobs
  rows_of journal legal = λ c. line_law script journal c fits legal

  one_more : (journal : List Entry) (e : Entry) → IsLegal script journal → IsLegalNext script (world_of script journal) e → done_in ctx (state_of script (journal ++ e ∷ [])) ≡ max (done_in ctx (state_of script journal)) (done_by ctx e)
  one_more journal e legal may =
      let w = world_of script journal in
      let l = legal_step script w e may in
      ap (λ (v : World). done_in ctx v.state) (world_of-append script journal e)
      ∙ ap (done_in ctx) l.state
      ∙ tells ctx script w.state (rows_of journal legal) e.who l.kind l.step
      ∙ ap (max (done_in ctx w.state)) (sym (ap (done_by ctx) l.entry ∙ shown_alike ctx script w.stores w.state e.who l.kind))

  along : (before es : List Entry) → IsLegal script before → IsLegalFrom script (world_of script before) es → done_in ctx (state_of script before) ≡ done_of before ctx →
      done_in ctx (state_of script (before ++ es)) ≡ done_of (before ++ es) ctx
  along before [] legal rest h = subst (λ js. done_in ctx (state_of script js) ≡ done_of js ctx) (let nil : before ≡ before ++ [] = grind (arith, common_steps) in nil) h
  along before (e ∷ es) legal rest h =
      let more = before ++ e ∷ [] in
      let joined : more ++ es ≡ before ++ e ∷ es = grind (arith, common_steps) in
      let grown : done_in ctx (state_of script more) ≡ done_of more ctx =
      one_more before e legal rest.0 ∙ ap (λ n. max n (done_by ctx e)) h ∙ sym (fold-append (λ n f. max n (done_by ctx f)) 0 before (e ∷ [])) in
      subst (λ js. done_in ctx (state_of script js) ≡ done_of js ctx) joined
      (along more es (IsLegal-append script before e legal rest.0) (subst (λ w. IsLegalFrom script w es) (sym (world_of-append script before e)) rest.1) grown)

  done_law : (journal : List Entry) → IsLegal script journal → done_in ctx (state_of script journal) ≡ done_of journal ctx
  done_law journal legal = along [] journal tt legal refl

  -- the timeline tells it
  pub reached_is : (journal : List Entry) → IsLegal script journal → (timeline : List Progress) → IsTimeline (state_of script journal).core.jobs (state_of script journal).last_jobs timeline → ctx < length timeline →
      (progress_of timeline ctx).done ≡ done_of journal ctx
  reached_is journal legal timeline h known =
      let same = h.contexts in
      ap (λ (p : Progress). p.done) (h.each ctx (omega (arith, same, known))) ∙ done_law journal legal

  -- of a context that isn't there nothing is done
  pub reached_none : (journal : List Entry) → IsLegal script journal → (timeline : List Progress) → IsTimeline (state_of script journal).core.jobs (state_of script journal).last_jobs timeline → length timeline ≤ ctx →
      0 ≡ done_of journal ctx
  reached_none journal legal timeline h beyond =
      let same = h.contexts in
      let row = rows_of journal legal ctx in
      let within = row.within in
      let none = none_beyond (state_of script journal).last_jobs ctx (omega (arith, same, beyond)) in
      let zero_done : 0 ≡ done_in ctx (state_of script journal) = omega (arith, within, none) in
      zero_done ∙ done_law journal legal
