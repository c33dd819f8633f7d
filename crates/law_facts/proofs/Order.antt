-- Jobs are done in their order, and wait for jobs that were emitted before them.
use Rattle.std.proofs.Common.{◌≡◌, ℕ, ◌<◌, zero, suc, Bool, true, false, List, [], ◌∷◌, Some, IsTrue, take, refl, sym, subst, ◌∙◌, ap, arith, ⊎_elim}
use Rattle.std.specs.Prelude.{Contains, slice_get, not, nat_le}
use Rattle.std.specs.List.{list_any, list_all}
use Rattle.std.proofs.lemmas.Bool.{and_parts, or_cases}
use Rattle.std.proofs.lemmas.Bool.Decides.{nat_tests}
use Rattle.ttm_base.specs.declared.JobId.{JobId}
use Rattle.journal_model.specs.declared.script.Script.{Script}
use Rattle.journal_model.specs.declared.entry.Entry.{Entry}
use Rattle.journal_model.specs.declared.state.Core.{Core}
use Rattle.journal_model.specs.declared.state.Job.{Job}
use Rattle.journal_model.specs.scripts.ScriptRules.{is_script}
use Rattle.journal_model.specs.rules.Legal.{state_of, IsLegal}
use Rattle.journal_model.specs.rules.Waits.{same_job}
use Rattle.journal_model.specs.statements.After.{ComesAfter, by_context, by_wait, through}
use Rattle.law_facts.specs.Facts.{LegalJobsAreInOrder}
use Rattle.laws.specs.law_sound.Sound.{waits_for_none_of, WaitsGoBack, is_among, waits_for_some_of}
use Rattle.laws.specs.law_jobs.JobLines.{done_of}
use Rattle.laws.proofs.law_state.JobsKeep.{all_at}
use Rattle.laws.proofs.law_sound.Along.{sound_law}
use Rattle.laws.proofs.law_jobs.Law.{line_law}
use Rattle.laws.proofs.lemma_bytes_model.Actions.{or_first, or_second}
use Rattle.laws.proofs.lemma_bytes_view.Jobs.{same_job-true, same_job-refl}
use Rattle.laws.proofs.law_spares.Law as spares
use Rattle.law_facts.proofs.Jobs.{at_of, among_of}

-- ---- waits go back

no_not : (a : Bool) → not a ≡ true → a ≡ true → ⊥
no_not true e f = cc
no_not false e f = cc

any_at : (p : Job → Bool) (js : List Job) (n : ℕ) (x : Job) → slice_get js n ≡ Some x → p x ≡ true → list_any p js ≡ true
any_at p [] n x e t = cc
any_at p (y ∷ js) zero x e t = let same : y ≡ x = cc in or_first (p y) (list_any p js) (ap p same ∙ t)
any_at p (y ∷ js) (suc n) x e t = or_second (p y) (list_any p js) (any_at p js n x e t)

pub record Passing (p : Job → Bool) (js : List Job) : Type 0 where
  pub at : ℕ
  pub job : Job
  pub here : slice_get js at ≡ Some job
  pub passes : p job ≡ true

pub passing : (p : Job → Bool) (js : List Job) → list_any p js ≡ true → Passing p js
passing p [] h = cc
passing p (y ∷ js) h =
    ⊎_elim
    (λ e. record { at = 0; job = y; here = refl; passes = e })
    (λ e. let r = passing p js e in record { at = suc r.at; job = r.job; here = r.here; passes = r.passes })
    (or_cases (p y) (list_any p js) h)

-- none of these names is that of a job of the list
none_waits : (ids : List JobId) (js : List Job) (n : ℕ) (x : Job) → list_all (λ i. not (list_any (λ h. same_job i h.id) js)) ids ≡ true → slice_get js n ≡ Some x → list_any (same_job x.id) ids ≡ true → ⊥
none_waits [] js n x h e w = cc
none_waits (i ∷ ids) js n x h e w =
    let parts = and_parts (not (list_any (λ h. same_job i h.id) js)) (list_all (λ i. not (list_any (λ h. same_job i h.id) js)) ids) h in
    ⊎_elim
    (λ s. no_not (list_any (λ h. same_job i h.id) js) parts.0 (any_at (λ h. same_job i h.id) js n x e (subst (λ k. same_job k x.id ≡ true) (same_job-true x.id i s) (same_job-refl x.id))))
    (λ s. none_waits ids js n x parts.1 e s)
    (or_cases (same_job x.id i) (list_any (same_job x.id) ids) w)

-- a job that is waited for was emitted before
pub goes_back : (js : List Job) (m n : ℕ) (y x : Job) → WaitsGoBack js → slice_get js m ≡ Some y → slice_get js n ≡ Some x → list_any (same_job x.id) y.waits ≡ true → n < m
goes_back [] m n y x g e f w = cc
goes_back (z ∷ js) zero n y x g e f w = let same : z ≡ y = cc in absurd (none_waits y.waits (z ∷ js) n x (ap (waits_for_none_of (z ∷ js)) (sym same) ∙ g.0) f w)
goes_back (z ∷ js) (suc m) zero y x g e f w = omega arith
goes_back (z ∷ js) (suc m) (suc n) y x g e f w = let l = goes_back js m n y x g.1 e f w in omega (arith, l)

any_before : (p : Job → Bool) (js : List Job) (m n : ℕ) (x : Job) → slice_get js m ≡ Some x → m < n → p x ≡ true → list_any p (take n js) ≡ true
any_before p [] m n x e l t = cc
any_before p (y ∷ js) m zero x e l t = absurd (omega (arith, l))
any_before p (y ∷ js) zero (suc n) x e l t = let same : y ≡ x = cc in or_first (p y) (list_any p (take n js)) (ap p same ∙ t)
any_before p (y ∷ js) (suc m) (suc n) x e l t = or_second (p y) (list_any p (take n js)) (any_before p js m n x e (omega (arith, l)) t)

-- ---- order

below : (a b d : ℕ) → a < b → nat_le b d ≡ true → nat_le a d ≡ true
below a b d l h = grind (arith, nat_tests)

module _ (script : Script) (fits : IsTrue (is_script script)) (journal : List Entry) (legal : IsLegal script journal) where
  abbrev c : Core
  c = (state_of script journal).core

  back : WaitsGoBack (state_of script journal).core.jobs
  back = (sound_law script journal fits legal).jobs.waits_back

  -- what is waited for is done once the job has run a packet
  pub waits_done : (m n : ℕ) (j i : Job) → slice_get (state_of script journal).core.jobs m ≡ Some j → slice_get (state_of script journal).core.jobs n ≡ Some i → list_any (same_job i.id) j.waits ≡ true → j.finished ≡ true → i.finished ≡ true
  waits_done m n j i e f w d =
      let less = goes_back (state_of script journal).core.jobs m n j i back e f w in
      (spares.carried script fits journal legal).order n m i j less f e w (spares.begun script fits journal legal m j e d)

  pub done_after : (j i : Job) → ComesAfter (state_of script journal).core.jobs j i → j.finished ≡ true → i.finished ≡ true
  done_after j i (by_context cj ci e less) d =
      let aj = at_of j (state_of script journal).core.jobs cj in
      let ai = at_of i (state_of script journal).core.jobs ci in
      let line = line_law script journal j.id.ctx fits legal in
      line.finished ai.0 i ai.1 e ∙ below i.id.num j.id.num (done_of j.id.ctx (state_of script journal).core.jobs) less (sym (line.finished aj.0 j aj.1 refl) ∙ d)
  done_after j i (by_wait cj ci w) d =
      let aj = at_of j (state_of script journal).core.jobs cj in
      let ai = at_of i (state_of script journal).core.jobs ci in
      waits_done aj.0 ai.0 j i aj.1 ai.1 w d
  done_after j i (through {k} a b) d = done_after k i b (done_after j k a d)

  pub earlier : (n : ℕ) (j : Job) (i : JobId) → slice_get (state_of script journal).core.jobs n ≡ Some j → Contains j.waits i → list_any (λ k. same_job i k.id) (take n (state_of script journal).core.jobs) ≡ true
  earlier n j i e h =
      let w = at_of i j.waits h in
      let known = all_at (waits_for_some_of (state_of script journal).core.jobs) (state_of script journal).core.jobs n j (sound_law script journal fits legal).jobs.waits_known e in
      let here : is_among (state_of script journal).core.jobs i ≡ true = all_at (is_among (state_of script journal).core.jobs) j.waits w.0 i known w.1 in
      let r = passing (λ k. same_job i k.id) (state_of script journal).core.jobs here in
      let name : i ≡ r.job.id = same_job-true i r.job.id r.passes in
      let less = goes_back (state_of script journal).core.jobs n r.at j r.job back e r.here (subst (λ k. list_any (same_job k) j.waits ≡ true) name (among_of j.waits w.0 i w.1)) in
      any_before (λ k. same_job i k.id) (state_of script journal).core.jobs r.at n r.job r.here less r.passes

pub order_law : LegalJobsAreInOrder
order_law script journal fits legal = record { done = done_after script fits journal legal; waits = earlier script fits journal legal }
