-- When a job comes after another, by their places among the jobs.
use Rattle.std.proofs.Common.{◌≡◌, ℕ, ◌<◌, true, List, Some, IsTrue, refl, sym, subst, ◌∙◌, ap, arith, ⊎_elim}
use Rattle.std.specs.Prelude.{slice_get}
use Rattle.std.specs.List.{list_any}
use Rattle.std.proofs.lemmas.Bool.{cases_lt}
use Rattle.journal_model.specs.declared.script.Script.{Script}
use Rattle.journal_model.specs.declared.entry.Entry.{Entry}
use Rattle.journal_model.specs.declared.state.Job.{Job}
use Rattle.ttm_base.specs.declared.JobId.{JobId}
use Rattle.journal_model.specs.scripts.ScriptRules.{is_script}
use Rattle.journal_model.specs.rules.Waits.{same_job}
use Rattle.journal_model.specs.statements.After.{ComesAfter, by_context, by_wait, through}
use Rattle.journal_model.specs.rules.Legal.{state_of, IsLegal}
use Rattle.laws.proofs.law_jobs.Law.{line_law}
use Rattle.laws.proofs.law_sound.Along.{sound_law}
use Rattle.law_facts.proofs.Jobs.{has_of, GoOn}
use Rattle.law_facts.proofs.Order.{goes_back}

-- job m comes after job n
pub data AfterAt (jobs : List Job) : ℕ → ℕ → Type 0 where
  in_context : {m n : ℕ} (x y : Job) → slice_get jobs m ≡ Some x → slice_get jobs n ≡ Some y → y.id.ctx ≡ x.id.ctx → y.id.num < x.id.num → AfterAt jobs m n
  waiting : {m n : ℕ} (x y : Job) → slice_get jobs m ≡ Some x → slice_get jobs n ≡ Some y → list_any (same_job y.id) x.waits ≡ true → AfterAt jobs m n
  over : {m k n : ℕ} → AfterAt jobs m k → AfterAt jobs k n → AfterAt jobs m n

-- a later state has it so too
pub after_goes : (old new : List Job) (m n : ℕ) → GoOn old new → AfterAt old m n → AfterAt new m n
after_goes old new m n g (in_context x y a b e l) =
    let gx = g m x a in
    let gy = g n y b in
    let nx : gx.job.id.num ≡ x.id.num = ap (λ (i : JobId). i.num) gx.id in
    let ny : gy.job.id.num ≡ y.id.num = ap (λ (i : JobId). i.num) gy.id in
    in_context gx.job gy.job gx.at gy.at (ap (λ (i : JobId). i.ctx) gy.id ∙ e ∙ sym (ap (λ (i : JobId). i.ctx) gx.id)) (omega (arith, l, nx, ny))
after_goes old new m n g (waiting x y a b w) =
    let gx = g m x a in
    let gy = g n y b in
    waiting gx.job gy.job gx.at gy.at (subst (λ ws. list_any (same_job gy.job.id) ws ≡ true) (sym gx.waits) (subst (λ i. list_any (same_job i) x.waits ≡ true) (sym gy.id) w))
after_goes old new m n g (over {k} p q) = over (after_goes old new m k g p) (after_goes old new k n g q)

-- the first of the two
pub first_job : (jobs : List Job) (m n : ℕ) → AfterAt jobs m n → (x : Job) × (slice_get jobs m ≡ Some x)
first_job jobs m n (in_context x y a b e l) = (x, a)
first_job jobs m n (waiting x y a b w) = (x, a)
first_job jobs m n (over {k} p q) = first_job jobs m k p

-- the same of the jobs themselves
pub after_jobs : (jobs : List Job) (m n : ℕ) (x y : Job) → slice_get jobs m ≡ Some x → slice_get jobs n ≡ Some y → AfterAt jobs m n → ComesAfter jobs x y
after_jobs jobs m n x y a b (in_context v w c d e l) =
    let p : Some v ≡ Some x = sym c ∙ a in
    let q : Some w ≡ Some y = sym d ∙ b in
    let vx : v ≡ x = cc in
    let wy : w ≡ y = cc in
    subst (λ z. ComesAfter jobs z y) vx (subst (ComesAfter jobs v) wy (by_context (has_of v jobs m c) (has_of w jobs n d) e l))
after_jobs jobs m n x y a b (waiting v w c d h) =
    let p : Some v ≡ Some x = sym c ∙ a in
    let q : Some w ≡ Some y = sym d ∙ b in
    let vx : v ≡ x = cc in
    let wy : w ≡ y = cc in
    subst (λ z. ComesAfter jobs z y) vx (subst (ComesAfter jobs v) wy (by_wait (has_of v jobs m c) (has_of w jobs n d) h))
after_jobs jobs m n x y a b (over {k} p q) = let mid = first_job jobs k n q in through (after_jobs jobs m k x mid.0 a mid.1 p) (after_jobs jobs k n mid.0 y mid.1 b q)

-- the later job was emitted later
pub after_back : (script : Script) (journal : List Entry) → IsTrue (is_script script) → IsLegal script journal → (m n : ℕ) → AfterAt (state_of script journal).core.jobs m n → n < m
after_back script journal fits legal m n (waiting x y a b w) = goes_back (state_of script journal).core.jobs m n x y (sound_law script journal fits legal).jobs.waits_back a b w
after_back script journal fits legal m n (over {k} p q) =
    let l = after_back script journal fits legal m k p in
    let r = after_back script journal fits legal k n q in
    omega (arith, l, r)
after_back script journal fits legal m n (in_context x y a b e l) =
    ⊎_elim (λ h. h) (λ h. ⊎_elim (λ r. absurd (late r)) (λ r. absurd (same (omega (arith, h, r)))) (cases_lt m n)) (cases_lt n m)
  where
    late : m < n → ⊥
    late r = let up = (line_law script journal x.id.ctx fits legal).rises m n x y r a b refl e in absurd (omega (arith, up, l))

    same : m ≡ n → ⊥
    same q =
        let two : Some x ≡ Some y = sym a ∙ ap (slice_get (state_of script journal).core.jobs) q ∙ b in
        let is : x ≡ y = cc in
        let num : x.id.num ≡ y.id.num = ap (λ (z : Job). z.id.num) is in
        absurd (omega (arith, num, l))
