-- The least numbers of the jobs that aren't done, by context.
use Rattle.std.proofs.Common.{◌≡◌, ◌∙◌, ℕ, ◌+◌, ◌<◌, Bool, List, [], ◌∷◌, true, false, length, take, get_or, refl, sym, ap₂, arith}
use Rattle.std.specs.Prelude.{not, ◌&&◌}
use Rattle.std.specs.List.{list_all, list_any}
use Rattle.std.proofs.lemmas.Grind.{common_steps}
use Rattle.std.proofs.lemmas.Bool.Decides.{nat_tests}
use Rattle.std.proofs.lemmas.List.{take_more}
use Rattle.ttm_base.specs.declared.JobId.{JobId}
use Rattle.journal_model.specs.declared.state.Core.{Core}
use Rattle.journal_model.specs.declared.state.Job.{Job}
use Rattle.journal_model.specs.rules.JobNames.{same_job}
use Rattle.journal_model.specs.code.Jobs.{ArePending}
use Rattle.rules_holds.specs.Least.{is_from, is_counted, AreLeast}
use Rattle.rules_state.proofs.PendingJobs.{unfinished_pending}

-- lesser numbers count the same jobs
counted_then : (old new : List ℕ) (jobs : List Job) → ((i : JobId) → is_from old i ≡ true → is_from new i ≡ true) → list_all (is_counted old) jobs ≡ true → list_all (is_counted new) jobs ≡ true
counted_then old new [] others h = refl
counted_then old new (j ∷ js) others h =
    let here = others j.id in
    let rest = counted_then old new js others (grind (arith, common_steps)) in
    by j.finished refl here rest
  where
    by : (done : Bool) → j.finished ≡ done → (is_from old j.id ≡ true → is_from new j.id ≡ true) → list_all (is_counted new) js ≡ true → list_all (is_counted new) (j ∷ js) ≡ true
    by true e here rest = grind (arith, common_steps)
    by false e here rest =
        let one : is_from old j.id ≡ true = grind (arith, common_steps) in
        let two = here one in
        grind (arith, common_steps)

-- one job more
pub counted_more : (old new : List ℕ) (jobs : List Job) (i : ℕ) (d : Job) → i < length jobs → ((i : JobId) → is_from old i ≡ true → is_from new i ≡ true) → is_counted new (get_or jobs i d) ≡ true
    → list_all (is_counted old) (take i jobs) ≡ true → list_all (is_counted new) (take (i + 1) jobs) ≡ true
counted_more old new jobs i d l others own h =
    let e = take_more jobs i d l in
    let rest = counted_then old new (take i jobs) others h in
    grind (arith, common_steps)

same_is : (i j : JobId) → same_job i j ≡ true → i ≡ j
same_is i j h =
    let c : i.ctx ≡ j.ctx = grind (arith, nat_tests) in
    let n : i.num ≡ j.num = grind (arith, nat_tests) in
    ap₂ (λ ctx num. record { ctx = ctx; num = num }) c n

-- a job with a lesser number is another, or done
other : (least : List ℕ) (i : JobId) (j : Job) → is_from least i ≡ false → is_counted least j ≡ true → (same_job i j.id && not j.finished) ≡ false
other least i j p h = by (same_job i j.id) j.finished refl refl
  where
    by : (same done : Bool) → same_job i j.id ≡ same → j.finished ≡ done → (same_job i j.id && not j.finished) ≡ false
    by false done e f = grind (arith, common_steps)
    by true true e f = grind (arith, common_steps)
    by true false e f =
        let is = same_is i j.id e in
        grind (arith, common_steps)

-- a job with a lesser number is none of them
none_below : (least : List ℕ) (i : JobId) (jobs : List Job) → is_from least i ≡ false → list_all (is_counted least) jobs ≡ true → list_any (λ j. same_job i j.id && not j.finished) jobs ≡ false
none_below least i [] p h = refl
none_below least i (j ∷ js) p h =
    let here = other least i j p (grind (arith, common_steps)) in
    let rest = none_below least i js p (grind (arith, common_steps)) in
    grind (arith, common_steps)

pub are_least : (c : Core) (pending : List Job) (least : List ℕ) → ArePending c.jobs pending → list_all (is_counted least) pending ≡ true → AreLeast c least
are_least c pending least a h i p = sym (unfinished_pending i c.jobs pending a) ∙ none_below least i pending p h
