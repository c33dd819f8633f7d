-- Who looks for a job that isn't done finds it among the pending ones.
use Rattle.std.proofs.Common.{◌≡◌, ℕ, Bool, true, false, List, [], ◌∷◌, ◌++◌, refl, sym, subst, arith}
use Rattle.std.proofs.lemmas.Grind.{common_steps}
use Rattle.std.specs.Prelude.{find, not, ◌&&◌, ◌==◌}
use Rattle.std.specs.List.{list_all, list_any}
use Rattle.ttm_base.specs.declared.JobId.{JobId}
use Rattle.journal_model.specs.declared.state.Job.{Job}
use Rattle.journal_model.specs.rules.JobNames.{same_job}
use Rattle.journal_model.specs.code.Jobs.{ArePending}

none_unfinished : (p : Job → Bool) (jobs : List Job) → list_all (λ j. j.finished) jobs ≡ true → list_any (λ j. p j && not j.finished) jobs ≡ false
none_unfinished p [] h = refl
none_unfinished p (j ∷ js) h =
    let rest = none_unfinished p js (grind (arith, common_steps)) in
    let here : (p j && not j.finished) ≡ false = grind (arith, common_steps) in
    grind (arith, common_steps)

pub any_pending : (p : Job → Bool) (jobs pending : List Job) → ArePending jobs pending → list_any (λ j. p j && not j.finished) pending ≡ list_any (λ j. p j && not j.finished) jobs
any_pending p jobs pending a =
    let none = none_unfinished p a.closed a.done in
    subst (λ all. list_any (λ j. p j && not j.finished) pending ≡ list_any (λ j. p j && not j.finished) all) (sym a.joined) (grind (arith, common_steps))

pub unfinished_pending : (i : JobId) (jobs pending : List Job) → ArePending jobs pending → list_any (λ j. same_job i j.id && not j.finished) pending ≡ list_any (λ j. same_job i j.id && not j.finished) jobs
unfinished_pending i jobs pending a = any_pending (λ j. same_job i j.id) jobs pending a

none_found : (p : Job → Bool) (jobs more : List Job) → list_all (λ j. j.finished) jobs ≡ true → find (λ j. p j && not j.finished) (jobs ++ more) ≡ find (λ j. p j && not j.finished) more
none_found p [] more h = refl
none_found p (j ∷ js) more h =
    let rest = none_found p js more (grind (arith, common_steps)) in
    let here : (p j && not j.finished) ≡ false = grind (arith, common_steps) in
    grind (arith, common_steps)

-- the first job of a context that isn't done
pub first_pending : (p : Job → Bool) (jobs pending : List Job) → ArePending jobs pending → find (λ j. p j && not j.finished) pending ≡ find (λ j. p j && not j.finished) jobs
first_pending p jobs pending a = subst (λ all. find (λ j. p j && not j.finished) pending ≡ find (λ j. p j && not j.finished) all) (sym a.joined) (sym (none_found p a.closed pending a.done))

pub head_pending : (ctx : ℕ) (jobs pending : List Job) → ArePending jobs pending → find (λ j. (j.id.ctx == ctx) && not j.finished) pending ≡ find (λ j. (j.id.ctx == ctx) && not j.finished) jobs
head_pending ctx jobs pending a = first_pending (λ j. j.id.ctx == ctx) jobs pending a

-- all jobs are done where the pending ones are
pub all_pending : (jobs pending : List Job) → ArePending jobs pending → list_all (λ j. j.finished) pending ≡ list_all (λ j. j.finished) jobs
all_pending jobs pending a =
    let done = a.done in
    subst (λ all. list_all (λ j. j.finished) pending ≡ list_all (λ j. j.finished) all) (sym a.joined) (grind (arith, common_steps))
