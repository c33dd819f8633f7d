-- Who looks for a job that isn't done, with the least number of those that may not be.
use Rattle.std.proofs.Common.{◌≡◌, ℕ, ◌+◌, ◌<◌, Bool, List, [], ◌∷◌, ◌++◌, true, false, Some, None, length, take, drop, get_or, refl, sym, ap, ◌∙◌, arith, subst, if◌then◌else◌}
use Rattle.std.specs.Prelude.{◌||◌, is_some}
use Rattle.std.specs.List.{list_any, position}
use Rattle.std.proofs.lemmas.Grind.{common_steps}
use Rattle.std.proofs.lemmas.Bool.Decides.{nat_tests}
use Rattle.std.proofs.lemmas.List.{take_more}
use Rattle.std.proofs.lemmas.List.Quantifiers.{position-Some}
use Rattle.ttm_base.specs.declared.JobId.{JobId}
use Rattle.journal_model.specs.declared.state.Core.{Core}
use Rattle.journal_model.specs.declared.state.Job.{Job}
use Rattle.journal_model.specs.rules.Waits.{is_unfinished, unfinished}

-- jobs may be looked through in two parts, in any order
pub any_in_parts : (p : Job → Bool) (jobs : List Job) (n : ℕ) → (list_any p (drop n jobs) || list_any p (take n jobs)) ≡ list_any p jobs
any_in_parts p jobs n =
    let joined : jobs ≡ take n jobs ++ drop n jobs = grind (arith, common_steps) in
    subst (λ all. (list_any p (drop n jobs) || list_any p (take n jobs)) ≡ list_any p all) (sym joined) (grind (arith, common_steps))

-- one has a place among them where one passes
pub any_has_place : (p : Job → Bool) (jobs : List Job) → list_any p jobs ≡ is_some (position p jobs)
any_has_place p [] = refl
any_has_place p (j ∷ js) = let rest = any_has_place p js in grind (arith, common_steps)

pub found : (p : Job → Bool) (jobs : List Job) (at : ℕ) → Some at ≡ position p jobs → (at < length jobs) × (list_any p jobs ≡ true)
found p jobs at e =
    let first = position-Some p jobs at in
    let within : at < length jobs = grind (arith, common_steps, nat_tests) in
    (within, any_has_place p jobs ∙ ap is_some (sym e))

pub none_found : (p : Job → Bool) (jobs : List Job) → None ≡ position p jobs → list_any p jobs ≡ false
none_found p jobs e = any_has_place p jobs ∙ ap is_some (sym e)

-- ---- the unfinished ones among jobs and one more

unfinished-push : (c : Core) (jobs : List JobId) (i : JobId) → unfinished c (jobs ++ i ∷ []) ≡ (if is_unfinished c i then unfinished c jobs ++ i ∷ [] else unfinished c jobs)
unfinished-push c jobs i = grind (arith, common_steps)

pub unfinished_more : (c : Core) (jobs : List JobId) (i : ℕ) (d : JobId) → i < length jobs
    → unfinished c (take (i + 1) jobs) ≡ (if is_unfinished c (get_or jobs i d) then unfinished c (take i jobs) ++ get_or jobs i d ∷ [] else unfinished c (take i jobs))
unfinished_more c jobs i d h =
    let e = take_more jobs i d h in
    let f = unfinished-push c (take i jobs) (get_or jobs i d) in
    grind (arith, common_steps)
