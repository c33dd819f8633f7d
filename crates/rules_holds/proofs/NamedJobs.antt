-- The job that is named among several, with one job more.
use Rattle.std.proofs.Common.{◌≡◌, Option, Some, None, true, false, refl, arith}
use Rattle.std.proofs.lemmas.Grind.{common_steps}
use Rattle.std.proofs.lemmas.Bool.Decides.{nat_tests}
use Rattle.ttm_base.specs.declared.JobId.{JobId}
use Rattle.ttm_base.specs.Fences.{named_first, is_named_before}
use Rattle.rules_holds.specs.Named.{named_last}

-- a job named before another is named before those after that one
before_trans : (i k j : JobId) → is_named_before i k ≡ true → is_named_before k j ≡ true → is_named_before i j ≡ true
before_trans i k j h l = grind (arith, nat_tests)

not_before_trans : (i k j : JobId) → is_named_before i k ≡ false → is_named_before k j ≡ false → is_named_before i j ≡ false
not_before_trans i k j h l = grind (arith, nat_tests)

-- the job in front may be looked at first or last
pub named_first-last : (j : JobId) (named : Option JobId) (i : JobId) → named_first j (Some (named_last named i)) ≡ named_last (Some (named_first j named)) i
named_first-last j None i = refl
named_first-last j (Some k) i =
    let t = before_trans i k j in
    let f = not_before_trans i k j in
    grind (arith, common_steps, t, f)
