-- A value that is set stands at its page alone.
use Rattle.std.proofs.Common.{◌≡◌, ℕ, Bool, true, false, Option, refl, ap, ◌∙◌, arith, cond, if◌then◌else◌}
use Rattle.std.specs.Prelude.{unwrap_or, ◌==◌}
use Rattle.std.specs.Ordering.{nat_cmp, is_eq}
use Rattle.std.specs.BTreeMap.{BTreeMap, Updates, is_at}
use Rattle.std.proofs.lemmas.Bool.Decides.{nat_tests}
use Rattle.mm_c.specs.UserValues.{value_at}

same_page : (page other : ℕ) → is_eq (nat_cmp page other) ≡ (other == page)
same_page page other = grind (arith, nat_tests)

pick : (b : Bool) (o p : Option ℕ) → unwrap_or (cond b o p) 0 ≡ (if b then unwrap_or o 0 else unwrap_or p 0)
pick true o p = refl
pick false o p = refl

-- what stands at a page after an update of one
pub updated : (m n : BTreeMap ℕ ℕ) (page : ℕ) (o : Option ℕ) → Updates nat_cmp m n page o → (other : ℕ) → value_at n.entries other ≡ (if other == page then unwrap_or o 0 else value_at m.entries other)
updated m n page o u other =
    ap (λ x. unwrap_or x 0) (u.0 other) ∙ pick (is_at (nat_cmp page) other) o _
    ∙ ap (λ b. if b then unwrap_or o 0 else value_at m.entries other) (same_page page other)
