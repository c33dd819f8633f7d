-- The entries of a balanced map as mappings.
use Rattle.std.proofs.Common.{◌≡◌, ℕ, ◌<◌, Bool, true, false, cond, List, [], ◌∷◌, Option, Some, refl, ap, sym, ◌∙◌, arith, inl, inr}
use Rattle.std.specs.Prelude.{option_map, map, ◌==◌, if◌then◌else◌, Result, Ok, Err, OnErr}
use Rattle.std.specs.List.{AllByRecursion}
use Rattle.std.specs.List.Sorted.{IsStrictlySortedBy}
use Rattle.std.specs.Map.{lookup, keys_of}
use Rattle.std.specs.Ordering.{nat_cmp}
use Rattle.std.specs.declared.cmp.Ordering.TheVariants.{Less}
use Rattle.std.specs.BTreeMap.{BTreeMap, get, is_at, IsOrdered as IsSorted}
use Rattle.std.proofs.lemmas.Bool.{cases_Bool, eqb-true}
use Rattle.std.proofs.lemmas.Bool.Decides.{nat_tests}
use Rattle.std.proofs.lemmas.Map.Keys.{sorted_head, sorted_tail}
use Rattle.gpu_spaces.specs.declared.mappings.Rest.{Rest}
use Rattle.gpu_spaces.specs.Kept.{region_at, regions_in}
use Rattle.gpu_spaces.specs.Regions.{starting, IsAfter, IsOrdered}

same_test : (q k : ℕ) → is_at (nat_cmp q) k ≡ (k == q)
same_test q k = grind (arith, nat_tests)

same_test_back : (q k : ℕ) → is_at (nat_cmp k) q ≡ (k == q)
same_test_back q k = grind (arith, nat_tests)

found_at : (es : List (ℕ × Rest)) (q : ℕ) → starting q (map region_at es) ≡ option_map (λ m. region_at (q, m)) (lookup (is_at (nat_cmp q)) es)
found_at [] q = refl
found_at (e ∷ es) q = elim (cases_Bool (e.0 == q)) [
  | inl t ↦ rw (t, same_test q e.0 ∙ t) (ap (λ k. Some (region_at (k, e.1))) (eqb-true e.0 q t))
  | inr f ↦ rw (f, same_test q e.0 ∙ f) (found_at es q)
]

-- the mapping that begins at a page is the entry of that key
pub starting_is : (m : BTreeMap ℕ Rest) (q : ℕ) → starting q (regions_in m) ≡ option_map (λ r. region_at (q, r)) (get nat_cmp m q)
starting_is m q = found_at m.entries q

put_there : (b : Bool) (q k : ℕ) (w o : Option Rest) → (k == q) ≡ b → option_map (λ r. region_at (q, r)) (cond b w o) ≡ (if b then option_map (λ r. region_at (k, r)) w else option_map (λ r. region_at (q, r)) o)
put_there true q k w o e = ap (λ x. option_map (λ r. region_at (x, r)) w) (sym (eqb-true k q e))
put_there false q k w o e = refl

-- after the value of a key is changed
pub starting_updated : (m n : BTreeMap ℕ Rest) (k : ℕ) (w : Option Rest) → ((q : ℕ) → get nat_cmp n q ≡ cond (is_at (nat_cmp k) q) w (get nat_cmp m q)) →
    (q : ℕ) → starting q (regions_in n) ≡ (if k == q then option_map (λ r. region_at (k, r)) w else starting q (regions_in m))
starting_updated m n k w h q =
    starting_is n q
    ∙ ap (option_map (λ r. region_at (q, r))) (h q ∙ ap (λ b. cond b w (get nat_cmp m q)) (same_test_back q k))
    ∙ put_there (k == q) q k w (get nat_cmp m q) refl
    ∙ ap (λ o. if k == q then option_map (λ r. region_at (k, r)) w else o) (sym (starting_is m q))

below : (k y : ℕ) → nat_cmp k y ≡ Less → k < y
below k y e = grind (arith, nat_tests)

after_keys : (k : ℕ) (es : List (ℕ × Rest)) → AllByRecursion (λ y. nat_cmp k y ≡ Less) (keys_of es) → IsAfter k (map region_at es)
after_keys k [] h = tt
after_keys k (e ∷ es) h = (below k e.0 h.0, after_keys k es h.1)

in_order : (es : List (ℕ × Rest)) → IsStrictlySortedBy nat_cmp (keys_of es) → IsOrdered (map region_at es)
in_order [] h = tt
in_order (e ∷ es) h =
    (after_keys e.0 es (sorted_head nat_cmp e.0 (keys_of es) h), in_order es (sorted_tail nat_cmp e.0 (keys_of es) h))

-- the keys of a balanced map are in order, and so are its mappings
pub regions_in_order : (m : BTreeMap ℕ Rest) → IsSorted nat_cmp m → IsOrdered (regions_in m)
regions_in_order m h = in_order m.entries h

pub on_err : {T E : Type 0} (r : Result T E) (P : Type 0) → P → OnErr r P
on_err (Ok x) P p = tt
on_err (Err e) P p = p
