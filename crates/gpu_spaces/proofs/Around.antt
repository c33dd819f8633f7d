-- The mapping that has a page is the last that begins at or before it, or none.
use Rattle.std.proofs.Common.{◌≡◌, ℕ, ◌<◌, ◌≤◌, Bool, true, false, List, [], ◌∷◌, ◌++◌, Option, Some, None, refl, ◌∙◌, subst, arith, inl, inr}
use Rattle.std.specs.Prelude.{map, filter, find, if◌then◌else◌}
use Rattle.std.specs.Ordering.{nat_cmp}
use Rattle.std.specs.BTreeMap.Range.{range_contains}
use Rattle.std.specs.declared.ops.Bound.TheVariants.{Included, Unbounded}
use Rattle.std.proofs.lemmas.Bool.{cases_Bool}
use Rattle.std.proofs.lemmas.Bool.Decides.{nat_tests}
use Rattle.ttm_base.specs.Holes.{has_page}
use Rattle.journal_model.specs.marks.Spaces.{Region}
use Rattle.law_legal.specs.law_spaces.Rising.{IsRising, IsPast}
use Rattle.gpu_spaces.specs.declared.mappings.Rest.{Rest}
use Rattle.gpu_spaces.specs.Kept.{region_at}

-- an entry begins at or before a page
abbrev pub is_up_to : ℕ → ℕ × Rest → Bool
is_up_to page e = range_contains nat_cmp Unbounded (Included page) e.0

-- the mapping that has a page
abbrev pub having : ℕ → List (ℕ × Rest) → Option Region
having page es = find (λ r. has_page page r.span) (map region_at es)

up_to : (page k : ℕ) → range_contains nat_cmp Unbounded (Included page) k ≡ true → k ≤ page
up_to page k e = grind (arith, nat_tests)

past : (page k : ℕ) → range_contains nat_cmp Unbounded (Included page) k ≡ false → page < k
past page k e = grind (arith, nat_tests)

ended : (page : ℕ) (e : ℕ × Rest) → e.1.end ≤ page → has_page page (region_at e).span ≡ false
ended page e l = grind (arith, nat_tests)

ahead : (page : ℕ) (e : ℕ × Rest) → page < e.0 → has_page page (region_at e).span ≡ false
ahead page e l = grind (arith, nat_tests)

pub none_up_to : (page : ℕ) (es : List (ℕ × Rest)) → filter (is_up_to page) es ≡ [] → having page es ≡ None
none_up_to page [] h = refl
none_up_to page (e ∷ es) h = elim (cases_Bool (is_up_to page e)) [
  | inl t ↦ let h' = rw t at h in absurd (cc)
  | inr f ↦ let h' = rw f at h in rw (ahead page e (past page e.0 f)) (none_up_to page es h')
]

-- the last that is kept by a test stands past all that the list stands past, and passes the test
record IsLast (least page : ℕ) (e : ℕ × Rest) : Type 0 where
  low : least ≤ e.0
  up : e.0 ≤ page

last_is : (low page : ℕ) (es t : List (ℕ × Rest)) (e : ℕ × Rest) → IsPast low (map region_at es) → filter (is_up_to page) es ≡ t ++ e ∷ [] → IsLast low page e
last_is low page [] [] e p h = absurd (cc)
last_is low page [] (y ∷ t) e p h = absurd (cc)
last_is low page (x ∷ es) [] e p h = elim (cases_Bool (is_up_to page x)) [
  | inl k ↦
      let h' = rw k at h in
      let same : x ≡ e = cc in
      record { low = subst (λ (y : ℕ × Rest). low ≤ y.0) same p.0; up = subst (λ (y : ℕ × Rest). y.0 ≤ page) same (up_to page x.0 k) }
  | inr k ↦ last_is low page es [] e p.1 (rw k at h)
]
last_is low page (x ∷ es) (y ∷ t) e p h = elim (cases_Bool (is_up_to page x)) [
  | inl k ↦ let h' = rw k at h in let rest : filter (is_up_to page) es ≡ t ++ e ∷ [] = cc in last_is low page es t e p.1 rest
  | inr k ↦ last_is low page es (y ∷ t) e p.1 (rw k at h)
]

pub last_has : (page : ℕ) (es t : List (ℕ × Rest)) (e : ℕ × Rest) → IsRising (map region_at es) → filter (is_up_to page) es ≡ t ++ e ∷ [] →
    having page es ≡ (if has_page page (region_at e).span then Some (region_at e) else None)
last_has page [] [] e r h = absurd (cc)
last_has page [] (y ∷ t) e r h = absurd (cc)
last_has page (x ∷ es) [] e r h = elim (cases_Bool (is_up_to page x)) [
  | inl k ↦
      let h' = rw k at h in
      let same : x ≡ e = cc in
      let rest : filter (is_up_to page) es ≡ [] = cc in
      rw (none_up_to page es rest)
      (let P : ℕ × Rest → Type 0 = λ y. (if has_page page (region_at x).span then Some (region_at x) else None) ≡ (if has_page page (region_at y).span then Some (region_at y) else None) in
      subst P same refl)
  | inr k ↦ rw (ahead page x (past page x.0 k)) (last_has page es [] e r.2 (rw k at h))
]
last_has page (x ∷ es) (y ∷ t) e r h = elim (cases_Bool (is_up_to page x)) [
  | inl k ↦
      let h' = rw k at h in
      let rest : filter (is_up_to page) es ≡ t ++ e ∷ [] = cc in
      let d : IsLast x.1.end page e = last_is x.1.end page es t e r.1 rest in
      rw (ended page x (omega (arith, d.low, d.up))) (last_has page es t e r.2 rest)
  | inr k ↦ rw (ahead page x (past page x.0 k)) (last_has page es (y ∷ t) e r.2 (rw k at h))
]

past_zero : (rs : List Region) → IsPast 0 rs
past_zero [] = tt
past_zero (r ∷ rs) = (omega arith, past_zero rs)

-- the last that begins at or before a page has it, if it doesn't end before
pub last_is_around : (page : ℕ) (es t : List (ℕ × Rest)) (e : ℕ × Rest) → IsRising (map region_at es) → filter (is_up_to page) es ≡ t ++ e ∷ [] → page < e.1.end → having page es ≡ Some (region_at e)
last_is_around page es t e r h l =
    let d : IsLast 0 page e = last_is 0 page es t e (past_zero (map region_at es)) h in
    let up : e.0 ≤ page = d.up in
    let has : has_page page (region_at e).span ≡ true = grind (arith, nat_tests) in
    last_has page es t e r h ∙ rw has refl

pub last_has_ended : (page : ℕ) (es t : List (ℕ × Rest)) (e : ℕ × Rest) → IsRising (map region_at es) → filter (is_up_to page) es ≡ t ++ e ∷ [] → e.1.end ≤ page → having page es ≡ None
last_has_ended page es t e r h l = last_has page es t e r h ∙ rw (ended page e l) refl
