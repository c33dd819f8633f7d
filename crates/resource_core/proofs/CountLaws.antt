-- How many pages are free and held, and what holds of the spans of all owners.
use Rattle.std.proofs.Common.{◌≡◌, ℕ, zero, suc, ◌+◌, ◌-◌, ◌<◌, ◌≤◌, ◌^◌, ◌||◌, inl, inr, Bool, true, false, List, [], ◌∷◌, min, refl, ap, ◌∙◌, arith, nat_eq, nat_lt, nat_le, if◌then◌else◌, cond, All, count_by}
use Rattle.std.proofs.lemmas.Bool.{cases_lt, cases_Bool, or_cases, or_left, lt-ltb, le-leb, lt-leb, le-ltb, and_from, and_left, and_right, eqb-true, eqb-false}
use Rattle.std.proofs.lemmas.List.Sums.{sum_by-cons}
use Rattle.std.proofs.lemmas.List.Elements.{All-nil, All-cons}
use Rattle.ttm_base.specs.declared.Span.{Span}
use Rattle.ttm_base.specs.declared.Owner.{Owner}
use Rattle.ttm_base.specs.declared.Owner.TheVariants.{Live, Target, Ghost}
use Rattle.ttm_base.specs.Holes.{has_page, is_free_beside}
use Rattle.ttm_base.specs.Reach.{length_of}
use Rattle.buddy_manager.specs.Held.{same_span, is_held, pages_of, AllBy, IsApart}
use Rattle.buddy_manager.proofs.HeldLaws.{held_is_by, held_has_pages, pages_within}
use Rattle.resource_core.specs.declared.holding.Holding.{Holding}
use Rattle.resource_core.specs.declared.holding.OwnerKind.{OwnerKind}
use Rattle.resource_core.specs.declared.holding.OwnerKind.TheVariants as kind
use Rattle.resource_core.specs.Resources.{all_spans, is_free, count_free, pages_if, pages_by}
use Rattle.resource_core.specs.Tied.{total, at_page, at_span, IsTied}
use Rattle.resource_core.proofs.TotalLaws.{total-append, held_by_total, free_by_total, same_free, once, pages_total, same_self}

-- ---- the pages of spans, page by page

-- how many of the first pages the span has
abbrev pages_below : ℕ → Span → ℕ
pages_below zero s = 0
pages_below (suc n) s = at_page n s + pages_below n s

no_pages : (hs : List Span) → total (pages_below 0) hs ≡ 0
no_pages [] = refl
no_pages (x ∷ hs) = let e = no_pages hs in omega (arith, e)

next_page : (n : ℕ) (hs : List Span) → total (pages_below (suc n)) hs ≡ total (at_page n) hs + total (pages_below n) hs
next_page n [] = refl
next_page n (x ∷ hs) = let e = next_page n hs in omega (arith, e)

inside : (page : ℕ) (s : Span) → s.start ≤ page → page < s.end → at_page page s ≡ 1
inside page s l u = ap (λ t. if t then 1 else 0) (and_from (nat_le s.start page) (nat_lt page s.end) (le-leb s.start page l) (lt-ltb page s.end u))

before : (page : ℕ) (s : Span) → page < s.start → at_page page s ≡ 0
before page s l = ap (λ t. if t then 1 else 0) (and_left (nat_le s.start page) (nat_lt page s.end) (lt-leb s.start page l))

behind : (page : ℕ) (s : Span) → s.end ≤ page → at_page page s ≡ 0
behind page s l = ap (λ t. if t then 1 else 0) (and_right (nat_le s.start page) (nat_lt page s.end) (le-ltb page s.end l))

own_pages : (n : ℕ) (s : Span) → s.start < s.end → pages_below n s ≡ min n s.end - s.start
own_pages zero s h = let e : 0 ≡ min 0 s.end - s.start = omega arith in e
own_pages (suc n) s h =
    let i = own_pages n s h in
    elim (cases_lt n s.start) [
      | inl l ↦ let z = before n s l in let e : at_page n s + pages_below n s ≡ min (suc n) s.end - s.start = omega (arith, z, i, l) in e
      | inr l ↦ elim (cases_lt n s.end) [
        | inl u ↦ let z = inside n s l u in let e : at_page n s + pages_below n s ≡ min (suc n) s.end - s.start = omega (arith, z, i, l, u) in e
        | inr u ↦ let z = behind n s u in let e : at_page n s + pages_below n s ≡ min (suc n) s.end - s.start = omega (arith, z, i, l, u) in e
      ]
    ]

whole_pages : (n : ℕ) (hs : List Span) → IsApart hs → AllBy n hs → total (pages_below n) hs ≡ total length_of hs
whole_pages n [] a b = refl
whole_pages n (x ∷ hs) a b =
    let i = whole_pages n hs a.2 b.1 in
    let some = a.0 in
    let end = b.0 in
    let o = own_pages n x some in
    let e : pages_below n x ≡ x.end - x.start = omega (arith, o, end) in
    omega (arith, i, e)

-- ---- free pages

both : (n : ℕ) (hs : List Span) → IsApart hs → count_free (is_free_beside hs) n + total (pages_below n) hs ≡ n
both zero hs a = let z = no_pages hs in omega (arith, z)
both (suc n) hs a =
    let i = both n hs a in
    let next = next_page n hs in
    let most = once n hs a in
    let free = ap {B = ℕ} (λ t. if t then 1 else 0) (free_by_total n hs) in
    elim (cases_Bool (nat_eq (total (at_page n) hs) 0)) [
      | inl y ↦ let z = eqb-true (total (at_page n) hs) 0 y in let w = ap {B = ℕ} (λ t. if t then 1 else 0) y in omega (arith, i, next, free, z, w)
      | inr y ↦
          let z : total (at_page n) hs ≡ 1 = elim (cases_lt (total (at_page n) hs) 1) [ inl l ↦ absurd (eqb-false (total (at_page n) hs) 0 y (omega arith)) | inr l ↦ omega (arith, most, l) ] in
          let w = ap {B = ℕ} (λ t. if t then 1 else 0) y in
          omega (arith, i, next, free, z, w)
    ]

free_and_held : (n : ℕ) (hs : List Span) → IsApart hs → AllBy n hs → count_free (is_free_beside hs) n + pages_of hs ≡ n
free_and_held n hs a b = let x = both n hs a in let y = whole_pages n hs a b in let z = pages_total hs in omega (arith, x, y, z)

pub free_count : (size most : ℕ) (hs : List Span) (held : List Holding) (free : ℕ) → IsTied size most hs held → free + pages_of hs ≡ size → free ≡ count_free (is_free held) size
free_count size most hs held free t e =
    let s = ap (λ f. count_free f size) (same_free hs (all_spans held) t.same) in
    let x = free_and_held size hs t.apart t.within in
    omega (arith, s, x, e)

-- ---- the owners' pages

one_kind : (h : Holding) → pages_if kind.Live h + pages_if kind.Target h + pages_if kind.Ghost h ≡ pages_of h.spans
one_kind h = by h.owner refl where
  by : (o : Owner) → h.owner ≡ o → pages_if kind.Live h + pages_if kind.Target h + pages_if kind.Ghost h ≡ pages_of h.spans
  by o e = ap (λ (o : Owner). let x : Holding = record { owner = o; spans = h.spans } in pages_if kind.Live x + pages_if kind.Target x + pages_if kind.Ghost x) e ∙ cases o where
    cases : (o : Owner) → (let x : Holding = record { owner = o; spans = h.spans } in pages_if kind.Live x + pages_if kind.Target x + pages_if kind.Ghost x) ≡ pages_of h.spans
    cases (Live b) = omega arith
    cases (Target b) = omega arith
    cases (Ghost n) = omega arith

pub all_kinds : (held : List Holding) → pages_by kind.Live held + pages_by kind.Target held + pages_by kind.Ghost held ≡ total length_of (all_spans held)
all_kinds [] = refl
all_kinds (x ∷ held) =
    let i = all_kinds held in
    let one = one_kind x in
    let l = sum_by-cons (pages_if kind.Live) x held in
    let t = sum_by-cons (pages_if kind.Target) x held in
    let g = sum_by-cons (pages_if kind.Ghost) x held in
    let a = total-append length_of x.spans (all_spans held) in
    let p = pages_total x.spans in
    omega (arith, i, one, l, t, g, a, p)

module _ (size most : ℕ) (hs : List Span) (held : List Holding) (t : IsTied size most hs held) where
  pub kinds_and_free : (free : ℕ) → free + pages_of hs ≡ size → free + pages_by kind.Live held + pages_by kind.Target held + pages_by kind.Ghost held ≡ size
  kinds_and_free free e =
      let k = all_kinds held in
      let s = t.same length_of in
      let p = pages_total hs in
      omega (arith, k, s, p, e)

  pub kind_fits : (k : OwnerKind) → most < 2 ^ 32 → pages_by k held < 2 ^ 32
  kind_fits k fits = by k where
    below : pages_by kind.Live held + pages_by kind.Target held + pages_by kind.Ghost held < 2 ^ 32
    below =
        let k = all_kinds held in
        let s = t.same length_of in
        let p = pages_total hs in
        let w = pages_within size hs t.apart t.within in
        let small = t.small in
        omega (arith, k, s, p, w, small, fits)

    by : (k : OwnerKind) → pages_by k held < 2 ^ 32
    by kind.Live = omega (arith, below)
    by kind.Target = omega (arith, below)
    by kind.Ghost = omega (arith, below)

-- ---- what holds of the spans of all owners

count_total : (page : ℕ) (ss : List Span) → count_by (has_page page) ss ≡ total (at_page page) ss
count_total page [] = refl
count_total page (x ∷ ss) =
    let c = sum_by-cons (λ s. cond (has_page page s) 1 0) x ss in
    let i = count_total page ss in
    omega (arith, c, i)

total_by_held : (s : Span) (ss : List Span) → is_held s ss ≡ true → 1 ≤ total (at_span s) ss
total_by_held s [] h = absurd cc
total_by_held s (x ∷ ss) h =
    elim (or_cases (same_span s x) (is_held s ss) h) [
      | inl e ↦ let z : at_span s x ≡ 1 = ap (λ t. if t then 1 else 0) e in omega (arith, z)
      | inr r ↦ let i = total_by_held s ss r in omega (arith, i)
    ]

all_held : (P : Span → Type 0) (ss : List Span) → ((s : Span) → is_held s ss ≡ true → P s) → All P ss
all_held P [] h = All-nil P
all_held P (x ∷ ss) h =
    All-cons P x ss (h x (or_left (same_span x x) (is_held x ss) (same_self x)))
    (all_held P ss (λ s e. h s (two (same_span s x) (is_held s ss) e)))
  where
    two : (t u : Bool) → u ≡ true → (t || u) ≡ true
    two true u e = refl
    two false u e = e

module _ (size most : ℕ) (hs : List Span) (held : List Holding) (t : IsTied size most hs held) where
  pub page_once : (page : ℕ) → count_by (has_page page) (all_spans held) ≤ 1
  page_once page =
      let c = count_total page (all_spans held) in
      let s = t.same (at_page page) in
      let o = once page hs t.apart in
      omega (arith, c, s, o)

  is_in : (s : Span) → is_held s (all_spans held) ≡ true → is_held s hs ≡ true
  is_in s h = held_by_total s hs (let i = total_by_held s (all_spans held) h in let e = t.same (at_span s) in omega (arith, i, e))

  pub spans_some : All (λ (s : Span). s.start < s.end) (all_spans held)
  spans_some = all_held (λ s. s.start < s.end) (all_spans held) (λ s h. held_has_pages s hs t.apart (is_in s h))

  pub spans_within : All (λ (s : Span). s.end ≤ size) (all_spans held)
  spans_within = all_held (λ s. s.end ≤ size) (all_spans held) (λ s h. held_is_by size s hs t.within (is_in s h))
