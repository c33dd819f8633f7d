-- Spans that lie apart and have the free pages are the holes.
use Rattle.std.proofs.Common.{◌≡◌, ℕ, zero, suc, ◌+◌, ◌<◌, ◌≤◌, ◌&&◌, ◌||◌, inl, inr, Bool, true, false, List, [], ◌∷◌, refl, ap, sym, ◌∙◌, arith, nat_eq, nat_lt, if◌then◌else◌}
use Rattle.std.specs.List.{list_any}
use Rattle.std.proofs.lemmas.Bool.{cases_lt, cases_eq, cases_Bool, or_left, or_right, or_from, lt-ltb, le-ltb, eq-eqb, ne_eqb, eqb-true, both_ways}
use Rattle.ttm_base.specs.declared.Span.{Span}
use Rattle.ttm_base.specs.Holes.{has_page, with_page, holes}
use Rattle.range_manager.specs.Kept.{AllFrom, AllBy, IsSpaced}
use Rattle.range_manager.proofs.SpanLaws.{has_parts, has_from, has_before, has_past, all_from_less, before_all}

-- ---- spans that lie apart are known by their pages

abbrev HaveSame : List Span → List Span → Type 0
HaveSame hs ks = (page : ℕ) → list_any (has_page page) hs ≡ list_any (has_page page) ks

first_in : (h : Span) (hs : List Span) → IsSpaced 1 (h ∷ hs) → list_any (has_page h.start) (h ∷ hs) ≡ true
first_in h hs a = or_left (has_page h.start h) (list_any (has_page h.start) hs) (has_from h.start h (omega arith) a.0)

starts_below : (h k : Span) (hs ks : List Span) → IsSpaced 1 (h ∷ hs) → IsSpaced 1 (k ∷ ks) → HaveSame (h ∷ hs) (k ∷ ks) → k.start ≤ h.start
starts_below h k hs ks a b e = elim (cases_lt h.start k.start) [
  | inr l ↦ l
  | inl l ↦
      let own = b.0 in
      let all : AllFrom k.start (k ∷ ks) = (omega arith, all_from_less k.start (k.end + 1) ks (omega arith) b.1) in
      absurd (both_ways (list_any (has_page h.start) (k ∷ ks)) (before_all k.start h.start (k ∷ ks) all l) (sym (e h.start) ∙ first_in h hs a))
]

ends_below : (h k : Span) (hs ks : List Span) → IsSpaced 1 (h ∷ hs) → IsSpaced 1 (k ∷ ks) → HaveSame (h ∷ hs) (k ∷ ks) → h.start ≡ k.start → h.end ≤ k.end
ends_below h k hs ks a b e s = elim (cases_lt k.end h.end) [
  | inr l ↦ l
  | inl l ↦
      let own = b.0 in
      let there : list_any (has_page k.end) (h ∷ hs) ≡ true = or_left (has_page k.end h) (list_any (has_page k.end) hs) (has_from k.end h (omega arith) l) in
      let none : list_any (has_page k.end) (k ∷ ks) ≡ false = or_from (has_page k.end k) (list_any (has_page k.end) ks) (has_past k.end k (omega arith)) (before_all (k.end + 1) k.end ks b.1 (omega arith)) in
      absurd (both_ways (list_any (has_page k.end) (k ∷ ks)) none (sym (e k.end) ∙ there))
]

same_span_of : (h k : Span) → h.start ≡ k.start → h.end ≡ k.end → h ≡ k
same_span_of h k s e = ap (λ n. record { start = n; end = h.end }) s ∙ ap (λ n. record { start = k.start; end = n }) e

rest_same : (h k : Span) (hs ks : List Span) → IsSpaced 1 (h ∷ hs) → IsSpaced 1 (k ∷ ks) → HaveSame (h ∷ hs) (k ∷ ks) → h ≡ k → HaveSame hs ks
rest_same h k hs ks a b e s page = elim (cases_Bool (has_page page h)) [
  | inl t ↦
      let u = (has_parts page h t).1 in
      let z = ap (λ (x : Span). x.end) s in
      before_all (h.end + 1) page hs a.1 (omega arith) ∙ sym (before_all (k.end + 1) page ks b.1 (omega arith))
  | inr f ↦
      sym (ap (λ t. t || list_any (has_page page) hs) f) ∙ e page ∙ ap (λ t. t || list_any (has_page page) ks) (ap (has_page page) (sym s) ∙ f)
]

pub same_spans : (hs ks : List Span) → IsSpaced 1 hs → IsSpaced 1 ks → HaveSame hs ks → hs ≡ ks
same_spans [] [] a b e = refl
same_spans [] (k ∷ ks) a b e = absurd (both_ways (list_any (has_page k.start) (k ∷ ks)) (sym (e k.start)) (first_in k ks b))
same_spans (h ∷ hs) [] a b e = absurd (both_ways (list_any (has_page h.start) (h ∷ hs)) (e h.start) (first_in h hs a))
same_spans (h ∷ hs) (k ∷ ks) a b e =
    let back : HaveSame (k ∷ ks) (h ∷ hs) = λ page. sym (e page) in
    let l = starts_below h k hs ks a b e in
    let m = starts_below k h ks hs b a back in
    let start : h.start ≡ k.start = omega arith in
    let p = ends_below h k hs ks a b e start in
    let q = ends_below k h ks hs b a back (sym start) in
    let end : h.end ≡ k.end = omega arith in
    let first = same_span_of h k start end in
    ap (λ t. t ∷ hs) first ∙ ap (λ t. k ∷ t) (same_spans hs ks a.2 b.2 (rest_same h k hs ks a b e first))

-- ---- the holes lie apart

all_by_more : (n : ℕ) (hs : List Span) → AllBy n hs → AllBy (suc n) hs
all_by_more n [] a = tt
all_by_more n (x ∷ hs) a = (let l = a.0 in omega arith, all_by_more n hs a.1)

with_page_from : (m n : ℕ) (hs : List Span) → AllFrom m hs → m ≤ n → AllFrom m (with_page n hs)
with_page_from m n [] a l = (l, tt)
with_page_from m n (s ∷ []) a l = two (nat_eq s.end n) where
  two : (t : Bool) → AllFrom m (if t then record { start = s.start; end = n + 1 } ∷ [] else s ∷ record { start = n; end = n + 1 } ∷ [])
  two true = (a.0, tt)
  two false = (a.0, (l, tt))
with_page_from m n (s ∷ t ∷ rest) a l = (a.0, with_page_from m n (t ∷ rest) a.1 l)

with_page_spaced : (n : ℕ) (hs : List Span) → IsSpaced 1 hs → AllBy n hs → IsSpaced 1 (with_page n hs)
with_page_spaced n [] a b = (omega arith, tt, tt)
with_page_spaced n (s ∷ []) a b = two (nat_eq s.end n) refl where
  two : (t : Bool) → nat_eq s.end n ≡ t → IsSpaced 1 (if t then record { start = s.start; end = n + 1 } ∷ [] else s ∷ record { start = n; end = n + 1 } ∷ [])
  two true e = let own = a.0 in let z = eqb-true s.end n e in (omega arith, tt, tt)
  two false e =
      let l = b.0 in
      let past : s.end + 1 ≤ n = elim (cases_eq s.end n) [
        | inl z ↦ absurd (both_ways (nat_eq s.end n) e (eq-eqb s.end n z))
        | inr z ↦ elim (cases_lt s.end n) [
          | inl k ↦ omega arith
          | inr k ↦ absurd (z (omega arith))
        ]
      ] in
      (a.0, (past, tt), (omega arith, tt, tt))
with_page_spaced n (s ∷ t ∷ rest) a b =
    let far = (a.1).0 in
    let own = (a.2).0 in
    let last = (b.1).0 in
    (a.0, with_page_from (s.end + 1) n (t ∷ rest) a.1 (omega arith), with_page_spaced n (t ∷ rest) a.2 b.1)

with_page_by : (n : ℕ) (hs : List Span) → AllBy n hs → AllBy (suc n) (with_page n hs)
with_page_by n [] b = (omega arith, tt)
with_page_by n (s ∷ []) b = two (nat_eq s.end n) where
  two : (t : Bool) → AllBy (suc n) (if t then record { start = s.start; end = n + 1 } ∷ [] else s ∷ record { start = n; end = n + 1 } ∷ [])
  two true = (omega arith, tt)
  two false = (let l = b.0 in omega arith, (omega arith, tt))
with_page_by n (s ∷ t ∷ rest) b = (let l = b.0 in omega arith, with_page_by n (t ∷ rest) b.1)

has_one : (page n : ℕ) → has_page page (record { start = n; end = n + 1 }) ≡ nat_eq page n
has_one page n = elim (cases_lt page n) [
  | inl l ↦ has_before page (record { start = n; end = n + 1 }) l ∙ sym (ne_eqb page n (λ e. omega arith))
  | inr l ↦ elim (cases_lt n page) [
    | inl u ↦ has_past page (record { start = n; end = n + 1 }) (omega arith) ∙ sym (ne_eqb page n (λ e. omega arith))
    | inr u ↦ has_from page (record { start = n; end = n + 1 }) l (omega arith) ∙ sym (eq-eqb page n (omega arith))
  ]
]

wider : (page n : ℕ) (s : Span) → s.start < s.end → s.end ≡ n → has_page page (record { start = s.start; end = n + 1 }) ≡ (has_page page s || nat_eq page n)
wider page n s own z = elim (cases_lt page s.start) [
  | inl l ↦ has_before page (record { start = s.start; end = n + 1 }) l ∙ sym (or_from (has_page page s) (nat_eq page n) (has_before page s l) (ne_eqb page n (λ e. omega arith)))
  | inr l ↦ elim (cases_lt page n) [
    | inl u ↦ has_from page (record { start = s.start; end = n + 1 }) l (omega arith) ∙ sym (or_left (has_page page s) (nat_eq page n) (has_from page s l (omega arith)))
    | inr u ↦ elim (cases_lt n page) [
      | inl v ↦ has_past page (record { start = s.start; end = n + 1 }) (omega arith) ∙ sym (or_from (has_page page s) (nat_eq page n) (has_past page s (omega arith)) (ne_eqb page n (λ e. omega arith)))
      | inr v ↦ has_from page (record { start = s.start; end = n + 1 }) l (omega arith) ∙ sym (or_right (has_page page s) (nat_eq page n) (eq-eqb page n (omega arith)))
    ]
  ]
]

or_none : (t : Bool) → (t || false) ≡ t
or_none true = refl
or_none false = refl

with_page_pages : (n : ℕ) (hs : List Span) (page : ℕ) → IsSpaced 1 hs → list_any (has_page page) (with_page n hs) ≡ (list_any (has_page page) hs || nat_eq page n)
with_page_pages n [] page a = or_none (has_page page (record { start = n; end = n + 1 })) ∙ has_one page n
with_page_pages n (s ∷ []) page a = two (nat_eq s.end n) refl where
  aside : (t u : Bool) → (t || u) ≡ ((t || false) || u)
  aside true u = refl
  aside false u = refl

  two : (t : Bool) → nat_eq s.end n ≡ t → list_any (has_page page) (if t then record { start = s.start; end = n + 1 } ∷ [] else s ∷ record { start = n; end = n + 1 } ∷ []) ≡ (list_any (has_page page) (s ∷ []) || nat_eq page n)
  two true e = or_none (has_page page (record { start = s.start; end = n + 1 })) ∙ wider page n s a.0 (eqb-true s.end n e) ∙ aside (has_page page s) (nat_eq page n)
  two false e = ap (λ t. has_page page s || t) (or_none (has_page page (record { start = n; end = n + 1 })) ∙ has_one page n) ∙ aside (has_page page s) (nat_eq page n)
with_page_pages n (s ∷ t ∷ rest) page a = behind (has_page page s) (list_any (has_page page) (t ∷ rest)) (list_any (has_page page) (with_page n (t ∷ rest))) (nat_eq page n) (with_page_pages n (t ∷ rest) page a.2) where
  behind : (u v w t : Bool) → w ≡ (v || t) → (u || w) ≡ ((u || v) || t)
  behind true v w t e = refl
  behind false v w t e = e

-- what is known of the holes among the first n pages
record AreHoles (free : ℕ → Bool) (n : ℕ) (hs : List Span) : Type 0 where
  spaced : IsSpaced 1 hs
  by : AllBy n hs
  pages : (page : ℕ) → list_any (has_page page) hs ≡ (nat_lt page n && free page)

-- one page more, that is free or isn't
next_page : (free : ℕ → Bool) (n page : ℕ) (t : Bool) → free n ≡ t → ((nat_lt page n && free page) || (t && nat_eq page n)) ≡ (nat_lt page (suc n) && free page)
next_page free n page t e = elim (cases_lt page n) [
  | inl l ↦
      ap (λ x. (x && free page) || (t && nat_eq page n)) (lt-ltb page n l) ∙ ap (λ x. free page || (t && x)) (ne_eqb page n (λ z. omega arith)) ∙ none t (free page)
      ∙ sym (ap (λ x. x && free page) (lt-ltb page (suc n) (omega arith)))
  | inr l ↦ ap (λ x. (x && free page) || (t && nat_eq page n)) (le-ltb page n l) ∙ elim (cases_lt n page) [
    | inl u ↦ ap (λ x. t && x) (ne_eqb page n (λ z. omega arith)) ∙ and_none t ∙ sym (ap (λ x. x && free page) (le-ltb page (suc n) (omega arith)))
    | inr u ↦
        let z : page ≡ n = omega arith in
        ap (λ x. t && x) (eq-eqb page n z) ∙ and_all t ∙ sym e ∙ ap free (sym z) ∙ sym (ap (λ x. x && free page) (lt-ltb page (suc n) (omega arith)))
  ]
]
  where
    and_none : (t : Bool) → (t && false) ≡ false
    and_none true = refl
    and_none false = refl

    and_all : (t : Bool) → (t && true) ≡ t
    and_all true = refl
    and_all false = refl

    none : (t f : Bool) → (f || (t && false)) ≡ f
    none true f = or_none f
    none false f = or_none f

are_holes : (free : ℕ → Bool) (n : ℕ) → AreHoles free n (holes free n)
are_holes free zero = record { spaced = tt; by = tt; pages = λ page. sym (ap (λ t. t && free page) (le-ltb page 0 (omega arith))) }
are_holes free (suc n) = two (free n) refl (are_holes free n) where
  two : (t : Bool) → free n ≡ t → AreHoles free n (holes free n) → AreHoles free (suc n) (if t then with_page n (holes free n) else holes free n)
  two true e a =
      record {
        spaced = with_page_spaced n (holes free n) a.spaced a.by;
        by = with_page_by n (holes free n) a.by;
        pages = λ page. with_page_pages n (holes free n) page a.spaced ∙ ap (λ t. t || nat_eq page n) (a.pages page) ∙ next_page free n page true e;
      }
  two false e a =
      record {
        spaced = a.spaced;
        by = all_by_more n (holes free n) a.by;
        pages = λ page. a.pages page ∙ sym (or_none (nat_lt page n && free page)) ∙ next_page free n page false e;
      }

-- spans that lie apart and have the free pages are the holes
pub holes_by_pages : (free : ℕ → Bool) (n : ℕ) (hs : List Span) → IsSpaced 1 hs → ((page : ℕ) → list_any (has_page page) hs ≡ (nat_lt page n && free page)) → hs ≡ holes free n
holes_by_pages free n hs s p =
    let a = are_holes free n in
    same_spans hs (holes free n) s a.spaced (λ page. p page ∙ sym (a.pages page))
