-- A page is free if a request for it alone, in a range that it fills, gets it.
use Rattle.std.proofs.Common.{◌≡◌, ℕ, zero, suc, ◌+◌, ◌-◌, ◌*◌, ◌/◌, ◌<◌, ◌≤◌, ◌&&◌, ◌||◌, inl, inr, Bool, true, false, List, [], ◌∷◌, Option, Some, None, refl, ap, sym, subst, ◌∙◌, arith, nat_eq, nat_lt, nat_le, if◌then◌else◌}
use Rattle.std.specs.Prelude.{IsSome, not, option_map, filter_map, is_some, slice_get, max, min}
use Rattle.std.specs.List.{list_any, cons_option, find}
use Rattle.std.proofs.lemmas.Bool.{true≢false, not-true, and_parts, cases_lt, or_left, or_right, or_from, and_from, and_right, lt-leb, le-leb, lt-ltb, le-ltb, eq-eqb, ne_eqb, eqb-true}
use Rattle.ttm_base.specs.declared.Span.{Span}
use Rattle.ttm_base.specs.declared.Mode.TheVariants.{Low}
use Rattle.ttm_base.specs.Holes.{has_page, with_page, holes, is_free_beside}
use Rattle.ttm_base.specs.RangeChoice.{fit_in, range_choice}
use Rattle.range_manager.proofs.SpanLaws.{IsAmong, has_parts, has_from, has_before, has_past, among_has, found_among, found_none}
use Rattle.range_manager.proofs.FitLaws.{fits, taken_of}
use Rattle.hole_tree.specs.HoleSet.{starts_at}
use Rattle.manager_walk.specs.Walk.{is_open, NoneFrom, NoneOpen, IsNextHeld, IsNextHole}

-- ---- the holes have the free pages

-- each has a page
abbrev AllSome : List Span → Type 0
AllSome [] = Unit {0}
AllSome (s ∷ ss) = (s.start < s.end) × AllSome ss

with_page_some : (n : ℕ) (hs : List Span) → AllSome hs → AllSome (with_page n hs)
with_page_some n [] a = (omega arith, tt)
with_page_some n (s ∷ []) a = two (nat_eq s.end n) refl where
  two : (t : Bool) → nat_eq s.end n ≡ t → AllSome (if t then record { start = s.start; end = n + 1 } ∷ [] else s ∷ record { start = n; end = n + 1 } ∷ [])
  two true e = (let z = eqb-true s.end n e in let l = a.0 in omega (arith, z, l), tt)
  two false e = (a.0, (omega arith, tt))
with_page_some n (s ∷ t ∷ rest) a = (a.0, with_page_some n (t ∷ rest) a.1)

has_one : (page n : ℕ) → has_page page (record { start = n; end = n + 1 }) ≡ nat_eq page n
has_one page n = elim (cases_lt page n) [
  | inl l ↦ has_before page (record { start = n; end = n + 1 }) l ∙ sym (ne_eqb page n (λ e. omega arith))
  | inr l ↦ elim (cases_lt n page) [
    | inl u ↦ has_past page (record { start = n; end = n + 1 }) (omega arith) ∙ sym (ne_eqb page n (λ e. omega arith))
    | inr u ↦ has_from page (record { start = n; end = n + 1 }) l (omega arith) ∙ sym (eq-eqb page n (omega arith))
  ]
]

wider : (page n : ℕ) (s : Span) → s.start < s.end → s.end ≡ n → has_page page (record { start = s.start; end = n + 1 }) ≡ (has_page page s || nat_eq page n)
wider page n s own z = elim (cases_lt page s.start) [
  | inl l ↦ has_before page (record { start = s.start; end = n + 1 }) l ∙ sym (or_from (has_page page s) (nat_eq page n) (has_before page s l) (ne_eqb page n (λ e. omega arith)))
  | inr l ↦ elim (cases_lt page n) [
    | inl u ↦ has_from page (record { start = s.start; end = n + 1 }) l (omega arith) ∙ sym (or_left (has_page page s) (nat_eq page n) (has_from page s l (omega arith)))
    | inr u ↦ elim (cases_lt n page) [
      | inl v ↦ has_past page (record { start = s.start; end = n + 1 }) (omega arith) ∙ sym (or_from (has_page page s) (nat_eq page n) (has_past page s (omega arith)) (ne_eqb page n (λ e. omega arith)))
      | inr v ↦ has_from page (record { start = s.start; end = n + 1 }) l (omega arith) ∙ sym (or_right (has_page page s) (nat_eq page n) (eq-eqb page n (omega arith)))
    ]
  ]
]

or_none : (t : Bool) → (t || false) ≡ t
or_none true = refl
or_none false = refl

with_page_pages : (n : ℕ) (hs : List Span) (page : ℕ) → AllSome hs → list_any (has_page page) (with_page n hs) ≡ (list_any (has_page page) hs || nat_eq page n)
with_page_pages n [] page a = or_none (has_page page (record { start = n; end = n + 1 })) ∙ has_one page n
with_page_pages n (s ∷ []) page a = two (nat_eq s.end n) refl where
  aside : (t u : Bool) → (t || u) ≡ ((t || false) || u)
  aside true u = refl
  aside false u = refl

  two : (t : Bool) → nat_eq s.end n ≡ t → list_any (has_page page) (if t then record { start = s.start; end = n + 1 } ∷ [] else s ∷ record { start = n; end = n + 1 } ∷ []) ≡ (list_any (has_page page) (s ∷ []) || nat_eq page n)
  two true e = or_none (has_page page (record { start = s.start; end = n + 1 })) ∙ wider page n s a.0 (eqb-true s.end n e) ∙ aside (has_page page s) (nat_eq page n)
  two false e = ap (λ t. has_page page s || t) (or_none (has_page page (record { start = n; end = n + 1 })) ∙ has_one page n) ∙ aside (has_page page s) (nat_eq page n)
with_page_pages n (s ∷ t ∷ rest) page a = behind (has_page page s) (list_any (has_page page) (t ∷ rest)) (list_any (has_page page) (with_page n (t ∷ rest))) (nat_eq page n) (with_page_pages n (t ∷ rest) page a.1) where
  behind : (u v w t : Bool) → w ≡ (v || t) → (u || w) ≡ ((u || v) || t)
  behind true v w t e = refl
  behind false v w t e = e

-- what is known of the holes among the first n pages
record AreHoles (free : ℕ → Bool) (n : ℕ) (hs : List Span) : Type 0 where
  some : AllSome hs
  pages : (page : ℕ) → list_any (has_page page) hs ≡ (nat_lt page n && free page)

-- one page more, that is free or isn't
next_page : (free : ℕ → Bool) (n page : ℕ) (t : Bool) → free n ≡ t → ((nat_lt page n && free page) || (t && nat_eq page n)) ≡ (nat_lt page (suc n) && free page)
next_page free n page t e = elim (cases_lt page n) [
  | inl l ↦
      ap (λ x. (x && free page) || (t && nat_eq page n)) (lt-ltb page n l) ∙ ap (λ x. free page || (t && x)) (ne_eqb page n (λ z. omega arith)) ∙ none t (free page)
      ∙ sym (ap (λ x. x && free page) (lt-ltb page (suc n) (omega arith)))
  | inr l ↦ ap (λ x. (x && free page) || (t && nat_eq page n)) (le-ltb page n l) ∙ elim (cases_lt n page) [
    | inl u ↦ ap (λ x. t && x) (ne_eqb page n (λ z. omega arith)) ∙ and_none t ∙ sym (ap (λ x. x && free page) (le-ltb page (suc n) (omega arith)))
    | inr u ↦
        let z : page ≡ n = omega arith in
        ap (λ x. t && x) (eq-eqb page n z) ∙ and_all t ∙ sym e ∙ ap free (sym z) ∙ sym (ap (λ x. x && free page) (lt-ltb page (suc n) (omega arith)))
  ]
]
  where
    and_none : (t : Bool) → (t && false) ≡ false
    and_none true = refl
    and_none false = refl

    and_all : (t : Bool) → (t && true) ≡ t
    and_all true = refl
    and_all false = refl

    none : (t f : Bool) → (f || (t && false)) ≡ f
    none true f = or_none f
    none false f = or_none f

are_holes : (free : ℕ → Bool) (n : ℕ) → AreHoles free n (holes free n)
are_holes free zero = record { some = tt; pages = λ page. sym (ap (λ t. t && free page) (le-ltb page 0 (omega arith))) }
are_holes free (suc n) = two (free n) refl (are_holes free n) where
  two : (t : Bool) → free n ≡ t → AreHoles free n (holes free n) → AreHoles free (suc n) (if t then with_page n (holes free n) else holes free n)
  two true e a =
      record {
        some = with_page_some n (holes free n) a.some;
        pages = λ page. with_page_pages n (holes free n) page a.some ∙ ap (λ t. t || nat_eq page n) (a.pages page) ∙ next_page free n page true e;
      }
  two false e a =
      record {
        some = a.some;
        pages = λ page. a.pages page ∙ sym (or_none (nat_lt page n && free page)) ∙ next_page free n page false e;
      }

-- ---- a request for one page

abbrev alone : ℕ → Span
alone page = record { start = page; end = page + 1 }

start_at : (m : ℕ) → (m + 1 - 1) / 1 * 1 ≡ m
start_at m = omega arith

-- it fits a hole that has the page, and no other
fits_page : (page : ℕ) (h : Span) → fits Low 1 1 (alone page) h ≡ has_page page h
fits_page page h =
    let m : ℕ = max h.start page in
    let k : ℕ = min h.end (page + 1) in
    ap (λ x. nat_le m x && nat_le (x + 1) k) (start_at m) ∙ elim (cases_lt page h.start) [
      | inl l ↦ and_right (nat_le m m) (nat_le (m + 1) k) (lt-leb (m + 1) k (omega arith)) ∙ sym (has_before page h l)
      | inr l ↦ elim (cases_lt page h.end) [
        | inl u ↦ and_from (nat_le m m) (nat_le (m + 1) k) (le-leb m m (omega arith)) (le-leb (m + 1) k (omega arith)) ∙ sym (has_from page h l u)
        | inr u ↦ and_right (nat_le m m) (nat_le (m + 1) k) (lt-leb (m + 1) k (omega arith)) ∙ sym (has_past page h u)
      ]
    ]

first_fit : (page : ℕ) (hs : List Span) → is_some (range_choice Low hs 1 1 (alone page)) ≡ list_any (has_page page) hs
first_fit page [] = refl
first_fit page (h ∷ hs) = two (first_fit page hs) (fits Low 1 1 (alone page) h) refl where
  two : is_some (range_choice Low hs 1 1 (alone page)) ≡ list_any (has_page page) hs → (t : Bool) → fits Low 1 1 (alone page) h ≡ t
      → is_some (option_map (λ f. f.taken) (slice_get (cons_option (if t then Some (record { hole = h; taken = taken_of Low 1 1 (alone page) h }) else None) (filter_map (fit_in Low 1 1 (alone page)) hs)) 0))
      ≡ (has_page page h || list_any (has_page page) hs)
  two rest true e = sym (or_left (has_page page h) (list_any (has_page page) hs) (sym (fits_page page h) ∙ e))
  two rest false e = rest ∙ sym (ap (λ x. x || list_any (has_page page) hs) (sym (fits_page page h) ∙ e))

-- a page that is given is free, and one that isn't is not
pub open_by_choice : (held : List Span) (size page : ℕ) → is_some (range_choice Low (holes (is_free_beside held) size) 1 1 (alone page)) ≡ is_open held size page
open_by_choice held size page = first_fit page (holes (is_free_beside held) size) ∙ (are_holes (is_free_beside held) size).pages page

-- ---- the pages below one, and that one

pub none_to_next : (held : List Span) (low page : ℕ) → NoneFrom held low page → find (starts_at page) held ≡ None → NoneFrom held low (page + 1)
none_to_next held low page n e = λ p from to. elim (cases_lt p page) [
  | inl l ↦ n p from l
  | inr l ↦ let z : page ≡ p = omega arith in subst (λ q. find (starts_at q) held ≡ None) z e
]

pub closed_to_next : (held : List Span) (size low page : ℕ) → NoneOpen held size low page → is_open held size page ≡ false → NoneOpen held size low (page + 1)
closed_to_next held size low page n e = λ p from to. elim (cases_lt p page) [
  | inl l ↦ n p from l
  | inr l ↦ let z : page ≡ p = omega arith in subst (λ q. is_open held size q ≡ false) z e
]

-- ---- free pages up to where a held span begins

among_starts : (s : Span) (hs : List Span) → IsAmong s hs → list_any (starts_at s.start) hs ≡ true
among_starts s [] a = absurd a
among_starts s (h ∷ hs) (inl e) = or_left (starts_at s.start h) (list_any (starts_at s.start) hs) (eq-eqb h.start s.start (ap (λ (x : Span). x.start) (sym e)))
among_starts s (h ∷ hs) (inr a) = or_right (starts_at s.start h) (list_any (starts_at s.start) hs) (among_starts s hs a)

-- no span has the page: it would have the free page below it too, or begin between them
not_held : (held : List Span) (start page : ℕ) → list_any (has_page start) held ≡ false → NoneFrom held (start + 1) (page + 1) → start ≤ page → (o : Option Span) → find (has_page page) held ≡ o → list_any (has_page page) held ≡ false
not_held held start page c n from None e = found_none (has_page page) held e
not_held held start page c n from (Some s) e =
    let f = found_among (has_page page) s held e in
    let p = has_parts page s f.1 in
    elim (cases_lt start s.start) [
      | inl l ↦ absurd (true≢false (sym (among_starts s held f.0) ∙ found_none (starts_at s.start) held (n s.start (omega arith) (let q = p.0 in omega (arith, q)))))
      | inr l ↦ absurd (true≢false (sym (among_has start s held f.0 (has_from start s l (let q = p.1 in omega (arith, q)))) ∙ c))
    ]

pub open_until : (held : List Span) (size start page : ℕ) → is_open held size start ≡ true → NoneFrom held (start + 1) (page + 1) → start ≤ page → page < size → is_open held size page ≡ true
open_until held size start page o n from to =
    let c = not-true (list_any (has_page start) held) (and_parts (nat_lt start size) (is_free_beside held start) o).1 in
    and_from (nat_lt page size) (is_free_beside held page) (lt-ltb page size to) (ap not (not_held held start page c n from (find (has_page page) held) refl))

-- ---- the answers of the walks

pub starts : (held : List Span) (page : ℕ) (s : Span) → find (starts_at page) held ≡ Some s → s.start ≡ page
starts held page s e = eqb-true s.start page (found_among (starts_at page) s held e).1

pub held_begins : (held : List Span) (s : Span) → find (starts_at s.start) held ≡ Some s → IsSome (find (starts_at s.start) held)
held_begins held s e = ap is_some e

pub next_at : (held : List Span) (low page : ℕ) (s : Span) → low ≤ page → find (starts_at page) held ≡ Some s → NoneFrom held low page → IsNextHeld held low s
next_at held low page s above e n =
    let z = sym (starts held page s e) in
    record {
      above = omega (arith, z);
      is_held = subst (λ p. find (starts_at p) held ≡ Some s) z e;
      first = subst (λ p. NoneFrom held low p) z n;
    }

pub hole_at : (held : List Span) (size low start end : ℕ) → low ≤ start → is_open held size start ≡ true → NoneOpen held size low start → start < end → end ≤ size → NoneFrom held (start + 1) end
    → (end < size → IsSome (find (starts_at end) held)) → IsNextHole held size low (record { start = start; end = end })
hole_at held size low start end above o first some within n w =
    record {
      above = above;
      some = some;
      free = λ page h. let p = has_parts page (record { start = start; end = end }) h in let l = p.0 in let u = p.1 in open_until held size start page o (λ q from to. n q from (omega arith)) l (omega arith);
      whole = w;
      first = first;
    }
