-- Lists of spans that lie apart, by their pages.
use Rattle.std.proofs.Common.{◌≡◌, ℕ, ◌+◌, ◌-◌, ◌<◌, ◌≤◌, ◌||◌, ◌⊎◌, inl, inr, Bool, true, false, List, [], ◌∷◌, Some, None, length, refl, ap, sym, ◌∙◌, subst, arith, not, nat_lt, nat_le, if◌then◌else◌}
use Rattle.std.specs.List.{find, list_any, list_all}
use Rattle.std.proofs.lemmas.Bool.{cases_lt, and_parts, and_from, and_left, and_right, or_left, or_right, or_parts, or_from, lt-ltb, le-ltb, lt-leb, le-leb, ltb-true, leb-true, eq-eqb, ne_eqb, both_ways}
use Rattle.ttm_base.specs.declared.Span.{Span}
use Rattle.ttm_base.specs.Holes.{has_page}
use Rattle.ttm_base.specs.Reach.{length_of}
use Rattle.hole_tree.specs.HoleSet.{is_apart, is_disjoint, starts_at, ends_at, with_hole, without}
use Rattle.range_manager.specs.Held.{pages_of}
use Rattle.range_manager.specs.Kept.{AllFrom, AllBy, IsSpaced, IsClear}

-- ---- one span

pub has_parts : (page : ℕ) (s : Span) → has_page page s ≡ true → (s.start ≤ page) × (page < s.end)
has_parts page s h = let p = and_parts (nat_le s.start page) (nat_lt page s.end) h in (leb-true s.start page p.0, ltb-true page s.end p.1)

pub has_from : (page : ℕ) (s : Span) → s.start ≤ page → page < s.end → has_page page s ≡ true
has_from page s l u = and_from (nat_le s.start page) (nat_lt page s.end) (le-leb s.start page l) (lt-ltb page s.end u)

pub has_before : (page : ℕ) (s : Span) → page < s.start → has_page page s ≡ false
has_before page s l = and_left (nat_le s.start page) (nat_lt page s.end) (lt-leb s.start page l)

pub has_past : (page : ℕ) (s : Span) → s.end ≤ page → has_page page s ≡ false
has_past page s l = and_right (nat_le s.start page) (nat_lt page s.end) (le-ltb page s.end l)

-- ---- where spans lie

pub all_from_less : (m n : ℕ) (hs : List Span) → m ≤ n → AllFrom n hs → AllFrom m hs
all_from_less m n [] h a = tt
all_from_less m n (b ∷ hs) h a = (let l = a.0 in omega arith, all_from_less m n hs h a.1)

-- a page before all spans is in none
pub before_all : (n page : ℕ) (hs : List Span) → AllFrom n hs → page < n → list_any (has_page page) hs ≡ false
before_all n page [] a h = refl
before_all n page (b ∷ hs) a h = let l = a.0 in or_from (has_page page b) (list_any (has_page page) hs) (has_before page b (omega arith)) (before_all n page hs a.1 h)

-- ---- a span among spans

abbrev pub IsAmong : Span → List Span → Type 0
IsAmong s [] = ⊥
IsAmong s (x ∷ xs) = (s ≡ x) ⊎ IsAmong s xs

pub among_from : (n : ℕ) (s : Span) (hs : List Span) → AllFrom n hs → IsAmong s hs → n ≤ s.start
among_from n s [] a h = absurd h
among_from n s (x ∷ hs) a h = elim h [
  | inl e ↦ let l = a.0 in let z = ap (λ (t : Span). t.start) e in omega arith
  | inr r ↦ among_from n s hs a.1 r
]

pub among_by : (n : ℕ) (s : Span) (hs : List Span) → AllBy n hs → IsAmong s hs → s.end ≤ n
among_by n s [] a h = absurd h
among_by n s (x ∷ hs) a h = elim h [
  | inl e ↦ let l = a.0 in let z = ap (λ (t : Span). t.end) e in omega arith
  | inr r ↦ among_by n s hs a.1 r
]

pub among_some : (gap : ℕ) (s : Span) (hs : List Span) → IsSpaced gap hs → IsAmong s hs → s.start < s.end
among_some gap s [] a h = absurd h
among_some gap s (x ∷ hs) a h = elim h [
  | inl e ↦ let l = a.0 in let z = ap (λ (t : Span). t.start) e in let y = ap (λ (t : Span). t.end) e in omega arith
  | inr r ↦ among_some gap s hs a.2 r
]

-- a page of it is a page of theirs
pub among_has : (page : ℕ) (s : Span) (hs : List Span) → IsAmong s hs → has_page page s ≡ true → list_any (has_page page) hs ≡ true
among_has page s [] h t = absurd h
among_has page s (x ∷ hs) h t = elim h [
  | inl e ↦ or_left (has_page page x) (list_any (has_page page) hs) (ap (has_page page) (sym e) ∙ t)
  | inr r ↦ or_right (has_page page x) (list_any (has_page page) hs) (among_has page s hs r t)
]

pub found_among : (test : Span → Bool) (s : Span) (hs : List Span) → find test hs ≡ Some s → IsAmong s hs × (test s ≡ true)
found_among test s [] h = absurd cc
found_among test s (x ∷ hs) h = two (test x) refl (λ f. found_among test s hs f) h where
  two : (t : Bool) → test x ≡ t → (find test hs ≡ Some s → IsAmong s hs × (test s ≡ true)) → (if t then Some x else find test hs) ≡ Some s → IsAmong s (x ∷ hs) × (test s ≡ true)
  two true e r f = let z : x ≡ s = cc in (inl (sym z), ap test (sym z) ∙ e)
  two false e r f = let a = r f in (inr a.0, a.1)

pub found_none : (test : Span → Bool) (hs : List Span) → find test hs ≡ None → list_any test hs ≡ false
found_none test [] h = refl
found_none test (x ∷ hs) h = two (test x) refl (λ f. found_none test hs f) h where
  two : (t : Bool) → test x ≡ t → (find test hs ≡ None → list_any test hs ≡ false) → (if t then Some x else find test hs) ≡ None → list_any test (x ∷ hs) ≡ false
  two true e r f = absurd cc
  two false e r f = or_from (test x) (list_any test hs) e (r f)

-- it is the one that begins where it does
pub among_found : (gap : ℕ) (s : Span) (hs : List Span) → IsSpaced gap hs → IsAmong s hs → find (starts_at s.start) hs ≡ Some s
among_found gap s [] a h = absurd h
among_found gap s (x ∷ hs) a h = elim h [
  | inl e ↦ ap (λ t. if t then Some x else find (starts_at s.start) hs) (eq-eqb x.start s.start (ap (λ (t : Span). t.start) (sym e))) ∙ ap Some (sym e)
  | inr r ↦
      let own = a.0 in
      let l = among_from (x.end + gap) s hs a.1 r in
      ap (λ t. if t then Some x else find (starts_at s.start) hs) (ne_eqb x.start s.start (λ e. omega arith)) ∙ among_found gap s hs a.2 r
]

-- ---- one span more

pub pages_with : (b : Span) (hs : List Span) (page : ℕ) → list_any (has_page page) (with_hole b hs) ≡ (list_any (has_page page) hs || has_page page b)
pages_with b [] page = by (has_page page b) where
  by : (t : Bool) → (t || false) ≡ (false || t)
  by true = refl
  by false = refl
pages_with b (h ∷ hs) page = two (nat_lt b.start h.start) (pages_with b hs page) where
  ahead : (t u : Bool) → (t || u) ≡ (u || t)
  ahead true true = refl
  ahead true false = refl
  ahead false true = refl
  ahead false false = refl

  behind : (t u v w : Bool) → w ≡ (v || t) → (u || w) ≡ ((u || v) || t)
  behind t true v w e = refl
  behind t false v w e = e

  two : (d : Bool) → list_any (has_page page) (with_hole b hs) ≡ (list_any (has_page page) hs || has_page page b)
      → list_any (has_page page) (if d then b ∷ (h ∷ hs) else h ∷ with_hole b hs) ≡ (list_any (has_page page) (h ∷ hs) || has_page page b)
  two true e = ahead (has_page page b) (list_any (has_page page) (h ∷ hs))
  two false e = behind (has_page page b) (has_page page h) (list_any (has_page page) hs) (list_any (has_page page) (with_hole b hs)) e

all_from_with : (n : ℕ) (b : Span) (hs : List Span) → n ≤ b.start → AllFrom n hs → AllFrom n (with_hole b hs)
all_from_with n b [] h a = (h, tt)
all_from_with n b (x ∷ hs) h a = two (nat_lt b.start x.start) (all_from_with n b hs h a.1) where
  two : (d : Bool) → AllFrom n (with_hole b hs) → AllFrom n (if d then b ∷ (x ∷ hs) else x ∷ with_hole b hs)
  two true r = (h, (a.0, a.1))
  two false r = (a.0, r)

clear_parts : (gap : ℕ) (b x : Span) (hs : List Span) → IsClear gap b (x ∷ hs) → ((page : ℕ) → b.start ≤ page + gap → page < b.end + gap → has_page page x ≡ false) × IsClear gap b hs
clear_parts gap b x hs c = (
  λ page l u. (or_parts (has_page page x) (list_any (has_page page) hs) (c page l u)).0,
  λ page l u. (or_parts (has_page page x) (list_any (has_page page) hs) (c page l u)).1,
)

pub spaced_with : (gap : ℕ) (b : Span) (hs : List Span) → IsSpaced gap hs → b.start < b.end → IsClear gap b hs → IsSpaced gap (with_hole b hs)
spaced_with gap b [] a s c = (s, tt, tt)
spaced_with gap b (h ∷ hs) a s c =
    let own = a.0 in
    let parts = clear_parts gap b h hs c in
    elim (cases_lt b.start h.start) [
      | inl l ↦
          let ends : b.end + gap ≤ h.start = elim (cases_lt h.start (b.end + gap)) [
            | inr x ↦ x
            | inl x ↦ absurd (both_ways (has_page h.start h) (parts.0 h.start (omega arith) x) (has_from h.start h (omega arith) own))
          ] in
          subst (IsSpaced gap) (sym (ap (λ t. if t then b ∷ (h ∷ hs) else h ∷ with_hole b hs) (lt-ltb b.start h.start l)))
          (s, (ends, all_from_less (b.end + gap) (h.end + gap) hs (omega arith) a.1), a)
      | inr l ↦
          let after : h.end + gap ≤ b.start = elim (cases_lt b.start (h.end + gap)) [
            | inr x ↦ x
            | inl x ↦ elim (cases_lt b.start h.end) [
              | inl y ↦ absurd (both_ways (has_page b.start h) (parts.0 b.start (omega arith) (omega arith)) (has_from b.start h l y))
              | inr y ↦ absurd (both_ways (has_page (h.end - 1) h) (parts.0 (h.end - 1) (omega arith) (omega arith)) (has_from (h.end - 1) h (omega arith) (omega arith)))
            ]
          ] in
          subst (IsSpaced gap) (sym (ap (λ t. if t then b ∷ (h ∷ hs) else h ∷ with_hole b hs) (le-ltb b.start h.start l)))
          (own, all_from_with (h.end + gap) b hs after a.1, spaced_with gap b hs a.2 s parts.1)
    ]

pub all_by_with : (n : ℕ) (b : Span) (hs : List Span) → b.end ≤ n → AllBy n hs → AllBy n (with_hole b hs)
all_by_with n b [] h a = (h, tt)
all_by_with n b (x ∷ hs) h a = two (nat_lt b.start x.start) (all_by_with n b hs h a.1) where
  two : (d : Bool) → AllBy n (with_hole b hs) → AllBy n (if d then b ∷ (x ∷ hs) else x ∷ with_hole b hs)
  two true r = (h, (a.0, a.1))
  two false r = (a.0, r)

pub sum_with : (b : Span) (hs : List Span) → pages_of (with_hole b hs) ≡ length_of b + pages_of hs
sum_with b [] = refl
sum_with b (x ∷ hs) = two (nat_lt b.start x.start) (sum_with b hs) where
  two : (d : Bool) → pages_of (with_hole b hs) ≡ length_of b + pages_of hs → pages_of (if d then b ∷ (x ∷ hs) else x ∷ with_hole b hs) ≡ length_of b + (length_of x + pages_of hs)
  two true e = refl
  two false e = omega (arith, e)

pub length_with : (b : Span) (hs : List Span) → length (with_hole b hs) ≡ length hs + 1
length_with b [] = refl
length_with b (x ∷ hs) = two (nat_lt b.start x.start) (length_with b hs) where
  two : (d : Bool) → length (with_hole b hs) ≡ length hs + 1 → length (if d then b ∷ (x ∷ hs) else x ∷ with_hole b hs) ≡ length (x ∷ hs) + 1
  two true e = omega arith
  two false e = omega (arith, e)

-- a span is apart from spans that have none of its pages, nor of those beside it
pub apart_of_clear : (b : Span) (hs : List Span) → IsSpaced 1 hs → b.start < b.end → IsClear 1 b hs → list_all (is_apart b) hs ≡ true
apart_of_clear b [] a s c = refl
apart_of_clear b (h ∷ hs) a s c =
    let own = a.0 in
    let parts = clear_parts 1 b h hs c in
    and_from (is_apart b h) (list_all (is_apart b) hs) (elim (cases_lt b.end h.start) [
      | inl l ↦ or_left (nat_lt b.end h.start) (nat_lt h.end b.start) (lt-ltb b.end h.start l)
      | inr l ↦ elim (cases_lt h.end b.start) [
        | inl u ↦ or_right (nat_lt b.end h.start) (nat_lt h.end b.start) (lt-ltb h.end b.start u)
        | inr u ↦ elim (cases_lt h.start b.start) [
          | inl k ↦ absurd (both_ways (has_page (b.start - 1) h) (parts.0 (b.start - 1) (omega arith) (omega arith)) (has_from (b.start - 1) h (omega arith) (omega arith)))
          | inr k ↦ absurd (both_ways (has_page h.start h) (parts.0 h.start (omega arith) (omega arith)) (has_from h.start h (omega arith) own))
        ]
      ]
    ]) (apart_of_clear b hs a.2 s parts.1)

-- it has no page in common with spans that have none of its pages
pub disjoint_of_clear : (b : Span) (hs : List Span) → IsSpaced 1 hs → b.start < b.end → IsClear 0 b hs → list_all (is_disjoint b) hs ≡ true
disjoint_of_clear b [] a s c = refl
disjoint_of_clear b (h ∷ hs) a s c =
    let own = a.0 in
    let parts = clear_parts 0 b h hs c in
    and_from (is_disjoint b h) (list_all (is_disjoint b) hs) (elim (cases_lt h.start b.end) [
      | inr l ↦ or_left (nat_le b.end h.start) (nat_le h.end b.start) (le-leb b.end h.start l)
      | inl l ↦ elim (cases_lt b.start h.end) [
        | inr u ↦ or_right (nat_le b.end h.start) (nat_le h.end b.start) (le-leb h.end b.start u)
        | inl u ↦ elim (cases_lt h.start b.start) [
          | inl k ↦ absurd (both_ways (has_page b.start h) (parts.0 b.start (omega arith) (omega arith)) (has_from b.start h (omega arith) u))
          | inr k ↦ absurd (both_ways (has_page h.start h) (parts.0 h.start (omega arith) (omega arith)) (has_from h.start h (omega arith) own))
        ]
      ]
    ]) (disjoint_of_clear b hs a.2 s parts.1)

-- where none of them ends where it begins, none has the page before it
pub none_before : (b : Span) (hs : List Span) (page : ℕ) → b.start < b.end → IsClear 0 b hs → list_any (ends_at b.start) hs ≡ false → page + 1 ≡ b.start → list_any (has_page page) hs ≡ false
none_before b [] page s c n e = refl
none_before b (h ∷ hs) page s c n e =
    let here = or_parts (ends_at b.start h) (list_any (ends_at b.start) hs) n in
    let parts = clear_parts 0 b h hs c in
    or_from (has_page page h) (list_any (has_page page) hs) (elim (cases_lt page h.start) [
      | inl l ↦ has_before page h l
      | inr l ↦ elim (cases_lt page h.end) [
        | inr u ↦ has_past page h u
        | inl u ↦ elim (cases_lt b.start h.end) [
          | inl k ↦ absurd (both_ways (has_page b.start h) (parts.0 b.start (omega arith) (omega arith)) (has_from b.start h (omega arith) k))
          | inr k ↦ absurd (both_ways (ends_at b.start h) here.0 (eq-eqb h.end b.start (omega arith)))
        ]
      ]
    ]) (none_before b hs page s parts.1 here.1 e)

-- where none of them begins where it ends, none has the page there
pub none_behind : (b : Span) (hs : List Span) → b.start < b.end → IsClear 0 b hs → list_any (starts_at b.end) hs ≡ false → list_any (has_page b.end) hs ≡ false
none_behind b [] s c n = refl
none_behind b (h ∷ hs) s c n =
    let here = or_parts (starts_at b.end h) (list_any (starts_at b.end) hs) n in
    let parts = clear_parts 0 b h hs c in
    or_from (has_page b.end h) (list_any (has_page b.end) hs) (elim (cases_lt b.end h.start) [
      | inl l ↦ has_before b.end h l
      | inr l ↦ elim (cases_lt b.end h.end) [
        | inr u ↦ has_past b.end h u
        | inl u ↦ elim (cases_lt h.start b.end) [
          | inl k ↦ absurd (both_ways (has_page (b.end - 1) h) (parts.0 (b.end - 1) (omega arith) (omega arith)) (has_from (b.end - 1) h (omega arith) (omega arith)))
          | inr k ↦ absurd (both_ways (starts_at b.end h) here.0 (eq-eqb h.start b.end (omega arith)))
        ]
      ]
    ]) (none_behind b hs s parts.1 here.1)

-- ---- a span less

pub without_none : (n start : ℕ) (hs : List Span) → AllFrom n hs → start < n → without start hs ≡ hs
without_none n start [] a h = refl
without_none n start (x ∷ hs) a h =
    let l = a.0 in
    ap (λ t. if not t then x ∷ without start hs else without start hs) (ne_eqb x.start start (λ e. omega arith)) ∙ ap (λ r. x ∷ r) (without_none n start hs a.1 h)

without_first : (gap : ℕ) (s x : Span) (hs : List Span) → IsSpaced gap (x ∷ hs) → s ≡ x → without s.start (x ∷ hs) ≡ hs
without_first gap s x hs a e =
    let z = ap (λ (t : Span). t.start) e in
    let own = a.0 in
    ap (λ t. if not t then x ∷ without s.start hs else without s.start hs) (eq-eqb x.start s.start (sym z)) ∙ without_none (x.end + gap) s.start hs a.1 (omega arith)

without_later : (gap : ℕ) (s x : Span) (hs : List Span) → IsSpaced gap (x ∷ hs) → IsAmong s hs → without s.start (x ∷ hs) ≡ x ∷ without s.start hs
without_later gap s x hs a r =
    let l = among_from (x.end + gap) s hs a.1 r in
    let own = a.0 in
    ap (λ t. if not t then x ∷ without s.start hs else without s.start hs) (ne_eqb x.start s.start (λ e. omega arith))

all_from_without : (n start : ℕ) (hs : List Span) → AllFrom n hs → AllFrom n (without start hs)
all_from_without n start [] a = tt
all_from_without n start (x ∷ hs) a = two (not (starts_at start x)) (all_from_without n start hs a.1) where
  two : (t : Bool) → AllFrom n (without start hs) → AllFrom n (if t then x ∷ without start hs else without start hs)
  two false r = r
  two true r = (a.0, r)

pub spaced_without : (gap start : ℕ) (hs : List Span) → IsSpaced gap hs → IsSpaced gap (without start hs)
spaced_without gap start [] a = tt
spaced_without gap start (x ∷ hs) a = two (not (starts_at start x)) (spaced_without gap start hs a.2) where
  two : (t : Bool) → IsSpaced gap (without start hs) → IsSpaced gap (if t then x ∷ without start hs else without start hs)
  two false r = r
  two true r = (a.0, all_from_without (x.end + gap) start hs a.1, r)

pub all_by_without : (n start : ℕ) (hs : List Span) → AllBy n hs → AllBy n (without start hs)
all_by_without n start [] a = tt
all_by_without n start (x ∷ hs) a = two (not (starts_at start x)) (all_by_without n start hs a.1) where
  two : (t : Bool) → AllBy n (without start hs) → AllBy n (if t then x ∷ without start hs else without start hs)
  two false r = r
  two true r = (a.0, r)

-- what is left has no page of it, nor one beside it
pub clear_without : (gap : ℕ) (s : Span) (hs : List Span) → IsSpaced gap hs → IsAmong s hs → IsClear gap s (without s.start hs)
clear_without gap s [] a h page l u = absurd h
clear_without gap s (x ∷ hs) a h page l u = elim h [
  | inl e ↦
      let z = ap (λ (t : Span). t.end) e in
      ap (list_any (has_page page)) (without_first gap s x hs a e) ∙ before_all (x.end + gap) page hs a.1 (omega arith)
  | inr r ↦
      let f = among_from (x.end + gap) s hs a.1 r in
      ap (list_any (has_page page)) (without_later gap s x hs a r)
      ∙ or_from (has_page page x) (list_any (has_page page) (without s.start hs)) (has_past page x (omega arith)) (clear_without gap s hs a.2 r page l u)
]

pub pages_without : (gap : ℕ) (s : Span) (hs : List Span) (page : ℕ) → IsSpaced gap hs → IsAmong s hs → list_any (has_page page) hs ≡ (list_any (has_page page) (without s.start hs) || has_page page s)
pages_without gap s [] page a h = absurd h
pages_without gap s (x ∷ hs) page a h = elim h [
  | inl e ↦
      swap (has_page page x) (list_any (has_page page) hs)
      ∙ sym (ap (λ t. list_any (has_page page) t || has_page page s) (without_first gap s x hs a e) ∙ ap (λ t. list_any (has_page page) hs || has_page page t) e)
  | inr r ↦
      later (has_page page x) (list_any (has_page page) hs) (list_any (has_page page) (without s.start hs)) (has_page page s) (pages_without gap s hs page a.2 r)
      ∙ sym (ap (λ t. list_any (has_page page) t || has_page page s) (without_later gap s x hs a r))
]
  where
    swap : (t u : Bool) → (t || u) ≡ (u || t)
    swap true true = refl
    swap true false = refl
    swap false true = refl
    swap false false = refl

    later : (u v w t : Bool) → v ≡ (w || t) → (u || v) ≡ ((u || w) || t)
    later true v w t e = refl
    later false v w t e = e

pub sum_without : (gap : ℕ) (s : Span) (hs : List Span) → IsSpaced gap hs → IsAmong s hs → pages_of hs ≡ length_of s + pages_of (without s.start hs)
sum_without gap s [] a h = absurd h
sum_without gap s (x ∷ hs) a h = elim h [
  | inl e ↦
      let w = ap pages_of (without_first gap s x hs a e) in
      let l = ap length_of e in
      omega (arith, w, l)
  | inr r ↦
      let w = ap pages_of (without_later gap s x hs a r) in
      let i = sum_without gap s hs a.2 r in
      omega (arith, w, i)
]

pub length_without : (gap : ℕ) (s : Span) (hs : List Span) → IsSpaced gap hs → IsAmong s hs → length hs ≡ length (without s.start hs) + 1
length_without gap s [] a h = absurd h
length_without gap s (x ∷ hs) a h = elim h [
  | inl e ↦ let w = ap length (without_first gap s x hs a e) in omega (arith, w)
  | inr r ↦
      let w = ap length (without_later gap s x hs a r) in
      let i = length_without gap s hs a.2 r in
      omega (arith, w, i)
]

-- ---- how many pages and spans there are

sum_between : (n m : ℕ) (hs : List Span) → n ≤ m → IsSpaced 0 hs → AllFrom n hs → AllBy m hs → pages_of hs + n ≤ m
sum_between n m [] l a f b = omega arith
sum_between n m (x ∷ hs) l a f b =
    let own = a.0 in
    let first = f.0 in
    let last = b.0 in
    let i = sum_between x.end m hs last a.2 (all_from_less x.end (x.end + 0) hs (omega arith) a.1) b.1 in
    omega (arith, own, first, last, i)

all_from_zero : (hs : List Span) → AllFrom 0 hs
all_from_zero [] = tt
all_from_zero (x ∷ hs) = (omega arith, all_from_zero hs)

pub sum_within : (n : ℕ) (hs : List Span) → IsSpaced 0 hs → AllBy n hs → pages_of hs ≤ n
sum_within n hs a b = let i = sum_between 0 n hs (omega arith) a (all_from_zero hs) b in omega (arith, i)

pub length_within : (gap : ℕ) (hs : List Span) → IsSpaced gap hs → length hs ≤ pages_of hs
length_within gap [] a = omega arith
length_within gap (x ∷ hs) a = let own = a.0 in let i = length_within gap hs a.2 in omega (arith, own, i)
