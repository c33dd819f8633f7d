-- Blocks that are held.
use Rattle.std.proofs.Common.{◌≡◌, ℕ, zero, suc, ◌+◌, ◌-◌, ◌<◌, ◌≤◌, ◌&&◌, ◌||◌, inl, inr, Bool, true, false, List, [], ◌∷◌, length, get_or, set, replicate, refl, ap, sym, ◌∙◌, subst, arith, not, nat_eq, nat_lt, nat_le, if◌then◌else◌}
use Rattle.std.specs.List.{list_any}
use Rattle.std.proofs.lemmas.Bool.{cases_lt, and_parts, and_from, and_left, or_left, or_right, or_cases, or_parts, or_from, lt-ltb, le-ltb, lt-leb, le-leb, ltb-true, leb-true, eq-eqb, ne_eqb, eqb-true, false_from_ne_true, both_ways, not-true, not_from_false}
use Rattle.ttm_base.specs.declared.Span.{Span}
use Rattle.ttm_base.specs.Holes.{has_page, is_free_beside}
use Rattle.ttm_base.specs.Reach.{length_of}
use Rattle.buddy_manager.specs.Held.{held_from, with_block, same_span, is_held, without, all_held, AreHeld, pages_of, AllFrom, AllBy, IsApart}

-- ---- where blocks lie

pub all_from_less : (m n : ℕ) (hs : List Span) → m ≤ n → AllFrom n hs → AllFrom m hs
all_from_less m n [] h a = tt
all_from_less m n (b ∷ hs) h a = (let l = a.0 in omega arith, all_from_less m n hs h a.1)

-- a page before all blocks is in none
pub before_all : (n page : ℕ) (hs : List Span) → AllFrom n hs → page < n → list_any (has_page page) hs ≡ false
before_all n page [] a h = refl
before_all n page (b ∷ hs) a h =
    let l = a.0 in
    or_from (has_page page b) (list_any (has_page page) hs) (and_left (nat_le b.start page) (nat_lt page b.end) (lt-leb b.start page (omega arith))) (before_all n page hs a.1 h)

pub has_parts : (page : ℕ) (b : Span) → has_page page b ≡ true → (b.start ≤ page) × (page < b.end)
has_parts page b h = let p = and_parts (nat_le b.start page) (nat_lt page b.end) h in (leb-true b.start page p.0, ltb-true page b.end p.1)

pub has_from : (page : ℕ) (b : Span) → b.start ≤ page → page < b.end → has_page page b ≡ true
has_from page b l u = and_from (nat_le b.start page) (nat_lt page b.end) (le-leb b.start page l) (lt-ltb page b.end u)

-- ---- one block more

pub free_with : (b : Span) (hs : List Span) (page : ℕ) → is_free_beside (with_block b hs) page ≡ (is_free_beside hs page && not (has_page page b))
free_with b [] page = by (has_page page b) where
  by : (t : Bool) → not (t || false) ≡ (true && not t)
  by true = refl
  by false = refl
free_with b (h ∷ hs) page = two (nat_lt b.start h.start) (free_with b hs page) where
  ahead : (t u v : Bool) → not (t || (u || v)) ≡ (not (u || v) && not t)
  ahead true true v = refl
  ahead true false true = refl
  ahead true false false = refl
  ahead false true v = refl
  ahead false false true = refl
  ahead false false false = refl

  behind : (t u v w : Bool) → not w ≡ (not v && not t) → not (u || w) ≡ (not (u || v) && not t)
  behind t true v w e = refl
  behind t false v w e = e

  two : (d : Bool) → not (list_any (has_page page) (with_block b hs)) ≡ (not (list_any (has_page page) hs) && not (has_page page b))
      → not (list_any (has_page page) (if d then b ∷ (h ∷ hs) else h ∷ with_block b hs)) ≡ (not (list_any (has_page page) (h ∷ hs)) && not (has_page page b))
  two true e = ahead (has_page page b) (has_page page h) (list_any (has_page page) hs)
  two false e = behind (has_page page b) (has_page page h) (list_any (has_page page) hs) (list_any (has_page page) (with_block b hs)) e

all_from_with : (n : ℕ) (b : Span) (hs : List Span) → n ≤ b.start → AllFrom n hs → AllFrom n (with_block b hs)
all_from_with n b [] h a = (h, tt)
all_from_with n b (x ∷ hs) h a = two (nat_lt b.start x.start) (all_from_with n b hs h a.1) where
  two : (d : Bool) → AllFrom n (with_block b hs) → AllFrom n (if d then b ∷ (x ∷ hs) else x ∷ with_block b hs)
  two true r = (h, (a.0, a.1))
  two false r = (a.0, r)

free_rest : (h : Span) (hs : List Span) (page : ℕ) → is_free_beside (h ∷ hs) page ≡ true → (has_page page h ≡ false) × (is_free_beside hs page ≡ true)
free_rest h hs page f = two (has_page page h) f where
  two : (t : Bool) → not (t || list_any (has_page page) hs) ≡ true → (t ≡ false) × (not (list_any (has_page page) hs) ≡ true)
  two true e = absurd cc
  two false e = (refl, e)

pub apart_with : (b : Span) (hs : List Span) → IsApart hs → b.start < b.end → ((page : ℕ) → has_page page b ≡ true → is_free_beside hs page ≡ true) → IsApart (with_block b hs)
apart_with b [] a s free = (s, tt, tt)
apart_with b (h ∷ hs) a s free =
    elim (cases_lt b.start h.start) [
      | inl l ↦
          let own = a.0 in
          let ends : b.end ≤ h.start = elim (cases_lt h.start b.end) [
            | inr x ↦ x
            | inl x ↦ absurd (both_ways (has_page h.start h) ((free_rest h hs h.start (free h.start (has_from h.start b (omega arith) x))).0) (has_from h.start h (omega arith) own))
          ] in
          subst IsApart (sym (ap (λ t. if t then b ∷ (h ∷ hs) else h ∷ with_block b hs) (lt-ltb b.start h.start l)))
          (s, (ends, all_from_less b.end h.end hs (omega arith) a.1), a)
      | inr l ↦
          let after : h.end ≤ b.start = elim (cases_lt b.start h.end) [
            | inr x ↦ x
            | inl x ↦ absurd (both_ways (has_page b.start h) ((free_rest h hs b.start (free b.start (has_from b.start b (omega arith) s))).0) (has_from b.start h l x))
          ] in
          subst IsApart (sym (ap (λ t. if t then b ∷ (h ∷ hs) else h ∷ with_block b hs) (le-ltb b.start h.start l)))
          (a.0, all_from_with h.end b hs after a.1, apart_with b hs a.2 s (λ page t. (free_rest h hs page (free page t)).1))
    ]

pub all_by_with : (n : ℕ) (b : Span) (hs : List Span) → b.end ≤ n → AllBy n hs → AllBy n (with_block b hs)
all_by_with n b [] h a = (h, tt)
all_by_with n b (x ∷ hs) h a = two (nat_lt b.start x.start) (all_by_with n b hs h a.1) where
  two : (d : Bool) → AllBy n (with_block b hs) → AllBy n (if d then b ∷ (x ∷ hs) else x ∷ with_block b hs)
  two true r = (h, (a.0, a.1))
  two false r = (a.0, r)

pub pages_with : (b : Span) (hs : List Span) → pages_of (with_block b hs) ≡ length_of b + pages_of hs
pages_with b [] = refl
pages_with b (x ∷ hs) = two (nat_lt b.start x.start) (pages_with b hs) where
  two : (d : Bool) → pages_of (with_block b hs) ≡ length_of b + pages_of hs → pages_of (if d then b ∷ (x ∷ hs) else x ∷ with_block b hs) ≡ length_of b + (length_of x + pages_of hs)
  two true e = refl
  two false e = omega (arith, e)

-- ---- a block less

pub same_parts : (a b : Span) → same_span a b ≡ true → (a.start ≡ b.start) × (a.end ≡ b.end)
same_parts a b h = let p = and_parts (nat_eq a.start b.start) (nat_eq a.end b.end) h in (eqb-true a.start b.start p.0, eqb-true a.end b.end p.1)

-- a block before all others isn't among them
without_none : (n : ℕ) (b : Span) (hs : List Span) → AllFrom n hs → b.start < n → without b hs ≡ hs
without_none n b [] a h = refl
without_none n b (x ∷ hs) a h =
    let l = a.0 in
    let other : same_span b x ≡ false = and_left (nat_eq b.start x.start) (nat_eq b.end x.end) (ne_eqb b.start x.start (λ e. omega arith)) in
    ap (λ t. if t then without b hs else x ∷ without b hs) other ∙ ap (λ r. x ∷ r) (without_none n b hs a.1 h)

held_is_from : (n : ℕ) (b : Span) (hs : List Span) → AllFrom n hs → is_held b hs ≡ true → n ≤ b.start
held_is_from n b [] a h = absurd cc
held_is_from n b (x ∷ hs) a h =
    elim (or_cases (same_span b x) (is_held b hs) h) [
      | inl s ↦ let e = (same_parts b x s).0 in let l = a.0 in omega arith
      | inr r ↦ held_is_from n b hs a.1 r
    ]

pub held_is_by : (n : ℕ) (b : Span) (hs : List Span) → AllBy n hs → is_held b hs ≡ true → b.end ≤ n
held_is_by n b [] a h = absurd cc
held_is_by n b (x ∷ hs) a h =
    elim (or_cases (same_span b x) (is_held b hs) h) [
      | inl s ↦ let e = (same_parts b x s).1 in let l = a.0 in omega arith
      | inr r ↦ held_is_by n b hs a.1 r
    ]

pub held_has_pages : (b : Span) (hs : List Span) → IsApart hs → is_held b hs ≡ true → b.start < b.end
held_has_pages b [] a h = absurd cc
held_has_pages b (x ∷ hs) a h =
    elim (or_cases (same_span b x) (is_held b hs) h) [
      | inl s ↦ let e = same_parts b x s in let l = a.0 in omega arith
      | inr r ↦ held_has_pages b hs a.2 r
    ]

-- its pages aren't free
pub held_not_free : (b : Span) (hs : List Span) (page : ℕ) → is_held b hs ≡ true → has_page page b ≡ true → is_free_beside hs page ≡ false
held_not_free b [] page h t = absurd cc
held_not_free b (x ∷ hs) page h t =
    elim (or_cases (same_span b x) (is_held b hs) h) [
      | inl s ↦
          let e = same_parts b x s in
          let p = has_parts page b t in
          ap (λ u. not (u || list_any (has_page page) hs)) (has_from page x (let l = p.0 in omega arith) (let l = p.1 in omega arith))
      | inr r ↦ two (has_page page x) (held_not_free b hs page r t)
    ]
  where
    two : (u : Bool) → not (list_any (has_page page) hs) ≡ false → not (u || list_any (has_page page) hs) ≡ false
    two true e = refl
    two false e = e

pub all_from_without : (n : ℕ) (b : Span) (hs : List Span) → AllFrom n hs → AllFrom n (without b hs)
all_from_without n b [] a = tt
all_from_without n b (x ∷ hs) a = two (same_span b x) (all_from_without n b hs a.1) where
  two : (t : Bool) → AllFrom n (without b hs) → AllFrom n (if t then without b hs else x ∷ without b hs)
  two true r = r
  two false r = (a.0, r)

pub apart_without : (b : Span) (hs : List Span) → IsApart hs → IsApart (without b hs)
apart_without b [] a = tt
apart_without b (x ∷ hs) a = two (same_span b x) (apart_without b hs a.2) where
  two : (t : Bool) → IsApart (without b hs) → IsApart (if t then without b hs else x ∷ without b hs)
  two true r = r
  two false r = (a.0, all_from_without x.end b hs a.1, r)

pub all_by_without : (n : ℕ) (b : Span) (hs : List Span) → AllBy n hs → AllBy n (without b hs)
all_by_without n b [] a = tt
all_by_without n b (x ∷ hs) a = two (same_span b x) (all_by_without n b hs a.1) where
  two : (t : Bool) → AllBy n (without b hs) → AllBy n (if t then without b hs else x ∷ without b hs)
  two true r = r
  two false r = (a.0, r)

-- the first block is the one
without_first : (b x : Span) (hs : List Span) → IsApart (x ∷ hs) → same_span b x ≡ true → without b (x ∷ hs) ≡ hs
without_first b x hs a s =
    let e = (same_parts b x s).0 in
    let own = a.0 in
    ap (λ t. if t then without b hs else x ∷ without b hs) s ∙ without_none x.end b hs a.1 (omega arith)

without_later : (b x : Span) (hs : List Span) → IsApart (x ∷ hs) → is_held b hs ≡ true → without b (x ∷ hs) ≡ x ∷ without b hs
without_later b x hs a r =
    let l = held_is_from x.end b hs a.1 r in
    let own = a.0 in
    let other : same_span b x ≡ false = and_left (nat_eq b.start x.start) (nat_eq b.end x.end) (ne_eqb b.start x.start (λ e. omega arith)) in
    ap (λ t. if t then without b hs else x ∷ without b hs) other

pub free_without : (b : Span) (hs : List Span) (page : ℕ) → IsApart hs → is_held b hs ≡ true → is_free_beside (without b hs) page ≡ (is_free_beside hs page || has_page page b)
free_without b [] page a h = absurd cc
free_without b (x ∷ hs) page a h =
    elim (or_cases (same_span b x) (is_held b hs) h) [
      | inl s ↦
          let e = same_parts b x s in
          let same : has_page page x ≡ has_page page b = ap (λ n. nat_le n page && nat_lt page x.end) (sym e.0) ∙ ap (λ n. nat_le b.start page && nat_lt page n) (sym e.1) in
          ap (λ bs. is_free_beside bs page) (without_first b x hs a s) ∙ first (has_page page b) (list_any (has_page page) hs) (λ t. before_all x.end page hs a.1 (let u = (has_parts page b t).1 in let f = e.1 in omega arith))
          ∙ sym (ap (λ t. not (t || list_any (has_page page) hs) || has_page page b) same)
      | inr r ↦
          ap (λ bs. is_free_beside bs page) (without_later b x hs a r)
          ∙ later (has_page page x) (list_any (has_page page) hs) (list_any (has_page page) (without b hs)) (has_page page b) (free_without b hs page a.2 r)
          (λ t u. let l = held_is_from x.end b hs a.1 r in let p = (has_parts page x t).1 in let q = (has_parts page b u).0 in omega arith)
    ]
  where
    first : (t v : Bool) → (t ≡ true → v ≡ false) → not v ≡ (not (t || v) || t)
    first true v h = ap not (h refl)
    first false true h = refl
    first false false h = refl

    later : (u v w t : Bool) → not w ≡ (not v || t) → (u ≡ true → t ≡ true → ⊥) → not (u || w) ≡ (not (u || v) || t)
    later true v w true e n = absurd (n refl refl)
    later true v w false e n = refl
    later false v w t e n = e

pub pages_without : (b : Span) (hs : List Span) → IsApart hs → is_held b hs ≡ true → pages_of hs ≡ length_of b + pages_of (without b hs)
pages_without b [] a h = absurd cc
pages_without b (x ∷ hs) a h =
    elim (or_cases (same_span b x) (is_held b hs) h) [
      | inl s ↦
          let e = same_parts b x s in
          let w = ap pages_of (without_first b x hs a s) in
          let s1 = e.0 in let s2 = e.1 in
          omega (arith, w, s1, s2)
      | inr r ↦
          let w = ap pages_of (without_later b x hs a r) in
          let i = pages_without b hs a.2 r in
          omega (arith, w, i)
    ]

-- the blocks have no more pages than there are
pages_between : (n m : ℕ) (hs : List Span) → n ≤ m → IsApart hs → AllFrom n hs → AllBy m hs → pages_of hs + n ≤ m
pages_between n m [] l a f b = omega arith
pages_between n m (x ∷ hs) l a f b =
    let own = a.0 in
    let first = f.0 in
    let last = b.0 in
    let i = pages_between x.end m hs last a.2 a.1 b.1 in
    omega (arith, own, first, last, i)

all_from_zero : (hs : List Span) → AllFrom 0 hs
all_from_zero [] = tt
all_from_zero (x ∷ hs) = (omega arith, all_from_zero hs)

pub pages_within : (n : ℕ) (hs : List Span) → IsApart hs → AllBy n hs → pages_of hs ≤ n
pages_within n hs a b = let i = pages_between 0 n hs (omega arith) a (all_from_zero hs) b in omega (arith, i)

-- ---- blocks by where they end

all_from_ends : (s : ℕ) (es : List ℕ) → AllFrom s (held_from s es)
all_from_ends s [] = tt
all_from_ends s (e ∷ es) = two (nat_lt s e) (all_from_less s (s + 1) (held_from (s + 1) es) (omega arith) (all_from_ends (s + 1) es)) where
  two : (t : Bool) → AllFrom s (held_from (s + 1) es) → AllFrom s (if t then record { start = s; end = e } ∷ held_from (s + 1) es else held_from (s + 1) es)
  two true r = (omega arith, r)
  two false r = r

pub with_first : (b : Span) (hs : List Span) → AllFrom (b.start + 1) hs → with_block b hs ≡ b ∷ hs
with_first b [] a = refl
with_first b (h ∷ hs) a = let l = a.0 in ap (λ t. if t then b ∷ (h ∷ hs) else h ∷ with_block b hs) (lt-ltb b.start h.start (omega arith))

-- a block begins where none did
pub held_set : (s : ℕ) (es : List ℕ) (i e : ℕ) → i < length es → get_or es i 0 ≤ s + i → s + i < e → held_from s (set es i e) ≡ with_block (record { start = s + i; end = e }) (held_from s es)
held_set s [] i e l n h = absurd (omega arith)
held_set s (x ∷ es) zero e l n h =
    let z : s + 0 ≡ s = omega arith in
    ap (λ t. if t then record { start = s; end = e } ∷ held_from (s + 1) es else held_from (s + 1) es) (lt-ltb s e (omega arith))
    ∙ sym (with_first (record { start = s; end = e }) (held_from (s + 1) es) (all_from_ends (s + 1) es))
    ∙ sym (ap (λ t. with_block (record { start = s; end = e }) (if t then record { start = s; end = x } ∷ held_from (s + 1) es else held_from (s + 1) es)) (le-ltb s x (omega arith)))
    ∙ sym (ap (λ n. with_block (record { start = n; end = e }) (held_from s (x ∷ es))) z)
held_set s (x ∷ es) (suc i) e l n h =
    let z : s + 1 + i ≡ s + suc i = omega arith in
    two (nat_lt s x) (held_set (s + 1) es i e (omega arith) (omega arith) (omega arith) ∙ ap (λ n. with_block (record { start = n; end = e }) (held_from (s + 1) es)) z)
  where
    two : (t : Bool) → held_from (s + 1) (set es i e) ≡ with_block (record { start = s + suc i; end = e }) (held_from (s + 1) es)
        → (if t then record { start = s; end = x } ∷ held_from (s + 1) (set es i e) else held_from (s + 1) (set es i e))
        ≡ with_block (record { start = s + suc i; end = e }) (if t then record { start = s; end = x } ∷ held_from (s + 1) es else held_from (s + 1) es)
    two true r =
        ap (λ hs. record { start = s; end = x } ∷ hs) r
        ∙ sym (ap (λ t. if t then record { start = s + suc i; end = e } ∷ (record { start = s; end = x } ∷ held_from (s + 1) es) else record { start = s; end = x } ∷ with_block (record { start = s + suc i; end = e }) (held_from (s + 1) es)) (le-ltb (s + suc i) s (omega arith)))
    two false r = r

-- the block that began there doesn't any more
pub held_clear : (s : ℕ) (es : List ℕ) (i : ℕ) → i < length es → s + i < get_or es i 0 → held_from s (set es i 0) ≡ without (record { start = s + i; end = get_or es i 0 }) (held_from s es)
held_clear s [] i l h = absurd (omega arith)
held_clear s (x ∷ es) zero l h =
    let z : s + 0 ≡ s = omega arith in
    let b : Span = record { start = s; end = x } in
    ap (λ t. if t then record { start = s; end = 0 } ∷ held_from (s + 1) es else held_from (s + 1) es) (le-ltb s 0 (omega arith))
    ∙ sym (without_none (s + 1) b (held_from (s + 1) es) (all_from_ends (s + 1) es) (omega arith))
    ∙ sym (ap (λ t. if t then without b (held_from (s + 1) es) else b ∷ without b (held_from (s + 1) es)) (and_from (nat_eq s s) (nat_eq x x) (eq-eqb s s refl) (eq-eqb x x refl)))
    ∙ sym (ap (λ t. without b (if t then b ∷ held_from (s + 1) es else held_from (s + 1) es)) (lt-ltb s x (omega arith)))
    ∙ sym (ap (λ n. without (record { start = n; end = x }) (held_from s (x ∷ es))) z)
held_clear s (x ∷ es) (suc i) l h =
    let z : s + 1 + i ≡ s + suc i = omega arith in
    two (nat_lt s x) (held_clear (s + 1) es i (omega arith) (omega arith) ∙ ap (λ n. without (record { start = n; end = get_or es i 0 }) (held_from (s + 1) es)) z)
  where
    two : (t : Bool) → held_from (s + 1) (set es i 0) ≡ without (record { start = s + suc i; end = get_or es i 0 }) (held_from (s + 1) es)
        → (if t then record { start = s; end = x } ∷ held_from (s + 1) (set es i 0) else held_from (s + 1) (set es i 0))
        ≡ without (record { start = s + suc i; end = get_or es i 0 }) (if t then record { start = s; end = x } ∷ held_from (s + 1) es else held_from (s + 1) es)
    two true r =
        ap (λ hs. record { start = s; end = x } ∷ hs) r
        ∙ sym (ap (λ t. if t then without (record { start = s + suc i; end = get_or es i 0 }) (held_from (s + 1) es) else record { start = s; end = x } ∷ without (record { start = s + suc i; end = get_or es i 0 }) (held_from (s + 1) es))
        (and_left (nat_eq (s + suc i) s) (nat_eq (get_or es i 0) x) (ne_eqb (s + suc i) s (λ e. omega arith))))
    two false r = r

-- where a held block ends
pub record EndsAt (s : ℕ) (es : List ℕ) (b : Span) : Type 0 where
  pub from : s ≤ b.start
  pub below : b.start - s < length es
  pub end : get_or es (b.start - s) 0 ≡ b.end
  pub some : b.start < b.end

ends_later : (s x : ℕ) (es : List ℕ) (b : Span) → EndsAt (s + 1) es b → EndsAt s (x ∷ es) b
ends_later s x es b r =
    let f = r.from in
    let l = r.below in
    let i : b.start - s ≡ suc (b.start - (s + 1)) = omega arith in
    record { from = omega arith; below = omega arith; end = ap (λ n. get_or (x ∷ es) n 0) i ∙ r.end; some = r.some }

pub end_of_held : (s : ℕ) (es : List ℕ) (b : Span) → is_held b (held_from s es) ≡ true → EndsAt s es b
end_of_held s [] b h = absurd cc
end_of_held s (x ∷ es) b h =
    elim (cases_lt s x) [
      | inl l ↦
          let held : is_held b (record { start = s; end = x } ∷ held_from (s + 1) es) ≡ true = sym (ap (λ t. is_held b (if t then record { start = s; end = x } ∷ held_from (s + 1) es else held_from (s + 1) es)) (lt-ltb s x l)) ∙ h in
          elim (or_cases (same_span b (record { start = s; end = x })) (is_held b (held_from (s + 1) es)) held) [
            | inl e ↦
                let p = same_parts b (record { start = s; end = x }) e in
                let a : b.start ≡ s = p.0 in
                let z : b.end ≡ x = p.1 in
                let i : b.start - s ≡ 0 = omega arith in
                record { from = omega arith; below = omega arith; end = ap (λ n. get_or (x ∷ es) n 0) i ∙ sym z; some = omega arith }
            | inr r ↦ ends_later s x es b (end_of_held (s + 1) es b r)
          ]
      | inr l ↦
          let held : is_held b (held_from (s + 1) es) ≡ true = sym (ap (λ t. is_held b (if t then record { start = s; end = x } ∷ held_from (s + 1) es else held_from (s + 1) es)) (le-ltb s x l)) ∙ h in
          ends_later s x es b (end_of_held (s + 1) es b held)
    ]

-- no block begins at a free page
pub free_begins_none : (s : ℕ) (es : List ℕ) (i : ℕ) → i < length es → is_free_beside (held_from s es) (s + i) ≡ true → get_or es i 0 ≤ s + i
free_begins_none s [] i l f = absurd (omega arith)
free_begins_none s (x ∷ es) zero l f =
    elim (cases_lt (s + 0) x) [
      | inr h ↦ h
      | inl h ↦
          let held : is_free_beside (record { start = s; end = x } ∷ held_from (s + 1) es) (s + 0) ≡ true = sym (ap (λ t. is_free_beside (if t then record { start = s; end = x } ∷ held_from (s + 1) es else held_from (s + 1) es) (s + 0)) (lt-ltb s x (omega arith))) ∙ f in
          let n = (free_rest (record { start = s; end = x }) (held_from (s + 1) es) (s + 0) held).0 in
          absurd (both_ways (has_page (s + 0) (record { start = s; end = x })) n (has_from (s + 0) (record { start = s; end = x }) (omega arith) h))
    ]
free_begins_none s (x ∷ es) (suc i) l f =
    let z : s + suc i ≡ s + 1 + i = omega arith in
    let n = free_begins_none (s + 1) es i (omega arith) (two (nat_lt s x) (ap (is_free_beside (held_from s (x ∷ es))) (sym z) ∙ f)) in
    omega (arith, n)
  where
    two : (t : Bool) → is_free_beside (if t then record { start = s; end = x } ∷ held_from (s + 1) es else held_from (s + 1) es) (s + 1 + i) ≡ true → is_free_beside (held_from (s + 1) es) (s + 1 + i) ≡ true
    two true r = (free_rest (record { start = s; end = x }) (held_from (s + 1) es) (s + 1 + i) r).1
    two false r = r

-- no block at all
pub none_held : (n s : ℕ) → held_from s (replicate n 0) ≡ []
none_held zero s = refl
none_held (suc n) s = ap (λ t. if t then record { start = s; end = 0 } ∷ held_from (s + 1) (replicate n 0) else held_from (s + 1) (replicate n 0)) (le-ltb s 0 (omega arith)) ∙ none_held n (s + 1)

-- ---- whether blocks are held

pub is_held_at : (s : ℕ) (es : List ℕ) (i e : ℕ) → i < length es → get_or es i 0 ≡ e → s + i < e → is_held (record { start = s + i; end = e }) (held_from s es) ≡ true
is_held_at s [] i e l g h = absurd (omega arith)
is_held_at s (x ∷ es) zero e l g h =
    let z : s + 0 ≡ s = omega arith in
    let b : Span = record { start = s; end = x } in
    ap (λ n. is_held (record { start = n; end = e }) (held_from s (x ∷ es))) z
    ∙ ap (λ n. is_held (record { start = s; end = n }) (held_from s (x ∷ es))) (sym g)
    ∙ ap (λ t. is_held b (if t then b ∷ held_from (s + 1) es else held_from (s + 1) es)) (lt-ltb s x (omega arith))
    ∙ or_left (same_span b b) (is_held b (held_from (s + 1) es)) (and_from (nat_eq s s) (nat_eq x x) (eq-eqb s s refl) (eq-eqb x x refl))
is_held_at s (x ∷ es) (suc i) e l g h =
    let z : s + 1 + i ≡ s + suc i = omega arith in
    two (nat_lt s x) (sym (ap (λ n. is_held (record { start = n; end = e }) (held_from (s + 1) es)) z) ∙ is_held_at (s + 1) es i e (omega arith) g (omega arith))
  where
    two : (t : Bool) → is_held (record { start = s + suc i; end = e }) (held_from (s + 1) es) ≡ true → is_held (record { start = s + suc i; end = e }) (if t then record { start = s; end = x } ∷ held_from (s + 1) es else held_from (s + 1) es) ≡ true
    two true r = or_right (same_span (record { start = s + suc i; end = e }) (record { start = s; end = x })) (is_held (record { start = s + suc i; end = e }) (held_from (s + 1) es)) r
    two false r = r

pub same_self : (a : Span) → same_span a a ≡ true
same_self a = and_from (nat_eq a.start a.start) (nat_eq a.end a.end) (eq-eqb a.start a.start refl) (eq-eqb a.end a.end refl)

same_left : (a b x : Span) → same_span a b ≡ true → same_span a x ≡ same_span b x
same_left a b x h = let p = same_parts a b h in ap (λ n. nat_eq n x.start && nat_eq a.end x.end) p.0 ∙ ap (λ n. nat_eq b.start x.start && nat_eq n x.end) p.1

same_swapped : (a b : Span) → same_span a b ≡ true → same_span b a ≡ true
same_swapped a b h = let p = same_parts a b h in and_from (nat_eq b.start a.start) (nat_eq b.end a.end) (eq-eqb b.start a.start (sym p.0)) (eq-eqb b.end a.end (sym p.1))

pub held_without_other : (a b : Span) (hs : List Span) → same_span b a ≡ false → is_held a (without b hs) ≡ is_held a hs
held_without_other a b [] n = refl
held_without_other a b (h ∷ hs) n = two (same_span b h) refl (held_without_other a b hs n) where
  two : (t : Bool) → same_span b h ≡ t → is_held a (without b hs) ≡ is_held a hs → is_held a (if t then without b hs else h ∷ without b hs) ≡ (same_span a h || is_held a hs)
  two false e r = ap (λ t. same_span a h || t) r
  two true e r =
      let other : same_span a h ≡ false = false_from_ne_true (same_span a h) (λ t. both_ways (same_span b a) n (same_left b h a e ∙ same_swapped a h t)) in
      r ∙ sym (ap (λ t. t || is_held a hs) other)

held_without_self : (b : Span) (hs : List Span) → is_held b (without b hs) ≡ false
held_without_self b [] = refl
held_without_self b (h ∷ hs) = two (same_span b h) refl (held_without_self b hs) where
  two : (t : Bool) → same_span b h ≡ t → is_held b (without b hs) ≡ false → is_held b (if t then without b hs else h ∷ without b hs) ≡ false
  two true e r = r
  two false e r = or_from (same_span b h) (is_held b (without b hs)) e r

all_held_without : (b : Span) (bs hs : List Span) → is_held b bs ≡ false → all_held bs (without b hs) ≡ all_held bs hs
all_held_without b [] hs n = refl
all_held_without b (x ∷ bs) hs n =
    let p = or_parts (same_span b x) (is_held b bs) n in
    ap (λ t. t && (not (is_held x bs) && all_held bs (without b hs))) (held_without_other x b hs p.0)
    ∙ ap (λ t. is_held x hs && (not (is_held x bs) && t)) (all_held_without b bs hs p.1)

pub are_held : (bs hs : List Span) → all_held bs hs ≡ true → AreHeld bs hs
are_held [] hs h = tt
are_held (b ∷ bs) hs h =
    let p = and_parts (is_held b hs) (not (is_held b bs) && all_held bs hs) h in
    let q = and_parts (not (is_held b bs)) (all_held bs hs) p.1 in
    (p.0, are_held bs (without b hs) (all_held_without b bs hs (not-true (is_held b bs) q.0) ∙ q.1))

-- what is held once isn't among the others
not_among : (b : Span) (bs hs : List Span) → is_held b hs ≡ false → AreHeld bs hs → is_held b bs ≡ false
not_among b [] hs n h = refl
not_among b (x ∷ bs) hs n h =
    let other : same_span b x ≡ false = false_from_ne_true (same_span b x) (λ t. both_ways (is_held b hs) n (held_like b x hs t h.0)) in
    or_from (same_span b x) (is_held b bs) other (not_among b bs (without x hs) (held_without_other b x hs (false_from_ne_true (same_span x b) (λ t. both_ways (same_span b x) other (same_swapped x b t))) ∙ n) h.1)
  where
    held_like : (a b : Span) (hs : List Span) → same_span a b ≡ true → is_held b hs ≡ true → is_held a hs ≡ true
    held_like a b [] s h = absurd cc
    held_like a b (y ∷ hs) s h = ap (λ t. t || is_held a hs) (same_left a b y s) ∙ ap (λ t. same_span b y || t) (all_like a b hs s) ∙ h where
      all_like : (a b : Span) (hs : List Span) → same_span a b ≡ true → is_held a hs ≡ is_held b hs
      all_like a b [] s = refl
      all_like a b (y ∷ hs) s = ap (λ t. t || is_held a hs) (same_left a b y s) ∙ ap (λ t. same_span b y || t) (all_like a b hs s)

pub held_all : (bs hs : List Span) → AreHeld bs hs → all_held bs hs ≡ true
held_all [] hs h = refl
held_all (b ∷ bs) hs h =
    let other = not_among b bs (without b hs) (held_without_self b hs) h.1 in
    let rest : all_held bs hs ≡ true = sym (all_held_without b bs hs other) ∙ held_all bs (without b hs) h.1 in
    and_from (is_held b hs) (not (is_held b bs) && all_held bs hs) h.0 (and_from (not (is_held b bs)) (all_held bs hs) (not_from_false (is_held b bs) other) rest)
