-- Rising lists: their parts on both sides of a hole k, and a hole that comes or goes.
use Rattle.std.proofs.Common.{◌≡◌, ℕ, ◌≤◌, ◌<◌, Bool, true, false, cond, List, [], ◌∷◌, ◌++◌, refl, ap, inl, inr, ltb, arith}
use Rattle.std.specs.List.{filter, list_all}
use Rattle.std.proofs.lemmas.Bool.{cases_Bool, and_parts, or_cases, ltb-true, lt-ltb, le-ltb, eq-eqb, ne_eqb}
use Rattle.ttm_base.specs.declared.Span.{Span}
use Rattle.hole_tree.specs.Rising.{IsRising, IsPast}
use Rattle.hole_tree.specs.HoleSet.{is_apart, with_hole, without}

pub past_middle : (page : ℕ) (l : List Span) (k : Span) (r : List Span) → IsPast page (l ++ k ∷ r) → page < k.start
past_middle page [] k r h = h.0
past_middle page (x ∷ l) k r h = past_middle page l k r h.1

past_front : (page : ℕ) (l m : List Span) → IsPast page (l ++ m) → IsPast page l
past_front page [] m h = tt
past_front page (x ∷ l) m h = (h.0, past_front page l m h.1)

pub rising_left : (l m : List Span) → IsRising (l ++ m) → IsRising l
rising_left [] m h = tt
rising_left (x ∷ l) m h = (h.0, past_front x.end l m h.1, rising_left l m h.2)

pub rising_root : (l : List Span) (k : Span) (r : List Span) → IsRising (l ++ k ∷ r) → IsRising (k ∷ r)
rising_root [] k r h = h
rising_root (x ∷ l) k r h = rising_root l k r h.2

pub rising_right : (l : List Span) (k : Span) (r : List Span) → IsRising (l ++ k ∷ r) → IsRising r
rising_right l k r h = (rising_root l k r h).2

-- ---- a hole that comes

past_with : (page : ℕ) (x : Span) (ys : List Span) → page < x.start → IsPast page ys → IsPast page (with_hole x ys)
past_with page x [] p h = (p, tt)
past_with page x (y ∷ ys) p h = elim (ltb x.start y.start) as (λ b. IsPast page (cond b (x ∷ y ∷ ys) (y ∷ with_hole x ys))) [
  | true ↦ (p, h)
  | false ↦ (h.0, past_with page x ys p h.1)
]

pub past_lower : (page below : ℕ) (ys : List Span) → below ≤ page → IsPast page ys → IsPast below ys
past_lower page below [] p h = tt
past_lower page below (y ∷ ys) p h = let q : page < y.start = h.0 in (omega arith, past_lower page below ys p h.1)

-- a hole in front of a rising list, apart from its first, is apart from all
front_past : (x y : Span) (ys : List Span) → x.end < y.start → IsRising (y ∷ ys) → IsPast x.end (y ∷ ys)
front_past x y ys p h = let q : y.start ≤ y.end = h.0 in (p, past_lower y.end x.end ys (omega arith) h.1)

apart_above : (x y : Span) → x.start ≤ x.end → y.start ≤ y.end → is_apart x y ≡ true → x.start < y.start → x.end < y.start
apart_above x y p q e l = elim (or_cases (ltb x.end y.start) (ltb y.end x.start) e) [
  | inl a ↦ ltb-true x.end y.start a
  | inr b ↦ let c : y.end < x.start = ltb-true y.end x.start b in absurd (omega arith)
]

pub apart_below : (x y : Span) → x.start ≤ x.end → y.start ≤ y.end → is_apart x y ≡ true → y.start ≤ x.start → y.end < x.start
apart_below x y p q e l = elim (or_cases (ltb x.end y.start) (ltb y.end x.start) e) [
  | inl a ↦ let c : x.end < y.start = ltb-true x.end y.start a in absurd (omega arith)
  | inr b ↦ ltb-true y.end x.start b
]

pub rising_with : (x : Span) (ys : List Span) → x.start ≤ x.end → list_all (is_apart x) ys ≡ true → IsRising ys → IsRising (with_hole x ys)
rising_with x [] p a h = (p, tt, tt)
rising_with x (y ∷ ys) p a h =
    let parts = and_parts (is_apart x y) (list_all (is_apart x) ys) a in
    elim (cases_Bool (ltb x.start y.start)) [
      | inl e ↦
          let l : x.start < y.start = ltb-true x.start y.start e in
          rw e (p, front_past x y ys (apart_above x y p h.0 parts.0 l) h, h)
      | inr e ↦
          let l : y.start ≤ x.start = Rattle.std.proofs.lemmas.Bool.ltb-false x.start y.start e in
          rw e (h.0, past_with y.end x ys (apart_below x y p h.0 parts.0 l) h.1, rising_with x ys p parts.1 h.2)
    ]

-- ---- a hole that goes

past_filter : (page : ℕ) (test : Span → Bool) (ys : List Span) → IsPast page ys → IsPast page (filter test ys)
past_filter page test [] h = tt
past_filter page test (y ∷ ys) h = elim (test y) as (λ b. IsPast page (cond b (y ∷ filter test ys) (filter test ys))) [
  | true ↦ (h.0, past_filter page test ys h.1)
  | false ↦ past_filter page test ys h.1
]

pub rising_filter : (test : Span → Bool) (ys : List Span) → IsRising ys → IsRising (filter test ys)
rising_filter test [] h = tt
rising_filter test (y ∷ ys) h = elim (test y) as (λ b. IsRising (cond b (y ∷ filter test ys) (filter test ys))) [
  | true ↦ (h.0, past_filter y.end test ys h.1, rising_filter test ys h.2)
  | false ↦ rising_filter test ys h.2
]

pub left_past : (start page : ℕ) (ys : List Span) → start ≤ page → IsPast page ys → without start ys ≡ ys
left_past start page [] p h = refl
left_past start page (y ∷ ys) p h =
    let q : page < y.start = h.0 in
    let f = ne_eqb y.start start (λ e. omega arith) in
    rw f (ap (λ w. y ∷ w) (left_past start page ys p h.1))
