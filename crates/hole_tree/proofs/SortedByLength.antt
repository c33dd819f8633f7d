-- The holes by length: they are sorted, one comes and goes in its place, and the first that fits is the shortest.
use Rattle.std.proofs.Common.{◌≡◌, ℕ, ◌≤◌, ◌<◌, Bool, true, false, cond, not, List, [], ◌∷◌, Option, Some, None, IsSome, length, refl, ap, sym, subst, ◌∙◌, inl, inr, ltb, arith}
use Rattle.std.specs.List.{find, filter, list_all}
use Rattle.std.proofs.lemmas.Bool.{cases_Bool, and_parts, eqb-true, ltb-false}
use Rattle.std.proofs.lemmas.Bool.Decides.{nat_tests}
use Rattle.ttm_base.specs.declared.Span.{Span}
use Rattle.ttm_base.specs.ListWords.{first_least}
use Rattle.ttm_base.specs.Reach.{length_of}
use Rattle.hole_tree.specs.declared.order.Order.{Order}
use Rattle.hole_tree.specs.declared.order.Order.TheVariants.{ByStart, ByLength}
use Rattle.hole_tree.specs.Choosing.{find_shortest}
use Rattle.hole_tree.specs.HoleSet.{is_apart, starts_at, with_hole, without}
use Rattle.hole_tree.specs.Rising.{IsRising, IsPast, EndsBy}
use Rattle.hole_tree.specs.Sorting.{before, ties, IsBefore, IsSorted, placed, untied, sorted_by_length}
use Rattle.hole_tree.proofs.Counting.{length-without}
use Rattle.hole_tree.proofs.Rises.{past_lower, apart_below, left_past}
use Rattle.hole_tree.proofs.Sorts.{before_trans, not_back, before_all, length-placed}

-- ---- the list by start

pub placed_start : (x : Span) (ys : List Span) → placed ByStart x ys ≡ with_hole x ys
placed_start x [] = refl
placed_start x (y ∷ ys) = ap (λ w. cond (ltb x.start y.start) (x ∷ y ∷ ys) (y ∷ w)) (placed_start x ys)

past_before : (x : Span) (ys : List Span) → IsPast x.start ys → IsBefore ByStart x ys
past_before x [] h = tt
past_before x (y ∷ ys) h = let p : x.start < y.start = h.0 in (grind (arith, nat_tests), past_before x ys h.1)

pub start_sorted : (ys : List Span) → IsRising ys → IsSorted ByStart ys
start_sorted [] h = tt
start_sorted (y ∷ ys) h = (past_before y ys (past_lower y.end y.start ys h.0 h.1), start_sorted ys h.2)

tie_start : (start : ℕ) (h : Span) → ties ByStart (record { start = start; end = start }) h ≡ starts_at start h
tie_start start h = grind (arith, nat_tests)

find_same : (test other : Span → Bool) → ((h : Span) → test h ≡ other h) → (ys : List Span) → find test ys ≡ find other ys
find_same test other e [] = refl
find_same test other e (y ∷ ys) = rw (e y, find_same test other e ys)

filter_same : (test other : Span → Bool) → ((h : Span) → test h ≡ other h) → (ys : List Span) → filter test ys ≡ filter other ys
filter_same test other e [] = refl
filter_same test other e (y ∷ ys) = rw (e y, filter_same test other e ys)

pub find_start : (start : ℕ) (ys : List Span) → find (ties ByStart (record { start = start; end = start })) ys ≡ find (starts_at start) ys
find_start start ys = find_same _ _ (tie_start start) ys

pub without_start : (start : ℕ) (ys : List Span) → untied ByStart (record { start = start; end = start }) ys ≡ without start ys
without_start start ys = filter_same _ _ (λ h. ap not (tie_start start h)) ys

-- ---- the list by length is sorted

-- of two holes that begin at different pages one stands before the other
follows : (x y : Span) → x.start < y.start → before ByLength x y ≡ false → before ByLength y x ≡ true
follows x y p e = grind (arith, nat_tests)

before_placed : (o : Order) (z x : Span) (ys : List Span) → before o z x ≡ true → IsBefore o z ys → IsBefore o z (placed o x ys)
before_placed o z x [] p h = (p, tt)
before_placed o z x (y ∷ ys) p h = elim (before o x y) as (λ b. IsBefore o z (cond b (x ∷ y ∷ ys) (y ∷ placed o x ys))) [
  | true ↦ (p, h)
  | false ↦ (h.0, before_placed o z x ys p h.1)
]

sorted_placed : (x : Span) (ys : List Span) → IsPast x.start ys → IsSorted ByLength ys → IsSorted ByLength (placed ByLength x ys)
sorted_placed x [] h s = (tt, tt)
sorted_placed x (y ∷ ys) h s = elim (cases_Bool (before ByLength x y)) [
  | inl e ↦ rw e ((e, before_all ByLength x y ys e s.0), s)
  | inr e ↦ rw e (before_placed ByLength y x ys (follows x y h.0 e) s.0, sorted_placed x ys h.1 s.1)
]

past_placed : (page : ℕ) (x : Span) (ys : List Span) → page < x.start → IsPast page ys → IsPast page (placed ByLength x ys)
past_placed page x [] p h = (p, tt)
past_placed page x (y ∷ ys) p h = elim (before ByLength x y) as (λ b. IsPast page (cond b (x ∷ y ∷ ys) (y ∷ placed ByLength x ys))) [
  | true ↦ (p, h)
  | false ↦ (h.0, past_placed page x ys p h.1)
]

past_sorted : (page : ℕ) (ys : List Span) → IsPast page ys → IsPast page (sorted_by_length ys)
past_sorted page [] h = tt
past_sorted page (y ∷ ys) h = past_placed page y (sorted_by_length ys) h.0 (past_sorted page ys h.1)

-- the holes after the first of a rising list begin past its start
past_first : (y : Span) (ys : List Span) → IsRising (y ∷ ys) → IsPast y.start (sorted_by_length ys)
past_first y ys h = past_sorted y.start ys (past_lower y.end y.start ys h.0 h.1)

pub length_sorted : (ys : List Span) → IsRising ys → IsSorted ByLength (sorted_by_length ys)
length_sorted [] h = tt
length_sorted (y ∷ ys) h = sorted_placed y (sorted_by_length ys) (past_first y ys h) (length_sorted ys h.2)

pub length-sorted : (ys : List Span) → length (sorted_by_length ys) ≡ length ys
length-sorted [] = refl
length-sorted (y ∷ ys) = omega (arith, length-placed ByLength y (sorted_by_length ys), length-sorted ys)

ends_placed : (last : ℕ) (x : Span) (ys : List Span) → x.end ≤ last → EndsBy last ys → EndsBy last (placed ByLength x ys)
ends_placed last x [] p h = (p, tt)
ends_placed last x (y ∷ ys) p h = elim (before ByLength x y) as (λ b. EndsBy last (cond b (x ∷ y ∷ ys) (y ∷ placed ByLength x ys))) [
  | true ↦ (p, h)
  | false ↦ (h.0, ends_placed last x ys p h.1)
]

pub ends_sorted : (last : ℕ) (ys : List Span) → EndsBy last ys → EndsBy last (sorted_by_length ys)
ends_sorted last [] h = tt
ends_sorted last (y ∷ ys) h = ends_placed last y (sorted_by_length ys) h.0 (ends_sorted last ys h.1)

-- ---- a hole that comes

placed_twice : (o : Order) (x y : Span) (zs : List Span) → before o x y ≡ true → placed o x (placed o y zs) ≡ placed o y (placed o x zs)
placed_twice o x y [] p = rw (p, not_back o x y p)
placed_twice o x y (z ∷ zs) p = elim (cases_Bool (before o y z)) [
  | inl e ↦ rw (e, p, before_trans o x y z p e, not_back o x y p, e)
  | inr e ↦ elim (cases_Bool (before o x z)) [
    | inl f ↦ rw (e, f, not_back o x y p, e)
    | inr f ↦ rw (e, f, e) (ap (λ w. z ∷ w) (placed_twice o x y zs p))
  ]
]

placed_both : (x y : Span) (zs : List Span) → y.start < x.start → placed ByLength y (placed ByLength x zs) ≡ placed ByLength x (placed ByLength y zs)
placed_both x y zs p = elim (cases_Bool (before ByLength y x)) [
  | inl e ↦ placed_twice ByLength y x zs e
  | inr e ↦ sym (placed_twice ByLength x y zs (follows y x p e))
]

pub sorted_with : (x : Span) (ys : List Span) → x.start ≤ x.end → list_all (is_apart x) ys ≡ true → IsRising ys → sorted_by_length (with_hole x ys) ≡ placed ByLength x (sorted_by_length ys)
sorted_with x [] p a h = refl
sorted_with x (y ∷ ys) p a h =
    let parts = and_parts (is_apart x y) (list_all (is_apart x) ys) a in
    elim (cases_Bool (ltb x.start y.start)) [
      | inl e ↦ rw e
      | inr e ↦
          let below : y.end < x.start = apart_below x y p h.0 parts.0 (ltb-false x.start y.start e) in
          let whole : y.start ≤ y.end = h.0 in
          rw e (ap (λ w. placed ByLength y w) (sorted_with x ys p parts.1 h.2) ∙ placed_both x y (sorted_by_length ys) (omega arith))
    ]

-- ---- a hole that goes

placed_front : (o : Order) (x : Span) (ys : List Span) → IsBefore o x ys → placed o x ys ≡ x ∷ ys
placed_front o x [] h = refl
placed_front o x (y ∷ ys) h = rw h.0

before_filter : (o : Order) (x : Span) (test : Span → Bool) (ys : List Span) → IsBefore o x ys → IsBefore o x (filter test ys)
before_filter o x test [] h = tt
before_filter o x test (y ∷ ys) h = elim (test y) as (λ b. IsBefore o x (cond b (y ∷ filter test ys) (filter test ys))) [
  | true ↦ (h.0, before_filter o x test ys h.1)
  | false ↦ before_filter o x test ys h.1
]

filter_placed : (o : Order) (test : Span → Bool) (x : Span) (ys : List Span) → IsSorted o ys → filter test (placed o x ys) ≡ cond (test x) (placed o x (filter test ys)) (filter test ys)
filter_placed o test x [] s = refl
filter_placed o test x (y ∷ ys) s = elim (cases_Bool (before o x y)) [
  | inl e ↦
      let all : IsBefore o x (y ∷ ys) = (e, before_all o x y ys e s.0) in
      rw e (ap (λ w. cond (test x) w (filter test (y ∷ ys))) (sym (placed_front o x (filter test (y ∷ ys)) (before_filter o x test (y ∷ ys) all))))
  | inr e ↦ elim (cases_Bool (test y)) [
    | inl t ↦ elim (cases_Bool (test x)) [
      | inl u ↦ let ih = filter_placed o test x ys s.1 in rw (e, t, u, e) (ap (λ w. y ∷ w) (ih ∙ rw u))
      | inr u ↦ let ih = filter_placed o test x ys s.1 in rw (e, t, u) (ap (λ w. y ∷ w) (ih ∙ rw u))
    ]
    | inr t ↦ rw (e, t) (filter_placed o test x ys s.1)
  ]
]

sorted_filter : (test : Span → Bool) (ys : List Span) → IsRising ys → sorted_by_length (filter test ys) ≡ filter test (sorted_by_length ys)
sorted_filter test [] h = refl
sorted_filter test (y ∷ ys) h =
    let ih = sorted_filter test ys h.2 in
    let f = filter_placed ByLength test y (sorted_by_length ys) (length_sorted ys h.2) in
    elim (cases_Bool (test y)) [
      | inl t ↦ rw t (ap (λ w. placed ByLength y w) ih ∙ sym (f ∙ rw t))
      | inr t ↦ rw t (ih ∙ sym (f ∙ rw t))
    ]

tie_self : (x : Span) → ties ByLength x x ≡ true
tie_self x = grind (arith, nat_tests)

no_tie_above : (x y : Span) → x.start < y.start → ties ByLength x y ≡ false
no_tie_above x y p = grind (arith, nat_tests)

no_tie_below : (x y : Span) → y.start < x.start → ties ByLength x y ≡ false
no_tie_below x y p = grind (arith, nat_tests)

untied_past : (x : Span) (page : ℕ) (ys : List Span) → x.start ≤ page → IsPast page ys → untied ByLength x ys ≡ ys
untied_past x page [] p h = refl
untied_past x page (y ∷ ys) p h = let q : page < y.start = h.0 in rw (no_tie_above x y (omega arith)) (ap (λ w. y ∷ w) (untied_past x page ys p h.1))

pub past_found : (start page : ℕ) (ys : List Span) (x : Span) → IsPast page ys → find (starts_at start) ys ≡ Some x → page < x.start
past_found start page [] x h e = cc
past_found start page (y ∷ ys) x h e = elim (cases_Bool (starts_at start y)) [
  | inl t ↦ let same : Some y ≡ Some x = rw t at e in let z : y ≡ x = cc in rw (← z) h.0
  | inr f ↦ past_found start page ys x h.1 (rw f at e)
]

untied_found : (start : ℕ) (ys : List Span) (x : Span) → IsRising ys → find (starts_at start) ys ≡ Some x → untied ByLength x ys ≡ without start ys
untied_found start [] x h e = refl
untied_found start (y ∷ ys) x h e =
    let whole : y.start ≤ y.end = h.0 in
    elim (cases_Bool (starts_at start y)) [
      | inl t ↦
          let same : Some y ≡ Some x = rw t at e in
          let z : y ≡ x = cc in
          let begins : y.start ≡ start = eqb-true y.start start t in
          let here : untied ByLength y (y ∷ ys) ≡ without start (y ∷ ys) = rw (t, tie_self y) (untied_past y y.end ys whole h.1 ∙ sym (left_past start y.end ys (omega arith) h.1)) in
          let P : Span → Type 0 = λ w. untied ByLength w (y ∷ ys) ≡ without start (y ∷ ys) in
          subst P z here
      | inr f ↦
          let found = rw f at e in
          let above : y.end < x.start = past_found start y.end ys x h.1 found in
          rw (f, no_tie_below x y (omega arith)) (ap (λ w. y ∷ w) (untied_found start ys x h.2 found))
    ]

-- the hole that begins at a page goes from the holes by length
pub sorted_without : (start : ℕ) (ys : List Span) (x : Span) → IsRising ys → find (starts_at start) ys ≡ Some x → untied ByLength x (sorted_by_length ys) ≡ sorted_by_length (without start ys)
sorted_without start ys x h e = sym (sorted_filter (λ y. not (ties ByLength x y)) ys h) ∙ ap sorted_by_length (untied_found start ys x h e)

none_left : (test : Span → Bool) (ys : List Span) → find test ys ≡ None → filter (λ h. not (test h)) ys ≡ ys
none_left test [] e = refl
none_left test (y ∷ ys) e = elim (cases_Bool (test y)) [
  | inl t ↦ let no : Some y ≡ None = rw t at e in cc
  | inr t ↦ rw t (ap (λ w. y ∷ w) (none_left test ys (rw t at e)))
]

found_by_length : (start : ℕ) (ys : List Span) (x : Span) → IsRising ys → find (starts_at start) ys ≡ Some x → find (ties ByLength x) (sorted_by_length ys) ≡ None → ⊥
found_by_length start ys x h e n =
    let same : sorted_by_length ys ≡ sorted_by_length (without start ys) = sym (none_left (ties ByLength x) (sorted_by_length ys) n) ∙ sorted_without start ys x h e in
    let count : length (sorted_by_length ys) ≡ length (sorted_by_length (without start ys)) = ap length same in
    omega (arith, length-without start ys x h e, length-sorted ys, length-sorted (without start ys))

some_of : (o : Option Span) → (o ≡ None → ⊥) → IsSome o
some_of None f = absurd (f refl)
some_of (Some x) f = refl

pub held_by_length : (start : ℕ) (ys : List Span) (x : Span) → IsRising ys → find (starts_at start) ys ≡ Some x → IsSome (find (ties ByLength x) (sorted_by_length ys))
held_by_length start ys x h e = some_of _ (λ n. found_by_length start ys x h e n)

-- ---- the first that fits

not_shorter : (x y : Span) → before ByLength x y ≡ true → ltb (length_of y) (length_of x) ≡ false
not_shorter x y e = grind (arith, nat_tests)

is_shorter : (x y : Span) → x.start < y.start → before ByLength x y ≡ false → ltb (length_of y) (length_of x) ≡ true
is_shorter x y p e = grind (arith, nat_tests)

least_front : (test : Span → Bool) (x : Span) (zs : List Span) → IsBefore ByLength x zs → first_least length_of x (find test zs) ≡ x
least_front test x [] h = refl
least_front test x (z ∷ zs) h = elim (cases_Bool (test z)) [
  | inl t ↦ rw (t, not_shorter x z h.0)
  | inr t ↦ rw t (least_front test x zs h.1)
]

find_placed : (test : Span → Bool) (x : Span) (zs : List Span) → IsPast x.start zs → IsSorted ByLength zs → find test (placed ByLength x zs) ≡ cond (test x) (Some (first_least length_of x (find test zs))) (find test zs)
find_placed test x [] h s = refl
find_placed test x (z ∷ zs) h s = elim (cases_Bool (before ByLength x z)) [
  | inl e ↦
      let front = least_front test x (z ∷ zs) (e, before_all ByLength x z zs e s.0) in
      rw e (ap (λ w. cond (test x) (Some w) (find test (z ∷ zs))) (sym front))
  | inr e ↦ elim (cases_Bool (test z)) [
    | inl t ↦ elim (cases_Bool (test x)) [
      | inl u ↦ rw (e, t, u, is_shorter x z h.0 e)
      | inr u ↦ rw (e, t, u)
    ]
    | inr t ↦ rw (e, t) (find_placed test x zs h.1 s.1)
  ]
]

pub first_by_length : (test : Span → Bool) (ys : List Span) → IsRising ys → find test (sorted_by_length ys) ≡ find_shortest test ys
first_by_length test [] h = refl
first_by_length test (y ∷ ys) h =
    let ih = first_by_length test ys h.2 in
    find_placed test y (sorted_by_length ys) (past_first y ys h) (length_sorted ys h.2) ∙ elim (cases_Bool (test y)) [
      | inl t ↦ rw t (ap (λ o. Some (first_least length_of y o)) ih)
      | inr t ↦ rw t ih
    ]
