-- What is changed of mappings one by one makes both sides of a range, and what comes between.
use Rattle.std.proofs.Common.{◌≡◌, ℕ, ◌+◌, ◌-◌, ◌<◌, ◌≤◌, min, max, Bool, true, false, List, [], ◌∷◌, ◌++◌, Option, Some, None, refl, ap, ap₂, sym, ◌∙◌, subst, arith, inl, inr, ◌⊎◌}
use Rattle.std.specs.Prelude.{flat_map, find, option_map, option_to_list, ◌==◌, nat_lt, nat_le, if◌then◌else◌}
use Rattle.std.specs.Option.{option_or, is_some}
use Rattle.std.proofs.lemmas.Bool.{cases_Bool, eqb-true, eqb-false, ltb-true, ltb-false, lt-ltb, le-ltb, eq-eqb, ne_eqb, and_parts, leb-true}
use Rattle.std.proofs.lemmas.Bool.Decides.{nat_tests}
use Rattle.std.proofs.lemmas.List.Folds.{find-append}
use Rattle.ttm_base.specs.declared.Span.{Span}
use Rattle.ttm_base.specs.Holes.{has_page}
use Rattle.journal_model.specs.marks.Spaces.{Region}
use Rattle.law_legal.specs.law_spaces.Rising.{IsRising, IsPast}
use Rattle.law_legal.specs.law_spaces.Sides.{head_of, tail_of, sides}
use Rattle.law_legal.proofs.law_spaces.Found.{found_past, found_passes, has_parts}
use Rattle.law_legal.proofs.law_spaces.Sides.{cut, cut_whole}
use Rattle.law_legal.proofs.law_spaces.Order.{rising_with_nothing, rising_with_one}
use Rattle.law_legal.proofs.law_spaces.Points.{or_none}
use Rattle.gpu_spaces.specs.Regions.{starts_at, starting, head_at, tail_at, over, set_at, IsAfter, IsOrdered, AreSmall}

-- the mapping that has a page
abbrev pub having : ℕ → List Region → Option Region
having page rs = find (λ r. has_page page r.span) rs

-- ---- what is found

same_start : (q : ℕ) (r : Region) → starts_at q r ≡ true → r.span.start ≡ q
same_start q r e = eqb-true r.span.start q e

pub found_starts : (q : ℕ) (rs : List Region) (r : Region) → starting q rs ≡ Some r → r.span.start ≡ q
found_starts q [] r h = absurd (cc)
found_starts q (x ∷ rs) r h = elim (cases_Bool (starts_at q x)) [
  | inl t ↦ let h' = rw t at h in let same : x ≡ r = cc in subst (λ (y : Region). y.span.start ≡ q) same (same_start q x t)
  | inr f ↦ found_starts q rs r (rw f at h)
]

pub found_has_pages : (test : Region → Bool) (rs : List Region) (r : Region) → IsRising rs → find test rs ≡ Some r → r.span.start < r.span.end
found_has_pages test [] r p h = absurd (cc)
found_has_pages test (x ∷ rs) r p h = elim (cases_Bool (test x)) [
  | inl t ↦ let h' = rw t at h in let same : x ≡ r = cc in subst (λ (y : Region). y.span.start < y.span.end) same p.0
  | inr f ↦ found_has_pages test rs r p.2 (rw f at h)
]

pub found_small : (test : Region → Bool) (rs : List Region) (r : Region) → AreSmall rs → find test rs ≡ Some r → r.off + (r.span.end - r.span.start) ≤ 4096
found_small test [] r p h = absurd (cc)
found_small test (x ∷ rs) r p h = elim (cases_Bool (test x)) [
  | inl t ↦ let h' = rw t at h in let same : x ≡ r = cc in subst (λ (y : Region). y.off + (y.span.end - y.span.start) ≤ 4096) same p.1
  | inr f ↦ found_small test rs r p.2 (rw f at h)
]

-- the one that has a page is found by its start, too
pub having_starts : (page : ℕ) (rs : List Region) (r : Region) → IsRising rs → having page rs ≡ Some r → starting r.span.start rs ≡ Some r
having_starts page [] r p h = absurd (cc)
having_starts page (x ∷ rs) r p h = elim (cases_Bool (has_page page x.span)) [
  | inl t ↦
      let h' = rw t at h in
      let same : x ≡ r = cc in
      let here : starting x.span.start (x ∷ rs) ≡ Some x = rw (eq-eqb x.span.start x.span.start refl) refl in
      subst (λ (y : Region). starting y.span.start (x ∷ rs) ≡ Some y) same here
  | inr f ↦
      let h' = rw f at h in
      let low : x.span.end ≤ r.span.start = found_past (λ s. has_page page s.span) x.span.end rs r p.1 h' in
      let w : x.span.start < x.span.end = p.0 in
      let apart : starts_at r.span.start x ≡ false = ne_eqb x.span.start r.span.start (λ e. omega arith) in
      rw apart (having_starts page rs r p.2 h')
]

-- and the one that is found by its start has its pages
pub starting_has : (page q : ℕ) (rs : List Region) (r : Region) → IsRising rs → starting q rs ≡ Some r → has_page page r.span ≡ true → having page rs ≡ Some r
starting_has page q [] r p h t = absurd (cc)
starting_has page q (x ∷ rs) r p h t = elim (cases_Bool (starts_at q x)) [
  | inl e ↦
      let h' = rw e at h in
      let same : x ≡ r = cc in
      let here : has_page page x.span ≡ true = ap (λ (y : Region). has_page page y.span) same ∙ t in
      rw here (ap Some same)
  | inr f ↦
      let h' = rw f at h in
      let low : x.span.end ≤ r.span.start = found_past (starts_at q) x.span.end rs r p.1 h' in
      let parts = has_parts page r.span t in
      let not_here : has_page page x.span ≡ false = grind (arith, nat_tests) in
      rw not_here (starting_has page q rs r p.2 h' t)
]

-- ---- both sides

abbrev shortened : Span → Region → Region
shortened range r = cut r r.span.start (min r.span.end range.start)

heads_before : (range : Span) (q : ℕ) (rs : List Region) → q < range.start → starting q (flat_map (head_of range) rs) ≡ option_map (shortened range) (starting q rs)
heads_before range q [] l = refl
heads_before range q (r ∷ rs) l = elim (cases_Bool (nat_lt r.span.start range.start)) [
  | inl e ↦ elim (cases_Bool (r.span.start == q)) [
    | inl t ↦ rw (e, t) refl
    | inr f ↦ rw (e, f) (heads_before range q rs l)
  ]
  | inr e ↦
      let k : range.start ≤ r.span.start = ltb-false r.span.start range.start e in
      let f : (r.span.start == q) ≡ false = ne_eqb r.span.start q (λ m. omega arith) in
      rw (e, f) (heads_before range q rs l)
]

no_heads : (range : Span) (q : ℕ) (rs : List Region) → range.start ≤ q → starting q (flat_map (head_of range) rs) ≡ None
no_heads range q [] l = refl
no_heads range q (r ∷ rs) l = elim (cases_Bool (nat_lt r.span.start range.start)) [
  | inl e ↦
      let k : r.span.start < range.start = ltb-true r.span.start range.start e in
      let f : (r.span.start == q) ≡ false = ne_eqb r.span.start q (λ m. omega arith) in
      rw (e, f) (no_heads range q rs l)
  | inr e ↦ rw e (no_heads range q rs l)
]

no_tails : (range : Span) (q : ℕ) (rs : List Region) → q < range.end → starting q (flat_map (tail_of range) rs) ≡ None
no_tails range q [] l = refl
no_tails range q (r ∷ rs) l = elim (cases_Bool (nat_lt range.end r.span.end)) [
  | inl e ↦
      let f : (max r.span.start range.end == q) ≡ false = ne_eqb (max r.span.start range.end) q (λ m. omega arith) in
      rw (e, f) (no_tails range q rs l)
  | inr e ↦ rw e (no_tails range q rs l)
]

tail_here : (range : Span) (rs : List Region) → starting range.end (flat_map (tail_of range) rs) ≡ option_map (λ r. cut r range.end r.span.end) (having range.end rs)
tail_here range [] = refl
tail_here range (r ∷ rs) = elim (cases_Bool (nat_lt range.end r.span.end)) [
  | inl e ↦ elim (cases_Bool (nat_le r.span.start range.end)) [
    | inl k ↦
        let l : r.span.start ≤ range.end = leb-true r.span.start range.end k in
        let top : max r.span.start range.end ≡ range.end = omega arith in
        let t : (max r.span.start range.end == range.end) ≡ true = eq-eqb (max r.span.start range.end) range.end top in
        rw (e, t, k) (ap (λ x. Some (cut r x r.span.end)) top)
    | inr k ↦
        let l : range.end < r.span.start = Rattle.std.proofs.lemmas.Bool.leb-false r.span.start range.end k in
        let f : (max r.span.start range.end == range.end) ≡ false = ne_eqb (max r.span.start range.end) range.end (λ m. omega arith) in
        rw (e, f, k) (tail_here range rs)
  ]
  | inr e ↦
      let k : r.span.end ≤ range.end = ltb-false range.end r.span.end e in
      let f : has_page range.end r.span ≡ false = grind (arith, nat_tests) in
      rw (f, e) (tail_here range rs)
]

tails_behind : (range : Span) (q : ℕ) (rs : List Region) → range.end < q → IsRising rs → starting q (flat_map (tail_of range) rs) ≡ starting q rs
tails_behind range q [] l h = refl
tails_behind range q (r ∷ rs) l h =
    let w : r.span.start < r.span.end = h.0 in
    elim (cases_Bool (nat_lt range.end r.span.end)) [
      | inl e ↦ elim (cases_Bool (r.span.start == q)) [
        | inl t ↦
            let same : r.span.start ≡ q = eqb-true r.span.start q t in
            let top : max r.span.start range.end ≡ r.span.start = omega arith in
            let u : (max r.span.start range.end == q) ≡ true = eq-eqb (max r.span.start range.end) q (omega arith) in
            rw (e, t, u) (ap Some (cut_whole r (max r.span.start range.end) r.span.end top refl))
        | inr f ↦
            let apart : r.span.start ≡ q → ⊥ = eqb-false r.span.start q f in
            let u : (max r.span.start range.end == q) ≡ false = ne_eqb (max r.span.start range.end) q (λ m. apart (omega arith)) in
            rw (e, f, u) (tails_behind range q rs l h.2)
      ]
      | inr e ↦
          let k : r.span.end ≤ range.end = ltb-false range.end r.span.end e in
          let f : (r.span.start == q) ≡ false = ne_eqb r.span.start q (λ m. omega arith) in
          rw (e, f) (tails_behind range q rs l h.2)
    ]

-- ---- lists that have the same mappings by their starts are one

after_lower : (low high : ℕ) (rs : List Region) → low ≤ high → IsAfter high rs → IsAfter low rs
after_lower low high [] l h = tt
after_lower low high (r ∷ rs) l h = let p : high < r.span.start = h.0 in (omega arith, after_lower low high rs l h.1)

pub none_after : (low q : ℕ) (rs : List Region) → q ≤ low → IsAfter low rs → starting q rs ≡ None
none_after low q [] l h = refl
none_after low q (r ∷ rs) l h = let p : low < r.span.start = h.0 in rw (ne_eqb r.span.start q (λ m. omega arith)) (none_after low q rs l h.1)

first_is : (x : Region) (xs : List Region) → starting x.span.start (x ∷ xs) ≡ Some x
first_is x xs = rw (eq-eqb x.span.start x.span.start refl) refl

not_first : (q : ℕ) (x : Region) (xs : List Region) → (x.span.start ≡ q → ⊥) → starting q (x ∷ xs) ≡ starting q xs
not_first q x xs h = rw (ne_eqb x.span.start q h) refl

not_below : (x y : Region) (xs ys : List Region) → IsAfter y.span.start ys → ((q : ℕ) → starting q (x ∷ xs) ≡ starting q (y ∷ ys)) → y.span.start ≤ x.span.start
not_below x y xs ys h same = elim (cases_Bool (nat_le y.span.start x.span.start)) [
  | inl t ↦ leb-true y.span.start x.span.start t
  | inr f ↦
      let l : x.span.start < y.span.start = Rattle.std.proofs.lemmas.Bool.leb-false y.span.start x.span.start f in
      let none : starting x.span.start (y ∷ ys) ≡ None = not_first x.span.start y ys (λ m. omega arith) ∙ none_after y.span.start x.span.start ys (omega arith) h in
      let some = first_is x xs in
      let s = same x.span.start in
      absurd (cc)
]

rest_same : (x y : Region) (xs ys : List Region) → IsAfter x.span.start xs → IsAfter y.span.start ys → x.span.start ≡ y.span.start →
    ((q : ℕ) → starting q (x ∷ xs) ≡ starting q (y ∷ ys)) → (q : ℕ) → starting q xs ≡ starting q ys
rest_same x y xs ys h k e same q = elim (cases_Bool (x.span.start == q)) [
  | inl t ↦
      let s : x.span.start ≡ q = eqb-true x.span.start q t in
      none_after x.span.start q xs (omega arith) h ∙ sym (none_after y.span.start q ys (omega arith) k)
  | inr f ↦
      let apart : x.span.start ≡ q → ⊥ = eqb-false x.span.start q f in
      sym (not_first q x xs apart) ∙ same q ∙ not_first q y ys (λ m. apart (omega arith))
]

pub same_by_starts : (xs ys : List Region) → IsOrdered xs → IsOrdered ys → ((q : ℕ) → starting q xs ≡ starting q ys) → xs ≡ ys
same_by_starts [] [] h k same = refl
same_by_starts [] (y ∷ ys) h k same = let s = same y.span.start in let f = first_is y ys in absurd (cc)
same_by_starts (x ∷ xs) [] h k same = let s = same x.span.start in let f = first_is x xs in absurd (cc)
same_by_starts (x ∷ xs) (y ∷ ys) h k same =
    let low = not_below x y xs ys k.0 same in
    let high = not_below y x ys xs h.0 (λ q. sym (same q)) in
    let e : x.span.start ≡ y.span.start = omega (arith, low, high) in
    let f = first_is x xs in
    let g = first_is y ys in
    let s = same x.span.start in
    let m : starting x.span.start (y ∷ ys) ≡ starting y.span.start (y ∷ ys) = ap (λ q. starting q (y ∷ ys)) e in
    let one : x ≡ y = cc in
    ap₂ (λ z zs. z ∷ zs) one (same_by_starts xs ys h.1 k.1 (rest_same x y xs ys h.0 k.0 e same))

after_of_past : (low high : ℕ) (rs : List Region) → low < high → IsPast high rs → IsAfter low rs
after_of_past low high [] l h = tt
after_of_past low high (r ∷ rs) l h = let p : high ≤ r.span.start = h.0 in (omega arith, after_of_past low high rs l h.1)

pub ordered_of_rising : (rs : List Region) → IsRising rs → IsOrdered rs
ordered_of_rising [] h = tt
ordered_of_rising (r ∷ rs) h = (after_of_past r.span.start r.span.end rs h.0 h.1, ordered_of_rising rs h.2)

-- ---- what is changed one by one

pub over_at : (h : Option Region) (f g : ℕ → Option Region) (q : ℕ) → f q ≡ g q → over h f q ≡ over h g q
over_at None f g q e = e
over_at (Some r) f g q e = ap (λ o. if r.span.start == q then Some r else o) e

-- another page is as it was
abbrev pub IsElsewhere : Option Region → ℕ → Type 0
IsElsewhere None q = Unit {0}
IsElsewhere (Some r) q = r.span.start ≡ q → ⊥

pub over_elsewhere : (h : Option Region) (f : ℕ → Option Region) (q : ℕ) → IsElsewhere h q → over h f q ≡ f q
over_elsewhere None f q e = refl
over_elsewhere (Some r) f q e = rw (ne_eqb r.span.start q e) refl

pub set_elsewhere : (page q : ℕ) (r : Option Region) (f : ℕ → Option Region) → (page ≡ q → ⊥) → set_at page r f q ≡ f q
set_elsewhere page q r f e = rw (ne_eqb page q e) refl

pub set_here : (page q : ℕ) (r : Option Region) (f : ℕ → Option Region) → page ≡ q → set_at page r f q ≡ r
set_here page q r f e = rw (eq-eqb page q e) refl

pub head_elsewhere : (page q : ℕ) (h : Option Region) → page ≤ q → IsElsewhere (head_at page h) q
head_elsewhere page q None l = tt
head_elsewhere page q (Some r) l = elim (cases_Bool (nat_lt r.span.start page)) [
  | inl t ↦ let k : r.span.start < page = ltb-true r.span.start page t in rw t (λ e. omega arith)
  | inr f ↦ rw f tt
]

pub tail_elsewhere : (page q : ℕ) (h : Option Region) → (page ≡ q → ⊥) → IsElsewhere (tail_at page h) q
tail_elsewhere page q None e = tt
tail_elsewhere page q (Some r) e = elim (cases_Bool (nat_lt r.span.start page)) [
  | inl t ↦ rw t e
  | inr f ↦ rw f tt
]

-- ---- the mapping that has the start of a range, cut there

head_kept : (page q : ℕ) (x : Region) (f : ℕ → Option Region) → x.span.start < page → x.span.start ≡ q → over (head_at page (Some x)) f q ≡ Some (record x { span = record { start = x.span.start; end = page } })
head_kept page q x f l e = rw (lt-ltb x.span.start page l, eq-eqb x.span.start q e) refl

head_passed : (page q : ℕ) (x : Region) (f : ℕ → Option Region) → (x.span.start ≡ q → ⊥) → over (head_at page (Some x)) f q ≡ f q
head_passed page q x f e = elim (cases_Bool (nat_lt x.span.start page)) [
  | inl t ↦ rw (t, ne_eqb x.span.start q e) refl
  | inr t ↦ rw t refl
]

cut_at : (y : Region) (s page : ℕ) → s ≡ page → cut y y.span.start s ≡ record y { span = record { start = y.span.start; end = page } }
cut_at y s page e =
    let o : y.off + (y.span.start - y.span.start) ≡ y.off = omega arith in
    let with_end : ℕ → ℕ → Region = λ x z. record { span = record { start = y.span.start; end = x }; b = y.b; off = z } in
    ap (λ x. with_end x (y.off + (y.span.start - y.span.start))) e ∙ ap (with_end page) o

one_of_both : (range : Span) (q : ℕ) (rs : List Region) (x y : Region) → q < range.start → IsRising rs → having range.start rs ≡ Some x → starting q rs ≡ Some y →
    Some (shortened range y) ≡ over (head_at range.start (Some x)) (λ p. starting p rs) q
one_of_both range q rs x y l r a b =
    let start = found_starts q rs y b in
    let w = found_has_pages (starts_at q) rs y r b in
    elim (cases_Bool (has_page range.start y.span)) [
      | inl t ↦
          let s = starting_has range.start q rs y r b t in
          let same : x ≡ y = cc in
          let high = (has_parts range.start y.span t).1 in
          ap Some (cut_at y (min y.span.end range.start) range.start (omega arith))
          ∙ sym (ap (λ (z : Region). over (head_at range.start (Some z)) (λ p. starting p rs) q) same ∙ head_kept range.start q y (λ p. starting p rs) (omega arith) start)
      | inr f ↦
          let e : y.span.end ≤ range.start = grind (arith, nat_tests, start, w) in
          let apart : x.span.start ≡ q → ⊥ = λ m.
          let s = having_starts range.start rs x r a in
          let s' : starting q rs ≡ Some x = subst (λ k. starting k rs ≡ Some x) m s in
          let same : x ≡ y = cc in
          let has = found_passes (λ z. has_page range.start z.span) rs x a in
          let has' : has_page range.start y.span ≡ true = subst (λ (z : Region). has_page range.start z.span ≡ true) same has in
          (cc) in
          ap Some (cut_whole y y.span.start (min y.span.end range.start) refl (omega arith)) ∙ sym (head_passed range.start q x (λ p. starting p rs) apart ∙ b)
    ]

head_over : (range : Span) (q : ℕ) (rs : List Region) (h o : Option Region) → q < range.start → IsRising rs → having range.start rs ≡ h → starting q rs ≡ o →
    option_map (shortened range) o ≡ over (head_at range.start h) (λ p. starting p rs) q
head_over range q rs None None l r a b = sym b
head_over range q rs None (Some y) l r a b =
    let start = found_starts q rs y b in
    let w = found_has_pages (starts_at q) rs y r b in
    elim (cases_Bool (has_page range.start y.span)) [
      | inl t ↦ let s = starting_has range.start q rs y r b t in absurd (cc)
      | inr f ↦
          let e : y.span.end ≤ range.start = grind (arith, nat_tests, start, w) in
          ap Some (cut_whole y y.span.start (min y.span.end range.start) refl (omega arith)) ∙ sym b
    ]
head_over range q rs (Some x) None l r a b =
    let apart : x.span.start ≡ q → ⊥ = λ m.
    let s = having_starts range.start rs x r a in
    let s' : starting q rs ≡ Some x = subst (λ k. starting k rs ≡ Some x) m s in
    (cc) in
    sym (head_passed range.start q x (λ p. starting p rs) apart ∙ b)
head_over range q rs (Some x) (Some y) l r a b = one_of_both range q rs x y l r a b

-- ---- the mapping that has its end, from there on

begins_not : (page : ℕ) (rs : List Region) (h o : Option Region) → IsRising rs → having page rs ≡ h → IsElsewhere h page → starting page rs ≡ o → o ≡ None
begins_not page rs h None r a e b = refl
begins_not page rs h (Some y) r a e b =
    let start = found_starts page rs y b in
    let w = found_has_pages (starts_at page) rs y r b in
    let t : has_page page y.span ≡ true = grind (arith, nat_tests, start, w) in
    let s : having page rs ≡ Some y = starting_has page page rs y r b t in
    let same : h ≡ Some y = sym a ∙ s in
    absurd (subst (λ k. IsElsewhere k page) same e start)

-- none begins at a page that no mapping has, or that one has which begins before it
pub none_begins : (page : ℕ) (rs : List Region) (h : Option Region) → IsRising rs → having page rs ≡ h → IsElsewhere h page → starting page rs ≡ None
none_begins page rs h r a e = begins_not page rs h (starting page rs) r a e refl

tail_there : (range : Span) (rs : List Region) (h : Option Region) → IsRising rs → having range.end rs ≡ h →
    option_map (λ r. cut r range.end r.span.end) h ≡ over (tail_at range.end h) (λ p. starting p rs) range.end
tail_there range rs None r a = sym (none_begins range.end rs None r a tt)
tail_there range rs (Some x) r a =
    let has = has_parts range.end x.span (found_passes (λ z. has_page range.end z.span) rs x a) in
    elim (cases_Bool (nat_lt x.span.start range.end)) [
      | inl t ↦ rw (t, eq-eqb range.end range.end refl) refl
      | inr f ↦
          let l : range.end ≤ x.span.start = ltb-false x.span.start range.end f in
          let low = has.0 in
          let e : x.span.start ≡ range.end = omega arith in
          let s : starting range.end rs ≡ Some x = subst (λ k. starting k rs ≡ Some x) e (having_starts range.end rs x r a) in
          rw f (ap Some (cut_whole x range.end x.span.end (sym e) refl) ∙ sym s)
    ]

tail_over : (range : Span) (q : ℕ) (rs : List Region) (h : Option Region) → range.end ≤ q → IsRising rs → having range.end rs ≡ h →
    starting q (flat_map (tail_of range) rs) ≡ over (tail_at range.end h) (λ p. starting p rs) q
tail_over range q rs h l r a = elim (cases_Bool (range.end == q)) [
  | inl t ↦
      let e : range.end ≡ q = eqb-true range.end q t in
      subst (λ p. starting p (flat_map (tail_of range) rs) ≡ over (tail_at range.end h) (λ p. starting p rs) p) e
      (tail_here range rs ∙ ap (option_map (λ r. cut r range.end r.span.end)) a ∙ tail_there range rs h r a)
  | inr f ↦
      let apart : range.end ≡ q → ⊥ = eqb-false range.end q f in
      tails_behind range q rs (omega arith) r ∙ sym (over_elsewhere (tail_at range.end h) (λ p. starting p rs) q (tail_elsewhere range.end q h apart))
]

-- ---- all of it

-- what is new has the range
abbrev pub IsNew : Span → Option Region → Type 0
IsNew range None = Unit {0}
IsNew range (Some r) = r.span ≡ range

new_here : (range : Span) (q : ℕ) (new : Option Region) → IsNew range new → range.start ≡ q → starting q (option_to_list new) ≡ new
new_here range q None n e = refl
new_here range q (Some r) n e = let s : r.span.start ≡ range.start = ap (λ (x : Span). x.start) n in rw (eq-eqb r.span.start q (s ∙ e)) refl

new_elsewhere : (range : Span) (q : ℕ) (new : Option Region) → IsNew range new → (range.start ≡ q → ⊥) → starting q (option_to_list new) ≡ None
new_elsewhere range q None n e = refl
new_elsewhere range q (Some r) n e = let s : r.span.start ≡ range.start = ap (λ (x : Span). x.start) n in rw (ne_eqb r.span.start q (λ m. e (sym s ∙ m))) refl

pub rising_sides : (range : Span) (new : Option Region) (rs : List Region) → range.start < range.end → IsNew range new → IsRising rs → IsRising (sides range (option_to_list new) rs)
rising_sides range None rs w n r = rising_with_nothing range rs w r
rising_sides range (Some x) rs w n r =
    let P : Span → Type 0 = λ s. IsRising (sides s (x ∷ []) rs) in
    let v : x.span.start < x.span.end = (let Q : Span → Type 0 = λ s. s.start < s.end in subst Q (sym n) w) in
    subst P n (rising_with_one x rs v r)

sides_at : (range : Span) (q : ℕ) (new rs : List Region) (h n t : Option Region) →
    starting q (flat_map (head_of range) rs) ≡ h → starting q new ≡ n → starting q (flat_map (tail_of range) rs) ≡ t →
    starting q (sides range new rs) ≡ option_or h (option_or n t)
sides_at range q new rs h n t a b c =
    find-append (starts_at q) (flat_map (head_of range) rs) (new ++ flat_map (tail_of range) rs)
    ∙ ap₂ option_or a (find-append (starts_at q) new (flat_map (tail_of range) rs) ∙ ap₂ option_or b c)

-- what each step leaves of the mappings: with what is new and the tail; with the head; and without those inside
pub record AreSteps (range : Span) (rs m2 m3 final : List Region) (new : Option Region) : Type 0 where
  pub put : (q : ℕ) → starting q m2 ≡ set_at range.start new (over (tail_at range.end (having range.end rs)) (λ p. starting p rs)) q
  pub headed : (q : ℕ) → starting q m3 ≡ over (head_at range.start (having range.start rs)) (λ p. starting p m2) q
  pub cleared : (q : ℕ) → starting q final ≡ (if has_page q (record { start = range.start + 1; end = range.end }) then None else starting q m3)

not_inside : (range : Span) (q : ℕ) → (q ≤ range.start) ⊎ (range.end ≤ q) → has_page q (record { start = range.start + 1; end = range.end }) ≡ false
not_inside range q (inl l) = grind (arith, nat_tests)
not_inside range q (inr l) = grind (arith, nat_tests)

before_range : (range : Span) (rs m2 m3 final : List Region) (new : Option Region) → range.start < range.end → IsRising rs → IsNew range new → AreSteps range rs m2 m3 final new →
    (q : ℕ) → q < range.start → starting q final ≡ starting q (sides range (option_to_list new) rs)
before_range range rs m2 m3 final new w r n s q l =
    let head : Option Region = head_at range.start (having range.start rs) in
    let value : Option Region = over head (λ p. starting p rs) q in
    let here : starting q m2 ≡ starting q rs =
    s.put q
    ∙ set_elsewhere range.start q new (over (tail_at range.end (having range.end rs)) (λ p. starting p rs)) (λ e. omega arith)
    ∙ over_elsewhere (tail_at range.end (having range.end rs)) (λ p. starting p rs) q (tail_elsewhere range.end q (having range.end rs) (λ e. omega arith)) in
    let left : starting q final ≡ value = s.cleared q ∙ rw (not_inside range q (inl (omega arith))) (s.headed q ∙ over_at head (λ p. starting p m2) (λ p. starting p rs) q here) in
    let heads : starting q (flat_map (head_of range) rs) ≡ value = heads_before range q rs l ∙ head_over range q rs (having range.start rs) (starting q rs) l r refl refl in
    left ∙ sym (sides_at range q (option_to_list new) rs value None None heads (new_elsewhere range q new n (λ e. omega arith)) (no_tails range q rs (omega arith)) ∙ or_none value)

at_range : (range : Span) (rs m2 m3 final : List Region) (new : Option Region) → range.start < range.end → IsNew range new → AreSteps range rs m2 m3 final new →
    (q : ℕ) → range.start ≡ q → starting q final ≡ starting q (sides range (option_to_list new) rs)
at_range range rs m2 m3 final new w n s q e =
    let left : starting q final ≡ new =
    s.cleared q
    ∙ rw (not_inside range q (inl (omega arith)))
    (s.headed q
    ∙ over_elsewhere (head_at range.start (having range.start rs)) (λ p. starting p m2) q (head_elsewhere range.start q (having range.start rs) (omega arith))
    ∙ s.put q
    ∙ set_here range.start q new (over (tail_at range.end (having range.end rs)) (λ p. starting p rs)) e) in
    left ∙ sym (sides_at range q (option_to_list new) rs None new None (no_heads range q rs (omega arith)) (new_here range q new n e) (no_tails range q rs (omega arith)) ∙ or_none new)

in_range : (range : Span) (rs m2 m3 final : List Region) (new : Option Region) → IsNew range new → AreSteps range rs m2 m3 final new →
    (q : ℕ) → range.start < q → q < range.end → starting q final ≡ starting q (sides range (option_to_list new) rs)
in_range range rs m2 m3 final new n s q l u =
    let inside : has_page q (record { start = range.start + 1; end = range.end }) ≡ true = grind (arith, nat_tests) in
    s.cleared q ∙ rw inside (sym (sides_at range q (option_to_list new) rs None None None (no_heads range q rs (omega arith)) (new_elsewhere range q new n (λ e. omega arith)) (no_tails range q rs u)))

behind_range : (range : Span) (rs m2 m3 final : List Region) (new : Option Region) → range.start < range.end → IsRising rs → IsNew range new → AreSteps range rs m2 m3 final new →
    (q : ℕ) → range.end ≤ q → starting q final ≡ starting q (sides range (option_to_list new) rs)
behind_range range rs m2 m3 final new w r n s q l =
    let value : Option Region = over (tail_at range.end (having range.end rs)) (λ p. starting p rs) q in
    let left : starting q final ≡ value =
    s.cleared q
    ∙ rw (not_inside range q (inr l))
    (s.headed q
    ∙ over_elsewhere (head_at range.start (having range.start rs)) (λ p. starting p m2) q (head_elsewhere range.start q (having range.start rs) (omega arith))
    ∙ s.put q
    ∙ set_elsewhere range.start q new (over (tail_at range.end (having range.end rs)) (λ p. starting p rs)) (λ e. omega arith)) in
    left ∙ sym (sides_at range q (option_to_list new) rs None None value (no_heads range q rs (omega arith)) (new_elsewhere range q new n (λ e. omega arith)) (tail_over range q rs (having range.end rs) l r refl))

each_page : (range : Span) (rs m2 m3 final : List Region) (new : Option Region) → range.start < range.end → IsRising rs → IsNew range new → AreSteps range rs m2 m3 final new →
    (q : ℕ) → starting q final ≡ starting q (sides range (option_to_list new) rs)
each_page range rs m2 m3 final new w r n s q = elim (cases_Bool (nat_lt q range.start)) [
  | inl a ↦ before_range range rs m2 m3 final new w r n s q (ltb-true q range.start a)
  | inr a ↦
      let low : range.start ≤ q = ltb-false q range.start a in
      elim (cases_Bool (range.start == q)) [
        | inl b ↦ at_range range rs m2 m3 final new w n s q (eqb-true range.start q b)
        | inr b ↦
            let apart : range.start ≡ q → ⊥ = eqb-false range.start q b in
            elim (cases_Bool (nat_lt q range.end)) [
              | inl d ↦ in_range range rs m2 m3 final new n s q (omega arith) (ltb-true q range.end d)
              | inr d ↦ behind_range range rs m2 m3 final new w r n s q (ltb-false q range.end d)
            ]
      ]
]

pub change_is_sides : (range : Span) (rs m2 m3 final : List Region) (new : Option Region) → range.start < range.end → IsRising rs → IsOrdered final → IsNew range new → AreSteps range rs m2 m3 final new →
    final ≡ sides range (option_to_list new) rs
change_is_sides range rs m2 m3 final new w r o n s =
    same_by_starts final (sides range (option_to_list new) rs) o (ordered_of_rising (sides range (option_to_list new) rs) (rising_sides range new rs w n r))
    (each_page range rs m2 m3 final new w r n s)

-- ---- what is put in and taken out again

pub undone : (rs mid now : List Region) (r : Region) → starting r.span.start rs ≡ None → IsOrdered rs → IsOrdered now →
    ((q : ℕ) → starting q mid ≡ over (Some r) (λ p. starting p rs) q) → ((q : ℕ) → starting q now ≡ set_at r.span.start None (λ p. starting p mid) q) → now ≡ rs
undone rs mid now r none o k put out =
    same_by_starts now rs k o
    (λ q. elim (cases_Bool (r.span.start == q)) [
      | inl t ↦
          let e : r.span.start ≡ q = eqb-true r.span.start q t in
          out q ∙ set_here r.span.start q None (λ p. starting p mid) e ∙ sym (subst (λ p. starting p rs ≡ None) e none)
      | inr f ↦
          let apart : r.span.start ≡ q → ⊥ = eqb-false r.span.start q f in
          out q ∙ set_elsewhere r.span.start q None (λ p. starting p mid) apart ∙ put q ∙ over_elsewhere (Some r) (λ p. starting p rs) q apart
    ])

-- a tail begins where nothing began
pub tail_is_fresh : (page : ℕ) (rs : List Region) (h : Option Region) (r : Region) → IsRising rs → having page rs ≡ h → tail_at page h ≡ Some r → starting r.span.start rs ≡ None
tail_is_fresh page rs None r rising a t = absurd (cc)
tail_is_fresh page rs (Some x) r rising a t = elim (cases_Bool (nat_lt x.span.start page)) [
  | inl b ↦
      let t' = rw b at t in
      let l : x.span.start < page = ltb-true x.span.start page b in
      let same : cut x page x.span.end ≡ r = cc in
      subst (λ (z : Region). starting z.span.start rs ≡ None) same (none_begins page rs (Some x) rising a (λ e. omega arith))
  | inr b ↦ let t' = rw b at t in absurd (cc)
]

-- and where a head begins something begins, also with what is put in
pub head_is_there : (range : Span) (rs : List Region) (h tail new : Option Region) (r : Region) → range.start < range.end → IsRising rs → having range.start rs ≡ h → head_at range.start h ≡ Some r →
    IsElsewhere tail r.span.start → is_some (set_at range.start new (over tail (λ p. starting p rs)) r.span.start) ≡ true
head_is_there range rs None tail new r w rising a t e = absurd (cc)
head_is_there range rs (Some x) tail new r w rising a t e = elim (cases_Bool (nat_lt x.span.start range.start)) [
  | inl b ↦
      let t' = rw b at t in
      let l : x.span.start < range.start = ltb-true x.span.start range.start b in
      let same : record x { span = record { start = x.span.start; end = range.start } } ≡ r = cc in
      let start : x.span.start ≡ r.span.start = ap (λ (z : Region). z.span.start) same in
      let there : starting r.span.start rs ≡ Some x = subst (λ k. starting k rs ≡ Some x) start (having_starts range.start rs x rising a) in
      ap is_some (set_elsewhere range.start r.span.start new (over tail (λ p. starting p rs)) (λ m. omega arith) ∙ over_elsewhere tail (λ p. starting p rs) r.span.start e ∙ there)
  | inr b ↦ let t' = rw b at t in absurd (cc)
]
