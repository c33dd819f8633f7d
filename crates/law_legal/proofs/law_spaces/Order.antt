-- Mappings stay in rising order, whatever is asked.
use Rattle.std.proofs.Common.{◌≡◌, ℕ, ◌+◌, ◌<◌, ◌≤◌, min, true, false, List, [], ◌∷◌, ◌++◌, refl, ap, sym, subst, arith, inl, inr}
use Rattle.std.specs.Prelude.{IsTrue, flat_map, filter, nat_lt, nat_le, fold}
use Rattle.std.specs.List.{list_all}
use Rattle.std.proofs.lemmas.Bool.{cases_Bool, and_parts, ltb-true, lt-leb, le-leb}
use Rattle.ttm_base.specs.declared.Span.{Span}
use Rattle.journal_model.specs.declared.script.MarkKind.{MarkKind}
use Rattle.journal_model.specs.declared.script.MarkKind.TheVariants as mark
use Rattle.journal_model.specs.marks.Spaces.{Region, regions_after, regions_of, has_pages, are_disjoint}
use Rattle.law_legal.specs.law_spaces.Rising.{IsRising, IsPast, EndsBy}
use Rattle.law_legal.specs.law_spaces.Sides.{head_of, tail_of, sides}
use Rattle.law_legal.proofs.law_spaces.Sides.{piece_of, is_below, is_past, HavePages, pages_of_rising, meets_not, after_is_sides}

pub past_lower : (low high : ℕ) (rs : List Region) → low ≤ high → IsPast high rs → IsPast low rs
past_lower low high [] l h = tt
past_lower low high (r ∷ rs) l h = let p : high ≤ r.span.start = h.0 in (omega arith, past_lower low high rs l h.1)

past_append : (page : ℕ) (xs ys : List Region) → IsPast page xs → IsPast page ys → IsPast page (xs ++ ys)
past_append page [] ys h k = k
past_append page (x ∷ xs) ys h k = (h.0, past_append page xs ys h.1 k)

pub rising_append : (page : ℕ) (xs ys : List Region) → IsRising xs → EndsBy page xs → IsRising ys → IsPast page ys → IsRising (xs ++ ys)
rising_append page [] ys h e k p = k
rising_append page (x ∷ xs) ys h e k p = (h.0, past_append x.span.end xs ys h.1 (past_lower x.span.end page ys e.0 p), rising_append page xs ys h.2 e.1 k p)

-- ---- before a range

past_heads : (range : Span) (page : ℕ) (rs : List Region) → IsPast page rs → IsPast page (flat_map (head_of range) rs)
past_heads range page [] h = tt
past_heads range page (r ∷ rs) h = elim (cases_Bool (nat_lt r.span.start range.start)) [
  | inl e ↦ rw e (h.0, past_heads range page rs h.1)
  | inr e ↦ rw e (past_heads range page rs h.1)
]

pub heads_end : (range : Span) (rs : List Region) → EndsBy range.start (flat_map (head_of range) rs)
heads_end range [] = tt
heads_end range (r ∷ rs) = elim (cases_Bool (nat_lt r.span.start range.start)) [
  | inl e ↦ rw e (omega arith, heads_end range rs)
  | inr e ↦ rw e (heads_end range rs)
]

pub rising_heads : (range : Span) (rs : List Region) → IsRising rs → IsRising (flat_map (head_of range) rs)
rising_heads range [] h = tt
rising_heads range (r ∷ rs) h = elim (cases_Bool (nat_lt r.span.start range.start)) [
  | inl e ↦
      let l : r.span.start < range.start = ltb-true r.span.start range.start e in
      let w : r.span.start < r.span.end = h.0 in
      rw e (omega arith, past_lower (min r.span.end range.start) r.span.end (flat_map (head_of range) rs) (omega arith) (past_heads range r.span.end rs h.1), rising_heads range rs h.2)
  | inr e ↦ rw e (rising_heads range rs h.2)
]

-- ---- after it

past_tails : (range : Span) (page : ℕ) (rs : List Region) → IsPast page rs → IsPast page (flat_map (tail_of range) rs)
past_tails range page [] h = tt
past_tails range page (r ∷ rs) h = elim (cases_Bool (nat_lt range.end r.span.end)) [
  | inl e ↦ let p : page ≤ r.span.start = h.0 in rw e (omega arith, past_tails range page rs h.1)
  | inr e ↦ rw e (past_tails range page rs h.1)
]

pub tails_past : (range : Span) (rs : List Region) → IsPast range.end (flat_map (tail_of range) rs)
tails_past range [] = tt
tails_past range (r ∷ rs) = elim (cases_Bool (nat_lt range.end r.span.end)) [
  | inl e ↦ rw e (omega arith, tails_past range rs)
  | inr e ↦ rw e (tails_past range rs)
]

pub rising_tails : (range : Span) (rs : List Region) → IsRising rs → IsRising (flat_map (tail_of range) rs)
rising_tails range [] h = tt
rising_tails range (r ∷ rs) h = elim (cases_Bool (nat_lt range.end r.span.end)) [
  | inl e ↦
      let l : range.end < r.span.end = ltb-true range.end r.span.end e in
      let w : r.span.start < r.span.end = h.0 in
      rw e (omega arith, past_tails range r.span.end rs h.1, rising_tails range rs h.2)
  | inr e ↦ rw e (rising_tails range rs h.2)
]

-- ---- after a request

pub rising_with_nothing : (range : Span) (rs : List Region) → range.start < range.end → IsRising rs → IsRising (sides range [] rs)
rising_with_nothing range rs w h =
    rising_append range.start (flat_map (head_of range) rs) (flat_map (tail_of range) rs) (rising_heads range rs h) (heads_end range rs) (rising_tails range rs h)
    (past_lower range.start range.end (flat_map (tail_of range) rs) (omega arith) (tails_past range rs))

pub rising_with_one : (new : Region) (rs : List Region) → new.span.start < new.span.end → IsRising rs → IsRising (sides new.span (new ∷ []) rs)
rising_with_one new rs w h =
    let tails : List Region = flat_map (tail_of new.span) rs in
    rising_append new.span.start (flat_map (head_of new.span) rs) (new ∷ tails) (rising_heads new.span rs h) (heads_end new.span rs)
    (w, tails_past new.span rs, rising_tails new.span rs h)
    (let p : new.span.start ≤ new.span.start = omega arith in p, past_lower new.span.start new.span.end tails (omega arith) (tails_past new.span rs))

-- a range of no page changes nothing
abbrev pub no_range : Span
no_range = record { start = 0; end = 0 }

none_below : (rs : List Region) → HavePages rs → filter (is_below 0) (flat_map (piece_of no_range) rs) ≡ []
none_below [] h = refl
none_below (r ∷ rs) h =
    let w : r.span.start < r.span.end = h.0 in
    let e : nat_le r.span.end 0 ≡ false = lt-leb r.span.end 0 (omega arith) in
    rw (meets_not no_range r (inr (omega arith)), e) (none_below rs h.1)

all_past : (rs : List Region) → HavePages rs → filter (is_past 0) (flat_map (piece_of no_range) rs) ≡ rs
all_past [] h = refl
all_past (r ∷ rs) h =
    let w : r.span.start < r.span.end = h.0 in
    let e : nat_le r.span.end 0 ≡ false = lt-leb r.span.end 0 (omega arith) in
    rw (meets_not no_range r (inr (omega arith)), e) (ap (λ xs. r ∷ xs) (all_past rs h.1))

unchanged : (rs : List Region) → HavePages rs → filter (is_below 0) (flat_map (piece_of no_range) rs) ++ [] ++ filter (is_past 0) (flat_map (piece_of no_range) rs) ≡ rs
unchanged rs h = rw (none_below rs h, all_past rs h) refl

-- marks that are no request of the space
abbrev pub IsOther : MarkKind → Type 0
IsOther (mark.Vmap va n b off) = ⊥
IsOther (mark.Vunmap va n) = ⊥
IsOther _ = Unit {0}

pub others_change_nothing : (rs : List Region) (q : MarkKind) → IsOther q → HavePages rs → regions_after rs q ≡ rs
others_change_nothing rs (mark.Map b) o h = unchanged rs h
others_change_nothing rs (mark.Unmap b) o h = unchanged rs h
others_change_nothing rs mark.Mapped o h = unchanged rs h
others_change_nothing rs (mark.Vmap va n b off) o h = absurd o
others_change_nothing rs (mark.Vunmap va n) o h = absurd o
others_change_nothing rs (mark.Vsubmit ops) o h = unchanged rs h

other_rising : (rs : List Region) (q : MarkKind) → IsOther q → IsRising rs → IsRising (regions_after rs q)
other_rising rs q o h = subst IsRising (sym (others_change_nothing rs q o (pages_of_rising rs h))) h

pub some_pages : (va n : ℕ) → IsTrue (nat_lt 0 n) → va < va + n
some_pages va n h = let l : 0 < n = ltb-true 0 n h in omega arith

pub rising_after : (rs : List Region) (q : MarkKind) → IsTrue (has_pages q) → IsRising rs → IsRising (regions_after rs q)
rising_after rs (mark.Vmap va n b off) p h =
    let new : Region = record { span = record { start = va; end = va + n }; b = b; off = off } in
    let w : va < va + n = some_pages va n p in
    subst IsRising (sym (after_is_sides rs (mark.Vmap va n b off) w (pages_of_rising rs h))) (rising_with_one new rs w h)
rising_after rs (mark.Vunmap va n) p h =
    let range : Span = record { start = va; end = va + n } in
    let w : va < va + n = some_pages va n p in
    subst IsRising (sym (after_is_sides rs (mark.Vunmap va n) w (pages_of_rising rs h))) (rising_with_nothing range rs w h)
rising_after rs (mark.Map b) p h = other_rising rs (mark.Map b) tt h
rising_after rs (mark.Unmap b) p h = other_rising rs (mark.Unmap b) tt h
rising_after rs mark.Mapped p h = other_rising rs mark.Mapped tt h
rising_after rs (mark.Vsubmit ops) p h = other_rising rs (mark.Vsubmit ops) tt h

pub rising_along : (rs : List Region) (qs : List MarkKind) → IsTrue (list_all has_pages qs) → IsRising rs → IsRising (fold regions_after rs qs)
rising_along rs [] p h = h
rising_along rs (q ∷ qs) p h =
    let parts = and_parts (has_pages q) (list_all has_pages qs) p in
    rising_along (regions_after rs q) qs parts.1 (rising_after rs q parts.0 h)

pub rising_of : (qs : List MarkKind) → IsTrue (list_all has_pages qs) → IsRising (regions_of qs)
rising_of qs p = rising_along [] qs p tt

pub disjoint_of_rising : (rs : List Region) → IsRising rs → IsTrue (are_disjoint rs)
disjoint_of_rising [] h = refl
disjoint_of_rising (r ∷ []) h = refl
disjoint_of_rising (r ∷ t ∷ rs) h = let e : nat_le r.span.end t.span.start ≡ true = le-leb r.span.end t.span.start h.1.0 in rw e (disjoint_of_rising (t ∷ rs) h.2)
