-- What a range leaves of mappings: those before it, cut at its start, and those after it, cut at its end.
use Rattle.std.proofs.Common.{◌≡◌, ℕ, ◌+◌, ◌-◌, ◌<◌, ◌≤◌, min, max, Bool, true, false, not, List, [], ◌∷◌, ◌++◌, refl, ap, ap₂, sym, ◌∙◌, arith, inl, inr, append_assoc, append-nil, ◌⊎◌}
use Rattle.std.specs.Prelude.{flat_map, filter, nat_lt, nat_le, option_to_list, if◌then◌else◌}
use Rattle.std.proofs.lemmas.Bool.{cases_Bool, lt-ltb, le-ltb, le-leb, lt-leb, leb-true, leb-false}
use Rattle.std.proofs.lemmas.List.{map-append}
use Rattle.std.proofs.lemmas.List.Elements.{filter-append}
use Rattle.ttm_base.specs.declared.Span.{Span}
use Rattle.journal_model.specs.declared.script.MarkKind.{MarkKind}
use Rattle.journal_model.specs.marks.Spaces.{Region, range_of, new_region, does_meet, parts_left, part_of, part_before, part_after, regions_after}
use Rattle.law_legal.specs.law_spaces.Rising.{IsRising}
use Rattle.law_legal.specs.law_spaces.Sides.{head_of, tail_of, sides}

-- what a range leaves of a mapping
abbrev pub piece_of : Span → Region → List Region
piece_of range r = if does_meet range r then parts_left range r else r ∷ []

-- a mapping ends at or below a page
abbrev pub is_below : ℕ → Region → Bool
is_below page r = nat_le r.span.end page

-- a mapping ends past a page
abbrev pub is_past : ℕ → Region → Bool
is_past page r = not (nat_le r.span.end page)

-- the part of a mapping with other ends
abbrev pub cut : Region → ℕ → ℕ → Region
cut r s e = part_of r (record { start = s; end = e })

pub cut_whole : (r : Region) (s e : ℕ) → s ≡ r.span.start → e ≡ r.span.end → cut r s e ≡ r
cut_whole r s e h k =
    let o : r.off + (s - r.span.start) ≡ r.off = omega arith in
    let with_ends : ℕ → ℕ → ℕ → Region = λ x y z. record { span = record { start = x; end = y }; b = r.b; off = z } in
    ap (λ x. with_ends x e (r.off + (s - r.span.start))) h ∙ ap (λ y. with_ends r.span.start y (r.off + (s - r.span.start))) k ∙ ap (λ z. with_ends r.span.start r.span.end z) o

-- ---- the parts of one mapping

before_is_head : (range : Span) (r : Region) → r.span.start < range.start → r.span.end ≤ range.start → head_of range r ≡ r ∷ []
before_is_head range r w l =
    rw (lt-ltb r.span.start range.start w) (ap (λ t. t ∷ []) (cut_whole r r.span.start (min r.span.end range.start) refl (omega arith)))

behind_is_tail : (range : Span) (r : Region) → range.end < r.span.end → range.end ≤ r.span.start → tail_of range r ≡ r ∷ []
behind_is_tail range r w l =
    rw (lt-ltb range.end r.span.end w) (ap (λ t. t ∷ []) (cut_whole r (max r.span.start range.end) r.span.end (omega arith) refl))

no_head : (range : Span) (r : Region) → range.start ≤ r.span.start → head_of range r ≡ []
no_head range r l = rw (le-ltb r.span.start range.start l) refl

no_tail : (range : Span) (r : Region) → r.span.end ≤ range.end → tail_of range r ≡ []
no_tail range r l = rw (le-ltb range.end r.span.end l) refl

head_below : (range : Span) (r : Region) → filter (is_below range.start) (head_of range r) ≡ head_of range r
head_below range r = elim (cases_Bool (nat_lt r.span.start range.start)) [
  | inl e ↦ let l : nat_le (min r.span.end range.start) range.start ≡ true = le-leb (min r.span.end range.start) range.start (omega arith) in rw (e, l) refl
  | inr e ↦ rw e refl
]

head_not_past : (range : Span) (r : Region) → filter (is_past range.start) (head_of range r) ≡ []
head_not_past range r = elim (cases_Bool (nat_lt r.span.start range.start)) [
  | inl e ↦ let l : nat_le (min r.span.end range.start) range.start ≡ true = le-leb (min r.span.end range.start) range.start (omega arith) in rw (e, l) refl
  | inr e ↦ rw e refl
]

tail_not_below : (range : Span) (r : Region) → range.start < r.span.end → filter (is_below range.start) (tail_of range r) ≡ []
tail_not_below range r w = elim (cases_Bool (nat_lt range.end r.span.end)) [
  | inl e ↦ let l : nat_le r.span.end range.start ≡ false = lt-leb r.span.end range.start w in rw (e, l) refl
  | inr e ↦ rw e refl
]

tail_past : (range : Span) (r : Region) → range.start < r.span.end → filter (is_past range.start) (tail_of range r) ≡ tail_of range r
tail_past range r w = elim (cases_Bool (nat_lt range.end r.span.end)) [
  | inl e ↦ let l : nat_le r.span.end range.start ≡ false = lt-leb r.span.end range.start w in rw (e, l) refl
  | inr e ↦ rw e refl
]

parts_are : (range : Span) (r : Region) → parts_left range r ≡ head_of range r ++ tail_of range r
parts_are range r = map-append (part_of r) (option_to_list (part_before range r.span)) (option_to_list (part_after range r.span))

-- where a mapping stands
abbrev pub Stand : Span → Region → Type 0
Stand range r = (r.span.end ≤ range.start) ⊎ ((range.end ≤ r.span.start) ⊎ ((range.start < r.span.end) × (r.span.start < range.end)))

pub stands : (range : Span) (r : Region) → Stand range r
stands range r = elim (cases_Bool (nat_le r.span.end range.start)) [
  | inl e ↦ inl (leb-true r.span.end range.start e)
  | inr e ↦ elim (cases_Bool (nat_le range.end r.span.start)) [
    | inl k ↦ inr (inl (leb-true range.end r.span.start k))
    | inr k ↦ inr (inr (leb-false r.span.end range.start e, leb-false range.end r.span.start k))
  ]
]

pub meets_not : (range : Span) (r : Region) → (r.span.end ≤ range.start) ⊎ (range.end ≤ r.span.start) → does_meet range r ≡ false
meets_not range r (inl l) = le-ltb (max r.span.start range.start) (min r.span.end range.end) (omega arith)
meets_not range r (inr l) = le-ltb (max r.span.start range.start) (min r.span.end range.end) (omega arith)

pub meets : (range : Span) (r : Region) → range.start < range.end → r.span.start < r.span.end → range.start < r.span.end → r.span.start < range.end → does_meet range r ≡ true
meets range r w h l k = lt-ltb (max r.span.start range.start) (min r.span.end range.end) (omega arith)

-- before the range stands the head
piece_below : (range : Span) (r : Region) → range.start < range.end → r.span.start < r.span.end → filter (is_below range.start) (piece_of range r) ≡ head_of range r
piece_below range r w h = elim (stands range r) [
  | inl l ↦ rw (meets_not range r (inl l), le-leb r.span.end range.start l) (sym (before_is_head range r (omega arith) l))
  | inr (inl l) ↦ rw (meets_not range r (inr l), lt-leb r.span.end range.start (omega arith)) (sym (no_head range r (omega arith)))
  | inr (inr (l, k)) ↦
      rw (meets range r w h l k)
      (ap (filter (is_below range.start)) (parts_are range r)
      ∙ filter-append (is_below range.start) (head_of range r) (tail_of range r)
      ∙ ap₂ (λ xs ys. xs ++ ys) (head_below range r) (tail_not_below range r l)
      ∙ append-nil (head_of range r))
]

-- and after its start the tail
piece_past : (range : Span) (r : Region) → range.start < range.end → r.span.start < r.span.end → filter (is_past range.start) (piece_of range r) ≡ tail_of range r
piece_past range r w h = elim (stands range r) [
  | inl l ↦ rw (meets_not range r (inl l), le-leb r.span.end range.start l) (sym (no_tail range r (omega arith)))
  | inr (inl l) ↦ rw (meets_not range r (inr l), lt-leb r.span.end range.start (omega arith)) (sym (behind_is_tail range r (omega arith) l))
  | inr (inr (l, k)) ↦
      rw (meets range r w h l k)
      (ap (filter (is_past range.start)) (parts_are range r)
      ∙ filter-append (is_past range.start) (head_of range r) (tail_of range r)
      ∙ ap₂ (λ xs ys. xs ++ ys) (head_not_past range r) (tail_past range r l))
]

-- ---- all mappings

-- each has a page
abbrev pub HavePages : List Region → Type 0
HavePages [] = Unit {0}
HavePages (r ∷ rs) = (r.span.start < r.span.end) × HavePages rs

pub pages_of_rising : (rs : List Region) → IsRising rs → HavePages rs
pages_of_rising [] h = tt
pages_of_rising (r ∷ rs) h = (h.0, pages_of_rising rs h.2)

all_below : (range : Span) (rs : List Region) → range.start < range.end → HavePages rs → filter (is_below range.start) (flat_map (piece_of range) rs) ≡ flat_map (head_of range) rs
all_below range [] w h = refl
all_below range (r ∷ rs) w h =
    filter-append (is_below range.start) (piece_of range r) (flat_map (piece_of range) rs)
    ∙ ap₂ (λ xs ys. xs ++ ys) (piece_below range r w h.0) (all_below range rs w h.1)

all_past : (range : Span) (rs : List Region) → range.start < range.end → HavePages rs → filter (is_past range.start) (flat_map (piece_of range) rs) ≡ flat_map (tail_of range) rs
all_past range [] w h = refl
all_past range (r ∷ rs) w h =
    filter-append (is_past range.start) (piece_of range r) (flat_map (piece_of range) rs)
    ∙ ap₂ (λ xs ys. xs ++ ys) (piece_past range r w h.0) (all_past range rs w h.1)

-- the mappings after a request are both sides of its range, and what it makes
pub after_is_sides : (rs : List Region) (q : MarkKind) → (range_of q).start < (range_of q).end → HavePages rs →
    regions_after rs q ≡ sides (range_of q) (new_region q) rs
after_is_sides rs q w h =
    ap₂ (λ xs ys. (xs ++ new_region q) ++ ys) (all_below (range_of q) rs w h) (all_past (range_of q) rs w h)
    ∙ append_assoc (flat_map (head_of (range_of q)) rs) (new_region q) (flat_map (tail_of (range_of q)) rs)
