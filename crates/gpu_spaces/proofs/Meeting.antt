-- The mappings that meet a range are those from the one that has its start on.
use Rattle.std.proofs.Common.{◌≡◌, ℕ, ◌<◌, ◌≤◌, min, max, Bool, true, false, ◌+◌, ◌-◌, List, [], ◌∷◌, Option, Some, None, refl, ap, sym, ◌∙◌, subst, arith, inl, inr}
use Rattle.std.specs.Prelude.{map, filter, nat_lt, option_map, IfSome}
use Rattle.std.specs.Option.{is_some}
use Rattle.std.specs.Ordering.{nat_cmp, is_gt}
use Rattle.std.specs.BTreeMap.Range.{range_contains}
use Rattle.std.specs.declared.ops.Bound.TheVariants.{Included, Excluded}
use Rattle.std.proofs.lemmas.Bool.{cases_Bool, le-ltb, leb-false}
use Rattle.std.proofs.lemmas.Bool.Decides.{nat_tests}
use Rattle.std.proofs.lemmas.Simd.{map-map}
use Rattle.ttm_base.specs.declared.Span.{Span}
use Rattle.ttm_base.specs.Holes.{has_page}
use Rattle.journal_model.specs.marks.Spaces.{Region, does_meet, step_at}
use Rattle.law_legal.specs.law_spaces.Rising.{IsRising, IsPast}
use Rattle.gpu_spaces.specs.declared.mappings.Rest.{Rest}
use Rattle.gpu_spaces.specs.declared.mappings.Mapping.{Mapping}
use Rattle.gpu_spaces.specs.Kept.{region_at, region_of}
use Rattle.gpu_spaces.specs.Regions.{AreSmall, starting, head_at, tail_at, over, set_at}
use Rattle.law_legal.proofs.law_spaces.Found.{found_past, found_passes, has_parts}
use Rattle.gpu_spaces.proofs.Changing.{having, found_small, tail_is_fresh, IsNew, IsElsewhere, tail_elsewhere, head_is_there}

-- an entry begins from a page on and before the end of a range
abbrev pub is_within : ℕ → Span → ℕ × Rest → Bool
is_within first range e = range_contains nat_cmp (Included first) (Excluded range.end) e.0

-- both tests say no
neither : (range : Span) (first : ℕ) (e : ℕ × Rest) → e.1.end ≤ range.start → e.0 < first → does_meet range (region_at e) ≡ is_within first range e
neither range first e l k =
    let a : does_meet range (region_at e) ≡ false = le-ltb (max e.0 range.start) (min e.1.end range.end) (omega arith) in
    let b : is_within first range e ≡ false = grind (arith, nat_tests) in
    a ∙ sym b

-- both ask for the end alone
both : (range : Span) (first : ℕ) (e : ℕ × Rest) → range.start < range.end → e.0 < e.1.end → range.start < e.1.end → first ≤ e.0 → does_meet range (region_at e) ≡ is_within first range e
both range first e w h l k =
    let a : does_meet range (region_at e) ≡ nat_lt e.0 range.end = grind (arith, nat_tests) in
    let b : is_within first range e ≡ nat_lt e.0 range.end = grind (arith, nat_tests) in
    a ∙ sym b

with_first : (range : Span) (first : ℕ) (e : ℕ × Rest) (es : List (ℕ × Rest)) → does_meet range (region_at e) ≡ is_within first range e →
    filter (does_meet range) (map region_at es) ≡ map region_at (filter (is_within first range) es) →
    filter (does_meet range) (map region_at (e ∷ es)) ≡ map region_at (filter (is_within first range) (e ∷ es))
with_first range first e es same rest = elim (cases_Bool (is_within first range e)) [
  | inl t ↦ rw (same ∙ t, t) (ap (λ xs. region_at e ∷ xs) rest)
  | inr f ↦ rw (same ∙ f, f) rest
]

-- those that stand past a page at or after the first, which the range's start is before
all_past : (range : Span) (first low : ℕ) (es : List (ℕ × Rest)) → range.start < range.end → range.start < low → first ≤ low → IsPast low (map region_at es) → IsRising (map region_at es) →
    filter (does_meet range) (map region_at es) ≡ map region_at (filter (is_within first range) es)
all_past range first low [] w l k p r = refl
all_past range first low (e ∷ es) w l k p r =
    let here : low ≤ e.0 = p.0 in
    let some : e.0 < e.1.end = r.0 in
    with_first range first e es (both range first e w some (omega arith) (omega arith)) (all_past range first low es w l k p.1 r.2)

pub meeting_from : (range : Span) (m : Region) (es : List (ℕ × Rest)) → range.start < range.end → IsRising (map region_at es) → having range.start (map region_at es) ≡ Some m →
    filter (does_meet range) (map region_at es) ≡ map region_at (filter (is_within m.span.start range) es)
meeting_from range m [] w r h = absurd (cc)
meeting_from range m (e ∷ es) w r h = elim (cases_Bool (has_page range.start (region_at e).span)) [
  | inl t ↦
      let h' = rw t at h in
      let same : region_at e ≡ m = cc in
      let parts = has_parts range.start (region_at e).span t in
      let start : e.0 ≡ m.span.start = ap (λ (x : Region). x.span.start) same in
      let some : e.0 < e.1.end = r.0 in
      let low = parts.0 in
      let high = parts.1 in
      with_first range m.span.start e es (both range m.span.start e w some high (omega arith)) (all_past range m.span.start e.1.end es w high (omega arith) r.1 r.2)
  | inr f ↦
      let h' = rw f at h in
      let low : e.1.end ≤ m.span.start = found_past (λ x. has_page range.start x.span) e.1.end (map region_at es) m r.1 h' in
      let at = has_parts range.start m.span (found_passes (λ x. has_page range.start x.span) (map region_at es) m h') in
      let before = at.0 in
      let some : e.0 < e.1.end = r.0 in
      with_first range m.span.start e es (neither range m.span.start e (omega arith) (omega arith)) (meeting_from range m es w r.2 h')
]

pub meeting_at : (range : Span) (es : List (ℕ × Rest)) → range.start < range.end → IsRising (map region_at es) → having range.start (map region_at es) ≡ None →
    filter (does_meet range) (map region_at es) ≡ map region_at (filter (is_within range.start range) es)
meeting_at range [] w r h = refl
meeting_at range (e ∷ es) w r h = elim (cases_Bool (has_page range.start (region_at e).span)) [
  | inl t ↦ let h' = rw t at h in absurd (cc)
  | inr f ↦
      let h' = rw f at h in
      let some : e.0 < e.1.end = r.0 in
      let rest = meeting_at range es w r.2 h' in
      elim (cases_Bool (nat_lt range.start e.1.end)) [
        | inl k ↦
            let l : range.start < e.1.end = Rattle.std.proofs.lemmas.Bool.ltb-true range.start e.1.end k in
            let from : range.start ≤ e.0 = grind (arith, nat_tests) in
            with_first range range.start e es (both range range.start e w some l from) rest
        | inr k ↦
            let l : e.1.end ≤ range.start = Rattle.std.proofs.lemmas.Bool.ltb-false range.start e.1.end k in
            with_first range range.start e es (neither range range.start e l (omega arith)) rest
      ]
]

-- and their steps
pub steps_met : (range : Span) (first : ℕ) (es its : List (ℕ × Rest)) → its ≡ filter (is_within first range) es → filter (does_meet range) (map region_at es) ≡ map region_at (filter (is_within first range) es) →
    map (λ e. step_at range (region_at e)) its ≡ map (step_at range) (filter (does_meet range) (map region_at es))
steps_met range first es its e h =
    ap (map (λ x. step_at range (region_at x))) e
    ∙ sym (map-map (step_at range) region_at (filter (is_within first range) es))
    ∙ ap (map (step_at range)) (sym h)

-- ---- what calls answer

-- the mapping that has a page begins at or before it, and ends after it
pub around_parts : (page : ℕ) (rs : List Region) (o : Option Mapping) (m : Mapping) → option_map region_of o ≡ having page rs → o ≡ Some m → (m.span.start ≤ page) × (page < m.span.end)
around_parts page rs o m e h =
    let s : having page rs ≡ Some (region_of m) = sym e ∙ ap (option_map region_of) h in
    has_parts page m.span (found_passes (λ r. has_page page r.span) rs (region_of m) s)

pub around_page : (page : ℕ) (rs : List Region) (o : Option Mapping) → option_map region_of o ≡ having page rs → IfSome o (λ m. page ≤ m.span.end)
around_page page rs None e = tt
around_page page rs (Some m) e = let parts = around_parts page rs (Some m) m e refl in let l = parts.1 in omega (arith, l)

pub around_small : (page : ℕ) (rs : List Region) (o : Option Mapping) → AreSmall rs → option_map region_of o ≡ having page rs → IfSome o (λ m. m.off + (m.span.end - m.span.start) ≤ 4096)
around_small page rs None s e = tt
around_small page rs (Some m) s e = found_small (λ r. has_page page r.span) rs (region_of m) s (sym e)

pub fresh_tail : (page : ℕ) (rs : List Region) (o t : Option Mapping) → IsRising rs → option_map region_of o ≡ having page rs → option_map region_of t ≡ tail_at page (option_map region_of o) →
    IfSome t (λ m. starting m.span.start rs ≡ None)
fresh_tail page rs o None r a b = tt
fresh_tail page rs o (Some m) r a b = tail_is_fresh page rs (option_map region_of o) (region_of m) r (sym a) (sym b)

pub new_is : (range : Span) (o : Option Mapping) → IfSome o (λ m. m.span ≡ range) → IsNew range (option_map region_of o)
new_is range None h = tt
new_is range (Some m) h = h

pub not_gt : (a b : ℕ) → a ≤ b → is_gt (nat_cmp a b) ≡ false
not_gt a b l = grind (arith, nat_tests)

pub head_starts_before : (page : ℕ) (h : Option Region) (r : Region) → head_at page h ≡ Some r → r.span.start < page
head_starts_before page None r e = absurd (cc)
head_starts_before page (Some x) r e = elim (cases_Bool (nat_lt x.span.start page)) [
  | inl t ↦
      let e' = rw t at e in
      let same : record x { span = record { start = x.span.start; end = page } } ≡ r = cc in
      subst (λ (z : Region). z.span.start < page) same (Rattle.std.proofs.lemmas.Bool.ltb-true x.span.start page t)
  | inr f ↦ let e' = rw f at e in absurd (cc)
]

-- where a head begins, something begins when both others are put in
pub head_there : (range : Span) (rs : List Region) (o p h t new : Option Mapping) (m : Mapping) → range.start < range.end → IsRising rs →
    option_map region_of o ≡ having range.start rs → option_map region_of h ≡ head_at range.start (option_map region_of o) → h ≡ Some m →
    option_map region_of t ≡ tail_at range.end (option_map region_of p) →
    is_some (set_at range.start (option_map region_of new) (over (option_map region_of t) (λ q. starting q rs)) m.span.start) ≡ true
head_there range rs o p h t new m w r a b c d =
    let head : head_at range.start (option_map region_of o) ≡ Some (region_of m) = sym b ∙ ap (option_map region_of) c in
    let l = head_starts_before range.start (option_map region_of o) (region_of m) head in
    let e : IsElsewhere (tail_at range.end (option_map region_of p)) m.span.start = tail_elsewhere range.end m.span.start (option_map region_of p) (λ k. omega (arith, l)) in
    head_is_there range rs (option_map region_of o) (option_map region_of t) (option_map region_of new) (region_of m) w r (sym a) head (subst (λ k. IsElsewhere k m.span.start) (sym d) e)
