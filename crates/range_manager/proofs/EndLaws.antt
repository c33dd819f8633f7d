-- Spans by where they end.
use Rattle.std.proofs.Common.{◌≡◌, ℕ, zero, suc, ◌+◌, ◌<◌, ◌≤◌, inl, inr, Bool, true, false, List, [], ◌∷◌, Option, Some, None, length, get_or, set, replicate, refl, ap, sym, ◌∙◌, arith, not, nat_lt, if◌then◌else◌}
use Rattle.std.specs.Option.{IsSome, is_some}
use Rattle.std.specs.List.{find, list_any}
use Rattle.std.proofs.lemmas.Bool.{cases_lt, or_parts, lt-ltb, le-ltb, eq-eqb, ne_eqb, both_ways}
use Rattle.std.proofs.lemmas.List.{get_or_past}
use Rattle.ttm_base.specs.declared.Span.{Span}
use Rattle.ttm_base.specs.Holes.{has_page}
use Rattle.hole_tree.specs.HoleSet.{starts_at, with_hole, without}
use Rattle.range_manager.specs.Held.{held_spans}
use Rattle.range_manager.specs.Kept.{AllFrom}
use Rattle.range_manager.proofs.SpanLaws.{has_from, all_from_less, without_none}

all_from_ends : (s : ℕ) (es : List ℕ) → AllFrom s (held_spans s es)
all_from_ends s [] = tt
all_from_ends s (e ∷ es) = two (nat_lt s e) (all_from_less s (s + 1) (held_spans (s + 1) es) (omega arith) (all_from_ends (s + 1) es)) where
  two : (t : Bool) → AllFrom s (held_spans (s + 1) es) → AllFrom s (if t then record { start = s; end = e } ∷ held_spans (s + 1) es else held_spans (s + 1) es)
  two true r = (omega arith, r)
  two false r = r

with_first : (b : Span) (hs : List Span) → AllFrom (b.start + 1) hs → with_hole b hs ≡ b ∷ hs
with_first b [] a = refl
with_first b (h ∷ hs) a = let l = a.0 in ap (λ t. if t then b ∷ (h ∷ hs) else h ∷ with_hole b hs) (lt-ltb b.start h.start (omega arith))

-- a span begins where none did
pub held_set : (s : ℕ) (es : List ℕ) (i e : ℕ) → i < length es → get_or es i 0 ≤ s + i → s + i < e → held_spans s (set es i e) ≡ with_hole (record { start = s + i; end = e }) (held_spans s es)
held_set s [] i e l n h = absurd (omega arith)
held_set s (x ∷ es) zero e l n h =
    let z : s + 0 ≡ s = omega arith in
    ap (λ t. if t then record { start = s; end = e } ∷ held_spans (s + 1) es else held_spans (s + 1) es) (lt-ltb s e (omega arith))
    ∙ sym (with_first (record { start = s; end = e }) (held_spans (s + 1) es) (all_from_ends (s + 1) es))
    ∙ sym (ap (λ t. with_hole (record { start = s; end = e }) (if t then record { start = s; end = x } ∷ held_spans (s + 1) es else held_spans (s + 1) es)) (le-ltb s x (omega arith)))
    ∙ sym (ap (λ n. with_hole (record { start = n; end = e }) (held_spans s (x ∷ es))) z)
held_set s (x ∷ es) (suc i) e l n h =
    let z : s + 1 + i ≡ s + suc i = omega arith in
    two (nat_lt s x) (held_set (s + 1) es i e (omega arith) (omega arith) (omega arith) ∙ ap (λ n. with_hole (record { start = n; end = e }) (held_spans (s + 1) es)) z)
  where
    two : (t : Bool) → held_spans (s + 1) (set es i e) ≡ with_hole (record { start = s + suc i; end = e }) (held_spans (s + 1) es)
        → (if t then record { start = s; end = x } ∷ held_spans (s + 1) (set es i e) else held_spans (s + 1) (set es i e))
        ≡ with_hole (record { start = s + suc i; end = e }) (if t then record { start = s; end = x } ∷ held_spans (s + 1) es else held_spans (s + 1) es)
    two true r =
        ap (λ hs. record { start = s; end = x } ∷ hs) r
        ∙ sym (ap (λ t. if t then record { start = s + suc i; end = e } ∷ (record { start = s; end = x } ∷ held_spans (s + 1) es) else record { start = s; end = x } ∷ with_hole (record { start = s + suc i; end = e }) (held_spans (s + 1) es)) (le-ltb (s + suc i) s (omega arith)))
    two false r = r

-- the span that began there doesn't any more
pub held_clear : (s : ℕ) (es : List ℕ) (i : ℕ) → i < length es → s + i < get_or es i 0 → held_spans s (set es i 0) ≡ without (s + i) (held_spans s es)
held_clear s [] i l h = absurd (omega arith)
held_clear s (x ∷ es) zero l h =
    let z : s + 0 ≡ s = omega arith in
    let b : Span = record { start = s; end = x } in
    ap (λ t. if t then record { start = s; end = 0 } ∷ held_spans (s + 1) es else held_spans (s + 1) es) (le-ltb s 0 (omega arith))
    ∙ sym (without_none (s + 1) s (held_spans (s + 1) es) (all_from_ends (s + 1) es) (omega arith))
    ∙ sym (ap (λ t. if not t then b ∷ without s (held_spans (s + 1) es) else without s (held_spans (s + 1) es)) (eq-eqb s s refl))
    ∙ sym (ap (λ t. without s (if t then b ∷ held_spans (s + 1) es else held_spans (s + 1) es)) (lt-ltb s x (omega arith)))
    ∙ sym (ap (λ n. without n (held_spans s (x ∷ es))) z)
held_clear s (x ∷ es) (suc i) l h =
    let z : s + 1 + i ≡ s + suc i = omega arith in
    two (nat_lt s x) (held_clear (s + 1) es i (omega arith) (omega arith) ∙ ap (λ n. without n (held_spans (s + 1) es)) z)
  where
    two : (t : Bool) → held_spans (s + 1) (set es i 0) ≡ without (s + suc i) (held_spans (s + 1) es)
        → (if t then record { start = s; end = x } ∷ held_spans (s + 1) (set es i 0) else held_spans (s + 1) (set es i 0))
        ≡ without (s + suc i) (if t then record { start = s; end = x } ∷ held_spans (s + 1) es else held_spans (s + 1) es)
    two true r =
        ap (λ hs. record { start = s; end = x } ∷ hs) r
        ∙ sym (ap (λ t. if not t then record { start = s; end = x } ∷ without (s + suc i) (held_spans (s + 1) es) else without (s + suc i) (held_spans (s + 1) es))
        (ne_eqb s (s + suc i) (λ e. omega arith)))
    two false r = r

-- no span begins at a free page
pub free_begins_none : (s : ℕ) (es : List ℕ) (i : ℕ) → i < length es → list_any (has_page (s + i)) (held_spans s es) ≡ false → get_or es i 0 ≤ s + i
free_begins_none s [] i l f = absurd (omega arith)
free_begins_none s (x ∷ es) zero l f =
    elim (cases_lt (s + 0) x) [
      | inr h ↦ h
      | inl h ↦
          let b : Span = record { start = s; end = x } in
          let held : list_any (has_page (s + 0)) (b ∷ held_spans (s + 1) es) ≡ false = sym (ap (λ t. list_any (has_page (s + 0)) (if t then b ∷ held_spans (s + 1) es else held_spans (s + 1) es)) (lt-ltb s x (omega arith))) ∙ f in
          absurd (both_ways (has_page (s + 0) b) ((or_parts (has_page (s + 0) b) (list_any (has_page (s + 0)) (held_spans (s + 1) es)) held).0) (has_from (s + 0) b (omega arith) h))
    ]
free_begins_none s (x ∷ es) (suc i) l f =
    let z : s + suc i ≡ s + 1 + i = omega arith in
    let n = free_begins_none (s + 1) es i (omega arith) (two (nat_lt s x) (ap (λ p. list_any (has_page p) (held_spans s (x ∷ es))) (sym z) ∙ f)) in
    omega (arith, n)
  where
    two : (t : Bool) → list_any (has_page (s + 1 + i)) (if t then record { start = s; end = x } ∷ held_spans (s + 1) es else held_spans (s + 1) es) ≡ false → list_any (has_page (s + 1 + i)) (held_spans (s + 1) es) ≡ false
    two true r = (or_parts (has_page (s + 1 + i) (record { start = s; end = x })) (list_any (has_page (s + 1 + i)) (held_spans (s + 1) es)) r).1
    two false r = r

-- no span at all
pub none_held : (n s : ℕ) → held_spans s (replicate n 0) ≡ []
none_held zero s = refl
none_held (suc n) s = ap (λ t. if t then record { start = s; end = 0 } ∷ held_spans (s + 1) (replicate n 0) else held_spans (s + 1) (replicate n 0)) (le-ltb s 0 (omega arith)) ∙ none_held n (s + 1)

-- ---- the span that begins at a page

find_none : (n start : ℕ) (hs : List Span) → AllFrom n hs → start < n → find (starts_at start) hs ≡ None
find_none n start [] a l = refl
find_none n start (x ∷ hs) a l = let f = a.0 in ap (λ t. if t then Some x else find (starts_at start) hs) (ne_eqb x.start start (λ e. omega arith)) ∙ find_none n start hs a.1 l

abbrev span_if : Bool → Span → Option Span
span_if t s = if t then Some s else None

find_at : (s : ℕ) (es : List ℕ) (i : ℕ) → i < length es → find (starts_at (s + i)) (held_spans s es) ≡ span_if (nat_lt (s + i) (get_or es i 0)) (record { start = s + i; end = get_or es i 0 })
find_at s [] i l = absurd (omega arith)
find_at s (x ∷ es) zero l =
    let z : s + 0 ≡ s = omega arith in
    ap (λ n. find (starts_at n) (held_spans s (x ∷ es))) z ∙ two (nat_lt s x) (find_none (s + 1) s (held_spans (s + 1) es) (all_from_ends (s + 1) es) (omega arith)) ∙ sym (ap (λ n. span_if (nat_lt n x) (record { start = n; end = x })) z)
  where
    two : (t : Bool) → find (starts_at s) (held_spans (s + 1) es) ≡ None → find (starts_at s) (if t then record { start = s; end = x } ∷ held_spans (s + 1) es else held_spans (s + 1) es) ≡ span_if t (record { start = s; end = x })
    two true r = ap (λ t. if t then Some (record { start = s; end = x }) else find (starts_at s) (held_spans (s + 1) es)) (eq-eqb s s refl)
    two false r = r
find_at s (x ∷ es) (suc i) l =
    let z : s + suc i ≡ s + 1 + i = omega arith in
    ap (λ n. find (starts_at n) (held_spans s (x ∷ es))) z ∙ two (nat_lt s x) (find_at (s + 1) es i (omega arith)) ∙ sym (ap (λ n. span_if (nat_lt n (get_or es i 0)) (record { start = n; end = get_or es i 0 })) z)
  where
    two : (t : Bool) → find (starts_at (s + 1 + i)) (held_spans (s + 1) es) ≡ span_if (nat_lt (s + 1 + i) (get_or es i 0)) (record { start = s + 1 + i; end = get_or es i 0 })
        → find (starts_at (s + 1 + i)) (if t then record { start = s; end = x } ∷ held_spans (s + 1) es else held_spans (s + 1) es) ≡ span_if (nat_lt (s + 1 + i) (get_or es i 0)) (record { start = s + 1 + i; end = get_or es i 0 })
    two true r = ap (λ t. if t then Some (record { start = s; end = x }) else find (starts_at (s + 1 + i)) (held_spans (s + 1) es)) (ne_eqb s (s + 1 + i) (λ e. omega arith)) ∙ r
    two false r = r

find_past : (s : ℕ) (es : List ℕ) (start : ℕ) → s + length es ≤ start → find (starts_at start) (held_spans s es) ≡ None
find_past s [] start l = refl
find_past s (x ∷ es) start l = two (nat_lt s x) (find_past (s + 1) es start (omega arith)) where
  two : (t : Bool) → find (starts_at start) (held_spans (s + 1) es) ≡ None → find (starts_at start) (if t then record { start = s; end = x } ∷ held_spans (s + 1) es else held_spans (s + 1) es) ≡ None
  two true r = ap (λ t. if t then Some (record { start = s; end = x }) else find (starts_at start) (held_spans (s + 1) es)) (ne_eqb s start (λ e. omega arith)) ∙ r
  two false r = r

pub find_held : (es : List ℕ) (start : ℕ) → start < get_or es start 0 → find (starts_at start) (held_spans 0 es) ≡ Some (record { start = start; end = get_or es start 0 })
find_held es start h =
    let z : 0 + start ≡ start = omega arith in
    elim (cases_lt start (length es)) [
      | inl l ↦
          ap (λ n. find (starts_at n) (held_spans 0 es)) (sym z) ∙ find_at 0 es start l ∙ ap (λ n. span_if (nat_lt n (get_or es start 0)) (record { start = n; end = get_or es start 0 })) z
          ∙ ap (λ t. span_if t (record { start = start; end = get_or es start 0 })) (lt-ltb start (get_or es start 0) h)
      | inr l ↦ let e = get_or_past es start 0 l in absurd (omega (arith, e, h))
    ]

pub find_not_held : (es : List ℕ) (start : ℕ) → get_or es start 0 ≤ start → find (starts_at start) (held_spans 0 es) ≡ None
find_not_held es start h =
    let z : 0 + start ≡ start = omega arith in
    elim (cases_lt start (length es)) [
      | inl l ↦
          ap (λ n. find (starts_at n) (held_spans 0 es)) (sym z) ∙ find_at 0 es start l ∙ ap (λ n. span_if (nat_lt n (get_or es start 0)) (record { start = n; end = get_or es start 0 })) z
          ∙ ap (λ t. span_if t (record { start = start; end = get_or es start 0 })) (le-ltb start (get_or es start 0) h)
      | inr l ↦ find_past 0 es start (omega arith)
    ]

-- where the span ends that begins at a page
pub record Begins (es : List ℕ) (start : ℕ) : Type 0 where
  pub below : start < length es
  pub some : start < get_or es start 0
  pub found : find (starts_at start) (held_spans 0 es) ≡ Some (record { start = start; end = get_or es start 0 })

pub begins : (es : List ℕ) (start : ℕ) → IsSome (find (starts_at start) (held_spans 0 es)) → Begins es start
begins es start h =
    elim (cases_lt start (get_or es start 0)) [
      | inr n ↦ absurd (both_ways (is_some (find (starts_at start) (held_spans 0 es))) (ap is_some (find_not_held es start n)) h)
      | inl s ↦ record {
        below = elim (cases_lt start (length es)) [ inl l ↦ l | inr l ↦ let e = get_or_past es start 0 l in absurd (omega (arith, e, s)) ];
        some = s;
        found = find_held es start s;
      }
    ]
