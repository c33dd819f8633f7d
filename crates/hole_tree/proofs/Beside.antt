-- The holes on both sides of a page, and those that touch a span.
use Rattle.std.proofs.Common.{◌≡◌, ℕ, ◌≤◌, ◌<◌, Bor, Bool, true, false, cond, List, [], ◌∷◌, ◌++◌, Option, Some, None, refl, sym, ◌∙◌, inl, inr, arith}
use Rattle.std.specs.Option.{option_or}
use Rattle.std.specs.Bool.{then_some}
use Rattle.std.specs.Prelude.{option_map, MatchOption}
use Rattle.std.specs.List.{find, list_all}
use Rattle.std.proofs.lemmas.Bool.{cases_Bool, and_parts, or_cases, eqb-true, leb-true, le-leb, lt-leb, lt-ltb, le-ltb, ltb-true, ltb-false, ne_eqb}
use Rattle.std.proofs.lemmas.List.Folds.{find-append}
use Rattle.ttm_base.specs.declared.Span.{Span}
use Rattle.hole_tree.specs.HoleSet.{is_disjoint, starts_at, ends_at, ends_by, ends_past}
use Rattle.hole_tree.specs.Rising.{IsRising, IsPast}
use Rattle.hole_tree.specs.Fitting.{find_last}
use Rattle.hole_tree.proofs.ByLengths.{or_some}
use Rattle.hole_tree.proofs.Rises.{past_middle, rising_root}
use Rattle.hole_tree.proofs.Searching.{last_append}

-- ---- on both sides of a hole k

pub past_right : (page : ℕ) (l : List Span) (k : Span) (r : List Span) → k.end ≤ page → IsRising (l ++ k ∷ r) → find (ends_past page) (l ++ k ∷ r) ≡ find (ends_past page) r
past_right page [] k r p h = rw (le-ltb page k.end p) refl
past_right page (y ∷ l) k r p h =
    let q : y.end < k.start = past_middle y.end l k r h.1 in
    let w : k.start ≤ k.end = (rising_root l k r h.2).0 in
    rw (le-ltb page y.end (omega arith)) (past_right page l k r p h.2)

pub by_right : (page : ℕ) (l : List Span) (k : Span) (r : List Span) → k.end ≤ page → find_last (ends_by page) (l ++ k ∷ r) ≡ option_or (find_last (ends_by page) r) (Some k)
by_right page l k r p = last_append (ends_by page) l (k ∷ r) ∙ rw (le-leb k.end page p) (or_some (find_last (ends_by page) r) k (find_last (ends_by page) l))

pub past_left : (page : ℕ) (l : List Span) (k : Span) (r : List Span) → page < k.end → find (ends_past page) (l ++ k ∷ r) ≡ option_or (find (ends_past page) l) (Some k)
past_left page l k r p = find-append (ends_past page) l (k ∷ r) ∙ rw (lt-ltb page k.end p) refl

none_by : (page limit : ℕ) (ys : List Span) → page ≤ limit → IsPast limit ys → IsRising ys → find_last (ends_by page) ys ≡ None
none_by page limit [] p a h = refl
none_by page limit (y ∷ ys) p a h =
    let q : limit < y.start = a.0 in
    let w : y.start ≤ y.end = h.0 in
    rw (none_by page limit ys p a.1 h.2, lt-leb y.end page (omega arith)) refl

pub by_left : (page : ℕ) (l : List Span) (k : Span) (r : List Span) → page < k.end → IsRising (l ++ k ∷ r) → find_last (ends_by page) (l ++ k ∷ r) ≡ find_last (ends_by page) l
by_left page l k r p h =
    let root = rising_root l k r h in
    last_append (ends_by page) l (k ∷ r) ∙ rw (none_by page k.end r (omega arith) root.1 root.2, lt-leb k.end page p) refl

-- ---- the holes that touch a span

-- what is found, if it passes a test
pub if_passes : (Span → Bool) → Option Span → Option Span
if_passes test None = None
if_passes test (Some x) = cond (test x) (Some x) None

none_starts : (page limit : ℕ) (ys : List Span) → page ≤ limit → IsPast limit ys → find (starts_at page) ys ≡ None
none_starts page limit [] p a = refl
none_starts page limit (y ∷ ys) p a =
    let q : limit < y.start = a.0 in
    rw (ne_eqb y.start page (λ e. omega arith)) (none_starts page limit ys p a.1)

-- the first hole that ends past the begin of a span is the one that begins at its end, if there is one
pub starts_behind : (span : Span) (xs : List Span) → span.start < span.end → IsRising xs → list_all (is_disjoint span) xs ≡ true → if_passes (starts_at span.end) (find (ends_past span.start) xs) ≡ find (starts_at span.end) xs
unfolding if_passes
starts_behind span [] some h d = refl
starts_behind span (x ∷ xs) some h d =
    let parts = and_parts (is_disjoint span x) (list_all (is_disjoint span) xs) d in
    let w : x.start ≤ x.end = h.0 in
    elim (cases_Bool (ends_past span.start x)) [
      | inl t ↦
          let p : span.start < x.end = ltb-true span.start x.end t in
          let from : span.end ≤ x.start = elim (or_cases _ _ parts.0) [
            | inl a ↦ leb-true span.end x.start a
            | inr b ↦ let q : x.end ≤ span.start = leb-true x.end span.start b in absurd (omega arith)
          ] in
          elim (cases_Bool (starts_at span.end x)) [
            | inl u ↦ rw (t, u) refl
            | inr u ↦ rw (t, u) (sym (none_starts span.end x.end xs (omega arith) h.1))
          ]
      | inr t ↦
          let p : x.end ≤ span.start = ltb-false span.start x.end t in
          rw (t, ne_eqb x.start span.end (λ e. omega arith)) (starts_behind span xs some h.2 parts.1)
    ]

none_ends : (page limit : ℕ) (ys : List Span) → page ≤ limit → IsPast limit ys → IsRising ys → find (ends_at page) ys ≡ None
none_ends page limit [] p a h = refl
none_ends page limit (y ∷ ys) p a h =
    let q : limit < y.start = a.0 in
    let w : y.start ≤ y.end = h.0 in
    rw (ne_eqb y.end page (λ e. omega arith)) (none_ends page limit ys p a.1 h.2)

-- the last hole that ends by a page is the one that ends there, if there is one
pub ends_before : (page : ℕ) (xs : List Span) → IsRising xs → if_passes (ends_at page) (find_last (ends_by page) xs) ≡ find (ends_at page) xs
unfolding if_passes
ends_before page [] h = refl
ends_before page (x ∷ xs) h = elim (cases_Bool (ends_at page x)) [
  | inl t ↦
      let e : x.end ≡ page = eqb-true x.end page t in
      let none : find_last (ends_by page) xs ≡ None = none_by page x.end xs (omega arith) h.1 h.2 in
      rw (none, le-leb x.end page (omega arith), t) refl
  | inr t ↦ rw t (other t (find_last (ends_by page) xs) (ends_before page xs h.2))
]
  where
    other : ends_at page x ≡ false → (o : Option Span) → if_passes (ends_at page) o ≡ find (ends_at page) xs → if_passes (ends_at page) (option_or o (cond (ends_by page x) (Some x) None)) ≡ find (ends_at page) xs
    other t (Some y) e = e
    other t None e = elim (cases_Bool (ends_by page x)) [ inl u ↦ rw (u, t) e | inr u ↦ rw u e ]

-- what a filter leaves of what was found
pub filtered : {P : Bor Span → Bool → Type 0} (test : Span → Bool) (o r : Option (Bor Span)) → ((x : Bor Span) (b : Bool) → P x b → b ≡ test x.now) → MatchOption o (r ≡ None) (λ x. (b : Bool) × P x b × (r ≡ then_some b x)) → option_map (λ (h : Bor Span). h.now) r ≡ if_passes test (option_map (λ (h : Bor Span). h.now) o)
unfolding if_passes
filtered test None r f m = rw m refl
filtered test (Some x) r f m = two (test x.now) (f x m.0 m.1) m.2
  where
    two : (t : Bool) → m.0 ≡ t → r ≡ then_some m.0 x → option_map (λ (h : Bor Span). h.now) r ≡ cond t (Some x.now) None
    two true e g = rw (g, e) refl
    two false e g = rw (g, e) refl
