-- Sums of weights over spans.
use Rattle.std.proofs.Common.{◌≡◌, ℕ, ◌+◌, ◌<◌, ◌≤◌, ◌||◌, Bool, true, false, List, [], ◌∷◌, ◌++◌, refl, ap, sym, ◌∙◌, arith, not, nat_eq, nat_lt, if◌then◌else◌}
use Rattle.std.specs.List.{list_any}
use Rattle.std.proofs.Math.Path.{fun_ext}
use Rattle.std.proofs.lemmas.Bool.{and_parts, and_from, and_left, or_left, eq-eqb, eqb-true, ne_eqb, false_from_ne_true}
use Rattle.ttm_base.specs.declared.Span.{Span}
use Rattle.ttm_base.specs.Holes.{has_page, is_free_beside}
use Rattle.buddy_manager.specs.Held.{with_block, with_blocks, without, same_span, is_held, pages_of, AllFrom, IsApart}
use Rattle.buddy_manager.proofs.HeldLaws.{has_parts}
use Rattle.ttm_base.specs.Reach.{length_of}
use Rattle.resource_core.specs.Tied.{total, at_page, at_span, HaveSame}

pub total-append : (w : Span → ℕ) (xs ys : List Span) → total w (xs ++ ys) ≡ total w xs + total w ys
total-append w [] ys = let e : total w ys ≡ 0 + total w ys = omega arith in e
total-append w (x ∷ xs) ys = let e = total-append w xs ys in omega (arith, e)

-- ---- one span more

pub total_with : (w : Span → ℕ) (b : Span) (hs : List Span) → total w (with_block b hs) ≡ w b + total w hs
total_with w b [] = refl
total_with w b (x ∷ hs) = two (nat_lt b.start x.start) (total_with w b hs) where
  two : (d : Bool) → total w (with_block b hs) ≡ w b + total w hs → total w (if d then b ∷ (x ∷ hs) else x ∷ with_block b hs) ≡ w b + (w x + total w hs)
  two true e = refl
  two false e = omega (arith, e)

pub total_with_all : (w : Span → ℕ) (bs hs : List Span) → total w (with_blocks bs hs) ≡ total w bs + total w hs
total_with_all w [] hs = let e : total w hs ≡ 0 + total w hs = omega arith in e
total_with_all w (b ∷ bs) hs = let e = total_with_all w bs (with_block b hs) in let f = total_with w b hs in omega (arith, e, f)

-- ---- one span less

same_parts : (a b : Span) → same_span a b ≡ true → (a.start ≡ b.start) × (a.end ≡ b.end)
same_parts a b h = let p = and_parts (nat_eq a.start b.start) (nat_eq a.end b.end) h in (eqb-true a.start b.start p.0, eqb-true a.end b.end p.1)

pub same_is : (a b : Span) → same_span a b ≡ true → a ≡ b
same_is a b h =
    let p = same_parts a b h in
    ap (λ n. let s : Span = record { start = n; end = a.end } in s) p.0 ∙ ap (λ n. let s : Span = record { start = b.start; end = n } in s) p.1

pub same_self : (a : Span) → same_span a a ≡ true
same_self a = and_from (nat_eq a.start a.start) (nat_eq a.end a.end) (eq-eqb a.start a.start refl) (eq-eqb a.end a.end refl)

without_before : (n : ℕ) (b : Span) (hs : List Span) → AllFrom n hs → b.start < n → without b hs ≡ hs
without_before n b [] a h = refl
without_before n b (x ∷ hs) a h =
    let l = a.0 in
    let other : same_span b x ≡ false = and_left (nat_eq b.start x.start) (nat_eq b.end x.end) (ne_eqb b.start x.start (λ e. omega arith)) in
    ap (λ t. if t then without b hs else x ∷ without b hs) other ∙ ap (λ r. x ∷ r) (without_before n b hs a.1 h)

pub total_without : (w : Span → ℕ) (b : Span) (hs : List Span) → IsApart hs → is_held b hs ≡ true → total w hs ≡ w b + total w (without b hs)
total_without w b [] a h = absurd cc
total_without w b (x ∷ hs) a h = by (same_span b x) refl (λ i. total_without w b hs a.2 i) where
  by : (t : Bool) → same_span b x ≡ t → (is_held b hs ≡ true → total w hs ≡ w b + total w (without b hs)) → w x + total w hs ≡ w b + total w (without b (x ∷ hs))
  by true e rest =
      let s = same_is b x e in
      let some = a.0 in
      let before : b.start < x.end = let p = (same_parts b x e).0 in omega (arith, p, some) in
      let r = ap (λ t. total w (if t then without b hs else x ∷ without b hs)) e ∙ ap (total w) (without_before x.end b hs a.1 before) in
      let q = ap w s in
      omega (arith, r, q)
  by false e rest =
      let r = ap (λ t. total w (if t then without b hs else x ∷ without b hs)) e in
      let i = rest (sym (ap (λ t. t || is_held b hs) e) ∙ h) in
      omega (arith, r, i)

-- ---- which spans and pages there are, by weights

pub held_by_total : (b : Span) (hs : List Span) → 1 ≤ total (at_span b) hs → is_held b hs ≡ true
held_by_total b [] h = absurd (omega arith)
held_by_total b (x ∷ hs) h = by (same_span b x) refl (λ l. held_by_total b hs l) where
  by : (t : Bool) → same_span b x ≡ t → (1 ≤ total (at_span b) hs → is_held b hs ≡ true) → (same_span b x || is_held b hs) ≡ true
  by true e rest = or_left (same_span b x) (is_held b hs) e
  by false e rest =
      let z : at_span b x ≡ 0 = ap (λ t. if t then 1 else 0) e in
      ap (λ t. t || is_held b hs) e ∙ rest (omega (arith, z))

pub free_by_total : (page : ℕ) (hs : List Span) → is_free_beside hs page ≡ nat_eq (total (at_page page) hs) 0
free_by_total page [] = refl
free_by_total page (x ∷ hs) = by (has_page page x) refl (free_by_total page hs) where
  by : (t : Bool) → has_page page x ≡ t → is_free_beside hs page ≡ nat_eq (total (at_page page) hs) 0 → not (has_page page x || list_any (has_page page) hs) ≡ nat_eq (at_page page x + total (at_page page) hs) 0
  by true e rest =
      let z : at_page page x ≡ 1 = ap (λ t. if t then 1 else 0) e in
      ap (λ t. not (t || list_any (has_page page) hs)) e ∙ sym (ne_eqb (at_page page x + total (at_page page) hs) 0 (λ n. omega (arith, z, n)))
  by false e rest =
      let z : at_page page x ≡ 0 = ap (λ t. if t then 1 else 0) e in
      let s : at_page page x + total (at_page page) hs ≡ total (at_page page) hs = omega (arith, z) in
      ap (λ t. not (t || list_any (has_page page) hs)) e ∙ rest ∙ sym (ap (λ n. nat_eq n 0) s)

pub same_free : (xs ys : List Span) → HaveSame xs ys → is_free_beside xs ≡ is_free_beside ys
same_free xs ys h = fun_ext (λ page. free_by_total page xs ∙ ap (λ n. nat_eq n 0) (h (at_page page)) ∙ sym (free_by_total page ys))

-- a page is in one span at most
none_from : (n page : ℕ) (hs : List Span) → AllFrom n hs → page < n → total (at_page page) hs ≡ 0
none_from n page [] a h = refl
none_from n page (x ∷ hs) a h =
    let l = a.0 in
    let i = none_from n page hs a.1 h in
    let z : at_page page x ≡ 0 = ap (λ t. if t then 1 else 0) (false_from_ne_true (has_page page x) (λ t. let p = (has_parts page x t).0 in omega (arith, p, l, h))) in
    omega (arith, i, z)

pub once : (page : ℕ) (hs : List Span) → IsApart hs → total (at_page page) hs ≤ 1
once page [] a = omega arith
once page (x ∷ hs) a = by (has_page page x) refl (once page hs a.2) where
  by : (t : Bool) → has_page page x ≡ t → total (at_page page) hs ≤ 1 → at_page page x + total (at_page page) hs ≤ 1
  by true e rest =
      let z : at_page page x ≡ 1 = ap (λ t. if t then 1 else 0) e in
      let n = none_from x.end page hs a.1 ((has_parts page x e).1) in
      omega (arith, z, n)
  by false e rest =
      let z : at_page page x ≡ 0 = ap (λ t. if t then 1 else 0) e in
      omega (arith, z, rest)

pub pages_total : (hs : List Span) → pages_of hs ≡ total length_of hs
pages_total [] = refl
pages_total (x ∷ hs) = ap (λ n. length_of x + n) (pages_total hs)
