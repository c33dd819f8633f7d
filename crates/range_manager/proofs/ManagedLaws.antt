-- The parts of a manager fit together after each change.
use Rattle.std.proofs.Common.{◌≡◌, ℕ, ◌+◌, ◌-◌, ◌^◌, ◌<◌, ◌≤◌, ◌&&◌, ◌||◌, Bool, true, false, List, [], Some, length, get_or, set, replicate, refl, ap, sym, ◌∙◌, subst, arith, not, nat_lt, if◌then◌else◌}
use Rattle.std.specs.List.{find, list_any}
use Rattle.std.proofs.lemmas.Grind.{common_steps}
use Rattle.std.proofs.lemmas.List.{length-replicate}
use Rattle.std.proofs.lemmas.Bool.{and_parts, and_right, lt-ltb, ltb-true, not-true}
use Rattle.ttm_base.specs.declared.Span.{Span}
use Rattle.ttm_base.specs.Holes.{has_page, is_free_beside, holes}
use Rattle.hole_tree.specs.HoleSet.{HoleSet, starts_at, with_hole, without}
use Rattle.range_manager.specs.Held.{Managed, held_spans, with_span, pages_of, is_open, HasTakenPage}
use Rattle.range_manager.specs.Kept.{AllBy, IsSpaced, IsClear, IsManaged}
use Rattle.range_manager.proofs.SpanLaws.{IsAmong, has_parts, has_from, among_by, among_has, found_among, pages_with, spaced_with, all_by_with, sum_with, length_with, spaced_without, all_by_without, clear_without, pages_without, sum_without, length_without, sum_within, length_within}
use Rattle.range_manager.proofs.HoleLaws.{holes_by_pages}
use Rattle.range_manager.proofs.GapLaws.{found_hole, past_hole}
use Rattle.range_manager.proofs.EndLaws.{held_set, held_clear, free_begins_none, none_held, Begins}

-- what a manager with these ends is seen as
abbrev pub seen : List ℕ → Managed
seen ends = record { size = length ends; held = held_spans 0 ends }

pub managed_holes : (h : HoleSet) (ends : List ℕ) (used count : ℕ) → IsManaged h ends used count → h.holes ≡ holes (is_free_beside (held_spans 0 ends)) (length ends)
managed_holes h ends used count m = holes_by_pages (is_free_beside (held_spans 0 ends)) (length ends) h.holes m.spaced m.free

pub used_within : (h : HoleSet) (ends : List ℕ) (used count : ℕ) → IsManaged h ends used count → used ≤ length ends
used_within h ends used count m =
    let p = sum_within (length ends) (held_spans 0 ends) m.apart m.within in
    let c = m.pages in
    omega (arith, p, c)

pub count_within : (h : HoleSet) (ends : List ℕ) (used count : ℕ) → IsManaged h ends used count → count ≤ used
count_within h ends used count m =
    let p = length_within 0 (held_spans 0 ends) m.apart in
    let c = m.pages in
    let d = m.spans in
    omega (arith, p, c, d)

-- ---- open pages

pub open_in : (h : HoleSet) (ends : List ℕ) (used count : ℕ) (hole : Span) → IsManaged h ends used count → find (starts_at hole.start) h.holes ≡ Some hole → (page : ℕ) → has_page page hole ≡ true → is_open (seen ends) page ≡ true
open_in h ends used count hole m f page t = sym (m.free page) ∙ among_has page hole h.holes (found_hole h.holes hole f) t

pub taken_page : (h : HoleSet) (ends : List ℕ) (used count : ℕ) (span : Span) (page : ℕ) → IsManaged h ends used count → has_page page span ≡ true → list_any (has_page page) h.holes ≡ false → HasTakenPage (seen ends) span
taken_page h ends used count span page m t n = record { page = page; of = t; taken = sym (m.free page) ∙ n }

-- the first page isn't in a hole
pub taken_first : (h : HoleSet) (ends : List ℕ) (used count : ℕ) (span : Span) → IsManaged h ends used count → span.start < span.end → list_any (has_page span.start) h.holes ≡ false → HasTakenPage (seen ends) span
taken_first h ends used count span m s n = taken_page h ends used count span span.start m (has_from span.start span (omega arith) s) n

-- the hole of the first page ends before the span
pub taken_past : (h : HoleSet) (ends : List ℕ) (used count : ℕ) (span hole : Span) → IsManaged h ends used count → find (starts_at hole.start) h.holes ≡ Some hole → has_page span.start hole ≡ true → hole.end < span.end → HasTakenPage (seen ends) span
taken_past h ends used count span hole m f t l =
    let p = (has_parts span.start hole t).1 in
    taken_page h ends used count span hole.end m (has_from hole.end span (omega arith) l) (past_hole h.holes hole m.spaced f)

-- ---- a span that is held

abbrev pub AllOpen : List ℕ → Span → Type 0
AllOpen ends span = (page : ℕ) → has_page page span ≡ true → is_open (seen ends) page ≡ true

pub all_open_in : (h : HoleSet) (ends : List ℕ) (used count : ℕ) (span hole : Span) → IsManaged h ends used count → find (starts_at hole.start) h.holes ≡ Some hole → has_page span.start hole ≡ true → span.end ≤ hole.end → AllOpen ends span
all_open_in h ends used count span hole m f t l page u =
    let from = (has_parts span.start hole t).0 in
    let p = has_parts page span u in
    let a = p.0 in
    let b = p.1 in
    open_in h ends used count hole m f page (has_from page hole (omega arith) (omega arith))

-- what is known of a span of open pages
record CanHold (ends : List ℕ) (span : Span) : Type 0 where
  below : span.start < length ends
  by : span.end ≤ length ends
  clear : IsClear 0 span (held_spans 0 ends)
  none : get_or ends span.start 0 ≤ span.start

can_hold : (ends : List ℕ) (span : Span) → span.start < span.end → AllOpen ends span → CanHold ends span
can_hold ends span s o =
    let below : (page : ℕ) → has_page page span ≡ true → page < length ends = λ page t. ltb-true page (length ends) ((and_parts (nat_lt page (length ends)) (is_free_beside (held_spans 0 ends) page) (o page t)).0) in
    let clear : (page : ℕ) → has_page page span ≡ true → list_any (has_page page) (held_spans 0 ends) ≡ false
    = λ page t. not-true (list_any (has_page page) (held_spans 0 ends)) ((and_parts (nat_lt page (length ends)) (is_free_beside (held_spans 0 ends) page) (o page t)).1) in
    let first = has_from span.start span (omega arith) s in
    let one = below span.start first in
    let z : 0 + span.start ≡ span.start = omega arith in
    let none = free_begins_none 0 ends span.start one (ap (λ p. list_any (has_page p) (held_spans 0 ends)) z ∙ clear span.start first) in
    let last = below (span.end - 1) (has_from (span.end - 1) span (omega arith) (omega arith)) in
    record {
      below = one;
      by = omega (arith, last);
      clear = λ page l u. clear page (has_from page span (omega arith) (omega arith));
      none = omega (arith, none);
    }

-- the ends after a span is held
pub held_more : (ends : List ℕ) (span : Span) → span.start < span.end → AllOpen ends span → held_spans 0 (set ends span.start span.end) ≡ with_hole span (held_spans 0 ends)
held_more ends span s o =
    let c = can_hold ends span s o in
    let below = c.below in
    let none = c.none in
    let z : 0 + span.start ≡ span.start = omega arith in
    held_set 0 ends span.start span.end below (omega arith) (omega arith) ∙ ap (λ n. with_hole (record { start = n; end = span.end }) (held_spans 0 ends)) z

pub hold_below : (ends : List ℕ) (span : Span) → span.start < span.end → AllOpen ends span → span.start < length ends
hold_below ends span s o = (can_hold ends span s o).below

pub with_some : (span : Span) (held : List Span) → span.start < span.end → with_span span held ≡ with_hole span held
with_some span held s = ap (λ t. if t then with_hole span held else held) (lt-ltb span.start span.end s)

pub length_set : (ends : List ℕ) (i e : ℕ) → length (set ends i e) ≡ length ends
length_set ends i e = grind (arith, common_steps)

-- in the size, held, of the span
free_less : (t v b : Bool) → ((t && not v) && not b) ≡ (t && not (v || b))
free_less true true b = refl
free_less true false b = refl
free_less false true b = refl
free_less false false b = refl

pub managed_more : (h g : HoleSet) (ends : List ℕ) (used count : ℕ) (span : Span) → IsManaged h ends used count → span.start < span.end → AllOpen ends span → IsSpaced 1 g.holes
    → ((page : ℕ) → list_any (has_page page) g.holes ≡ (list_any (has_page page) h.holes && not (has_page page span))) → count + 1 ≤ g.spare → IsManaged g (set ends span.start span.end) (used + (span.end - span.start)) (count + 1)
managed_more h g ends used count span m s o spaced pages spare =
    let hs : List Span = held_spans 0 ends in
    let c = can_hold ends span s o in
    let held = held_more ends span s o in
    let len = length_set ends span.start span.end in
    let small = m.small in
    let p = sum_with span hs in
    let q = length_with span hs in
    let up = m.pages in
    let us = m.spans in
    record {
      spaced = spaced;
      free = λ page. pages page ∙ ap (λ t. t && not (has_page page span)) (m.free page) ∙ free_less (nat_lt page (length ends)) (list_any (has_page page) hs) (has_page page span)
          ∙ sym (ap (λ t. nat_lt page (length ends) && not t) (pages_with span hs page))
          ∙ ap (λ n. nat_lt page n && is_free_beside (with_hole span hs) page) (sym len) ∙ sym (ap (λ xs. nat_lt page (length (set ends span.start span.end)) && is_free_beside xs page) held);
      spare = spare;
      small = omega arith;
      apart = subst (IsSpaced 0) (sym held) (spaced_with 0 span hs m.apart s c.clear);
      within = subst (AllBy (length (set ends span.start span.end))) (sym held) (subst (λ n. AllBy n (with_hole span hs)) (sym len) (all_by_with (length ends) span hs c.by m.within));
      pages = (let e : used + (span.end - span.start) ≡ pages_of (with_hole span hs) = omega (arith, p, up) in e) ∙ sym (ap pages_of held);
      spans = (let e : count + 1 ≡ length (with_hole span hs) = omega (arith, q, us) in e) ∙ sym (ap length held);
    }

-- the pages that are used stay as few as there are
pub used_more : (h : HoleSet) (ends : List ℕ) (used count : ℕ) (span : Span) → IsManaged h ends used count → span.start < span.end → AllOpen ends span → used + (span.end - span.start) ≤ length ends
used_more h ends used count span m s o =
    let hs : List Span = held_spans 0 ends in
    let c = can_hold ends span s o in
    let p = sum_with span hs in
    let up = m.pages in
    let w = sum_within (length ends) (with_hole span hs) (spaced_with 0 span hs m.apart s c.clear) (all_by_with (length ends) span hs c.by m.within) in
    omega (arith, p, up, w)

-- ---- a span that is let go

abbrev pub span_at : List ℕ → ℕ → Span
span_at ends start = record { start = start; end = get_or ends start 0 }

among_held : (ends : List ℕ) (start : ℕ) → Begins ends start → IsAmong (span_at ends start) (held_spans 0 ends)
among_held ends start b = (found_among (starts_at start) (span_at ends start) (held_spans 0 ends) b.found).0

pub held_by : (h : HoleSet) (ends : List ℕ) (used count start : ℕ) → IsManaged h ends used count → Begins ends start → get_or ends start 0 ≤ length ends
held_by h ends used count start m b = among_by (length ends) (span_at ends start) (held_spans 0 ends) m.within (among_held ends start b)

-- none of its pages is in a hole
pub held_clear_of : (h : HoleSet) (ends : List ℕ) (used count start : ℕ) → IsManaged h ends used count → Begins ends start → IsClear 0 (span_at ends start) h.holes
held_clear_of h ends used count start m b page l u =
    m.free page
    ∙ and_right (nat_lt page (length ends)) (is_free_beside (held_spans 0 ends) page) (ap not (among_has page (span_at ends start) (held_spans 0 ends) (among_held ends start b) (has_from page (span_at ends start) (omega arith) (omega arith))))

pub held_less : (ends : List ℕ) (start : ℕ) → Begins ends start → held_spans 0 (set ends start 0) ≡ without start (held_spans 0 ends)
held_less ends start b =
    let z : 0 + start ≡ start = omega arith in
    let some = b.some in
    held_clear 0 ends start b.below (omega arith) ∙ ap (λ n. without n (held_spans 0 ends)) z

-- in the size, held, held beside the span, of the span
free_more : (t v w b : Bool) → v ≡ (w || b) → (b ≡ true → w ≡ false) → (b ≡ true → t ≡ true) → ((t && not v) || b) ≡ (t && not w)
free_more t v w true e n s = rw (n refl, s refl) (by (not v)) where
  by : (x : Bool) → (x || true) ≡ true
  by true = refl
  by false = refl
free_more t v w false e n s = ap (λ v. (t && not v) || false) e ∙ by t w where
  by : (t w : Bool) → ((t && not (w || false)) || false) ≡ (t && not w)
  by true true = refl
  by true false = refl
  by false true = refl
  by false false = refl

pub managed_less : (h g : HoleSet) (ends : List ℕ) (used count start : ℕ) → IsManaged h ends used count → Begins ends start → IsSpaced 1 g.holes
    → ((page : ℕ) → list_any (has_page page) g.holes ≡ (list_any (has_page page) h.holes || has_page page (span_at ends start))) → h.spare ≤ g.spare + 1 → IsManaged g (set ends start 0) (used - (get_or ends start 0 - start)) (count - 1)
managed_less h g ends used count start m b spaced pages spare =
    let hs : List Span = held_spans 0 ends in
    let span : Span = span_at ends start in
    let a = among_held ends start b in
    let held = held_less ends start b in
    let len = length_set ends start 0 in
    let small = m.small in
    let by = held_by h ends used count start m b in
    let old = m.spare in
    let p = sum_without 0 span hs m.apart a in
    let q = length_without 0 span hs m.apart a in
    let up = m.pages in
    let us = m.spans in
    record {
      spaced = spaced;
      free = λ page. pages page ∙ ap (λ t. t || has_page page span) (m.free page)
          ∙ free_more (nat_lt page (length ends)) (list_any (has_page page) hs) (list_any (has_page page) (without start hs)) (has_page page span) (pages_without 0 span hs page m.apart a)
          (λ t. let r = has_parts page span t in let l = r.0 in let u = r.1 in clear_without 0 span hs m.apart a page (omega arith) (omega arith))
          (λ t. let r = has_parts page span t in let u = r.1 in lt-ltb page (length ends) (omega arith))
          ∙ ap (λ n. nat_lt page n && is_free_beside (without start hs) page) (sym len) ∙ sym (ap (λ xs. nat_lt page (length (set ends start 0)) && is_free_beside xs page) held);
      spare = omega (arith, old, spare);
      small = omega arith;
      apart = subst (IsSpaced 0) (sym held) (spaced_without 0 start hs m.apart);
      within = subst (AllBy (length (set ends start 0))) (sym held) (subst (λ n. AllBy n (without start hs)) (sym len) (all_by_without (length ends) start hs m.within));
      pages = (let e : used - (get_or ends start 0 - start) ≡ pages_of (without start hs) = omega (arith, p, up) in e) ∙ sym (ap pages_of held);
      spans = (let e : count - 1 ≡ length (without start hs) = omega (arith, q, us) in e) ∙ sym (ap length held);
    }

-- what is let go was counted
pub used_less : (h : HoleSet) (ends : List ℕ) (used count start : ℕ) → IsManaged h ends used count → Begins ends start → get_or ends start 0 - start ≤ used
used_less h ends used count start m b =
    let p = sum_without 0 (span_at ends start) (held_spans 0 ends) m.apart (among_held ends start b) in
    let up = m.pages in
    omega (arith, p, up)

pub count_less : (h : HoleSet) (ends : List ℕ) (used count start : ℕ) → IsManaged h ends used count → Begins ends start → 1 ≤ count
count_less h ends used count start m b =
    let q = length_without 0 (span_at ends start) (held_spans 0 ends) m.apart (among_held ends start b) in
    let us = m.spans in
    omega (arith, q, us)

-- ---- a manager of which nothing is held

pub managed_new : (h : HoleSet) (pages : ℕ) → pages < 2 ^ 32 → IsSpaced 1 h.holes → ((page : ℕ) → list_any (has_page page) h.holes ≡ nat_lt page pages) → IsManaged h (replicate pages 0) 0 0
managed_new h pages small s f =
    let zeros : List ℕ = replicate pages 0 in
    let none : held_spans 0 zeros ≡ [] = none_held pages 0 in
    let len : length zeros ≡ pages = length-replicate pages 0 in
    record {
      spaced = s;
      free = λ page. f page ∙ and_true (nat_lt page pages) ∙ ap (λ n. nat_lt page n && true) (sym len) ∙ sym (ap (λ hs. nat_lt page (length zeros) && is_free_beside hs page) none);
      spare = omega arith;
      small = omega (arith, len, small);
      apart = subst (IsSpaced 0) (sym none) tt;
      within = subst (AllBy (length zeros)) (sym none) tt;
      pages = sym (ap pages_of none);
      spans = sym (ap length none);
    }
  where
    and_true : (t : Bool) → t ≡ (t && true)
    and_true true = refl
    and_true false = refl
