-- Holes that come and go, by their pages.
use Rattle.std.proofs.Common.{◌≡◌, ℕ, ◌+◌, ◌<◌, ◌≤◌, ◌&&◌, ◌||◌, inl, inr, Bool, true, false, List, [], ◌∷◌, Option, Some, None, refl, ap, sym, ◌∙◌, subst, arith, not}
use Rattle.std.specs.Prelude.{IfSome, IfNone}
use Rattle.std.specs.List.{find, list_any}
use Rattle.std.proofs.lemmas.Bool.{cases_lt, cases_Bool, or_from, both_ways, eqb-true, ne_eqb}
use Rattle.std.proofs.lemmas.Bool.Decides.{nat_tests}
use Rattle.ttm_base.specs.declared.Span.{Span}
use Rattle.ttm_base.specs.Holes.{has_page}
use Rattle.hole_tree.specs.HoleSet.{starts_at, ends_at, without}
use Rattle.range_manager.specs.Kept.{IsSpaced, IsClear}
use Rattle.range_manager.proofs.SpanLaws.{IsAmong, has_from, has_before, has_past, among_some, among_found, found_among, found_none, none_before, none_behind, spaced_without, clear_without, pages_without}

-- ---- the hole that has a page

pub around_hole : (page : ℕ) (hs : List Span) (o : Option Span) → o ≡ find (has_page page) hs → IsSpaced 1 hs → IfSome o (λ hole. find (starts_at hole.start) hs ≡ Some hole)
around_hole page hs None e s = tt
around_hole page hs (Some h) e s = among_found 1 h hs s ((found_among (has_page page) h hs (sym e)).0)

pub around_page : (page : ℕ) (hs : List Span) (o : Option Span) → o ≡ find (has_page page) hs → IfSome o (λ hole. has_page page hole ≡ true)
around_page page hs None e = tt
around_page page hs (Some h) e = (found_among (has_page page) h hs (sym e)).1

pub around_none : (page : ℕ) (hs : List Span) (o : Option Span) → o ≡ find (has_page page) hs → IfNone o (list_any (has_page page) hs ≡ false)
around_none page hs None e = found_none (has_page page) hs (sym e)
around_none page hs (Some h) e = tt

pub hole_some : (hs : List Span) (hole : Span) → IsSpaced 1 hs → find (starts_at hole.start) hs ≡ Some hole → hole.start < hole.end
hole_some hs hole s f = among_some 1 hole hs s ((found_among (starts_at hole.start) hole hs f).0)

pub found_hole : (hs : List Span) (hole : Span) → find (starts_at hole.start) hs ≡ Some hole → IsAmong hole hs
found_hole hs hole e = (found_among (starts_at hole.start) hole hs e).0

-- ---- the holes that touch pages of which no hole has any

pub record IsBelow (hs : List Span) (pages x : Span) : Type 0 where
  pub hole : find (starts_at x.start) hs ≡ Some x
  pub touch : x.end ≡ pages.start

pub below_found : (hs : List Span) (pages hole : Span) → IsSpaced 1 hs → find (ends_at pages.start) hs ≡ Some hole → IsBelow hs pages hole
below_found hs pages hole s e =
    let a = found_among (ends_at pages.start) hole hs e in
    record { hole = among_found 1 hole hs s a.0; touch = eqb-true hole.end pages.start a.1 }

pub record IsAbove (hs : List Span) (pages x : Span) : Type 0 where
  pub hole : find (starts_at x.start) hs ≡ Some x
  pub touch : x.start ≡ pages.end

pub above_found : (hs : List Span) (pages hole : Span) → IsSpaced 1 hs → find (starts_at pages.end) hs ≡ Some hole → IsAbove hs pages hole
above_found hs pages hole s e =
    let a = found_among (starts_at pages.end) hole hs e in
    record { hole = among_found 1 hole hs s a.0; touch = eqb-true hole.start pages.end a.1 }

pub below_none : (hs : List Span) (pages : Span) → pages.start < pages.end → IsClear 0 pages hs → find (ends_at pages.start) hs ≡ None → (p : ℕ) → p + 1 ≡ pages.start → list_any (has_page p) hs ≡ false
below_none hs pages some c e p t = none_before pages hs p some c (found_none (ends_at pages.start) hs e) t

pub above_none : (hs : List Span) (pages : Span) → pages.start < pages.end → IsClear 0 pages hs → find (starts_at pages.end) hs ≡ None → list_any (has_page pages.end) hs ≡ false
above_none hs pages some c e = none_behind pages hs some c (found_none (starts_at pages.end) hs e)

-- pages that touch no hole
pub clear_beside : (hs : List Span) (pages : Span) → IsClear 0 pages hs → ((p : ℕ) → p + 1 ≡ pages.start → list_any (has_page p) hs ≡ false) → list_any (has_page pages.end) hs ≡ false → IsClear 1 pages hs
clear_beside hs pages c below above page l u = elim (cases_lt page pages.start) [
  | inl k ↦ below page (omega arith)
  | inr k ↦ elim (cases_lt page pages.end) [
    | inl m ↦ c page (omega arith) (omega arith)
    | inr m ↦ let e : pages.end ≡ page = omega arith in ap (λ n. list_any (has_page n) hs) (sym e) ∙ above
  ]
]

-- ---- a hole that was taken out

pub record IsOut (hs : List Span) (hole : Span) (new : List Span) : Type 0 where
  pub spaced : IsSpaced 1 new
  pub pages : (page : ℕ) → list_any (has_page page) hs ≡ (list_any (has_page page) new || has_page page hole)
  pub clear : IsClear 1 hole new

pub taken_out : (hs : List Span) (hole : Span) (new : List Span) → IsSpaced 1 hs → find (starts_at hole.start) hs ≡ Some hole → new ≡ without hole.start hs → IsOut hs hole new
taken_out hs hole new s f e =
    let a = found_hole hs hole f in
    record {
      spaced = subst (IsSpaced 1) (sym e) (spaced_without 1 hole.start hs s);
      pages = λ page. pages_without 1 hole hs page s a ∙ sym (ap (λ xs. list_any (has_page page) xs || has_page page hole) e);
      clear = λ page l u. ap (list_any (has_page page)) e ∙ clear_without 1 hole hs s a page l u;
    }

-- a page right past a hole is in none
pub past_hole : (hs : List Span) (hole : Span) → IsSpaced 1 hs → find (starts_at hole.start) hs ≡ Some hole → list_any (has_page hole.end) hs ≡ false
past_hole hs hole s f =
    let a = found_hole hs hole f in
    let own = among_some 1 hole hs s a in
    pages_without 1 hole hs hole.end s a
    ∙ or_from (list_any (has_page hole.end) (without hole.start hs)) (has_page hole.end hole) (clear_without 1 hole hs s a hole.end (omega arith) (omega arith)) (has_past hole.end hole (omega arith))

-- ---- the pages of a hole, but those that are taken

outside : (r b a h t : Bool) → b ≡ false → a ≡ false → h ≡ false → t ≡ false → ((r || b) || a) ≡ ((r || h) && not t)
outside r b a h t eb ea eh et = rw (eb, ea, eh, et) (by r) where
  by : (r : Bool) → ((r || false) || false) ≡ ((r || false) && true)
  by true = refl
  by false = refl

left_of : (r b a h t : Bool) → r ≡ false → b ≡ true → h ≡ true → t ≡ false → ((r || b) || a) ≡ ((r || h) && not t)
left_of r b a h t er eb eh et = rw (er, eb, eh, et) refl

middle : (r b a h t : Bool) → r ≡ false → b ≡ false → a ≡ false → t ≡ true → ((r || b) || a) ≡ ((r || h) && not t)
middle r b a h t er eb ea et = rw (er, eb, ea, et) (by h) where
  by : (h : Bool) → false ≡ (h && false)
  by true = refl
  by false = refl

right_of : (r b a h t : Bool) → r ≡ false → b ≡ false → a ≡ true → h ≡ true → t ≡ false → ((r || b) || a) ≡ ((r || h) && not t)
right_of r b a h t er eb ea eh et = rw (er, eb, ea, eh, et) refl

pub split_pages : (rest : List Span) (hole taken : Span) (page : ℕ) → IsClear 1 hole rest → hole.start ≤ taken.start → taken.start < taken.end → taken.end ≤ hole.end
    → ((list_any (has_page page) rest || has_page page (record { start = hole.start; end = taken.start })) || has_page page (record { start = taken.end; end = hole.end })) ≡ ((list_any (has_page page) rest || has_page page hole) && not (has_page page taken))
split_pages rest hole taken page clear from some to =
    let below : Span = record { start = hole.start; end = taken.start } in
    let above : Span = record { start = taken.end; end = hole.end } in
    let r : Bool = list_any (has_page page) rest in
    elim (cases_lt page hole.start) [
      | inl l ↦ outside r (has_page page below) (has_page page above) (has_page page hole) (has_page page taken) (has_before page below l) (has_before page above (omega arith)) (has_before page hole l) (has_before page taken (omega arith))
      | inr l ↦ elim (cases_lt page hole.end) [
        | inr u ↦ outside r (has_page page below) (has_page page above) (has_page page hole) (has_page page taken) (has_past page below (omega arith)) (has_past page above u) (has_past page hole u) (has_past page taken (omega arith))
        | inl u ↦
            let none = clear page (omega arith) (omega arith) in
            elim (cases_lt page taken.start) [
              | inl k ↦ left_of r (has_page page below) (has_page page above) (has_page page hole) (has_page page taken) none (has_from page below l k) (has_from page hole l u) (has_before page taken k)
              | inr k ↦ elim (cases_lt page taken.end) [
                | inl m ↦ middle r (has_page page below) (has_page page above) (has_page page hole) (has_page page taken) none (has_past page below k) (has_before page above m) (has_from page taken k m)
                | inr m ↦ right_of r (has_page page below) (has_page page above) (has_page page hole) (has_page page taken) none (has_past page below k) (has_from page above m u) (has_from page hole l u) (has_past page taken m)
              ]
            ]
      ]
    ]

-- a span without pages
pub empty : (page start end : ℕ) → end ≤ start → has_page page (record { start = start; end = end }) ≡ false
empty page start end l = elim (cases_lt page start) [
  | inl u ↦ has_before page (record { start = start; end = end }) u
  | inr u ↦ has_past page (record { start = start; end = end }) (omega arith)
]

or_false : (r b : Bool) → b ≡ false → (r || b) ≡ r
or_false true b e = refl
or_false false b e = e

-- the pages that are left, where none are below those that are taken
pub split_above : (rest : List Span) (hole taken : Span) (page : ℕ) → IsClear 1 hole rest → hole.start ≤ taken.start → taken.start ≤ hole.start → taken.start < taken.end → taken.end ≤ hole.end
    → (list_any (has_page page) rest || has_page page (record { start = taken.end; end = hole.end })) ≡ ((list_any (has_page page) rest || has_page page hole) && not (has_page page taken))
split_above rest hole taken page clear from none some to =
    ap (λ t. t || has_page page (record { start = taken.end; end = hole.end })) (sym (or_false (list_any (has_page page) rest) (has_page page (record { start = hole.start; end = taken.start })) (empty page hole.start taken.start none)))
    ∙ split_pages rest hole taken page clear from some to

-- the same, where none are above them either
pub split_none : (rest : List Span) (hole taken : Span) (page : ℕ) → IsClear 1 hole rest → hole.start ≤ taken.start → taken.start ≤ hole.start → taken.start < taken.end → taken.end ≤ hole.end → hole.end ≤ taken.end
    → list_any (has_page page) rest ≡ ((list_any (has_page page) rest || has_page page hole) && not (has_page page taken))
split_none rest hole taken page clear from none some to last =
    sym (or_false (list_any (has_page page) rest) (has_page page (record { start = taken.end; end = hole.end })) (empty page taken.end hole.end last))
    ∙ split_above rest hole taken page clear from none some to

-- ---- pages that are put to a hole

-- two spans that touch, as one
pub joined : (page : ℕ) (a b : Span) → a.end ≡ b.start → a.start ≤ a.end → b.start ≤ b.end → has_page page (record { start = a.start; end = b.end }) ≡ (has_page page a || has_page page b)
joined page a b t p q = grind (arith, nat_tests)

or_aside : (r a b w : Bool) → w ≡ (a || b) → (r || w) ≡ ((r || a) || b)
or_aside true a b w e = refl
or_aside false a b w e = e

or_beside : (r a b w : Bool) → w ≡ (b || a) → (r || w) ≡ ((r || a) || b)
or_beside true a b w e = refl
or_beside false true true w e = e
or_beside false true false w e = e
or_beside false false true w e = e
or_beside false false false w e = e

or_parts : (r b : Bool) → (r || b) ≡ false → r ≡ false
or_parts false b e = refl
or_parts true b e = absurd (both_ways true e refl)

-- what is held of the rest of the holes holds of them all
pub none_of_rest : (hs : List Span) (hole : Span) (new : List Span) (page : ℕ) → IsOut hs hole new → list_any (has_page page) hs ≡ false → list_any (has_page page) new ≡ false
none_of_rest hs hole new page out e = or_parts (list_any (has_page page) new) (has_page page hole) (sym (out.pages page) ∙ e)

pub grown_clear : (hs : List Span) (hole pages : Span) (rest : List Span) → IsOut hs hole rest → hole.end ≡ pages.start → hole.start ≤ hole.end → IsClear 0 pages hs → list_any (has_page pages.end) hs ≡ false → IsClear 1 (record { start = hole.start; end = pages.end }) rest
grown_clear hs hole pages rest out t p clear above page l u = elim (cases_lt hole.end page) [
  | inr k ↦ out.clear page l (omega arith)
  | inl k ↦ elim (cases_lt page pages.end) [
    | inl m ↦ none_of_rest hs hole rest page out (clear page (omega arith) (omega arith))
    | inr m ↦ let e : pages.end ≡ page = omega arith in none_of_rest hs hole rest page out (ap (λ n. list_any (has_page n) hs) (sym e) ∙ above)
  ]
]

pub grown_pages : (hs : List Span) (hole pages : Span) (rest : List Span) (page : ℕ) → IsOut hs hole rest → hole.end ≡ pages.start → hole.start ≤ hole.end → pages.start ≤ pages.end
    → (list_any (has_page page) rest || has_page page (record { start = hole.start; end = pages.end })) ≡ (list_any (has_page page) hs || has_page page pages)
grown_pages hs hole pages rest page out t p q =
    or_aside (list_any (has_page page) rest) (has_page page hole) (has_page page pages) _ (joined page hole pages t p q)
    ∙ sym (ap (λ x. x || has_page page pages) (out.pages page))

pub grown_down_clear : (hs : List Span) (hole pages : Span) (rest : List Span) → IsOut hs hole rest → pages.end ≡ hole.start → hole.start ≤ hole.end → IsClear 0 pages hs → ((p : ℕ) → p + 1 ≡ pages.start → list_any (has_page p) hs ≡ false) → IsClear 1 (record { start = pages.start; end = hole.end }) rest
grown_down_clear hs hole pages rest out t p clear below page l u = elim (cases_lt (page + 1) hole.start) [
  | inr k ↦ out.clear page (omega arith) u
  | inl k ↦ elim (cases_lt page pages.start) [
    | inl m ↦ none_of_rest hs hole rest page out (below page (omega arith))
    | inr m ↦ none_of_rest hs hole rest page out (clear page (omega arith) (omega arith))
  ]
]

pub grown_down_pages : (hs : List Span) (hole pages : Span) (rest : List Span) (page : ℕ) → IsOut hs hole rest → pages.end ≡ hole.start → hole.start ≤ hole.end → pages.start ≤ pages.end
    → (list_any (has_page page) rest || has_page page (record { start = pages.start; end = hole.end })) ≡ (list_any (has_page page) hs || has_page page pages)
grown_down_pages hs hole pages rest page out t p q =
    or_beside (list_any (has_page page) rest) (has_page page hole) (has_page page pages) _ (joined page pages hole t q p)
    ∙ sym (ap (λ x. x || has_page page pages) (out.pages page))

-- a hole is found beside one that was taken out
pub found_beside : (start other : ℕ) (hs : List Span) → (start ≡ other → ⊥) → find (starts_at start) (without other hs) ≡ find (starts_at start) hs
found_beside start other [] d = refl
found_beside start other (x ∷ hs) d = elim (cases_Bool (starts_at other x)) [
  | inl t ↦
      let same : x.start ≡ other = eqb-true x.start other t in
      let not_here : starts_at start x ≡ false = ne_eqb x.start start (λ e. d (omega arith)) in
      rw (t, not_here) (found_beside start other hs d)
  | inr t ↦ elim (cases_Bool (starts_at start x)) [
    | inl u ↦ rw (t, u) refl
    | inr u ↦ rw (t, u) (found_beside start other hs d)
  ]
]
