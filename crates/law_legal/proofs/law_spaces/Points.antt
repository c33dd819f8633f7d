-- The mappings that requests leave give each page what the requests say.
use mathlib.Core.Path.{fun_ext}
use Rattle.std.proofs.Common.{◌≡◌, ℕ, ◌+◌, ◌-◌, ◌<◌, ◌≤◌, min, max, Bool, true, false, List, [], ◌∷◌, ◌++◌, Option, Some, None, refl, ap, ap₂, sym, ◌∙◌, arith, inl, inr}
use Rattle.std.specs.Prelude.{IsTrue, flat_map, nat_lt, nat_le, fold, option_map, find, if◌then◌else◌}
use Rattle.std.specs.Option.{option_or}
use Rattle.std.specs.List.{list_all}
use Rattle.std.proofs.lemmas.Bool.{cases_Bool, and_parts, ltb-true, ltb-false, leb-true}
use Rattle.std.proofs.lemmas.Bool.Decides.{nat_tests}
use Rattle.std.proofs.lemmas.List.Folds.{find-append}
use Rattle.ttm_base.specs.declared.Span.{Span}
use Rattle.ttm_base.specs.declared.BufId.{BufId}
use Rattle.ttm_base.specs.Holes.{has_page}
use Rattle.journal_model.specs.declared.script.MarkKind.{MarkKind}
use Rattle.journal_model.specs.declared.script.MarkKind.TheVariants as mark
use Rattle.journal_model.specs.marks.Spaces.{Space, Region, has, after_request, space_of, new_region, regions_after, regions_of, regions_space, has_pages}
use Rattle.law_legal.specs.law_spaces.Rising.{IsRising}
use Rattle.law_legal.specs.law_spaces.Sides.{head_of, tail_of, sides}
use Rattle.law_legal.proofs.law_spaces.Sides.{cut, pages_of_rising, after_is_sides}
use Rattle.law_legal.proofs.law_spaces.Order.{IsOther, others_change_nothing, some_pages, rising_after}

-- ---- one mapping

pub none_there : (page : ℕ) (r : Region) → has_page page r.span ≡ false → regions_space (r ∷ []) page ≡ None
none_there page r e = rw e refl

pub some_there : (page : ℕ) (r : Region) → has_page page r.span ≡ true → regions_space (r ∷ []) page ≡ Some (r.b, r.off + (page - r.span.start))
some_there page r e = rw e refl

cut_there : (r : Region) (s e page : ℕ) → r.span.start ≤ s → has_page page (record { start = s; end = e }) ≡ has_page page r.span → regions_space (cut r s e ∷ []) page ≡ regions_space (r ∷ []) page
cut_there r s e page l h = elim (cases_Bool (has_page page r.span)) [
  | inl t ↦
      let here : has_page page (record { start = s; end = e }) ≡ true = h ∙ t in
      let low : s ≤ page = leb-true s page (and_parts (nat_le s page) (nat_lt page e) here).0 in
      let off : (r.off + (s - r.span.start)) + (page - s) ≡ r.off + (page - r.span.start) = omega arith in
      some_there page (cut r s e) here ∙ ap (λ o. Some (r.b, o)) off ∙ sym (some_there page r t)
  | inr f ↦ none_there page (cut r s e) (h ∙ f) ∙ sym (none_there page r f)
]

-- ---- lists

map_or : {X Y : Type 0} (f : X → Y) (a b : Option X) → option_map f (option_or a b) ≡ option_or (option_map f a) (option_map f b)
map_or f None b = refl
map_or f (Some x) b = refl

pub or_none : {X : Type 0} (o : Option X) → option_or o None ≡ o
or_none None = refl
or_none (Some x) = refl

pub space-append : (xs ys : List Region) (page : ℕ) → regions_space (xs ++ ys) page ≡ option_or (regions_space xs page) (regions_space ys page)
space-append xs ys page =
    let there : Region → BufId × ℕ = λ r. (r.b, r.off + (page - r.span.start)) in
    ap (option_map there) (find-append (λ r. has_page page r.span) xs ys)
    ∙ map_or there (find (λ r. has_page page r.span) xs) (find (λ r. has_page page r.span) ys)

head_there : (range : Span) (r : Region) (page : ℕ) → page < range.start → regions_space (head_of range r) page ≡ regions_space (r ∷ []) page
head_there range r page l = elim (cases_Bool (nat_lt r.span.start range.start)) [
  | inl e ↦
      let same : has_page page (record { start = r.span.start; end = min r.span.end range.start }) ≡ has_page page r.span = grind (arith, nat_tests) in
      rw e (cut_there r r.span.start (min r.span.end range.start) page (omega arith) same)
  | inr e ↦
      let k : range.start ≤ r.span.start = ltb-false r.span.start range.start e in
      let f : has_page page r.span ≡ false = grind (arith, nat_tests) in
      rw e (sym (none_there page r f))
]

head_not_there : (range : Span) (r : Region) (page : ℕ) → range.start ≤ page → regions_space (head_of range r) page ≡ None
head_not_there range r page l = elim (cases_Bool (nat_lt r.span.start range.start)) [
  | inl e ↦
      let f : has_page page (record { start = r.span.start; end = min r.span.end range.start }) ≡ false = grind (arith, nat_tests) in
      rw e (none_there page (cut r r.span.start (min r.span.end range.start)) f)
  | inr e ↦ rw e refl
]

tail_there : (range : Span) (r : Region) (page : ℕ) → range.end ≤ page → regions_space (tail_of range r) page ≡ regions_space (r ∷ []) page
tail_there range r page l = elim (cases_Bool (nat_lt range.end r.span.end)) [
  | inl e ↦
      let same : has_page page (record { start = max r.span.start range.end; end = r.span.end }) ≡ has_page page r.span = grind (arith, nat_tests) in
      rw e (cut_there r (max r.span.start range.end) r.span.end page (omega arith) same)
  | inr e ↦
      let k : r.span.end ≤ range.end = ltb-false range.end r.span.end e in
      let f : has_page page r.span ≡ false = grind (arith, nat_tests) in
      rw e (sym (none_there page r f))
]

tail_not_there : (range : Span) (r : Region) (page : ℕ) → page < range.end → regions_space (tail_of range r) page ≡ None
tail_not_there range r page l = elim (cases_Bool (nat_lt range.end r.span.end)) [
  | inl e ↦
      let f : has_page page (record { start = max r.span.start range.end; end = r.span.end }) ≡ false = grind (arith, nat_tests) in
      rw e (none_there page (cut r (max r.span.start range.end) r.span.end) f)
  | inr e ↦ rw e refl
]

-- parts that say of a page what the mappings say of it, or nothing
alike : (part : Region → List Region) (page : ℕ) → ((r : Region) → regions_space (part r) page ≡ regions_space (r ∷ []) page) →
    (rs : List Region) → regions_space (flat_map part rs) page ≡ regions_space rs page
alike part page same [] = refl
alike part page same (r ∷ rs) =
    space-append (part r) (flat_map part rs) page
    ∙ ap₂ option_or (same r) (alike part page same rs)
    ∙ sym (space-append (r ∷ []) rs page)

silent : (part : Region → List Region) (page : ℕ) → ((r : Region) → regions_space (part r) page ≡ None) →
    (rs : List Region) → regions_space (flat_map part rs) page ≡ None
silent part page none [] = refl
silent part page none (r ∷ rs) = space-append (part r) (flat_map part rs) page ∙ ap₂ option_or (none r) (silent part page none rs)

-- ---- both sides of a range, and what comes between

sides_are : (range : Span) (new rs : List Region) (page : ℕ) (h n t : Option (BufId × ℕ)) →
    regions_space (flat_map (head_of range) rs) page ≡ h → regions_space new page ≡ n → regions_space (flat_map (tail_of range) rs) page ≡ t →
    regions_space (sides range new rs) page ≡ option_or h (option_or n t)
sides_are range new rs page h n t a b c =
    space-append (flat_map (head_of range) rs) (new ++ flat_map (tail_of range) rs) page
    ∙ ap₂ option_or a (space-append new (flat_map (tail_of range) rs) page ∙ ap₂ option_or b c)

-- what lies in the range is new, and all else stays
pub sides_there : (va n : ℕ) (new rs : List Region) (page : ℕ) (value : Option (BufId × ℕ)) →
    let range : Span = record { start = va; end = va + n } in
    regions_space new page ≡ (if has va n page then value else None) →
    regions_space (sides range new rs) page ≡ (if has va n page then value else regions_space rs page)
sides_there va n new rs page value e =
    let range : Span = record { start = va; end = va + n } in
    elim (cases_Bool (nat_le va page)) [
      | inl low ↦ elim (cases_Bool (nat_lt page (va + n))) [
        | inl high ↦
            let p : va ≤ page = leb-true va page low in
            let q : page < va + n = ltb-true page (va + n) high in
            let here : has va n page ≡ true = rw (low, high) refl in
            sides_are range new rs page None value None
            (silent (head_of range) page (λ r. head_not_there range r page p) rs) (e ∙ rw here refl) (silent (tail_of range) page (λ r. tail_not_there range r page q) rs)
            ∙ or_none value ∙ sym (rw here refl)
        | inr high ↦
            let p : va ≤ page = leb-true va page low in
            let q : va + n ≤ page = ltb-false page (va + n) high in
            let here : has va n page ≡ false = rw (low, high) refl in
            sides_are range new rs page None None (regions_space rs page)
            (silent (head_of range) page (λ r. head_not_there range r page p) rs) (e ∙ rw here refl) (alike (tail_of range) page (λ r. tail_there range r page q) rs)
            ∙ sym (rw here refl)
      ]
      | inr low ↦
          let p : page < va = Rattle.std.proofs.lemmas.Bool.leb-false va page low in
          let here : has va n page ≡ false = rw low refl in
          sides_are range new rs page (regions_space rs page) None None
          (alike (head_of range) page (λ r. head_there range r page p) rs) (e ∙ rw here refl) (silent (tail_of range) page (λ r. tail_not_there range r page (omega arith)) rs)
          ∙ or_none (regions_space rs page) ∙ sym (rw here refl)
    ]

one_there : (va n : ℕ) (b : BufId) (off page : ℕ) →
    regions_space (record { span = record { start = va; end = va + n }; b = b; off = off } ∷ []) page ≡ (if has va n page then Some (b, off + (page - va)) else None)
one_there va n b off page =
    let new : Region = record { span = record { start = va; end = va + n }; b = b; off = off } in
    elim (cases_Bool (has va n page)) [
      | inl e ↦ some_there page new e ∙ sym (rw e refl)
      | inr e ↦ none_there page new e ∙ sym (rw e refl)
    ]

no_value : (b : Bool) (value : Option (BufId × ℕ)) → value ≡ (if b then value else value)
no_value true value = refl
no_value false value = refl

other_there : (rs : List Region) (q : MarkKind) (page : ℕ) → IsOther q → IsRising rs → regions_space (regions_after rs q) page ≡ regions_space rs page
other_there rs q page o h = ap (λ xs. regions_space xs page) (others_change_nothing rs q o (pages_of_rising rs h))

pub after_there : (rs : List Region) (q : MarkKind) (page : ℕ) → IsTrue (has_pages q) → IsRising rs → regions_space (regions_after rs q) page ≡ after_request (regions_space rs) q page
after_there rs (mark.Vmap va n b off) page p h =
    ap (λ xs. regions_space xs page) (after_is_sides rs (mark.Vmap va n b off) (some_pages va n p) (pages_of_rising rs h))
    ∙ sides_there va n (new_region (mark.Vmap va n b off)) rs page (Some (b, off + (page - va))) (one_there va n b off page)
after_there rs (mark.Vunmap va n) page p h =
    ap (λ xs. regions_space xs page) (after_is_sides rs (mark.Vunmap va n) (some_pages va n p) (pages_of_rising rs h))
    ∙ sides_there va n [] rs page None (no_value (has va n page) None)
after_there rs (mark.Map b) page p h = other_there rs (mark.Map b) page tt h
after_there rs (mark.Unmap b) page p h = other_there rs (mark.Unmap b) page tt h
after_there rs mark.Mapped page p h = other_there rs mark.Mapped page tt h
after_there rs (mark.Vsubmit ops) page p h = other_there rs (mark.Vsubmit ops) page tt h

-- ---- all requests

along : (rs : List Region) (space : Space) (qs : List MarkKind) → IsTrue (list_all has_pages qs) → IsRising rs → regions_space rs ≡ space →
    regions_space (fold regions_after rs qs) ≡ fold after_request space qs
along rs space [] p h e = e
along rs space (q ∷ qs) p h e =
    let parts = and_parts (has_pages q) (list_all has_pages qs) p in
    along (regions_after rs q) (after_request space q) qs parts.1 (rising_after rs q parts.0 h)
    (fun_ext (λ page. after_there rs q page parts.0 h) ∙ ap (λ f. after_request f q) e)

pub regions_are_the_space : (qs : List MarkKind) → IsTrue (list_all has_pages qs) → regions_space (regions_of qs) ≡ space_of qs
regions_are_the_space qs p = along [] (regions_space []) qs p tt refl
