-- Which holes fit, on both sides of a hole k.
use Rattle.std.proofs.Common.{◌≡◌, ℕ, ◌+◌, ◌-◌, ◌*◌, ◌/◌, ◌≤◌, ◌<◌, min, max, Bool, true, false, cond, ◌&&◌, List, [], ◌∷◌, ◌++◌, Option, Some, None, refl, ap, ◌∙◌, inl, inr, leb, ltb, arith}
use Rattle.std.specs.Option.{option_or, is_some}
use Rattle.std.specs.List.{find}
use Rattle.std.proofs.lemmas.Bool.{cases_Bool, and_parts, and_from, and_cases, leb-true, leb-false, ltb-true, ltb-false, lt-ltb, le-leb, lt-leb, both_ways, false_from_ne_true}
use Rattle.std.proofs.lemmas.List.Folds.{find-append}
use Rattle.ttm_base.specs.declared.Span.{Span}
use Rattle.ttm_base.specs.declared.Mode.{Mode}
use Rattle.ttm_base.specs.declared.Mode.TheVariants.{Best, Low, High}
use Rattle.ttm_base.specs.Reach.{common, length_of}
use Rattle.ttm_base.specs.RangeChoice.{start_to_test}
use Rattle.hole_tree.specs.declared.request.Request.{Request}
use Rattle.hole_tree.specs.Longest.{longest}
use Rattle.hole_tree.specs.Rising.{IsRising, IsPast}
use Rattle.hole_tree.proofs.Rises.{past_middle, rising_root}
use Rattle.hole_tree.specs.Fitting.{range_of, fits, find_last, is_long, IsWide, reaches_left, reaches_right}

-- ---- one hole

pub record FitNumbers (q : Request) (h : Span) : Type 0 where
  pub pages : 0 < q.pages
  pub length : q.pages ≤ length_of h
  pub first : q.first < h.end
  pub last : h.start < q.last

pub fit_numbers : (m : Mode) (q : Request) (h : Span) → fits m q h ≡ true → FitNumbers q h
fit_numbers m q h e =
    let cut = common h (range_of q) in
    let s = start_to_test m q.pages q.align cut in
    let a = and_parts (ltb 0 q.pages && leb cut.start s) (leb (s + q.pages) cut.end) e in
    let b = and_parts (ltb 0 q.pages) (leb cut.start s) a.0 in
    let p : 0 < q.pages = ltb-true 0 q.pages b.0 in
    let low : max h.start q.first ≤ s = leb-true cut.start s b.1 in
    let high : s + q.pages ≤ min h.end q.last = leb-true (s + q.pages) cut.end a.1 in
    numbers h.start h.end q.first q.last q.pages s q h refl refl refl refl refl p low high
  where
    numbers : (hs he f l p s : ℕ) (q : Request) (h : Span) → h.start ≡ hs → h.end ≡ he → q.first ≡ f → q.last ≡ l → q.pages ≡ p → 0 < p → max hs f ≤ s → s + p ≤ min he l → FitNumbers q h
    numbers hs he f l p s q h a b c d e pos low high = record { pages = omega arith; length = omega arith; first = omega arith; last = omega arith }

unaligned : (a s : ℕ) → a ≡ 1 → (s + a - 1) / a * a ≡ s
unaligned a s e = rw e (omega arith)

unaligned_high : (a s : ℕ) → a ≡ 1 → s / a * a ≡ s
unaligned_high a s e = rw e (omega arith)

pub wide_fits : (m : Mode) (q : Request) (h : Span) → q.align ≡ 1 → q.first ≡ 0 → h.end ≤ q.last → 0 < q.pages → q.pages ≤ length_of h → fits m q h ≡ true
wide_fits Best q h a f l p n =
    let s : start_to_test Best q.pages q.align (common h (range_of q)) ≡ max h.start q.first = unaligned q.align (max h.start q.first) a in
    rw s (and_from _ _ (and_from _ _ (lt-ltb 0 q.pages p) (le-leb _ _ (omega arith))) (le-leb _ _ (omega arith)))
wide_fits Low q h a f l p n =
    let s : start_to_test Low q.pages q.align (common h (range_of q)) ≡ max h.start q.first = unaligned q.align (max h.start q.first) a in
    rw s (and_from _ _ (and_from _ _ (lt-ltb 0 q.pages p) (le-leb _ _ (omega arith))) (le-leb _ _ (omega arith)))
wide_fits High q h a f l p n =
    let s : start_to_test High q.pages q.align (common h (range_of q)) ≡ min h.end q.last - q.pages = unaligned_high q.align (min h.end q.last - q.pages) a in
    rw s (and_from _ _ (and_from _ _ (lt-ltb 0 q.pages p) (le-leb _ _ (omega arith))) (le-leb _ _ (omega arith)))

-- ---- lists of which none fits, or some

AllMiss : (Span → Bool) → List Span → Type 0
AllMiss test [] = Unit {0}
AllMiss test (x ∷ xs) = (test x ≡ false) × AllMiss test xs

miss_find : (test : Span → Bool) (xs : List Span) → AllMiss test xs → find test xs ≡ None
unfolding AllMiss
miss_find test [] h = refl
miss_find test (x ∷ xs) h = rw h.0 (miss_find test xs h.1)

miss_last : (test : Span → Bool) (xs : List Span) → AllMiss test xs → find_last test xs ≡ None
unfolding AllMiss
miss_last test [] h = refl
miss_last test (x ∷ xs) h = rw (miss_last test xs h.1, h.0)

short_miss : (m : Mode) (q : Request) (xs : List Span) → longest xs < q.pages → AllMiss (fits m q) xs
unfolding AllMiss
short_miss m q [] h = tt
short_miss m q (x ∷ xs) h =
    (false_from_ne_true _ (λ e. let n = fit_numbers m q x e in absurd (omega (arith, n.length))), short_miss m q xs (omega arith))

low_miss : (m : Mode) (q : Request) (l : List Span) (k : Span) (r : List Span) → IsRising (l ++ k ∷ r) → k.start ≤ q.first → AllMiss (fits m q) l
unfolding AllMiss
low_miss m q [] k r s h = tt
low_miss m q (x ∷ l) k r s h =
    let below : x.end < k.start = past_middle x.end l k r s.1 in
    (false_from_ne_true _ (λ e. let n = fit_numbers m q x e in absurd (omega (arith, n.first))), low_miss m q l k r s.2 h)

past_miss : (m : Mode) (q : Request) (page : ℕ) (r : List Span) → IsPast page r → q.last ≤ page → AllMiss (fits m q) r
unfolding AllMiss
past_miss m q page [] s h = tt
past_miss m q page (x ∷ r) s h =
    let above : page < x.start = s.0 in
    (false_from_ne_true _ (λ e. let n = fit_numbers m q x e in absurd (omega (arith, n.last))), past_miss m q page r s.1 h)

left_miss : (m : Mode) (q : Request) (l : List Span) (k : Span) (r : List Span) → IsRising (l ++ k ∷ r) → reaches_left q (longest l) k ≡ false → AllMiss (fits m q) l
left_miss m q l k r s e = elim (and_cases (leb q.pages (longest l)) (ltb q.first k.start) e) [
  | inl a ↦ short_miss m q l (leb-false q.pages (longest l) a)
  | inr b ↦ low_miss m q l k r s (ltb-false q.first k.start b)
]

right_miss : (m : Mode) (q : Request) (l : List Span) (k : Span) (r : List Span) → IsRising (l ++ k ∷ r) → reaches_right q (longest r) k ≡ false → AllMiss (fits m q) r
right_miss m q l k r s e = elim (and_cases (leb q.pages (longest r)) (ltb k.end q.last) e) [
  | inl a ↦ short_miss m q r (leb-false q.pages (longest r) a)
  | inr b ↦ past_miss m q k.end r (rising_root l k r s).1 (ltb-false k.end q.last b)
]

pub left_none : (m : Mode) (q : Request) (l : List Span) (k : Span) (r : List Span) → IsRising (l ++ k ∷ r) → reaches_left q (longest l) k ≡ false → find (fits m q) l ≡ None
left_none m q l k r s e = miss_find (fits m q) l (left_miss m q l k r s e)

pub right_none : (m : Mode) (q : Request) (l : List Span) (k : Span) (r : List Span) → IsRising (l ++ k ∷ r) → reaches_right q (longest r) k ≡ false → find (fits m q) r ≡ None
right_none m q l k r s e = miss_find (fits m q) r (right_miss m q l k r s e)

pub left_none_last : (m : Mode) (q : Request) (l : List Span) (k : Span) (r : List Span) → IsRising (l ++ k ∷ r) → reaches_left q (longest l) k ≡ false → find_last (fits m q) l ≡ None
left_none_last m q l k r s e = miss_last (fits m q) l (left_miss m q l k r s e)

pub right_none_last : (m : Mode) (q : Request) (l : List Span) (k : Span) (r : List Span) → IsRising (l ++ k ∷ r) → reaches_right q (longest r) k ≡ false → find_last (fits m q) r ≡ None
right_none_last m q l k r s e = miss_last (fits m q) r (right_miss m q l k r s e)

some_or : (a b : Option Span) → is_some b ≡ true → is_some (option_or a b) ≡ true
some_or None b h = h
some_or (Some x) b h = refl

some_or_left : (a b : Option Span) → is_some a ≡ true → is_some (option_or a b) ≡ true
some_or_left None b h = absurd (both_ways false refl h)
some_or_left (Some x) b h = refl

-- ---- the first and the last that are long enough

long_of : (m : Mode) (q : Request) (h : Span) → is_long q.pages h ≡ false → fits m q h ≡ false
long_of m q h e = false_from_ne_true _ (λ f. let n = fit_numbers m q h f in let s = leb-false q.pages (length_of h) e in absurd (omega (arith, n.length)))

pub short_first : (m : Mode) (q : Request) (xs : List Span) → find (is_long q.pages) xs ≡ None → find (fits m q) xs ≡ None
short_first m q [] e = refl
short_first m q (x ∷ xs) e = elim (cases_Bool (is_long q.pages x)) [
  | inl t ↦ let no : Some x ≡ None = rw t at e in cc
  | inr t ↦ rw (long_of m q x t) (short_first m q xs (rw t at e))
]

pub long_first : (m : Mode) (q : Request) (xs : List Span) (h : Span) → find (is_long q.pages) xs ≡ Some h → fits m q h ≡ true → find (fits m q) xs ≡ Some h
long_first m q [] h e f = cc
long_first m q (x ∷ xs) h e f = elim (cases_Bool (is_long q.pages x)) [
  | inl t ↦ let same : Some x ≡ Some h = rw t at e in let z : x ≡ h = cc in let g : fits m q x ≡ true = rw z f in rw g same
  | inr t ↦ rw (long_of m q x t) (long_first m q xs h (rw t at e) f)
]

some_before : (a : Option Span) (x : Span) (b : Bool) → option_or a (cond b (Some x) None) ≡ None → (a ≡ None) × (b ≡ false)
some_before None x true e = cc
some_before None x false e = (refl, refl)
some_before (Some y) x b e = cc

pub short_last : (m : Mode) (q : Request) (xs : List Span) → find_last (is_long q.pages) xs ≡ None → find_last (fits m q) xs ≡ None
short_last m q [] e = refl
short_last m q (x ∷ xs) e =
    let both = some_before (find_last (is_long q.pages) xs) x (is_long q.pages x) e in
    rw (short_last m q xs both.0, long_of m q x both.1)

pub long_last : (m : Mode) (q : Request) (xs : List Span) (h : Span) → find_last (is_long q.pages) xs ≡ Some h → fits m q h ≡ true → find_last (fits m q) xs ≡ Some h
long_last m q [] h e f = cc
long_last m q (x ∷ xs) h e f = last_cases m q x xs h (find_last (is_long q.pages) xs) (λ k. long_last m q xs h k f) refl e f
  where
    last_cases : (m : Mode) (q : Request) (x : Span) (xs : List Span) (h : Span) (o : Option Span) → (find_last (is_long q.pages) xs ≡ Some h → find_last (fits m q) xs ≡ Some h) → find_last (is_long q.pages) xs ≡ o → option_or o (cond (is_long q.pages x) (Some x) None) ≡ Some h → fits m q h ≡ true → find_last (fits m q) (x ∷ xs) ≡ Some h
    last_cases m q x xs h None ih u e f = elim (cases_Bool (is_long q.pages x)) [
      | inl t ↦ let same : Some x ≡ Some h = rw t at e in let z : x ≡ h = cc in let g : fits m q x ≡ true = rw z f in rw (short_last m q xs u, g) same
      | inr t ↦ let no : None ≡ Some h = rw t at e in cc
    ]
    last_cases m q x xs h (Some y) ih u e f = let z : y ≡ h = cc in rw (ih (u ∙ ap Some z))

-- a search without limits takes the first that is long enough
pub wide_long : (m : Mode) (q : Request) (xs : List Span) (h : Span) → IsWide q xs → 0 < q.pages → find (is_long q.pages) xs ≡ Some h → fits m q h ≡ true
wide_long m q [] h w p e = cc
wide_long m q (x ∷ xs) h w p e = elim (cases_Bool (is_long q.pages x)) [
  | inl t ↦
      let same : Some x ≡ Some h = rw t at e in
      let z : x ≡ h = cc in
      let g : fits m q x ≡ true = wide_fits m q x w.align w.first w.last.0 p (leb-true q.pages (length_of x) t) in
      rw (← z) g
  | inr t ↦ wide_long m q xs h (record { align = w.align; first = w.first; last = w.last.1 }) p (rw t at e)
]

pub wide_long_last : (m : Mode) (q : Request) (xs : List Span) (h : Span) → IsWide q xs → 0 < q.pages → find_last (is_long q.pages) xs ≡ Some h → fits m q h ≡ true
wide_long_last m q [] h w p e = cc
wide_long_last m q (x ∷ xs) h w p e = wide_cases m q x xs h (find_last (is_long q.pages) xs) (λ k. wide_long_last m q xs h (record { align = w.align; first = w.first; last = w.last.1 }) p k) refl w p e
  where
    wide_cases : (m : Mode) (q : Request) (x : Span) (xs : List Span) (h : Span) (o : Option Span) → (find_last (is_long q.pages) xs ≡ Some h → fits m q h ≡ true) → find_last (is_long q.pages) xs ≡ o → IsWide q (x ∷ xs) → 0 < q.pages → option_or o (cond (is_long q.pages x) (Some x) None) ≡ Some h → fits m q h ≡ true
    wide_cases m q x xs h None ih u w p e = elim (cases_Bool (is_long q.pages x)) [
      | inl t ↦
          let same : Some x ≡ Some h = rw t at e in
          let z : x ≡ h = cc in
          let g : fits m q x ≡ true = wide_fits m q x w.align w.first w.last.0 p (leb-true q.pages (length_of x) t) in
          rw (← z) g
      | inr t ↦ let no : None ≡ Some h = rw t at e in cc
    ]
    wide_cases m q x xs h (Some y) ih u w p e = let z : y ≡ h = cc in ih (u ∙ ap Some z)

-- a side whose longest is so long has one
pub long_find : (pages : ℕ) (xs : List Span) → 0 < pages → pages ≤ longest xs → is_some (find (is_long pages) xs) ≡ true
long_find pages [] p h = absurd (omega arith)
long_find pages (x ∷ xs) p h = elim (cases_Bool (is_long pages x)) [
  | inl t ↦ rw t
  | inr t ↦ let s = leb-false pages (length_of x) t in rw t (long_find pages xs p (omega arith))
]

pub long_find_last : (pages : ℕ) (xs : List Span) → 0 < pages → pages ≤ longest xs → is_some (find_last (is_long pages) xs) ≡ true
long_find_last pages [] p h = absurd (omega arith)
long_find_last pages (x ∷ xs) p h = elim (cases_Bool (is_long pages x)) [
  | inl t ↦ some_or (find_last (is_long pages) xs) _ (rw t)
  | inr t ↦ let s = leb-false pages (length_of x) t in some_or_left (find_last (is_long pages) xs) _ (long_find_last pages xs p (omega arith))
]

pub none_long : (pages : ℕ) (xs : List Span) → longest xs < pages → find (is_long pages) xs ≡ None
none_long pages [] h = refl
none_long pages (x ∷ xs) h = rw (lt-leb pages (length_of x) (omega arith)) (none_long pages xs (omega arith))

pub none_long_last : (pages : ℕ) (xs : List Span) → longest xs < pages → find_last (is_long pages) xs ≡ None
none_long_last pages [] h = refl
none_long_last pages (x ∷ xs) h = rw (none_long_last pages xs (omega arith), lt-leb pages (length_of x) (omega arith))

-- ---- the first and the last on both sides of a hole

pub first_left : (test : Span → Bool) (l : List Span) (k : Span) (r : List Span) (x : Span) → find test l ≡ Some x → find test (l ++ k ∷ r) ≡ Some x
first_left test l k r x e = rw (find-append test l (k ∷ r), e)

pub first_root : (test : Span → Bool) (l : List Span) (k : Span) (r : List Span) → find test l ≡ None → test k ≡ true → find test (l ++ k ∷ r) ≡ Some k
first_root test l k r e h = rw (find-append test l (k ∷ r), e, h)

pub first_right : (test : Span → Bool) (l : List Span) (k : Span) (r : List Span) → find test l ≡ None → test k ≡ false → find test (l ++ k ∷ r) ≡ find test r
first_right test l k r e h = rw (find-append test l (k ∷ r), e, h)

or_assoc : (a b c : Option Span) → option_or (option_or a b) c ≡ option_or a (option_or b c)
or_assoc None b c = refl
or_assoc (Some x) b c = refl

pub last_append : (test : Span → Bool) (l m : List Span) → find_last test (l ++ m) ≡ option_or (find_last test m) (find_last test l)
last_append test [] m = elim (find_last test m) as (λ o. o ≡ option_or o None) [ None ↦ refl | Some x ↦ refl ]
last_append test (y ∷ t) m = ap (λ o. option_or o (cond (test y) (Some y) None)) (last_append test t m) ∙ or_assoc (find_last test m) (find_last test t) (cond (test y) (Some y) None)

pub last_right : (test : Span → Bool) (l : List Span) (k : Span) (r : List Span) (x : Span) → find_last test r ≡ Some x → find_last test (l ++ k ∷ r) ≡ Some x
last_right test l k r x e = rw (last_append test l (k ∷ r), e)

pub last_root : (test : Span → Bool) (l : List Span) (k : Span) (r : List Span) → find_last test r ≡ None → test k ≡ true → find_last test (l ++ k ∷ r) ≡ Some k
last_root test l k r e h = rw (last_append test l (k ∷ r), e, h)

pub last_left : (test : Span → Bool) (l : List Span) (k : Span) (r : List Span) → find_last test r ≡ None → test k ≡ false → find_last test (l ++ k ∷ r) ≡ find_last test l
last_left test l k r e h = rw (last_append test l (k ∷ r), e, h)

-- no page is asked for
zero_miss : (m : Mode) (q : Request) (xs : List Span) → ltb 0 q.pages ≡ false → AllMiss (fits m q) xs
unfolding AllMiss
zero_miss m q [] e = tt
zero_miss m q (x ∷ xs) e = (rw e, zero_miss m q xs e)

pub zero_first : (m : Mode) (q : Request) (xs : List Span) → ltb 0 q.pages ≡ false → find (fits m q) xs ≡ None
zero_first m q xs e = miss_find (fits m q) xs (zero_miss m q xs e)

pub zero_last : (m : Mode) (q : Request) (xs : List Span) → ltb 0 q.pages ≡ false → find_last (fits m q) xs ≡ None
zero_last m q xs e = miss_last (fits m q) xs (zero_miss m q xs e)
