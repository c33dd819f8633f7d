-- The pages of spans, as a loop over spans and a loop over the pages of each come to them.
use Rattle.std.proofs.Common.{◌≡◌, ℕ, zero, suc, ◌+◌, ◌<◌, List, [], ◌∷◌, ◌++◌, Some, refl, sym, ◌∙◌, ap, arith, length, length-append, take}
use Rattle.std.specs.Prelude.{slice_get}
use Rattle.ttm_base.specs.declared.Span.{Span}
use Rattle.ttm_base.specs.ListWords.{count_from}
use Rattle.ttm_base.specs.Reach.{length_of}
use Rattle.journal_model.specs.rules.Places.{pages_of, pages_of_span}

length-count_from : (n start : ℕ) → length (count_from 1 n start) ≡ n
length-count_from zero start = refl
length-count_from (suc n) start = ap suc (length-count_from n (1 + start))

counted : (n start j : ℕ) (rest : List ℕ) → j < n → slice_get (count_from 1 n start ++ rest) j ≡ Some (start + j)
counted zero start j rest h = absurd (omega (arith, h))
counted (suc n) start zero rest h = let e : start ≡ start + 0 = omega arith in ap Some e
counted (suc n) start (suc j) rest h = counted n (1 + start) j rest (omega (arith, h)) ∙ (let e : 1 + start + j ≡ start + suc j = omega arith in ap Some e)

behind : (xs ys : List ℕ) (j : ℕ) → slice_get (xs ++ ys) (length xs + j) ≡ slice_get ys j
behind [] ys j = let e : 0 + j ≡ j = omega arith in ap (slice_get ys) e
behind (x ∷ xs) ys j = let e : length (x ∷ xs) + j ≡ suc (length xs + j) = omega arith in ap (slice_get (x ∷ (xs ++ ys))) e ∙ behind xs ys j

-- before the first span there are no pages
pub pages_before : (spans : List Span) → length (pages_of (take 0 spans)) ≡ 0
pages_before spans = refl

-- one span more has its pages more
pub pages_more : (spans : List Span) (i : ℕ) (s : Span) → slice_get spans i ≡ Some s → length (pages_of (take (suc i) spans)) ≡ length (pages_of (take i spans)) + length_of s
pages_more [] i s e = cc
pages_more (r ∷ spans) zero s e =
    let same : r ≡ s = cc in
    let both = length-append (pages_of_span r) [] in
    let one = length-count_from (length_of r) r.start in
    let n : length_of r ≡ length_of s = ap length_of same in
    omega (arith, both, one, n)
pages_more (r ∷ spans) (suc i) s e =
    let long = length-append (pages_of_span r) (pages_of (take (suc i) spans)) in
    let short = length-append (pages_of_span r) (pages_of (take i spans)) in
    let rest = pages_more spans i s e in
    omega (arith, long, short, rest)

-- the page at a place of a span, counted from the first span's start on
pub page_of_span : (spans : List Span) (i j : ℕ) (s : Span) → slice_get spans i ≡ Some s → j < length_of s → slice_get (pages_of spans) (length (pages_of (take i spans)) + j) ≡ Some (s.start + j)
page_of_span [] i j s e h = cc
page_of_span (r ∷ spans) zero j s e h =
    let same : s ≡ r = cc in
    let n : length_of s ≡ length_of r = ap length_of same in
    let at : 0 + j ≡ j = omega arith in
    ap (slice_get (pages_of (r ∷ spans))) at ∙ counted (length_of r) r.start j (pages_of spans) (omega (arith, h, n)) ∙ ap (λ (x : Span). Some (x.start + j)) (sym same)
page_of_span (r ∷ spans) (suc i) j s e h =
    let long = length-append (pages_of_span r) (pages_of (take i spans)) in
    let at : length (pages_of (take (suc i) (r ∷ spans))) + j ≡ length (pages_of_span r) + (length (pages_of (take i spans)) + j) = omega (arith, long) in
    ap (slice_get (pages_of (r ∷ spans))) at ∙ behind (pages_of_span r) (pages_of spans) (length (pages_of (take i spans)) + j) ∙ page_of_span spans i j s e h
