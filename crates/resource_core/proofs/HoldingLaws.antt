-- The spans of holdings that are added, renamed or given back.
use Rattle.std.proofs.Common.{◌≡◌, ℕ, ◌+◌, ◌≤◌, Bool, true, false, List, [], ◌∷◌, ◌++◌, length, refl, ap, sym, ◌∙◌, subst, arith, if◌then◌else◌}
use Rattle.std.proofs.lemmas.List.Elements.{All-nil, All-cons, All-head, All-tail, All-append}
use Rattle.ttm_base.specs.declared.Span.{Span}
use Rattle.ttm_base.specs.declared.Owner.{Owner}
use Rattle.ttm_base.specs.ListWords.{last_or}
use Rattle.resource_core.specs.declared.holding.Holding.{Holding}
use Rattle.resource_core.specs.Resources.{same_owner, all_spans, passed, renamed, before_last, last_first, without_owner, HaveSpans}
use Rattle.resource_core.specs.Tied.{total}
use Rattle.resource_core.proofs.TotalLaws.{total-append}

pub total_added : (w : Span → ℕ) (hs : List Holding) (o : Owner) (spans : List Span) → total w (all_spans (hs ++ record { owner = o; spans = spans } ∷ [])) ≡ total w spans + total w (all_spans hs)
total_added w [] o spans = total-append w spans []
total_added w (y ∷ hs) o spans =
    let a = total-append w y.spans (all_spans hs) in
    let b = total-append w y.spans (all_spans (hs ++ record { owner = o; spans = spans } ∷ [])) in
    let r = total_added w hs o spans in
    omega (arith, a, b, r)

passed_spans : (from to : Owner) (x : Holding) → (passed from to x).spans ≡ x.spans
passed_spans from to x = two (same_owner from x.owner) where
  two : (t : Bool) → (let r : Holding = record { owner = to; spans = x.spans } in if t then r else x).spans ≡ x.spans
  two true = refl
  two false = refl

pub renamed_spans : (from to : Owner) (hs : List Holding) → all_spans (renamed from to hs) ≡ all_spans hs
renamed_spans from to [] = refl
renamed_spans from to (x ∷ hs) = ap (λ s. s ++ all_spans (renamed from to hs)) (passed_spans from to x) ∙ ap (λ r. x.spans ++ r) (renamed_spans from to hs)

-- ---- each holding has a span

abbrev has_span : Holding → Type 0
has_span h = 1 ≤ length h.spans

pub spans_added : (hs : List Holding) (o : Owner) (spans : List Span) → HaveSpans hs → 1 ≤ length spans → HaveSpans (hs ++ record { owner = o; spans = spans } ∷ [])
spans_added hs o spans a l = All-append has_span hs (record { owner = o; spans = spans } ∷ []) a (All-cons has_span (record { owner = o; spans = spans }) [] l (All-nil has_span))

pub spans_renamed : (from to : Owner) (hs : List Holding) → HaveSpans hs → HaveSpans (renamed from to hs)
spans_renamed from to [] a = All-nil has_span
spans_renamed from to (x ∷ hs) a =
    All-cons has_span (passed from to x) (renamed from to hs) (subst (λ s. 1 ≤ length s) (sym (passed_spans from to x)) (All-head has_span x hs a)) (spans_renamed from to hs (All-tail has_span x hs a))

spans_turned : (h : Holding) (hs : List Holding) → HaveSpans (h ∷ hs) → HaveSpans (last_or h hs ∷ before_last h hs)
spans_turned h [] a = a
spans_turned h (x ∷ hs) a =
    let i = spans_turned x hs (All-tail has_span h (x ∷ hs) a) in
    All-cons has_span (last_or x hs) (h ∷ before_last x hs) (All-head has_span (last_or x hs) (before_last x hs) i)
    (All-cons has_span h (before_last x hs) (All-head has_span h (x ∷ hs) a) (All-tail has_span (last_or x hs) (before_last x hs) i))

spans_last_first : (hs : List Holding) → HaveSpans hs → HaveSpans (last_first hs)
spans_last_first [] a = a
spans_last_first (h ∷ hs) a = spans_turned h hs a

pub spans_without : (o : Owner) (hs : List Holding) → HaveSpans hs → HaveSpans (without_owner o hs)
spans_without o [] a = a
spans_without o (x ∷ hs) a = two (same_owner o x.owner) (spans_without o hs (All-tail has_span x hs a)) where
  two : (t : Bool) → HaveSpans (without_owner o hs) → HaveSpans (if t then last_first hs else x ∷ without_owner o hs)
  two true rest = spans_last_first hs (All-tail has_span x hs a)
  two false rest = All-cons has_span x (without_owner o hs) (All-head has_span x hs a) rest
