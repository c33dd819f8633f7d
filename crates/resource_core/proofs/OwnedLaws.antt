-- What each owner keeps, before and after a call.
use Rattle.std.proofs.Common.{◌≡◌, ◌≤◌, ◌||◌, Bool, true, false, List, [], ◌∷◌, ◌++◌, Option, Some, None, length, is_some, unwrap_or, refl, ap, sym, ◌∙◌, arith, if◌then◌else◌}
use Rattle.std.proofs.lemmas.List.Elements.{All-head, All-tail}
use Rattle.std.proofs.lemmas.Bool.{or_parts, both_ways}
use Rattle.ttm_base.specs.declared.Span.{Span}
use Rattle.ttm_base.specs.declared.Owner.{Owner}
use Rattle.ttm_base.specs.ListWords.{last_or}
use Rattle.resource_core.specs.declared.holding.Holding.{Holding}
use Rattle.resource_core.specs.Resources.{same_owner, holds, renamed, before_last, last_first, without_owner, kept_by, spans_at, some_spans, AreDistinct, HaveSpans}
use Rattle.resource_core.proofs.OwnerLaws.{owner_is, same_self, other_way, same_along, none_behind, renamed_none, holds_turned}

abbrev or_else : List Span → Option (List Span) → Bool → Option (List Span)
or_else spans rest t = if t then Some spans else rest

-- ---- who keeps spans

pub kept_some : (o : Owner) (held : List Holding) → holds o held ≡ is_some (kept_by o held)
kept_some o [] = refl
kept_some o (x ∷ hs) = by (same_owner o x.owner) (kept_some o hs) where
  by : (t : Bool) → holds o hs ≡ is_some (kept_by o hs) → (t || holds o hs) ≡ is_some (or_else x.spans (kept_by o hs) t)
  by true rest = refl
  by false rest = rest

pub kept_none : (o : Owner) (held : List Holding) → holds o held ≡ false → kept_by o held ≡ None
kept_none o [] h = refl
kept_none o (x ∷ hs) h =
    let p = or_parts (same_owner o x.owner) (holds o hs) h in
    ap (or_else x.spans (kept_by o hs)) p.0 ∙ kept_none o hs p.1

-- each holding has a span, so that an owner keeps spans exactly where it has some
pub kept_spans : (o : Owner) (held : List Holding) → HaveSpans held → kept_by o held ≡ some_spans (spans_at o held)
kept_spans o [] a = refl
kept_spans o (x ∷ hs) a = by (same_owner o x.owner) (kept_spans o hs (All-tail (λ (h : Holding). 1 ≤ length h.spans) x hs a)) where
  some : (ss : List Span) → 1 ≤ length ss → Some ss ≡ some_spans ss
  some [] l = absurd (omega arith)
  some (s ∷ ss) l = refl

  by : (t : Bool) → kept_by o hs ≡ some_spans (unwrap_or (kept_by o hs) []) → or_else x.spans (kept_by o hs) t ≡ some_spans (unwrap_or (or_else x.spans (kept_by o hs) t) [])
  by true rest = some x.spans (All-head (λ (h : Holding). 1 ≤ length h.spans) x hs a)
  by false rest = rest

-- ---- after `take` and `hold`

pub kept_added : (p : Owner) (held : List Holding) (x : Holding) → holds x.owner held ≡ false
    → kept_by p (held ++ x ∷ []) ≡ (if same_owner x.owner p then Some x.spans else kept_by p held)
kept_added p [] x h = by (same_owner x.owner p) refl (same_owner p x.owner) refl where
  by : (t : Bool) → same_owner x.owner p ≡ t → (u : Bool) → same_owner p x.owner ≡ u → or_else x.spans None u ≡ or_else x.spans None t
  by true e true f = refl
  by true e false f = absurd (both_ways (same_owner x.owner p) (other_way p x.owner f) e)
  by false e true f = absurd (both_ways (same_owner p x.owner) (other_way x.owner p e) f)
  by false e false f = refl
kept_added p (y ∷ hs) x h = by (same_owner p y.owner) refl (same_owner x.owner p) refl (kept_added p hs x q.1) where
  q : (same_owner x.owner y.owner ≡ false) × (holds x.owner hs ≡ false)
  q = or_parts (same_owner x.owner y.owner) (holds x.owner hs) h

  by : (u : Bool) → same_owner p y.owner ≡ u → (t : Bool) → same_owner x.owner p ≡ t → kept_by p (hs ++ x ∷ []) ≡ or_else x.spans (kept_by p hs) (same_owner x.owner p)
      → or_else y.spans (kept_by p (hs ++ x ∷ [])) u ≡ or_else x.spans (or_else y.spans (kept_by p hs) u) t
  by true f true e rest = absurd (both_ways (same_owner x.owner y.owner) q.0 (sym (same_along p y.owner x.owner f) ∙ e))
  by true f false e rest = refl
  by false f t e rest = rest ∙ ap (or_else x.spans (kept_by p hs)) e

-- ---- after `pass`

pub kept_renamed : (from to p : Owner) (held : List Holding) → AreDistinct held → holds from held ≡ true → holds to held ≡ false
    → kept_by p (renamed from to held) ≡ (if same_owner to p then kept_by from held else (if same_owner from p then None else kept_by p held))
kept_renamed from to p [] a f h = absurd cc
kept_renamed from to p (x ∷ hs) a f h = by (same_owner from x.owner) refl (λ f. kept_renamed from to p hs a.1 f q.1) where
  q : (same_owner to x.owner ≡ false) × (holds to hs ≡ false)
  q = or_parts (same_owner to x.owner) (holds to hs) h

  moved : Holding
  moved = record { owner = to; spans = x.spans }

  first : same_owner from x.owner ≡ true → (t : Bool) → same_owner to p ≡ t → (u : Bool) → same_owner from p ≡ u
      → or_else x.spans (kept_by p hs) (same_owner p to) ≡ (if t then Some x.spans else (if u then None else or_else x.spans (kept_by p hs) (same_owner p x.owner)))
  first z true e u g = ap (or_else x.spans (kept_by p hs)) (ap (λ r. same_owner r to) (sym (owner_is to p e)) ∙ same_self to)
  first z false e true g = ap (or_else x.spans (kept_by p hs)) (other_way to p e) ∙ kept_none p hs (sym (ap (λ r. holds r hs) (owner_is from p g)) ∙ none_behind from x hs z a.0)
  first z false e false g = ap (or_else x.spans (kept_by p hs)) (other_way to p e ∙ sym (sym (same_along from x.owner p z) ∙ other_way from p g))

  later : same_owner from x.owner ≡ false → (t : Bool) → same_owner to p ≡ t → (u : Bool) → same_owner from p ≡ u → (w : Bool) → same_owner p x.owner ≡ w
      → kept_by p (renamed from to hs) ≡ (if t then kept_by from hs else (if u then None else kept_by p hs))
      → or_else x.spans (kept_by p (renamed from to hs)) w ≡ (if t then kept_by from hs else (if u then None else or_else x.spans (kept_by p hs) w))
  later z true e u g true w rest = absurd (both_ways (same_owner to x.owner) q.0 (ap (λ r. same_owner r x.owner) (owner_is to p e) ∙ w))
  later z true e u g false w rest = rest
  later z false e true g true w rest = absurd (both_ways (same_owner from x.owner) z (ap (λ r. same_owner r x.owner) (owner_is from p g) ∙ w))
  later z false e true g false w rest = rest
  later z false e false g true w rest = refl
  later z false e false g false w rest = rest

  by : (t : Bool) → same_owner from x.owner ≡ t → (holds from hs ≡ true → kept_by p (renamed from to hs) ≡ (if same_owner to p then kept_by from hs else (if same_owner from p then None else kept_by p hs)))
      → kept_by p (renamed from to (x ∷ hs)) ≡ (if same_owner to p then kept_by from (x ∷ hs) else (if same_owner from p then None else kept_by p (x ∷ hs)))
  by true z rest =
      ap (λ t. kept_by p ((if t then moved else x) ∷ renamed from to hs)) z
      ∙ ap (λ r. or_else x.spans (kept_by p r) (same_owner p to)) (renamed_none from to hs (none_behind from x hs z a.0))
      ∙ first z (same_owner to p) refl (same_owner from p) refl
      ∙ sym (ap (λ t. if same_owner to p then (if t then Some x.spans else kept_by from hs) else (if same_owner from p then None else kept_by p (x ∷ hs))) z)
  by false z rest =
      ap (λ t. kept_by p ((if t then moved else x) ∷ renamed from to hs)) z
      ∙ later z (same_owner to p) refl (same_owner from p) refl (same_owner p x.owner) refl (rest (sym (ap (λ t. t || holds from hs) z) ∙ f))
      ∙ sym (ap (λ t. if same_owner to p then (if t then Some x.spans else kept_by from hs) else (if same_owner from p then None else kept_by p (x ∷ hs))) z)

-- ---- after `give`

kept_turned : (p : Owner) (h : Holding) (hs : List Holding) → AreDistinct (h ∷ hs) → kept_by p (last_or h hs ∷ before_last h hs) ≡ kept_by p (h ∷ hs)
kept_turned p h [] a = refl
kept_turned p h (x ∷ hs) a = by (same_owner p (last_or x hs).owner) refl (same_owner p h.owner) refl (kept_turned p x hs a.1) where
  apart : same_owner h.owner (last_or x hs).owner ≡ false
  apart = (or_parts (same_owner h.owner (last_or x hs).owner) (holds h.owner (before_last x hs)) (sym (holds_turned h.owner x hs) ∙ a.0)).0

  by : (t : Bool) → same_owner p (last_or x hs).owner ≡ t → (u : Bool) → same_owner p h.owner ≡ u
      → or_else (last_or x hs).spans (kept_by p (before_last x hs)) (same_owner p (last_or x hs).owner) ≡ kept_by p (x ∷ hs)
      → or_else (last_or x hs).spans (or_else h.spans (kept_by p (before_last x hs)) u) t ≡ or_else h.spans (kept_by p (x ∷ hs)) u
  by true e true g rest = absurd (both_ways (same_owner h.owner (last_or x hs).owner) apart (ap (λ r. same_owner r (last_or x hs).owner) (sym (owner_is p h.owner g)) ∙ e))
  by true e false g rest = sym (ap (or_else (last_or x hs).spans (kept_by p (before_last x hs))) e) ∙ rest
  by false e true g rest = refl
  by false e false g rest = sym (ap (or_else (last_or x hs).spans (kept_by p (before_last x hs))) e) ∙ rest

kept_last_first : (p : Owner) (hs : List Holding) → AreDistinct hs → kept_by p (last_first hs) ≡ kept_by p hs
kept_last_first p [] a = refl
kept_last_first p (h ∷ hs) a = kept_turned p h hs a

pub kept_without : (o p : Owner) (held : List Holding) → AreDistinct held → kept_by p (without_owner o held) ≡ (if same_owner o p then None else kept_by p held)
kept_without o p [] a = by (same_owner o p) where
  no_spans : Option (List Span)
  no_spans = None

  by : (t : Bool) → no_spans ≡ (if t then no_spans else no_spans)
  by true = refl
  by false = refl
kept_without o p (x ∷ hs) a = by (same_owner o x.owner) refl (kept_without o p hs a.1) where
  first : same_owner o x.owner ≡ true → (u : Bool) → same_owner o p ≡ u → kept_by p hs ≡ (if u then None else or_else x.spans (kept_by p hs) (same_owner p x.owner))
  first z true g = kept_none p hs (sym (ap (λ r. holds r hs) (owner_is o p g)) ∙ none_behind o x hs z a.0)
  first z false g = sym (ap (or_else x.spans (kept_by p hs)) (sym (same_along o x.owner p z) ∙ other_way o p g))

  later : same_owner o x.owner ≡ false → (u : Bool) → same_owner o p ≡ u → (w : Bool) → same_owner p x.owner ≡ w
      → kept_by p (without_owner o hs) ≡ (if u then None else kept_by p hs)
      → or_else x.spans (kept_by p (without_owner o hs)) w ≡ (if u then None else or_else x.spans (kept_by p hs) w)
  later z true g true w rest = absurd (both_ways (same_owner o x.owner) z (ap (λ r. same_owner r x.owner) (owner_is o p g) ∙ w))
  later z true g false w rest = rest
  later z false g true w rest = refl
  later z false g false w rest = rest

  by : (t : Bool) → same_owner o x.owner ≡ t → kept_by p (without_owner o hs) ≡ (if same_owner o p then None else kept_by p hs)
      → kept_by p (without_owner o (x ∷ hs)) ≡ (if same_owner o p then None else kept_by p (x ∷ hs))
  by true z rest = ap (λ t. kept_by p (if t then last_first hs else x ∷ without_owner o hs)) z ∙ kept_last_first p hs a.1 ∙ first z (same_owner o p) refl
  by false z rest =
      ap (λ t. kept_by p (if t then last_first hs else x ∷ without_owner o hs)) z
      ∙ later z (same_owner o p) refl (same_owner p x.owner) refl rest
