-- Owners: who is the same, and who holds spans.
use Rattle.std.proofs.Common.{◌≡◌, ◌||◌, Bool, true, false, List, [], ◌∷◌, ◌++◌, refl, ap, sym, ◌∙◌, nat_eq, if◌then◌else◌}
use Rattle.std.proofs.lemmas.List.Folds.{list_any-append}
use Rattle.std.proofs.lemmas.Bool.{or_parts, or_from, eq-eqb, eqb-true, false_from_ne_true, both_ways}
use Rattle.ttm_base.specs.declared.Span.{Span}
use Rattle.ttm_base.specs.declared.BufId.{BufId}
use Rattle.ttm_base.specs.declared.Owner.{Owner}
use Rattle.ttm_base.specs.declared.Owner.TheVariants.{Live, Target, Ghost}
use Rattle.ttm_base.specs.ListWords.{last_or}
use Rattle.resource_core.specs.declared.holding.Holding.{Holding}
use Rattle.resource_core.specs.Resources.{same_owner, holds, passed, renamed, before_last, last_first, without_owner, AreDistinct}

buffer_is : (a b : BufId) → nat_eq a.0 b.0 ≡ true → a ≡ b
buffer_is a b h = ap (λ n. let x : BufId = record { 0 = n } in x) (eqb-true a.0 b.0 h)

pub owner_is : (a b : Owner) → same_owner a b ≡ true → a ≡ b
owner_is (Live a) (Live b) h = ap Live (buffer_is a b h)
owner_is (Live a) (Target b) h = absurd cc
owner_is (Live a) (Ghost b) h = absurd cc
owner_is (Target a) (Live b) h = absurd cc
owner_is (Target a) (Target b) h = ap Target (buffer_is a b h)
owner_is (Target a) (Ghost b) h = absurd cc
owner_is (Ghost a) (Live b) h = absurd cc
owner_is (Ghost a) (Target b) h = absurd cc
owner_is (Ghost a) (Ghost b) h = ap Ghost (eqb-true a b h)

pub same_self : (a : Owner) → same_owner a a ≡ true
same_self (Live a) = eq-eqb a.0 a.0 refl
same_self (Target a) = eq-eqb a.0 a.0 refl
same_self (Ghost a) = eq-eqb a a refl

pub other_way : (a b : Owner) → same_owner a b ≡ false → same_owner b a ≡ false
other_way a b h = false_from_ne_true (same_owner b a) (λ t. both_ways (same_owner a b) h (ap (same_owner a) (owner_is b a t) ∙ same_self a))

-- who is the same as one that is the same as another
pub same_along : (a b p : Owner) → same_owner a b ≡ true → same_owner p a ≡ same_owner p b
same_along a b p h = ap (same_owner p) (owner_is a b h)

-- ---- an owner that holds nothing

pub renamed_none : (from to : Owner) (hs : List Holding) → holds from hs ≡ false → renamed from to hs ≡ hs
renamed_none from to [] h = refl
renamed_none from to (x ∷ hs) h =
    let p = or_parts (same_owner from x.owner) (holds from hs) h in
    ap (λ t. (let r : Holding = record { owner = to; spans = x.spans } in if t then r else x) ∷ renamed from to hs) p.0 ∙ ap (λ r. x ∷ r) (renamed_none from to hs p.1)

pub none_behind : (o : Owner) (x : Holding) (hs : List Holding) → same_owner o x.owner ≡ true → holds x.owner hs ≡ false → holds o hs ≡ false
none_behind o x hs e h = ap (λ p. holds p hs) (owner_is o x.owner e) ∙ h

-- ---- the last in front of the others

turned : (a b d : Bool) → (a || (b || d)) ≡ (b || (a || d))
turned true true d = refl
turned true false d = refl
turned false true d = refl
turned false false d = refl

pub holds_turned : (o : Owner) (h : Holding) (hs : List Holding) → holds o (h ∷ hs) ≡ (same_owner o (last_or h hs).owner || holds o (before_last h hs))
holds_turned o h [] = refl
holds_turned o h (x ∷ hs) =
    ap (λ t. same_owner o h.owner || t) (holds_turned o x hs) ∙ turned (same_owner o h.owner) (same_owner o (last_or x hs).owner) (holds o (before_last x hs))

pub holds_last_first : (o : Owner) (hs : List Holding) → holds o (last_first hs) ≡ holds o hs
holds_last_first o [] = refl
holds_last_first o (h ∷ hs) = sym (holds_turned o h hs)

pub distinct_turned : (h : Holding) (hs : List Holding) → AreDistinct (h ∷ hs) → (holds (last_or h hs).owner (before_last h hs) ≡ false) × AreDistinct (before_last h hs)
distinct_turned h [] a = (refl, tt)
distinct_turned h (x ∷ hs) a =
    let i = distinct_turned x hs a.1 in
    let p = or_parts (same_owner h.owner (last_or x hs).owner) (holds h.owner (before_last x hs)) (sym (holds_turned h.owner x hs) ∙ a.0) in
    (or_from (same_owner (last_or x hs).owner h.owner) (holds (last_or x hs).owner (before_last x hs)) (other_way h.owner (last_or x hs).owner p.0) i.0, (p.1, i.1))

pub distinct_last_first : (hs : List Holding) → AreDistinct hs → AreDistinct (last_first hs)
distinct_last_first [] a = tt
distinct_last_first (h ∷ hs) a = distinct_turned h hs a

-- ---- no owner has two holdings

pub distinct_added : (hs : List Holding) (o : Owner) (spans : List Span) → AreDistinct hs → holds o hs ≡ false → AreDistinct (hs ++ record { owner = o; spans = spans } ∷ [])
distinct_added [] o spans a h = (refl, tt)
distinct_added (x ∷ hs) o spans a h =
    let p = or_parts (same_owner o x.owner) (holds o hs) h in (
      list_any-append (λ (y : Holding). same_owner x.owner y.owner) hs (record { owner = o; spans = spans } ∷ [])
          ∙ or_from (holds x.owner hs) (same_owner x.owner o || false) a.0 (or_from (same_owner x.owner o) false (other_way o x.owner p.0) refl),
      distinct_added hs o spans a.1 p.1,
    )

holds_renamed : (o from to : Owner) (hs : List Holding) → holds o hs ≡ false → same_owner o to ≡ false → holds o (renamed from to hs) ≡ false
holds_renamed o from to [] h n = refl
holds_renamed o from to (x ∷ hs) h n =
    let p = or_parts (same_owner o x.owner) (holds o hs) h in
    or_from (same_owner o (passed from to x).owner) (holds o (renamed from to hs)) (two (same_owner from x.owner) p.0) (holds_renamed o from to hs p.1 n)
  where
    two : (t : Bool) → same_owner o x.owner ≡ false → same_owner o (let r : Holding = record { owner = to; spans = x.spans } in if t then r else x).owner ≡ false
    two true e = n
    two false e = e

pub distinct_renamed : (from to : Owner) (hs : List Holding) → AreDistinct hs → holds to hs ≡ false → AreDistinct (renamed from to hs)
distinct_renamed from to [] a h = tt
distinct_renamed from to (x ∷ hs) a h = (by (same_owner from x.owner) refl, distinct_renamed from to hs a.1 p.1) where
  p : (same_owner to x.owner ≡ false) × (holds to hs ≡ false)
  p = or_parts (same_owner to x.owner) (holds to hs) h

  by : (t : Bool) → same_owner from x.owner ≡ t → holds (passed from to x).owner (renamed from to hs) ≡ false
  by true e =
      ap (λ t. holds (let r : Holding = record { owner = to; spans = x.spans } in if t then r else x).owner (renamed from to hs)) e
      ∙ ap (holds to) (renamed_none from to hs (none_behind from x hs e a.0)) ∙ p.1
  by false e =
      ap (λ t. holds (let r : Holding = record { owner = to; spans = x.spans } in if t then r else x).owner (renamed from to hs)) e
      ∙ holds_renamed x.owner from to hs a.0 (other_way to x.owner p.0)

pub holds_without : (o p : Owner) (hs : List Holding) → holds o hs ≡ false → holds o (without_owner p hs) ≡ false
holds_without o p [] h = refl
holds_without o p (x ∷ hs) h =
    let q = or_parts (same_owner o x.owner) (holds o hs) h in
    two (same_owner p x.owner) q.0 q.1 (holds_without o p hs q.1)
  where
    two : (t : Bool) → same_owner o x.owner ≡ false → holds o hs ≡ false → holds o (without_owner p hs) ≡ false → holds o (if t then last_first hs else x ∷ without_owner p hs) ≡ false
    two true e none rest = holds_last_first o hs ∙ none
    two false e none rest = or_from (same_owner o x.owner) (holds o (without_owner p hs)) e rest

pub distinct_without : (p : Owner) (hs : List Holding) → AreDistinct hs → AreDistinct (without_owner p hs)
distinct_without p [] a = tt
distinct_without p (x ∷ hs) a = two (same_owner p x.owner) (distinct_without p hs a.1) where
  two : (t : Bool) → AreDistinct (without_owner p hs) → AreDistinct (if t then last_first hs else x ∷ without_owner p hs)
  two true rest = distinct_last_first hs a.1
  two false rest = (holds_without x.owner p hs a.0, rest)
