-- Which spans a manager keeps of each owner after a call, and when it may be called.
use Rattle.std.proofs.Common.{◌≡◌, ℕ, ◌≤◌, Bool, true, false, List, [], ◌∷◌, Some, None, length, refl, sym, ◌∙◌, ap, arith}
use Rattle.std.specs.Prelude.{is_some, if◌then◌else◌}
use Rattle.ttm_base.specs.declared.Span.{Span}
use Rattle.ttm_base.specs.declared.Owner.{Owner}
use Rattle.resource_core.specs.Resources.{Resources, same_owner, holds, renamed, without_owner, kept_by, some_spans}
use Rattle.resource_core.proofs.OwnerLaws.{owner_is, distinct_added, distinct_renamed, distinct_without}
use Rattle.resource_core.proofs.OwnedLaws.{kept_some, kept_added, kept_renamed, kept_without}
use Rattle.room_representation.specs.lemma_spans.Owned.{HoldsAs, with_owner}
use Rattle.room_representation.specs.lemma_spans.Calls.{held_by, given, passed_on}

some_kept : (ss : List Span) → 1 ≤ length ss → Some ss ≡ some_spans ss
some_kept [] l = absurd (omega (arith, l))
some_kept (s ∷ ss) l = refl

is_kept : (ss : List Span) → 1 ≤ length ss → is_some (some_spans ss) ≡ true
is_kept [] l = absurd (omega (arith, l))
is_kept (s ∷ ss) l = refl

not_kept : (ss : List Span) → is_some (some_spans ss) ≡ false → ss ≡ []
not_kept [] h = refl
not_kept (s ∷ ss) h = cc

module _ (size : ℕ) (f : Owner → List Span) (r : Resources) (representation : HoldsAs size f r) where
  -- the same spans, told by another function
  pub told_as : (g : Owner → List Span) → ((o : Owner) → g o ≡ f o) → HoldsAs size g r
  told_as g same = record { size_is = representation.size_is; owners = representation.owners; each = λ o. representation.each o ∙ ap some_spans (sym (same o)) }

  -- ---- who holds something

  -- the manager says that an owner holds something exactly where it has spans
  pub holds_is : (o : Owner) → holds o r.held ≡ is_some (some_spans (f o))
  holds_is o = kept_some o r.held ∙ ap is_some (representation.each o)

  -- an owner without spans is fresh, as `hold` and `pass` ask
  pub is_fresh : (o : Owner) → f o ≡ [] → holds o r.held ≡ false
  is_fresh o none = holds_is o ∙ ap (λ ss. is_some (some_spans ss)) none

  -- one that has some holds them, as `give` and `pass` ask
  pub is_holder : (o : Owner) → 1 ≤ length (f o) → holds o r.held ≡ true
  is_holder o some = holds_is o ∙ is_kept (f o) some

  none_of : (o : Owner) → holds o r.held ≡ false → f o ≡ []
  none_of o h = not_kept (f o) (sym (holds_is o) ∙ h)

  -- ---- after each call

  -- an owner that had none holds these spans
  pub held_representation : (o : Owner) (spans : List Span) → f o ≡ [] → 1 ≤ length spans → HoldsAs size (with_owner f o spans) (held_by o spans r)
  held_representation o spans none some =
      record {
        size_is = representation.size_is;
        owners = distinct_added r.held o spans representation.owners (is_fresh o none);
        each = λ p. kept_added p r.held (record { owner = o; spans = spans }) (is_fresh o none) ∙ by p (same_owner o p);
      }
    where
      by : (p : Owner) (q : Bool) → (if q then Some spans else kept_by p r.held) ≡ some_spans (if q then spans else f p)
      by p true = some_kept spans some
      by p false = representation.each p

  -- an owner has nothing any more
  pub given_representation : (o : Owner) → HoldsAs size (with_owner f o []) (given o r)
  given_representation o = by (holds o r.held) refl
    where
      gone : (p : Owner) (q : Bool) → (if q then None else kept_by p r.held) ≡ some_spans (if q then [] else f p)
      gone p true = refl
      gone p false = representation.each p

      nothing : (p : Owner) → holds o r.held ≡ false → (q : Bool) → same_owner o p ≡ q → f p ≡ (if q then [] else f p)
      nothing p h true e = ap f (sym (owner_is o p e)) ∙ none_of o h
      nothing p h false e = refl

      by : (q : Bool) → holds o r.held ≡ q → HoldsAs size (with_owner f o []) (if q then record r { held = without_owner o r.held } else r)
      by true e =
          record {
            size_is = representation.size_is;
            owners = distinct_without o r.held representation.owners;
            each = λ p. kept_without o p r.held representation.owners ∙ gone p (same_owner o p);
          }
      by false e = record { size_is = representation.size_is; owners = representation.owners; each = λ p. representation.each p ∙ ap some_spans (nothing p e (same_owner o p) refl) }

  -- another, that had none, has what the owner had
  pub passed_representation : (from to : Owner) → f to ≡ [] → HoldsAs size (with_owner (with_owner f from []) to (f from)) (passed_on from to r)
  passed_representation from to none = by (holds from r.held) refl
    where
      moved : (p : Owner) (q w : Bool) → (if q then kept_by from r.held else (if w then None else kept_by p r.held)) ≡ some_spans (if q then f from else (if w then [] else f p))
      moved p true w = representation.each from
      moved p false true = refl
      moved p false false = representation.each p

      nothing : (p : Owner) → holds from r.held ≡ false → (q : Bool) → same_owner to p ≡ q → (w : Bool) → same_owner from p ≡ w → f p ≡ (if q then f from else (if w then [] else f p))
      nothing p h true e w g = ap f (sym (owner_is to p e)) ∙ none ∙ sym (none_of from h)
      nothing p h false e true g = ap f (sym (owner_is from p g)) ∙ none_of from h
      nothing p h false e false g = refl

      by : (q : Bool) → holds from r.held ≡ q → HoldsAs size (with_owner (with_owner f from []) to (f from)) (if q then record r { held = renamed from to r.held } else r)
      by true e =
          record {
            size_is = representation.size_is;
            owners = distinct_renamed from to r.held representation.owners (is_fresh to none);
            each = λ p. kept_renamed from to p r.held representation.owners e (is_fresh to none) ∙ moved p (same_owner to p) (same_owner from p);
          }
      by false e = record { size_is = representation.size_is; owners = representation.owners; each = λ p. representation.each p ∙ ap some_spans (nothing p e (same_owner to p) refl (same_owner from p) refl) }
