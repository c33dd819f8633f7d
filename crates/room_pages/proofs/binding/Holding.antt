-- What an owner that holds something, or nothing, leaves of a manager.
use Rattle.std.proofs.Common.{◌≡◌, ℕ, true, false, List, [], ◌∷◌, Some, None, refl, sym, ◌∙◌, ap, subst}
use Rattle.std.specs.Prelude.{is_some, unwrap_or, if◌then◌else◌}
use Rattle.ttm_base.specs.declared.Owner.{Owner}
use Rattle.ttm_base.specs.declared.Span.{Span}
use Rattle.resource_core.specs.Resources.{Resources, holds, kept_by, renamed, some_spans, spans_at, without_owner}
use Rattle.resource_core.proofs.OwnedLaws.{kept_some}
use Rattle.journal_model.specs.rules.Places.{pages_of}
use Rattle.room_representation.specs.lemma_spans.Calls.{given, passed_on}
use Rattle.room_pages.specs.binding.Apertures.{AreBelow}

module _ (r : Resources) (o : Owner) where
  -- an owner with spans holds something
  pub is_holder : (spans : List Span) → Some spans ≡ kept_by o r.held → holds o r.held ≡ true
  is_holder spans e = kept_some o r.held ∙ ap is_some (sym e)

  -- one without spans holds nothing
  holds_none : None ≡ kept_by o r.held → holds o r.held ≡ false
  holds_none e = kept_some o r.held ∙ ap is_some (sym e)

  -- its spans are those of its holding
  pub held_below : (spans : List Span) (n : ℕ) → Some spans ≡ kept_by o r.held → AreBelow (pages_of (spans_at o r.held)) n → AreBelow (pages_of spans) n
  held_below spans n e h = subst (λ k. AreBelow (pages_of (unwrap_or k [])) n) (sym e) h

  -- it gives them back
  pub given_some : holds o r.held ≡ true → given o r ≡ record r { held = without_owner o r.held }
  given_some h = ap (λ q. if q then record r { held = without_owner o r.held } else r) h

  -- one without spans gives nothing
  pub given_none : None ≡ kept_by o r.held → given o r ≡ r
  given_none e = ap (λ q. if q then record r { held = without_owner o r.held } else r) (holds_none e)

  -- it passes them on
  pub passed_some : (to : Owner) → holds o r.held ≡ true → passed_on o to r ≡ record r { held = renamed o to r.held }
  passed_some to h = ap (λ q. if q then record r { held = renamed o to r.held } else r) h

  -- one without spans passes nothing on
  pub passed_none : (to : Owner) → None ≡ kept_by o r.held → passed_on o to r ≡ r
  passed_none to e = ap (λ q. if q then record r { held = renamed o to r.held } else r) (holds_none e)

-- spans that are kept where there are some are all spans
pub kept_spans : (r : Resources) (o : Owner) (spans : List Span) → kept_by o r.held ≡ some_spans spans → spans_at o r.held ≡ spans
kept_spans r o spans e = ap (λ k. unwrap_or k []) e ∙ same spans
  where
    same : (ss : List Span) → unwrap_or (some_spans ss) [] ≡ ss
    same [] = refl
    same (s ∷ ss) = refl
