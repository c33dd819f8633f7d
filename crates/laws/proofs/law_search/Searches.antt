-- The search over one list of places gives the entry of the search over preferred and busy places.
use Rattle.std.proofs.Common.{◌≡◌, List, [], ◌∷◌, refl, ap, ap₂}
use Rattle.ttm_base.specs.declared.Place.{Place}
use Rattle.ttm_base.specs.Placement.{first_places, forced_places}
use Rattle.journal_model.specs.rules.Commands.{as_fallback}
use Rattle.journal_model.specs.statements.OldSearch.{step_of_old_place_search, one_list, IsSameSearch}
use Rattle.std.specs.Prelude.{map}

no_fallback_first : (busy : List Place) → first_places (map as_fallback busy) ≡ []
no_fallback_first [] = refl
no_fallback_first (p ∷ busy) = no_fallback_first busy

fallbacks_forced : (busy : List Place) → forced_places (map as_fallback busy) ≡ busy
fallbacks_forced [] = refl
fallbacks_forced (p ∷ busy) = ap (λ l. p ∷ l) (fallbacks_forced busy)

-- what is tried first are the desired places
pub desired_first : (want busy : List Place) → first_places (one_list want busy) ≡ want
desired_first [] busy = no_fallback_first busy
desired_first (p ∷ want) busy = ap (λ l. p ∷ l) (desired_first want busy)

-- what is tried under pressure are the fallback places
pub fallback_forced : (want busy : List Place) → forced_places (one_list want busy) ≡ busy
fallback_forced [] busy = fallbacks_forced busy
fallback_forced (p ∷ want) busy = fallback_forced want busy

pub same_search : IsSameSearch
same_search script s c b want busy forced dry = ap₂ (λ w y. step_of_old_place_search script s c b w y forced dry) (desired_first want busy) (fallback_forced want busy)
