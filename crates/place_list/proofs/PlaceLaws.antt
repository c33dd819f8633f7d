-- The place of an entry of a list, by the entry's number, and how many there are.
use Rattle.std.proofs.Common.{◌≡◌, ℕ, zero, suc, ◌<◌, ◌≤◌, Bool, true, false, List, [], ◌∷◌, Option, length, map, filter, slice_get, if◌then◌else◌, None, sym, ap, ◌∙◌, arith}
use Rattle.std.specs.Option.{option_map}
use Rattle.std.proofs.lemmas.Option.{slice_get-map}
use Rattle.ttm_base.specs.declared.Place.{Place}
use Rattle.ttm_base.specs.declared.FlaggedPlace.{FlaggedPlace}

-- there is a place below the length
pub none_at : (ps : List Place) (k : ℕ) → None ≡ slice_get ps k → k < length ps → ⊥
none_at [] k e h = absurd (omega arith)
none_at (p ∷ ps) zero e h = cc
none_at (p ∷ ps) (suc k) e h = none_at ps k e (omega arith)

-- the place of the entry there, if there is one
pub place_at : (ps : List FlaggedPlace) (k : ℕ) (p : Option FlaggedPlace) → p ≡ slice_get ps k
    → slice_get (map (λ (p : FlaggedPlace). p.place) ps) k ≡ option_map (λ (p : FlaggedPlace). p.place) p
place_at ps k p e = slice_get-map (λ (p : FlaggedPlace). p.place) ps k ∙ ap (option_map (λ (p : FlaggedPlace). p.place)) (sym e)

-- a list has no fewer entries than places that are tried
pub few : (keep : FlaggedPlace → Bool) (ps : List FlaggedPlace) → length (map (λ (p : FlaggedPlace). p.place) (filter keep ps)) ≤ length ps
few keep [] = omega arith
few keep (p ∷ ps) = by (keep p) (few keep ps)
  where
    by : (k : Bool) → length (map (λ (p : FlaggedPlace). p.place) (filter keep ps)) ≤ length ps
        → length (map (λ (p : FlaggedPlace). p.place) (if k then p ∷ filter keep ps else filter keep ps)) ≤ suc (length ps)
    by true h = omega (arith, h)
    by false h = omega (arith, h)
