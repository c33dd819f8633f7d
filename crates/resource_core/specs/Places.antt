-- The position of the holding of each owner.
use denote.Enum.Bare.{sameb}
use Rattle.std.specs.Prelude.{◌≡◌, ℕ, ◌+◌, ◌==◌, ◌&&◌, Bool, List, [], ◌∷◌, Option, Some, None, length, if◌then◌else◌}
use Rattle.ttm_base.specs.declared.Owner.{Owner}
use Rattle.ttm_base.specs.declared.Owner.TheVariants.{Live, Target, Ghost}
use Rattle.resource_core.specs.declared.holding.Holding.{Holding}
use Rattle.resource_core.specs.declared.holding.OwnerKind.TheVariants.{Live as OfLive, Target as OfTarget, Ghost as OfGhost}
use Rattle.resource_core.specs.contracts.holding.OwnerKind.{the_type}
use Rattle.resource_core.specs.declared.holdings.OwnerKey.{OwnerKey}
use Rattle.resource_core.specs.Resources.{same_owner, AreDistinct}

-- the kind of an owner, and its number among the owners of that kind
abbrev pub key_of : Owner → OwnerKey
key_of (Live b) = record { kind = OfLive; number = b.0 }
key_of (Target b) = record { kind = OfTarget; number = b.0 }
key_of (Ghost n) = record { kind = OfGhost; number = n }

-- whether the keys are equal, as `==` tells
abbrev pub same_key : OwnerKey → OwnerKey → Bool
same_key a b = sameb the_type a.kind b.kind && a.number == b.number

-- the position of an owner's holding, where the first position is n
abbrev pub stands_from : ℕ → Owner → List Holding → Option ℕ
stands_from n owner [] = None
stands_from n owner (h ∷ hs) = if same_owner owner h.owner then Some n else stands_from (n + 1) owner hs

abbrev pub stands_at : Owner → List Holding → Option ℕ
stands_at owner held = stands_from 0 owner held

-- each owner is found at the position of its holding, and there are no more positions than holdings
pub record ArePlaced (find : OwnerKey → Option ℕ) (count : ℕ) (held : List Holding) : Type 0 where
  pub each : (owner : Owner) → find (key_of owner) ≡ stands_at owner held
  pub owners : AreDistinct held
  pub len : count ≡ length held
