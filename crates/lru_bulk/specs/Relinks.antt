-- Changes of links. No public clause cites this module.
use Rattle.std.specs.Prelude.{◌≡◌, ◌≢◌, ◌<◌, IsSome, length}
use Rattle.lru_bulk.specs.declared.nodes.Spot.{Spot}
use Rattle.lru_bulk.specs.declared.nodes.Spot.TheVariants.{End, Of}
use Rattle.lru_bulk.specs.declared.nodes.Links.{Links}
use Rattle.lru_bulk.specs.declared.rings.Way.{Way}
use Rattle.lru_bulk.specs.declared.rings.Way.TheVariants.{Next, Prev}
use Rattle.lru_bulk.specs.declared.rings.Rings.{Rings}
use Rattle.lru_bulk.specs.Lists.{listing_in}
use Rattle.lru_bulk.specs.Sound.{listings_of}

-- the spot is the end of a list, or the node of a listed buffer
abbrev pub IsSpot : Rings → Spot → Type 0
IsSpot r (End i) = i < length r.ends
IsSpot r (Of b) = IsSome (listing_in (listings_of r) b)

-- the links of a spot after one of them was led elsewhere
abbrev pub led : Links → Way → Spot → Links
led links Next to = record links { next = to }
led links Prev to = record links { prev = to }

-- all but the links is unchanged
pub record SameRest (old new : Rings) : Type 0 where
  pub ends : length new.ends ≡ length old.ends
  pub listings : listings_of new ≡ listings_of old
  pub ranges : new.ranges ≡ old.ranges
  pub groups : new.groups ≡ old.groups

module _ {S : Type 0} where
  -- u leads to v, v leads back to u, and all other links are unchanged
  pub record Tied (n p n' p' : S → S) (u v : S) : Type 0 where
    pub next : n' u ≡ v
    pub prev : p' v ≡ u
    pub nexts : (s : S) → s ≢ u → n' s ≡ n s
    pub prevs : (s : S) → s ≢ v → p' s ≡ p s
