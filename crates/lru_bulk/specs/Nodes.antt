-- The nodes of buffers, each in a slab under a key of its own. No public clause cites this module.
use Rattle.std.specs.Prelude.{◌≡◌, ℕ, List, map, Option, Some, None, IsSome, slice_index_or}
use Rattle.slab.specs.Slab.{Slab, get}

module _ {T : Type 0} where
  -- the value under a key, if there is a key
  abbrev pub under : Slab T → Option ℕ → Option T
  under slab None = None
  under slab (Some key) = get slab key

  -- the value of each owner of a key
  abbrev pub nodes_of : Slab T → List (Option ℕ) → List (Option T)
  nodes_of slab keys = map (under slab) keys

  -- each key has a value, and no two owners have the same key
  pub record IsKeyed (slab : Slab T) (keys : List (Option ℕ)) : Type 0 where
    pub filled : (i key : ℕ) → slice_index_or keys i None ≡ Some key → IsSome (get slab key)
    pub apart : (i j key : ℕ) → slice_index_or keys i None ≡ Some key → slice_index_or keys j None ≡ Some key → i ≡ j
