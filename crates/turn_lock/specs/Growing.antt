-- What a turn may do to the list of a value.
use Rattle.std.specs.Prelude.{◌≡◌, List, ◌⊎◌}
use Rattle.ttm_base.specs.Steps.{OneMore}

module _ {I : Type 0} where
  -- the same entries, or one more at the end
  abbrev pub Grows : List I → List I → Type 0
  Grows old new = (new ≡ old) ⊎ OneMore old new
