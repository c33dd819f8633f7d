-- A list of places of the first version: preferred places, and busy ones after them.
use Rattle.std.specs.Prelude.{◌≡◌, List}
use Rattle.ttm_base.specs.declared.FlaggedPlace.{FlaggedPlace}
use Rattle.ttm_base.specs.Placement.{first_places, forced_places}
use Rattle.journal_model.specs.statements.OldSearch.{one_list}

-- the list stands for the places that are tried first and those that are tried under pressure, as the two lists of the old text
abbrev pub IsTwoLists : List FlaggedPlace → Type 0
IsTwoLists list = list ≡ one_list (first_places list) (forced_places list)
