-- A search, as the definitions have it.
use Rattle.rules_state.specs.declared.place_searches.PlaceSearch.{PlaceSearch}
use Rattle.journal_model.specs.rules.Search as search

-- the search with the same places, pressure and number of dry places
abbrev pub place_search_of : PlaceSearch → search.PlaceSearch
place_search_of q = record { list = q.list; forced = q.forced; dry = q.dry }
