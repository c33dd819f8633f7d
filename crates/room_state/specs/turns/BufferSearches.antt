-- Where a search stands, without a list of its own.
use Rattle.std.specs.Prelude.{List, [], ◌∷◌, false, if◌then◌else◌}
use Rattle.ttm_base.specs.declared.BufId.{BufId}
use Rattle.ttm_base.specs.declared.FlaggedPlace.{FlaggedPlace}
use Rattle.ttm_base.specs.declared.Mem.TheVariants.{System, Tt}
use Rattle.journal_model.specs.declared.script.Script.{Script}
use Rattle.journal_model.specs.declared.script.Command.{Command}
use Rattle.journal_model.specs.declared.script.Command.TheVariants as command
use Rattle.journal_model.specs.declared.state.Course.{Course}
use Rattle.journal_model.specs.declared.state.SearchAim.{SearchAim}
use Rattle.journal_model.specs.declared.state.SearchAim.TheVariants.{Asked, Hop}
use Rattle.journal_model.specs.rules.Commands.{as_fallback, decl, unflagged, whole}
use Rattle.journal_model.specs.rules.Search.{PlaceSearch, is_caught}
use Rattle.room_state.specs.turns.Searching as searching
use Rattle.room_state.specs.declared.turns.buffer_searches.SearchPlaces.{SearchPlaces}
use Rattle.room_state.specs.declared.turns.buffer_searches.SearchPlaces.TheVariants.{One, Declared}
use Rattle.room_state.specs.declared.turns.buffer_searches.BufferSearch.{BufferSearch}

-- the places that the search tries
abbrev pub list_of : Script → BufId → SearchPlaces → List FlaggedPlace
list_of script b (One p) = p ∷ []
list_of script b Declared = (decl script b).placement.list

-- the search for pages, with its list of places
abbrev pub place_search_of : Script → BufferSearch → PlaceSearch
place_search_of script h = record { list = list_of script h.b h.sought; forced = h.forced; dry = h.dry }

-- the search as the definitions have it, with its buffer and its list of places
abbrev pub seen : Script → BufferSearch → searching.BufferSearch
seen script h = record { b = h.b; place_search = place_search_of script h }

-- where the command wants its buffer
abbrev pub sought_by : Command → SearchPlaces
sought_by (command.Move c mem) = One (unflagged (whole mem))
sought_by (command.SwapOut c) = One (unflagged (whole System))
sought_by _ = Declared

-- the search for the hop through TT: a victim's is at its beginning
abbrev pub hop_by : Course → BufId → BufferSearch
hop_by c b =
    if is_caught c b
    then record { b = b; sought = One (as_fallback (whole Tt)); forced = false; dry = 0 }
    else record { b = b; sought = One (as_fallback (whole Tt)); forced = c.forced; dry = c.dry }

-- the search for buffer `b`, by its aim
abbrev pub buffer_search_by : Command → Course → BufId → SearchAim → BufferSearch
buffer_search_by cmd c b Asked = record { b = b; sought = sought_by cmd; forced = c.forced; dry = c.dry }
buffer_search_by cmd c b Hop = hop_by c b
