-- What a search finds.
use Rattle.std.specs.Prelude.{true, false, List, Option, Some, None, option_map}
use Rattle.ttm_base.specs.declared.BufId.{BufId}
use Rattle.ttm_base.specs.declared.FlaggedPlace.{FlaggedPlace}
use Rattle.ttm_base.specs.declared.Mem.{Mem}
use Rattle.ttm_base.specs.declared.Place.{Place}
use Rattle.ttm_base.specs.declared.Span.{Span}
use Rattle.ttm_base.specs.Placement.{first_places}
use Rattle.journal_model.specs.declared.script.Script.{Script}
use Rattle.journal_model.specs.declared.state.State.{State}
use Rattle.journal_model.specs.rules.Choice.{choice}
use Rattle.journal_model.specs.rules.Search.{first_choice}
use Rattle.room_state.specs.turns.Searching.{BufferSearch, place_at_work}

-- the memory type and the pages of a place with a choice
abbrev pub found_at : Script → State → BufId → Place → Option (Mem × List Span)
found_at script s b place = option_map (λ spans. (place.mem, spans)) (choice script s.core b place)

-- the memory type and the pages of a place, unless it is tried under pressure alone
abbrev pub tried_at : Script → State → BufId → FlaggedPlace → Option (Mem × List Span)
tried_at script s b p = elim p.fallback [ true ↦ None | false ↦ found_at script s b p.place ]

-- the first of the two that is there
abbrev pub or_else : Option (Mem × List Span) → Option (Mem × List Span) → Option (Mem × List Span)
or_else (Some f) o = Some f
or_else None o = o

-- what a search finds that isn't yet under pressure: the first place with a choice among those tried first
abbrev pub found_first : Script → State → BufferSearch → Option (Mem × List Span)
found_first script s h = elim h.place_search.forced [ true ↦ None | false ↦ first_choice script s h.b (first_places h.place_search.list) ]

-- what a search finds: in the places tried first, else in the forced place at work
abbrev pub found : Script → State → BufferSearch → Option (Mem × List Span)
found script s h = or_else (found_first script s h) (found_at script s h.b (place_at_work h.place_search))
