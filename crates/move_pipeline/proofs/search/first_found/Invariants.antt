use Rattle.std.proofs.Common.{◌≡◌, drop}
use Rattle.ttm_base.specs.Placement.{first_places}
use Rattle.journal_model.specs.rules.Search.{first_choice}
use Rattle.room_state.specs.turns.Turns.{state_behind}
use Rattle.room_state.specs.turns.BufferSearches.{list_of}
use Rattle.move_pipeline.proofs.search.first_found.Given as goal

-- the places before have no choice, and the rooms are as they were
abbrev pub invariant-loop-at : goal.invariant-loop-at
invariant-loop-at l = record {
  same : l.rooms ≡ l.fn.rooms;
  left :
      first_choice l.fn.rooms.script (state_behind l.fn.rooms) l.buffer_search.b (first_places (list_of l.fn.rooms.script l.buffer_search.b l.buffer_search.sought))
      ≡ first_choice l.fn.rooms.script (state_behind l.fn.rooms) l.buffer_search.b (first_places (drop l.at (list_of l.fn.rooms.script l.buffer_search.b l.buffer_search.sought)));
}
