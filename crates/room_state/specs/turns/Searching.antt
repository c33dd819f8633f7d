-- Where a search stands (ttm_bo_mem_space): for which buffer, at which place, and what it finds there.
use Rattle.std.specs.Prelude.{ℕ, Bool, true, false, Option, Some, None, ◌&&◌, ◌||◌, not, is_some, option_and_then, slice_get, unwrap_or}
use Rattle.ttm_base.specs.declared.BufId.{BufId}
use Rattle.ttm_base.specs.declared.Mem.TheVariants.{System}
use Rattle.ttm_base.specs.declared.Place.{Place}
use Rattle.ttm_base.specs.Placement.{first_places, forced_places}
use Rattle.journal_model.specs.declared.script.Script.{Script}
use Rattle.journal_model.specs.declared.script.Command.{Command}
use Rattle.journal_model.specs.declared.state.State.{State}
use Rattle.journal_model.specs.declared.state.Task.{Task}
use Rattle.journal_model.specs.declared.state.Task.TheVariants as task
use Rattle.journal_model.specs.rules.State.{course}
use Rattle.journal_model.specs.rules.Commands.{command_at_work, whole}
use Rattle.journal_model.specs.rules.Choice.{choice}
use Rattle.journal_model.specs.rules.Dry.{is_long_enough, victim}
use Rattle.journal_model.specs.rules.Search.{PlaceSearch, place_search, first_choice}
use Rattle.journal_model.specs.rules.Tasks.{task_of}

-- a buffer for which pages are searched, and where the search stands
pub record BufferSearch : Type 0 where
  pub b : BufId
  pub place_search : PlaceSearch

-- the search of a task
abbrev pub buffer_search_in : Script → State → ℕ → Command → Task → Option BufferSearch
buffer_search_in script s thread cmd (task.Search b aim) = Some (record { b = b; place_search = place_search script cmd (course s thread) b aim })
buffer_search_in script s thread cmd _ = None

-- the search at which a thread is
abbrev pub buffer_search_of : Script → State → ℕ → Option BufferSearch
buffer_search_of script s thread = option_and_then (λ cmd. buffer_search_in script s thread cmd (task_of script s thread)) (command_at_work script s thread)

-- the forced place at work
abbrev pub place_at_work : PlaceSearch → Place
place_at_work q = unwrap_or (slice_get (forced_places q.list) q.dry) (whole System)

-- a place to try now has a choice: one of those tried first, unless the search is under pressure, or the forced place at work
abbrev pub has_choice : Script → State → BufferSearch → Bool
has_choice script s h =
    not h.place_search.forced && is_some (first_choice script s h.b (first_places h.place_search.list))
    || is_some (choice script s.core h.b (place_at_work h.place_search))

-- the thread's search has a choice at a place to try now
abbrev pub finds_choice : Script → State → ℕ → Bool
finds_choice script s thread = elim (buffer_search_of script s thread) [ Some h ↦ has_choice script s h | None ↦ false ]

-- the buffer to evict for a search, if the place at work is long enough and some buffer is evictable
abbrev pub victim_for : Script → State → ℕ → BufferSearch → Option BufId
victim_for script s thread h =
    elim (is_long_enough script h.b (place_at_work h.place_search)) [
      | true ↦ victim script s (course s thread).skips (place_at_work h.place_search)
      | false ↦ None
    ]

-- the buffer to evict for the thread's search, if there is one
abbrev pub victim_of : Script → State → ℕ → Option BufId
victim_of script s thread = option_and_then (victim_for script s thread) (buffer_search_of script s thread)
