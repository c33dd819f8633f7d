-- The causes of refusals for lack of room or frames, and of backoffs, as tests on the states in which the entries were made.
use Rattle.std.specs.Prelude.{ℕ, Bool, true, false, List, [], ◌∷◌, ◌++◌, Option, Some, None, ◌==◌, ◌&&◌, ◌||◌, not, nat_lt, filter, filter_map, find, length, option_map, option_and_then, unwrap_or, slice_get, is_none, is_some, if◌then◌else◌}
use Rattle.std.specs.List.{list_all, list_any}
use Rattle.journal_model.specs.Types.{BufId, DryWhy, FlaggedPlace, Kind, Place, Reservation, Script, Stamp, State}
use Rattle.ttm_base.specs.declared.Deny.TheVariants as deny
use Rattle.journal_model.specs.declared.entry.Kind.TheVariants as kind
use Rattle.journal_model.specs.declared.entry.Why.TheVariants as why
use Rattle.ttm_base.specs.ListWords.{count_from, same_numbers}
use Rattle.ttm_base.specs.Placement.{first_places, forced_places}
use Rattle.journal_model.specs.rules.State.{reservation, course, has_buffer, same_buffer}
use Rattle.journal_model.specs.rules.Commands.{command_at_work, named}
use Rattle.journal_model.specs.rules.Holds.{live_buffers, free_frame, free_slot}
use Rattle.journal_model.specs.rules.Choice.{choice}
use Rattle.journal_model.specs.rules.Dry.{ghost_with_frame, has_frame, is_loose, is_dry, dry_why, same_why}
use Rattle.journal_model.specs.rules.Ready.{first_unready}
use Rattle.journal_model.specs.rules.Search.{place_search_at_work}
use Rattle.journal_model.specs.rules.Tasks.{first_missing}
use Rattle.journal_model.specs.rules.Apply.{thread_of}
use Rattle.journal_model.specs.rules.Legal.{Made}
use Rattle.journal_model.specs.statements.Complete.{is_answer, is_by_thread}

-- ---- of a state

-- no frame is free or will be given back, and no buffer can give one to swap
abbrev pub is_out_of_frames : Script → State → Bool
is_out_of_frames script s =
    is_none (free_frame script s.core) && is_none (ghost_with_frame s)
    && (is_none (free_slot script s.core) || list_all (λ e. not (has_frame e.1) || not (is_loose (reservation s e.0))) (live_buffers s.core))

-- the holder's stamp is less than mine
abbrev pub is_older : Option Stamp → Option Stamp → Bool
is_older (Some holder) (Some mine) = nat_lt holder.0 mine.0
is_older _ _ = false

-- the buffer is the one that the thread's command is to reserve next
abbrev pub wants_next : Script → State → ℕ → BufId → Bool
wants_next script s thread b =
    elim (option_and_then (first_missing (course s thread)) (command_at_work script s thread)) [ Some c ↦ same_buffer b c | None ↦ false ]

-- the thread holds a buffer, wants this one next, and an older thread holds it
abbrev pub must_back_off : Script → State → ℕ → BufId → Bool
must_back_off script s thread b =
    wants_next script s thread b && nat_lt 0 (length (course s thread).held) && is_older (reservation s b).holder (course s thread).stamp

-- the stamp is the holder's
abbrev pub is_holder : Reservation → Stamp → Bool
is_holder g stamp = elim g.holder [ Some holder ↦ holder.0 == stamp.0 | None ↦ false ]

-- ---- of a thread's entries

-- what follows the last element that passes, or all where none does
abbrev pub since_last : {X : Type 0} → (X → Bool) → List X → List X
since_last test [] = []
since_last test (x ∷ xs) = if list_any test xs then since_last test xs else if test x then xs else x ∷ xs

-- the thread's entries in its command
abbrev pub in_command : ℕ → List Made → List Made
in_command thread journal = since_last (λ m. is_answer m.entry.kind) (filter (λ m. is_by_thread thread m.entry.who) journal)

-- the buffers of the command at work
abbrev pub named_at_work : Script → State → ℕ → List BufId
named_at_work script s thread = unwrap_or (option_map named (command_at_work script s thread)) []

-- no page was found for one of these buffers
abbrev pub is_no_pages_of : List BufId → Kind → Bool
is_no_pages_of bs (kind.NoPages b) = has_buffer bs b
is_no_pages_of bs _ = false

-- a target for the buffer
abbrev pub is_take_of : BufId → Kind → Bool
is_take_of b (kind.Take c mem spans) = same_buffer b c
is_take_of b _ = false

-- the number of the place, of a dry entry for the buffer
abbrev pub dry_of : BufId → Kind → Option ℕ
dry_of b (kind.Dry c k w) = if same_buffer b c then Some k else None
dry_of b _ = None

-- a victim is caught for its room, not for its frames
abbrev pub presses : Kind → Bool
presses (kind.Catch c why.Swap) = false
presses (kind.Catch c w) = true
presses _ = false

-- the entry is made while its command works on the buffer
abbrev pub is_at_work : Script → ℕ → BufId → Made → Bool
is_at_work script thread b m =
    elim (option_and_then (λ cmd. first_unready script m.before cmd) (command_at_work script m.before thread)) [
      | None ↦ false
      | Some c ↦ same_buffer b c
    ]

-- ---- of a search that found no room
-- ttm_bo_mem_space tries the first places. Where none has room the search is under pressure, and ttm_bo_mem_force_space tries
-- each forced place: there ttm_mem_evict_first evicts one buffer after the other, until the place has room or is dry.

-- the places that a search of the buffer tries in this state
abbrev pub places_sought : Script → State → ℕ → BufId → List FlaggedPlace
places_sought script s thread b =
    elim (command_at_work script s thread) [ Some cmd ↦ (place_search_at_work script s (course s thread) cmd b).list | None ↦ [] ]

-- the k-th forced place is dry: too short for the buffer, or without room, a buffer that ttm_mem_evict_first may evict, and a ghost
abbrev pub is_dry_place : Script → State → ℕ → BufId → List Place → ℕ → Bool
is_dry_place script s thread b forced k =
    elim (slice_get forced k) [ None ↦ false | Some place ↦ is_dry script s (course s thread).skips b place ]

-- the k-th forced place is dry, and the entry says why: it is short, or each live buffer in its manager has this first cause
abbrev pub is_dry_as_told : Script → State → ℕ → BufId → List Place → ℕ → DryWhy → Bool
is_dry_as_told script s thread b forced k w =
    elim (slice_get forced k) [
      | None ↦ false
      | Some place ↦ is_dry script s (course s thread).skips b place && same_why w (dry_why script s b place)
    ]

-- if the entry says that a place is dry for the buffer, it is so in the entry's state
abbrev pub was_dry : Script → ℕ → BufId → List Place → Made → Bool
was_dry script thread b forced m =
    elim (dry_of b m.entry.kind) [ None ↦ true | Some k ↦ is_dry_place script m.before thread b forced k ]

-- the entries of the search: while the command works on the buffer, since the buffer's last target or the command's start
abbrev pub search_of : Script → ℕ → BufId → List Made → List Made
search_of script thread b journal =
    filter (is_at_work script thread b) (since_last (λ m. is_take_of b m.entry.kind) (in_command thread journal))

-- the entry is made under pressure: a place is dry for the buffer, or a victim is caught for its room
abbrev pub shows_pressure : BufId → Made → Bool
shows_pressure b m = is_some (dry_of b m.entry.kind) || presses m.entry.kind

-- a thread's search for a buffer: its entries, the state in which it came under pressure, and the places that it tries first and
-- under pressure, as that state tells them
pub record PressedSearch : Type 0 where
  pub thread : ℕ
  pub b : BufId
  pub entries : List Made
  pub start : State
  pub first : List Place
  pub forced : List Place

-- the search with these entries, of which this one is the first under pressure
abbrev pub pressed_by : Script → ℕ → BufId → List Made → Made → PressedSearch
pressed_by script thread b entries m =
    let list = places_sought script m.before thread b in
    record { thread = thread; b = b; entries = entries; start = m.before; first = first_places list; forced = forced_places list }

-- ttm_bo_mem_space: no first place had room when the search came under pressure
abbrev pub no_first_had_room : Script → PressedSearch → Bool
no_first_had_room script p = list_all (λ place. is_none (choice script p.start.core p.b place)) p.first

-- ttm_bo_mem_force_space: the forced places went dry, each once and in order
abbrev pub all_went_dry : PressedSearch → Bool
all_went_dry p = same_numbers (filter_map (λ m. dry_of p.b m.entry.kind) p.entries) (count_from 1 (length p.forced) 0)

-- ttm_mem_evict_first: each of them was dry in the state of its dry entry
abbrev pub all_were_dry : Script → PressedSearch → Bool
all_were_dry script p = list_all (was_dry script p.thread p.b p.forced) p.entries

-- ttm_bo_mem_space has failed for lack of room
abbrev pub is_search_over : Script → PressedSearch → Bool
is_search_over script p = no_first_had_room script p && all_went_dry p && all_were_dry script p

-- the search with these entries came under pressure and has failed
abbrev pub is_out_of_space : Script → ℕ → BufId → List Made → Bool
is_out_of_space script thread b entries =
    elim (find (shows_pressure b) entries) [ None ↦ false | Some m ↦ is_search_over script (pressed_by script thread b entries m) ]

-- ---- each entry that gives up has its cause

-- by the entries before it
abbrev pub has_its_cause : Script → List Made → State → ℕ → Kind → Bool
has_its_cause script before s t (kind.Dry b k w) = is_dry_as_told script s t b (forced_places (places_sought script s t b)) k w
has_its_cause script before s t (kind.Backoff b stamp) = must_back_off script s t b && is_holder (reservation s b) stamp
has_its_cause script before s t (kind.NoPages b) = is_out_of_frames script s
has_its_cause script before s t (kind.Refused deny.NoSpace) =
    list_any (λ b. is_out_of_space script t b (search_of script t b before)) (named_at_work script s t)
has_its_cause script before s t (kind.Refused deny.NoPages) =
    list_any (λ m. is_no_pages_of (named_at_work script s t) m.entry.kind) (in_command t before)
has_its_cause script before s t _ = true

-- all entries of a journal
abbrev pub have_causes : Script → List Made → List Made → Bool
have_causes script before [] = true
have_causes script before (m ∷ ms) =
    has_its_cause script before m.before (thread_of m.entry.who) m.entry.kind && have_causes script (before ++ m ∷ []) ms
