-- The twelve lists of buffers in eviction order (ttm_resource_manager's lru, ttm_lru_bulk_move).
use Rattle.std.specs.Prelude.{ℕ, ◌+◌, ◌*◌, Bool, true, false, List, [], ◌∷◌, ◌++◌, Option, Some, None, ◌==◌, not, filter, map, flat_map, take, drop, unwrap_or, insert, length, slice_get, slice_set, if◌then◌else◌}
use Rattle.journal_model.specs.Types.{BufId, Buffer, Mem, Reservation, Script, State}
use Rattle.ttm_base.specs.Reach.{mem_number}
use Rattle.journal_model.specs.rules.State.{live_in, reservation_in, without_buffer}
use Rattle.journal_model.specs.rules.Commands.{decl}

-- the place of a list among the twelve
abbrev pub list_number : Mem → ℕ → ℕ
list_number mem prio = 4 * mem_number mem + prio

-- the buffers of a memory type in the order in which victims are looked for, priority 0 first
abbrev pub in_order : State → Mem → List BufId
in_order s mem = flat_map (λ l. l) (take 4 (drop (4 * mem_number mem) s.lists))

-- both are in one group
abbrev pub same_group : Option ℕ → Option ℕ → Bool
same_group (Some g) (Some h) = g == h
same_group None h = false
same_group (Some g) None = false

-- two buffers of one group
abbrev pub is_mate : Script → BufId → BufId → Bool
is_mate script b c = same_group (decl script b).group (decl script c).group

-- the position after the last that passes
abbrev pub one_further : Bool → Option ℕ → Option ℕ
one_further here (Some k) = Some (k + 1)
one_further true None = Some 1
one_further false None = None

-- the position after the last element that passes
abbrev pub behind_last : (BufId → Bool) → List BufId → Option ℕ
behind_last test [] = None
behind_last test (c ∷ cs) = one_further (test c) (behind_last test cs)

-- b after the last of its mates, or at the end where it has none
abbrev pub placed_in : (BufId → Bool) → BufId → List BufId → List BufId
placed_in mate b l = insert l (unwrap_or (behind_last mate l) (length l)) b

-- the lists with b on none
abbrev pub taken_off : List (List BufId) → BufId → List (List BufId)
taken_off lists b = map (λ l. without_buffer l b) lists

-- the lists with b placed on its own
abbrev pub put_on : Script → List (List BufId) → BufId → Mem → List (List BufId)
put_on script lists b mem =
    let at = list_number mem (decl script b).prio in
    slice_set lists at (placed_in (is_mate script b) b (unwrap_or (slice_get lists at) []))

-- a live buffer without pins is taken off and placed on its list; any other is on none
abbrev pub listed_as : Script → List (List BufId) → BufId → Reservation → Option Buffer → List (List BufId)
listed_as script lists b g None = taken_off lists b
listed_as script lists b g (Some x) = if g.pins == 0 then put_on script (taken_off lists b) b x.mem else taken_off lists b

-- the lists after a buffer was touched
abbrev pub touched : Script → List (Option Buffer) → List Reservation → List (List BufId) → BufId → List (List BufId)
touched script buffers reservations lists b = listed_as script lists b (reservation_in reservations b) (live_in buffers b)

-- the buffer is in the group
abbrev pub is_member : Script → ℕ → BufId → Bool
is_member script group b = same_group (decl script b).group (Some group)

-- a list, its members of a group after the others
abbrev pub members_last : (BufId → Bool) → List BufId → List BufId
members_last member l = filter (λ b. not (member b)) l ++ filter member l
