-- The twelve LRU lists of buffers in the order of eviction, with the groups that move in bulk (ttm_resource_manager's lru,
-- ttm_lru_bulk_move).
use Rattle.std.specs.Prelude.{◌≡◌, ℕ, ◌+◌, ◌*◌, ◌<◌, Bool, true, false, List, [], ◌∷◌, ◌++◌, Option, Some, None, ◌==◌, not, filter, map, unwrap_or, insert, length, replicate, slice_get, slice_set, slice_index_or, option_and_then, if◌then◌else◌}
use Rattle.ttm_base.specs.declared.Mem.{Mem}
use Rattle.ttm_base.specs.declared.BufId.{BufId}
use Rattle.ttm_base.specs.Reach.{mem_number}
use Rattle.lru_bulk.specs.declared.nodes.Listing.{Listing}

-- the twelve lists, how each buffer is listed, and the number of groups
pub record Order : Type 0 where
  pub lists : List (List BufId)
  pub listings : List (Option Listing)
  pub groups : ℕ

-- the number of a list among the twelve
abbrev pub list_number : Mem → ℕ → ℕ
list_number mem prio = 4 * mem_number mem + prio

-- the list of a listing
abbrev pub number_of : Listing → ℕ
number_of x = list_number x.mem x.prio

-- a list by its number
abbrev pub list_at : List (List BufId) → ℕ → List BufId
list_at lists i = slice_index_or lists i []

-- how a buffer is listed, or None where it isn't
abbrev pub listing_in : List (Option Listing) → BufId → Option Listing
listing_in listings b = slice_index_or listings b.0 None

abbrev pub listing_of : Order → BufId → Option Listing
listing_of o b = listing_in o.listings b

-- the group of a buffer, if it has one
abbrev pub group_in : List (Option Listing) → BufId → Option ℕ
group_in listings b = option_and_then (λ x. x.group) (listing_in listings b)

-- whether both are in the same group
abbrev pub same_group : Option ℕ → Option ℕ → Bool
same_group (Some g) (Some h) = g == h
same_group None h = false
same_group (Some g) None = false

-- whether two buffers are in the same group
abbrev pub is_mate : List (Option Listing) → BufId → BufId → Bool
is_mate listings b c = same_group (group_in listings b) (group_in listings c)

-- whether the buffer is in the group
abbrev pub is_member : List (Option Listing) → ℕ → BufId → Bool
is_member listings group b = same_group (group_in listings b) (Some group)

-- the position after the last element that passes, in a list that begins one element earlier
abbrev pub one_further : Bool → Option ℕ → Option ℕ
one_further here (Some k) = Some (k + 1)
one_further true None = Some 1
one_further false None = None

-- the position after the last element that passes
abbrev pub behind_last : (BufId → Bool) → List BufId → Option ℕ
behind_last test [] = None
behind_last test (c ∷ cs) = one_further (test c) (behind_last test cs)

-- b after the last of its mates, or at the end where it has none
abbrev pub placed_in : (BufId → Bool) → BufId → List BufId → List BufId
placed_in mate b l = insert l (unwrap_or (behind_last mate l) (length l)) b

-- a list without the buffer
abbrev pub without_buffer : List BufId → BufId → List BufId
without_buffer l b = filter (λ c. not (b.0 == c.0)) l

-- the lists after b was removed from each
abbrev pub taken_off : List (List BufId) → BufId → List (List BufId)
taken_off lists b = map (λ l. without_buffer l b) lists

-- the lists after b was put on its own
abbrev pub put_on : List (Option Listing) → List (List BufId) → BufId → ℕ → List (List BufId)
put_on listings lists b at = slice_set lists at (placed_in (is_mate listings b) b (list_at lists at))

-- a list with its members of a group after the others
abbrev pub members_last : (BufId → Bool) → List BufId → List BufId
members_last member l = filter (λ b. not (member b)) l ++ filter member l

-- a group is below the number of groups
abbrev pub IsGroup : ℕ → Option ℕ → Type 0
IsGroup groups None = Unit {0}
IsGroup groups (Some g) = g < groups

-- the elements that pass are side by side
pub record StandTogether (test : BufId → Bool) (l : List BufId) : Type 0 where
  pub before : List BufId
  pub inside : List BufId
  pub after : List BufId
  pub split : l ≡ before ++ (inside ++ after)
  pub none_before : filter test before ≡ []
  pub all_inside : filter test inside ≡ inside
  pub none_after : filter test after ≡ []

-- no buffer is on a list
abbrev pub nothing_listed : ℕ → ℕ → Order
nothing_listed buffers groups = record { lists = replicate 12 []; listings = replicate buffers None; groups = groups }

-- the lists after b was listed and put on its list
abbrev pub added : Order → BufId → Listing → Order
added o b x =
    let listings = slice_set o.listings b.0 (Some x) in
    record o { lists = put_on listings o.lists b (number_of x); listings = listings }

-- the lists after b was removed from its list and is no longer listed
abbrev pub removed : Order → BufId → Order
removed o b = record o { lists = taken_off o.lists b; listings = slice_set o.listings b.0 None }

-- the lists after b was removed from its list and put on it again
abbrev pub touched_as : Order → BufId → Option Listing → Order
touched_as o b None = o
touched_as o b (Some x) = record o { lists = put_on o.listings (taken_off o.lists b) b (number_of x) }

abbrev pub touched : Order → BufId → Order
touched o b = touched_as o b (listing_of o b)

-- the lists after b was removed from its list and put on that of another memory type, with its priority and group
abbrev pub relisted_as : Order → BufId → Mem → Option Listing → Order
relisted_as o b mem None = o
relisted_as o b mem (Some x) = added (removed o b) b (record x { mem = mem })

abbrev pub relisted : Order → BufId → Mem → Order
relisted o b mem = relisted_as o b mem (listing_of o b)

-- the lists after the members of a group were moved to the end of each
abbrev pub bulk_moved : Order → ℕ → Order
bulk_moved o group = record o { lists = map (members_last (is_member o.listings group)) o.lists }

-- the lists after the members of a group were moved to the end of one list alone
abbrev pub bulk_moved_in : Order → ℕ → ℕ → Order
bulk_moved_in o i group = record o { lists = slice_set o.lists i (members_last (is_member o.listings group) (list_at o.lists i)) }

-- the buffer after b in a list
abbrev pub behind : BufId → List BufId → Option BufId
behind b [] = None
behind b (c ∷ cs) = if b.0 == c.0 then slice_get cs 0 else behind b cs

-- the list that a buffer is on
abbrev pub list_as : Order → Option Listing → List BufId
list_as o None = []
list_as o (Some x) = list_at o.lists (number_of x)

abbrev pub list_of : Order → BufId → List BufId
list_of o b = list_as o (listing_of o b)
