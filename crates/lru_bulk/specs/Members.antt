-- Members of the lists: a buffer is on the list for which it is listed, and there once.
use Rattle.std.specs.Prelude.{◌≡◌, ℕ, Bool, List, Some, ◌==◌}
use Rattle.std.specs.List.{All, count_by}
use Rattle.ttm_base.specs.declared.BufId.{BufId}
use Rattle.lru_bulk.specs.declared.nodes.Listing.{Listing}
use Rattle.lru_bulk.specs.Lists.{Order, list_at, listing_of, number_of}

-- whether the buffers are the same
abbrev pub same_buffer : BufId → BufId → Bool
same_buffer b c = b.0 == c.0

-- how often the buffer is in a list
abbrev pub times_in : BufId → List BufId → ℕ
times_in b l = count_by (same_buffer b) l

-- the buffer is listed for the list with this number
pub record IsListedFor (o : Order) (i : ℕ) (b : BufId) : Type 0 where
  pub listing : Listing
  pub listed : listing_of o b ≡ Some listing
  pub number : number_of listing ≡ i

-- each buffer on a list is listed for it
abbrev pub AreMembersListed : Order → Type 0
AreMembersListed o = (i : ℕ) → All (IsListedFor o i) (list_at o.lists i)

-- the buffer is on no list
abbrev pub IsOnNone : Order → BufId → Type 0
IsOnNone o b = (i : ℕ) → times_in b (list_at o.lists i) ≡ 0
