-- The lists of buffers in eviction order, as the state and the LRU tell them.
use Rattle.std.specs.Prelude.{◌≡◌, ℕ, ◌==◌, List, length, Option, Some, None, if◌then◌else◌}
use Rattle.ttm_base.specs.declared.BufId.{BufId}
use Rattle.lru_bulk.specs.declared.nodes.Listing.{Listing}
use Rattle.lru_bulk.specs.Lists.{Order, listing_of}
use Rattle.journal_model.specs.declared.script.Script.{Script}
use Rattle.journal_model.specs.declared.state.Buffer.{Buffer}
use Rattle.journal_model.specs.declared.state.Reservation.{Reservation}
use Rattle.journal_model.specs.declared.state.State.{State}
use Rattle.journal_model.specs.rules.State.{live_in, reservation_in}
use Rattle.journal_model.specs.rules.Commands.{decl}

-- a live buffer without pins is listed, by its memory type and what is declared of it
abbrev pub listing_as : Script → BufId → ℕ → Option Buffer → Option Listing
listing_as script b pins None = None
listing_as script b pins (Some x) = if pins == 0 then Some (record { mem = x.mem; prio = (decl script b).prio; group = (decl script b).group }) else None

-- how buffer `b` is to be listed
abbrev pub listing_due : Script → List (Option Buffer) → List Reservation → BufId → Option Listing
listing_due script buffers reservations b = listing_as script b (reservation_in reservations b).pins (live_in buffers b)

-- the LRU has the twelve lists, and each buffer is listed as it is to be
pub record AreListed (script : Script) (buffers : List (Option Buffer)) (reservations : List Reservation) (lists : List (List BufId)) (o : Order) : Type 0 where
  pub lists_are : o.lists ≡ lists
  pub listings_are : (b : BufId) → listing_of o b ≡ listing_due script buffers reservations b
  pub room_is : length o.listings ≡ length buffers
  pub groups_are : o.groups ≡ 16

-- the LRU has the lists of the state
abbrev pub HasLists : Script → State → Order → Type 0
HasLists script s o = AreListed script s.core.buffers s.reservations s.lists o
