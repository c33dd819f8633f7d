-- The lists of buffers after an answer.
use Rattle.std.specs.Prelude.{◌≡◌, ◌<◌, ◌==◌, List, Option, Some, None, filter, fold, length, if◌then◌else◌}
use Rattle.ttm_base.specs.declared.BufId.{BufId}
use Rattle.bo_table.specs.Seen.{Bos}
use Rattle.lru_bulk.specs.declared.nodes.Listing.{Listing}
use Rattle.lru_bulk.specs.Lists.{Order, IsGroup, added, listing_of, removed}
use Rattle.journal_model.specs.declared.script.Script.{Script}
use Rattle.journal_model.specs.declared.script.Command.{Command}
use Rattle.journal_model.specs.declared.script.Command.TheVariants as command
use Rattle.journal_model.specs.declared.state.Buffer.{Buffer}
use Rattle.journal_model.specs.declared.state.Reservation.{Reservation}
use Rattle.journal_model.specs.rules.State.{reservation_in, has_buffer, live_in}
use Rattle.journal_model.specs.rules.Commands.{decl, named}
use Rattle.journal_model.specs.rules.Lists.{touched}
use Rattle.room_representation.specs.lemma_lists.Listed.{AreListed}
use Rattle.room_jobs.specs.Bodies.{body_at}

-- the lists without buffer `b`, which stands on one if a listing is given
abbrev pub unlisted_as : Order → BufId → Option Listing → Order
unlisted_as o b None = o
unlisted_as o b (Some x) = removed o b

abbrev pub unlisted : Order → BufId → Order
unlisted o b = unlisted_as o b (listing_of o b)

-- the lists with buffer `b` on one again, if it is its last pin that goes
abbrev pub unpinned : Script → Bos → Order → BufId → Order
unpinned script bos o b =
    if (reservation_in bos.reservations b).pins == 1
    then added o b (record { mem = (body_at bos b).mem; prio = (decl script b).prio; group = (decl script b).group })
    else o

-- a buffer whose last pin goes may be listed again
pub record CanRelist (script : Script) (bos : Bos) (o : Order) (b : BufId) : Type 0 where
  pub live : live_in bos.buffers b ≡ Some (body_at bos b)
  pub below : b.0 < length bos.reservations
  pub declared : b.0 < length script.buffers
  pub known : b.0 < length o.listings
  pub absent : (reservation_in bos.reservations b).pins ≡ 1 → listing_of o b ≡ None
  pub prio : (decl script b).prio < 4
  pub group : IsGroup o.groups (decl script b).group

-- the buffers count as just used, one after another: where the order was that of a state, it is that of the state with them touched
abbrev pub AreTouched : List BufId → Order → Order → Type 0
AreTouched bs old new =
    (script : Script) (buffers : List (Option Buffer)) (reservations : List Reservation) (lists : List (List BufId)) → AreListed script buffers reservations lists old →
    AreListed script buffers reservations (fold (touched script buffers reservations) lists bs) new

-- the lists after the answer of a command: the buffer of a pin is on no list, that of an unpin is on one once no pin is left, those of any other
-- that are held are touched
abbrev pub AreRelisted : Script → Bos → List BufId → Command → Order → Order → Type 0
AreRelisted script bos held (command.Pin b) old new = new ≡ unlisted old b
AreRelisted script bos held (command.Unpin b) old new = new ≡ unpinned script bos old b
AreRelisted script bos held cmd old new = AreTouched (filter (has_buffer held) (named cmd)) old new
