-- The bytes of VRAM, frames and slots after an entry, and what an entry shows of them. Packets go through the aperture of the
-- state before them.
use Rattle.std.specs.Prelude.{ℕ, ◌+◌, ◌/◌, ◌%◌, Bool, false, ◌&&◌, nat_lt, if◌then◌else◌, List, [], ◌∷◌, Option, Some, find, map, option_and_then, unwrap_or, slice_get}
use Rattle.journal_model.specs.Types.{Actor, Buffer, Command, Core, JobId, Kind, Packet, Script, Shown, Sizes, State}
use Rattle.journal_model.specs.Limits.{page_bytes}
use Rattle.ttm_base.specs.declared.PagePlace.TheVariants as place
use Rattle.ttm_base.specs.declared.Packet.TheVariants as packet
use Rattle.journal_model.specs.declared.script.Command.TheVariants as command
use Rattle.journal_model.specs.declared.entry.Kind.TheVariants as kind
use Rattle.journal_model.specs.declared.entry.Shown.TheVariants as shown
use Rattle.ttm_base.specs.ListWords.{count_from}
use Rattle.ttm_base.specs.Pages.{Page, nowhere, vram, frame, slot, PageBytes, with_bytes}
use Rattle.ttm_base.specs.Packets.{after_packet, probe_piece}
use Rattle.journal_model.specs.rules.State.{buffer}
use Rattle.journal_model.specs.rules.Commands.{command_at_work}
use Rattle.journal_model.specs.rules.Places.{page_at, aperture}
use Rattle.journal_model.specs.rules.Waits.{same_job}
use Rattle.journal_model.specs.rules.Apply.{thread_of, engine_of}

-- bytes by page and offset; no byte is written at nowhere
abbrev pub Stores : Type 0
Stores = PageBytes

-- all bytes are zero
abbrev pub zeros : Stores
zeros = λ p o. 0

-- the page is one of those that the script sets up
abbrev pub is_there : Sizes → Page → Bool
is_there sizes nowhere = false
is_there sizes (vram p) = nat_lt p sizes.vram
is_there sizes (frame f) = nat_lt f sizes.frames
is_there sizes (slot k) = nat_lt k sizes.swap

-- the bytes of the pages that there are; beyond them zeros are read
abbrev pub within : Sizes → Stores → Stores
within sizes stores = λ page o. if is_there sizes page && nat_lt o page_bytes then stores page o else 0

-- a byte of a live buffer
abbrev pub byte_of : Stores → Buffer → ℕ → ℕ
byte_of stores x i = stores (page_at x (i / page_bytes)) (i % page_bytes)

-- len bytes of a live buffer from an offset on
abbrev pub bytes_of : Stores → Buffer → ℕ → ℕ → List ℕ
bytes_of stores x off len = map (byte_of stores x) (count_from 1 len off)

-- the bytes after some were put into a buffer from an offset on
abbrev pub put_bytes : Buffer → ℕ → List ℕ → Stores → Stores
put_bytes x off [] stores = stores
put_bytes x off (byte ∷ bytes) stores =
    put_bytes x (off + 1) bytes (with_bytes stores (page_at x (off / page_bytes)) (off % page_bytes) 1 (λ i. byte))

-- in the place of a packet that isn't there
abbrev pub no_packet : Packet
no_packet = packet.Probe (place.Frame 0) 0 0

-- packet k of a job
abbrev pub job_packet : Core → JobId → ℕ → Packet
job_packet c i k = unwrap_or (option_and_then (λ j. slice_get j.packets k) (find (λ j. same_job i j.id) c.jobs)) no_packet

-- ---- what an entry does to the bytes

-- the result of a write puts its bytes at the buffer's places
abbrev pub written : State → Option Command → Stores → Stores
written s (Some (command.Write b off bytes)) stores = put_bytes (buffer s b) off bytes stores
written s _ stores = stores

-- all bytes of a page
abbrev pub with_page_bytes : Page → (ℕ → ℕ) → Stores → Stores
with_page_bytes page value stores = with_bytes stores page 0 page_bytes value

-- by the state before it; all other kinds leave the bytes alone
abbrev pub stores_after : Script → State → Actor → Kind → Stores → Stores
stores_after script s who (kind.Populate b page f) stores = with_page_bytes (frame f) (λ o. 0) stores
stores_after script s who (kind.SwapIn b page k f) stores = with_page_bytes (frame f) (stores (slot k)) stores
stores_after script s who (kind.SwapOut b page k) stores = with_page_bytes (slot k) (stores (page_at (buffer s b) page)) stores
stores_after script s who (kind.Packet n k piece) stores =
    after_packet (aperture s.core) stores (job_packet s.core (record { ctx = engine_of who; num = n }) k)
stores_after script s who (kind.Result r) stores = written s (command_at_work script s (thread_of who)) stores
stores_after script s who _ stores = stores

-- ---- what an entry shows

-- the bytes that the stores have at the buffer's places
abbrev pub shown_by_read : Stores → State → Option Command → List ℕ
shown_by_read stores s (Some (command.Read b off len)) = bytes_of stores (buffer s b) off len
shown_by_read stores s _ = []

-- the showing of a result, with its bytes
abbrev pub shown_result : Stores → State → Option Command → Shown → Shown
shown_result stores s cmd (shown.Read bytes) = shown.Read (shown_by_read stores s cmd)
shown_result stores s cmd shown.Plain = shown.Plain
shown_result stores s cmd (shown.Find mem spans) = shown.Find mem spans

-- the kind with the bytes that the stores have
abbrev pub showing : Script → Stores → State → Actor → Kind → Kind
showing script stores s who (kind.Result r) = kind.Result (shown_result stores s (command_at_work script s (thread_of who)) r)
showing script stores s who (kind.Packet n k piece) =
    kind.Packet n k (probe_piece (aperture s.core) stores (job_packet s.core (record { ctx = engine_of who; num = n }) k))
showing script stores s who k = k
