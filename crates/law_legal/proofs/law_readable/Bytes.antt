-- All bytes of the stores are below 256, so what entries show are bytes.
use Rattle.std.proofs.Common.{◌≡◌, ℕ, ◌+◌, ◌-◌, ◌/◌, ◌%◌, ◌<◌, Bool, true, false, List, [], ◌∷◌, Option, Some, None, refl, arith}
use Rattle.std.specs.Prelude.{slice_get, find, option_and_then, unwrap_or, bit_xor, nat_lt, nat_le, ◌&&◌, if◌then◌else◌}
use Rattle.std.specs.List.{list_all}
use Rattle.std.proofs.lemmas.Bool.{and_parts}
use Rattle.std.proofs.lemmas.Nat.{xor_of_8}
use Rattle.ttm_base.specs.ListWords.{count_from}
use Rattle.ttm_base.specs.Pages.{Page, frame, slot, Aperture, same_page, with_bytes, read_bytes, translated}
use Rattle.ttm_base.specs.Packets.{after_packet, probe_piece}
use Rattle.ttm_base.specs.declared.JobId.{JobId}
use Rattle.ttm_base.specs.declared.Packet.{Packet}
use Rattle.ttm_base.specs.declared.Packet.TheVariants as packet
use Rattle.ttm_base.specs.declared.Actor.{Actor}
use Rattle.journal_model.specs.declared.script.Script.{Script}
use Rattle.journal_model.specs.declared.script.Sizes.{Sizes}
use Rattle.journal_model.specs.declared.script.Command.{Command}
use Rattle.journal_model.specs.declared.script.Command.TheVariants as command
use Rattle.journal_model.specs.declared.state.State.{State}
use Rattle.journal_model.specs.declared.state.Buffer.{Buffer}
use Rattle.journal_model.specs.declared.state.Job.{Job}
use Rattle.journal_model.specs.declared.entry.Kind.{Kind}
use Rattle.journal_model.specs.declared.entry.Kind.TheVariants as kind
use Rattle.journal_model.specs.declared.entry.Shown.{Shown}
use Rattle.journal_model.specs.declared.entry.Shown.TheVariants as shown
use Rattle.journal_model.specs.rules.State.{buffer}
use Rattle.journal_model.specs.rules.Commands.{command_at_work}
use Rattle.journal_model.specs.scripts.CommandRules.{is_byte, is_command}
use Rattle.journal_model.specs.rules.Places.{page_at, aperture}
use Rattle.journal_model.specs.rules.Waits.{same_job}
use Rattle.journal_model.specs.rules.Apply.{thread_of, engine_of}
use Rattle.journal_model.specs.rules.Stores.{Stores, is_there, within, byte_of, put_bytes, no_packet, job_packet, written, stores_after, shown_by_read, shown_result, showing}
use Rattle.journal_model.specs.scripts.Readable.{are_bytes, is_kind, is_shown, is_u32, is_u64}
use Rattle.laws.proofs.law_state.JobNames.{found_at}
use Rattle.laws.proofs.law_state.Rules.{Rules, at_work_rules}
use Rattle.law_legal.proofs.law_readable.Tests.{joint, byte, below_256, all_mapped, all_got}
use Rattle.law_legal.proofs.law_readable.Typed.{is_packet, ArePackets}

abbrev pub AreBytes : Stores → Type 0
AreBytes stores = (p : Page) (o : ℕ) → stores p o < 256

-- ---- writing

chosen : (q : Bool) (a b : ℕ) → a < 256 → b < 256 → (if q then a else b) < 256
chosen true a b h k = h
chosen false a b h k = k

put : (stores : Stores) (page : Page) (off len : ℕ) (value : ℕ → ℕ) → ((i : ℕ) → value i < 256) → AreBytes stores → AreBytes (with_bytes stores page off len value)
put stores page off len value v h p o = chosen (same_page p page && nat_le off o && nat_lt o (off + len)) (value (o - off)) (stores p o) (v (o - off)) (h p o)

packet_bytes : (aper : Aperture) (stores : Stores) (p : Packet) → is_packet p ≡ true → AreBytes stores → AreBytes (after_packet aper stores p)
packet_bytes aper stores (packet.Fill to off len b) k h = put stores (translated aper to) off len (λ i. b) (λ i. below_256 b k) h
packet_bytes aper stores (packet.Copy to toff from foff len) k h = put stores (translated aper to) toff len (λ i. stores (translated aper from) (foff + i)) (λ i. h (translated aper from) (foff + i)) h
packet_bytes aper stores (packet.Xor to toff from foff len) k h =
    put stores (translated aper to) toff len (λ i. bit_xor (stores (translated aper to) (toff + i)) (stores (translated aper from) (foff + i)))
    (λ i. xor_of_8 (stores (translated aper to) (toff + i)) (stores (translated aper from) (foff + i)) (h (translated aper to) (toff + i)) (h (translated aper from) (foff + i))) h
packet_bytes aper stores (packet.Probe from off len) k h = h

put_all : (x : Buffer) (off : ℕ) (bytes : List ℕ) (stores : Stores) → list_all is_byte bytes ≡ true → AreBytes stores → AreBytes (put_bytes x off bytes stores)
put_all x off [] stores k h = h
put_all x off (b ∷ bytes) stores k h =
    let p = and_parts (is_byte b) (list_all is_byte bytes) k in
    put_all x (off + 1) bytes (with_bytes stores (page_at x (off / 4096)) (off % 4096) 1 (λ i. b)) p.1
    (put stores (page_at x (off / 4096)) (off % 4096) 1 (λ i. b) (λ i. below_256 b p.0) h)

written_bytes : (script : Script) → Rules script → (s : State) (t : ℕ) (stores : Stores) → AreBytes stores → AreBytes (written s (command_at_work script s t) stores)
written_bytes script r s t stores h = by (command_at_work script s t) (λ cmd e. (at_work_rules script r s t cmd e).command)
  where
    by : (o : Option Command) → ((cmd : Command) → o ≡ Some cmd → is_command script cmd ≡ true) → AreBytes (written s o stores)
    by (Some (command.Write b off bytes)) k = put_all (buffer s b) off bytes stores (and_parts _ (list_all is_byte bytes) (k (command.Write b off bytes) refl)).1 h
    by o k = h

-- a packet of a job, or the one in its place
packet_is : (s : State) → ArePackets s.core.jobs → (i : JobId) (k : ℕ) → is_packet (job_packet s.core i k) ≡ true
packet_is s h i k = by (find (λ j. same_job i j.id) s.core.jobs) (λ j e. let f = found_at (λ j. same_job i j.id) s.core.jobs j e in h f.0 j f.1)
  where
    by : (o : Option Job) → ((j : Job) → o ≡ Some j → list_all is_packet j.packets ≡ true) → is_packet (unwrap_or (option_and_then (λ j. slice_get j.packets k) o) no_packet) ≡ true
    by None g = refl
    by (Some j) g = all_got is_packet j.packets k no_packet refl (g j refl)

zero_byte : 0 < 256
zero_byte = omega arith

kind_bytes : (script : Script) → Rules script → (s : State) (who : Actor) (k : Kind) (stores : Stores) → ArePackets s.core.jobs → AreBytes stores → AreBytes (stores_after script s who k stores)
kind_bytes script r s who (kind.Populate b page f) stores j h = put stores (frame f) 0 4096 (λ o. 0) (λ i. zero_byte) h
kind_bytes script r s who (kind.SwapIn b page k f) stores j h = put stores (frame f) 0 4096 (stores (slot k)) (h (slot k)) h
kind_bytes script r s who (kind.SwapOut b page k) stores j h = put stores (slot k) 0 4096 (stores (page_at (buffer s b) page)) (h (page_at (buffer s b) page)) h
kind_bytes script r s who (kind.Packet n k piece) stores j h =
    packet_bytes (aperture s.core) stores (job_packet s.core (record { ctx = engine_of who; num = n }) k) (packet_is s j (record { ctx = engine_of who; num = n }) k) h
kind_bytes script r s who (kind.Result x) stores j h = written_bytes script r s (thread_of who) stores h
kind_bytes script r s who k stores j h = h

within_bytes : (sizes : Sizes) (stores : Stores) → AreBytes stores → AreBytes (within sizes stores)
within_bytes sizes stores h p o = chosen (is_there sizes p && nat_lt o 4096) (stores p o) 0 (h p o) zero_byte

pub bytes_keep : (script : Script) → Rules script → (s : State) (who : Actor) (k : Kind) (stores : Stores) → ArePackets s.core.jobs → AreBytes stores → AreBytes (within script.sizes (stores_after script s who k stores))
bytes_keep script r s who k stores j h = within_bytes script.sizes (stores_after script s who k stores) (kind_bytes script r s who k stores j h)

-- ---- showing

read_bytes_are : (stores : Stores) (page : Page) (off len : ℕ) → AreBytes stores → are_bytes (read_bytes stores page off len) ≡ true
read_bytes_are stores page off len h = all_mapped is_byte (stores page) (λ o. byte (stores page o) (h page o)) (count_from 1 len off)

piece_is : (aper : Aperture) (stores : Stores) (p : Packet) → AreBytes stores → are_bytes (probe_piece aper stores p) ≡ true
piece_is aper stores (packet.Fill to off len b) h = refl
piece_is aper stores (packet.Copy to toff from foff len) h = refl
piece_is aper stores (packet.Xor to toff from foff len) h = refl
piece_is aper stores (packet.Probe from off len) h = read_bytes_are stores (translated aper from) off len h

shown_bytes : (stores : Stores) (s : State) (o : Option Command) → AreBytes stores → are_bytes (shown_by_read stores s o) ≡ true
shown_bytes stores s None h = refl
shown_bytes stores s (Some (command.Read b off len)) h =
    all_mapped is_byte (byte_of stores (buffer s b)) (λ i. byte (byte_of stores (buffer s b) i) (h (page_at (buffer s b) (i / 4096)) (i % 4096))) (count_from 1 len off)
shown_bytes stores s (Some cmd) h = refl

result_is : (stores : Stores) (s : State) (o : Option Command) (x : Shown) → is_shown x ≡ true → AreBytes stores → is_shown (shown_result stores s o x) ≡ true
result_is stores s o shown.Plain k h = refl
result_is stores s o (shown.Read bytes) k h = shown_bytes stores s o h
result_is stores s o (shown.Find mem spans) k h = k

-- an entry stays readable with the bytes that it shows
pub shown_readable : (script : Script) (stores : Stores) (s : State) (who : Actor) (k : Kind) → AreBytes stores → is_kind script k ≡ true → is_kind script (showing script stores s who k) ≡ true
shown_readable script stores s who (kind.Result x) h q = result_is stores s (command_at_work script s (thread_of who)) x q h
shown_readable script stores s who (kind.Packet n k piece) h q =
    joint (is_u64 n && is_u32 k) (are_bytes (probe_piece (aperture s.core) stores (job_packet s.core (record { ctx = engine_of who; num = n }) k))) (and_parts (is_u64 n && is_u32 k) (are_bytes piece) q).0
    (piece_is (aperture s.core) stores (job_packet s.core (record { ctx = engine_of who; num = n }) k) h)
shown_readable script stores s who k h q = q
