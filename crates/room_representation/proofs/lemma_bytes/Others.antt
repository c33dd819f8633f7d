-- Entries of all other kinds leave each frame and each slot where it is, and the bytes of slots.
use Rattle.std.proofs.Common.{◌≡◌, ℕ, zero, suc, ◌+◌, ◌-◌, ◌/◌, ◌%◌, Bool, true, List, [], ◌∷◌, ◌++◌, Option, Some, None, refl, sym, subst, ◌∙◌, ap}
use Rattle.std.specs.Prelude.{◌&&◌, nat_le, nat_lt, bit_xor, filter_map, fold, replicate, slice_get, unwrap_or, if◌then◌else◌}
use Rattle.std.specs.List.{cons_option, list_all}
use Rattle.std.proofs.lemmas.Bool.{and_parts, ne_eqb}
use Rattle.ttm_base.specs.declared.Actor.{Actor}
use Rattle.ttm_base.specs.declared.BufId.{BufId}
use Rattle.ttm_base.specs.declared.JobId.{JobId}
use Rattle.ttm_base.specs.declared.Loc.{Loc}
use Rattle.ttm_base.specs.declared.Loc.TheVariants as loc
use Rattle.ttm_base.specs.declared.Mem.{Mem}
use Rattle.ttm_base.specs.declared.Mem.TheVariants.{System, Tt, Vram}
use Rattle.ttm_base.specs.declared.Op.{Op}
use Rattle.ttm_base.specs.declared.Packet.{Packet}
use Rattle.ttm_base.specs.declared.Packet.TheVariants as packet
use Rattle.ttm_base.specs.declared.PagePlace.{PagePlace}
use Rattle.ttm_base.specs.declared.PagePlace.TheVariants as place
use Rattle.ttm_base.specs.declared.Usage.TheVariants as usage
use Rattle.ttm_base.specs.Packets.{after_packet}
use Rattle.ttm_base.specs.Pages.{Page, nowhere, vram, frame, slot, PageBytes, Aperture, mapped_page, translated, with_bytes}
use Rattle.journal_model.specs.declared.entry.Kind.{Kind}
use Rattle.journal_model.specs.declared.entry.Kind.TheVariants as kind
use Rattle.journal_model.specs.declared.script.Command.{Command}
use Rattle.journal_model.specs.declared.script.Command.TheVariants as command
use Rattle.journal_model.specs.declared.script.Script.{Script}
use Rattle.journal_model.specs.declared.state.Buffer.{Buffer}
use Rattle.journal_model.specs.declared.state.Core.{Core}
use Rattle.journal_model.specs.declared.state.State.{State}
use Rattle.journal_model.specs.rules.State.{buffer, changed, live_in, new_buffer, with_buffers}
use Rattle.journal_model.specs.rules.Apply.{applied, engine_of, thread_of}
use Rattle.journal_model.specs.rules.ApplyCommands.{after_new, named_in}
use Rattle.journal_model.specs.rules.ApplyJobs.{ops_of, with_use}
use Rattle.journal_model.specs.rules.ApplyPages.{bound, unbound, with_fence, with_kernel_fences, with_spans}
use Rattle.journal_model.specs.rules.ApplyVictims.{leaves_tt}
use Rattle.journal_model.specs.rules.Commands.{command_at_work, decl}
use Rattle.journal_model.specs.rules.Holds.{ghost_frames, held_frames, held_slots}
use Rattle.journal_model.specs.rules.Places.{aperture, frame_of, frames_of, page_at, page_in, page_in_table, page_in_vram, pages_of, slot_of, slots_of, is_frame}
use Rattle.journal_model.specs.rules.Ready.{has_all_frames}
use Rattle.journal_model.specs.rules.Stores.{job_packet, put_bytes, stores_after, within, written}
use Rattle.journal_model.specs.rules.Waits.{jobs_before_target, use_of}
use Rattle.swap_store.specs.Slots.{SwapSlots}
use Rattle.laws.proofs.law_owners.Counts.{times}
use Rattle.room_representation.specs.Pages.{ArePooled, AreSlots}
use Rattle.room_representation.specs.lemma_bytes.Tables.{keeps_tables, HoldsTheSame, IsOffSlots, SparesSlots}
use Rattle.room_representation.proofs.lemma_bytes.Held.{of_live, live_made, live_same, frames_kept, slots_kept}
use Rattle.room_representation.proofs.lemma_bytes.Slots.{slots_same}

-- ---- which frames and slots are held

fenced_table : (jobs : List JobId) (x : Buffer) → (with_kernel_fences jobs x).table ≡ x.table
fenced_table [] x = refl
fenced_table (j ∷ jobs) x = fenced_table jobs (with_fence j usage.Kernel x)

caught_table : (mem : Mem) (x : Buffer) → (leaves_tt mem x).table ≡ x.table
caught_table Tt x = refl
caught_table Vram x = refl
caught_table System x = refl

-- a change that leaves the table
changed_same : (g : Buffer → Buffer) → ((x : Buffer) → (g x).table ≡ x.table) → (c : Core) (b : BufId) → HoldsTheSame c (with_buffers (changed g c.buffers b) c)
changed_same g keeps c b = record { frames = frames_kept g keeps c b; slots = slots_kept g keeps c b }

used_same : (see : Buffer → List ℕ) → ((x y : Buffer) → x.table ≡ y.table → see x ≡ see y) → (job : JobId) (ops : List Op) (bs : List BufId) (xs : List (Option Buffer)) →
    of_live see 0 (fold (with_use job ops) xs bs) ≡ of_live see 0 xs
used_same see alike job ops [] xs = refl
used_same see alike job ops (b ∷ bs) xs =
    used_same see alike job ops bs (with_use job ops xs b)
    ∙ live_same see (with_fence job (use_of ops b)) (λ x. alike (with_fence job (use_of ops b) x) x refl) 0 xs b.0

fresh : (see : Loc → Option ℕ) → see loc.Zero ≡ None → (pages : ℕ) → filter_map see (replicate pages loc.Zero) ≡ []
fresh see h zero = refl
fresh see h (suc pages) = ap (λ o. cons_option o (filter_map see (replicate pages loc.Zero))) h ∙ fresh see h pages

-- a buffer that is made holds none
pub new_same : (script : Script) (s : State) (t : ℕ) (b : BufId) → live_in s.core.buffers b ≡ None → HoldsTheSame s.core (after_new script s t b).core
new_same script s t b dead = record {
  frames = ap (λ ns. ns ++ ghost_frames s.core) (live_made frames_of (new_buffer (decl script b).pages) (fresh frame_of refl (decl script b).pages) 0 s.core.buffers b.0 dead);
  slots = live_made slots_of (new_buffer (decl script b).pages) (fresh slot_of refl (decl script b).pages) 0 s.core.buffers b.0 dead;
}

-- entries of all other kinds leave each where it is
pub others_same : (script : Script) (s : State) (who : Actor) (k : Kind) → keeps_tables k ≡ true → HoldsTheSame s.core (applied script s who k).core
others_same script s who (kind.New b) h = cc
others_same script s who (kind.Free b g) h = cc
others_same script s who (kind.Populate b page f) h = cc
others_same script s who (kind.SwapIn b page k f) h = cc
others_same script s who (kind.Depopulate b) h = cc
others_same script s who (kind.Move b mem n l) h = cc
others_same script s who (kind.SwapOut b page k) h = cc
others_same script s who (kind.Reap g) h = cc
others_same script s who (kind.Take b mem spans) h =
    changed_same (λ x. with_kernel_fences (jobs_before_target s.core mem) (with_spans mem (Some spans) x)) (λ x. fenced_table (jobs_before_target s.core mem) (with_spans mem (Some spans) x)) s.core b
others_same script s who (kind.Untake b mem) h = changed_same (with_spans mem None) (λ x. refl) s.core b
others_same script s who (kind.Bind b) h = changed_same bound (λ x. refl) s.core b
others_same script s who (kind.Unbind b) h = changed_same unbound (λ x. refl) s.core b
others_same script s who (kind.Catch b w) h = changed_same (λ x. leaves_tt x.mem x) (λ x. caught_table x.mem x) s.core b
others_same script s who (kind.Arm engine n) h =
    let cmd = command_at_work script s (thread_of who) in
    let job : JobId = record { ctx = engine; num = n } in
    record {
      frames = ap (λ ns. ns ++ ghost_frames s.core) (used_same frames_of (λ x y e. ap (filter_map frame_of) e) job (ops_of cmd) (named_in cmd) s.core.buffers);
      slots = used_same slots_of (λ x y e. ap (filter_map slot_of) e) job (ops_of cmd) (named_in cmd) s.core.buffers;
    }
others_same script s who k h = record { frames = refl; slots = refl }

-- the pool stays
pub pool_stays : (size : ℕ) (old new : Core) (pool : List Bool) → HoldsTheSame old new → ArePooled size (held_frames old) pool → ArePooled size (held_frames new) pool
pool_stays size old new pool same representation = subst (λ ns. ArePooled size ns pool) (sym same.frames) representation

-- ---- the bytes of slots

off_slot : (a : PageBytes) (k o : ℕ) (at : Page) (off len : ℕ) (f : ℕ → ℕ) → (at ≡ slot k → ⊥) → with_bytes a at off len f (slot k) o ≡ a (slot k) o
off_slot a k o nowhere off len f ne = refl
off_slot a k o (vram p) off len f ne = refl
off_slot a k o (frame p) off len f ne = refl
off_slot a k o (slot p) off len f ne = ap (λ q. if q && nat_le off o && nat_lt o (off + len) then f (o - off) else a (slot k) o) (ne_eqb k p (λ e. ne (ap slot (sym e))))

-- no packet names a slot
no_slot : (aper : Aperture) (p : PagePlace) (k : ℕ) → translated aper p ≡ slot k → ⊥
no_slot aper (place.Vram p) k e = cc
no_slot aper (place.Frame f) k e = cc
no_slot aper (place.Aper p) k e = by (aper p) e
  where
    by : (o : Option ℕ) → mapped_page o ≡ slot k → ⊥
    by None e = cc
    by (Some f) e = cc

packet_spares : (aper : Aperture) (a : PageBytes) (q : Packet) (k o : ℕ) → after_packet aper a q (slot k) o ≡ a (slot k) o
packet_spares aper a (packet.Fill to off len byte) k o = off_slot a k o (translated aper to) off len (λ i. byte) (no_slot aper to k)
packet_spares aper a (packet.Copy to toff from foff len) k o = off_slot a k o (translated aper to) toff len (λ i. a (translated aper from) (foff + i)) (no_slot aper to k)
packet_spares aper a (packet.Xor to toff from foff len) k o =
    off_slot a k o (translated aper to) toff len (λ i. bit_xor (a (translated aper to) (toff + i)) (a (translated aper from) (foff + i))) (no_slot aper to k)
packet_spares aper a (packet.Probe from off len) k o = refl

put_spares : (x : Buffer) → IsOffSlots x → (off : ℕ) (values : List ℕ) (a : PageBytes) (k o : ℕ) → put_bytes x off values a (slot k) o ≡ a (slot k) o
put_spares x off_slots off [] a k o = refl
put_spares x off_slots off (v ∷ values) a k o =
    put_spares x off_slots (off + 1) values (with_bytes a (page_at x (off / 4096)) (off % 4096) 1 (λ i. v)) k o
    ∙ off_slot a k o (page_at x (off / 4096)) (off % 4096) 1 (λ i. v) (off_slots (off / 4096) k)

-- in VRAM, or where each page has a frame, no page stands in a slot
pub filled_off_slots : (x : Buffer) → ((x.mem ≡ Vram → ⊥) → has_all_frames x ≡ true) → IsOffSlots x
filled_off_slots x full i k e = by x.mem refl e
  where
    in_vram : (o : Option ℕ) → page_in_vram o ≡ slot k → ⊥
    in_vram None e = cc
    in_vram (Some p) e = cc

    in_table : (table : List Loc) (i : ℕ) → list_all is_frame table ≡ true → page_in_table (unwrap_or (slice_get table i) loc.Zero) ≡ slot k → ⊥
    in_table [] i h e = cc
    in_table (loc.Frame f ∷ table) zero h e = cc
    in_table (loc.Slot j ∷ table) zero h e = cc
    in_table (loc.Zero ∷ table) zero h e = cc
    in_table (l ∷ table) (suc i) h e = in_table table i (and_parts (is_frame l) (list_all is_frame table) h).1 e

    by : (m : Mem) → x.mem ≡ m → page_in m x i ≡ slot k → ⊥
    by Vram q e = in_vram (slice_get (pages_of x.spans) i) e
    by Tt q e = in_table x.table i (full (λ v. (let z : Tt ≡ Vram = sym q ∙ v in cc))) e
    by System q e = in_table x.table i (full (λ v. (let z : System ≡ Vram = sym q ∙ v in cc))) e

-- entries of other kinds leave the bytes of slots
pub others_quiet : (script : Script) (s : State) (who : Actor) (k : Kind) (bytes : PageBytes) → keeps_tables k ≡ true → SparesSlots script s who k → (j o : ℕ) →
    stores_after script s who k bytes (slot j) o ≡ bytes (slot j) o
others_quiet script s who (kind.New b) bytes h spares j o = refl
others_quiet script s who (kind.Free b g) bytes h spares j o = refl
others_quiet script s who (kind.Populate b page f) bytes h spares j o = cc
others_quiet script s who (kind.SwapIn b page k f) bytes h spares j o = cc
others_quiet script s who (kind.SwapOut b page k) bytes h spares j o = cc
others_quiet script s who (kind.Packet n k piece) bytes h spares j o =
    packet_spares (aperture s.core) bytes (job_packet s.core (record { ctx = engine_of who; num = n }) k) j o
others_quiet script s who (kind.Result r) bytes h spares j o = by (command_at_work script s (thread_of who)) refl
  where
    by : (cmd : Option Command) → command_at_work script s (thread_of who) ≡ cmd → written s cmd bytes (slot j) o ≡ bytes (slot j) o
    by None e = refl
    by (Some (command.Write b off values)) e = put_spares (buffer s b) (spares b off values e) off values bytes j o
    by (Some cmd) e = refl
others_quiet script s who k bytes h spares j o = refl

-- the swap store stays, after each entry of another kind
pub slots_stay : (script : Script) (s : State) (who : Actor) (k : Kind) (bytes : PageBytes) (swap : SwapSlots) → keeps_tables k ≡ true → SparesSlots script s who k →
    AreSlots script.sizes.swap (held_slots s.core) bytes swap → AreSlots script.sizes.swap (held_slots (applied script s who k).core) (within script.sizes (stores_after script s who k bytes)) swap
slots_stay script s who k bytes swap h spares representation =
    slots_same script (held_slots s.core) bytes swap representation (held_slots (applied script s who k).core) (stores_after script s who k bytes) (others_quiet script s who k bytes h spares)
    (λ n. ap (times n) (others_same script s who k h).slots)

-- and after one that makes a buffer
pub new_slots : (script : Script) (s : State) (who : Actor) (b : BufId) (bytes : PageBytes) (swap : SwapSlots) → live_in s.core.buffers b ≡ None →
    AreSlots script.sizes.swap (held_slots s.core) bytes swap → AreSlots script.sizes.swap (held_slots (applied script s who (kind.New b)).core) (within script.sizes (stores_after script s who (kind.New b) bytes)) swap
new_slots script s who b bytes swap dead representation =
    slots_same script (held_slots s.core) bytes swap representation (held_slots (applied script s who (kind.New b)).core) bytes (λ j o. refl) (λ n. ap (times n) (new_same script s (thread_of who) b dead).slots)
