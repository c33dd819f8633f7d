-- The swap store after each entry that changes tables, on the state and the bytes that the entry leaves.
use Rattle.std.proofs.Common.{◌≡◌, ℕ, ◌+◌, ◌*◌, ◌<◌, List, length, Some, refl, ap, arith}
use Rattle.std.specs.Prelude.{filter_map, slice_get, slice_index}
use Rattle.ttm_base.specs.declared.BufId.{BufId}
use Rattle.ttm_base.specs.declared.Actor.{Actor}
use Rattle.ttm_base.specs.declared.Loc.{Loc}
use Rattle.ttm_base.specs.declared.Loc.TheVariants as loc
use Rattle.ttm_base.specs.declared.Mem.{Mem}
use Rattle.ttm_base.specs.declared.Mem.TheVariants.{System, Tt, Vram}
use Rattle.ttm_base.specs.Pages.{PageBytes}
use Rattle.byte_store.specs.Parts.{overwritten}
use Rattle.journal_model.specs.declared.entry.Kind.TheVariants as kind
use Rattle.journal_model.specs.declared.entry.Left.{Left}
use Rattle.journal_model.specs.declared.script.Script.{Script}
use Rattle.journal_model.specs.declared.state.Buffer.{Buffer}
use Rattle.journal_model.specs.declared.state.State.{State}
use Rattle.journal_model.specs.rules.State.{buffer, changed, with_buffers}
use Rattle.journal_model.specs.rules.Holds.{free_slot, held_slots}
use Rattle.journal_model.specs.rules.Places.{page_at, slot_of, slots_of}
use Rattle.journal_model.specs.rules.ApplyPages.{after_populate, after_swap_in, after_swap_out, after_depopulate, with_loc, without_frames}
use Rattle.journal_model.specs.rules.ApplyMoves.{after_move, moved, table_left}
use Rattle.journal_model.specs.rules.ApplyCommands.{after_free}
use Rattle.journal_model.specs.rules.ApplyJobs.{after_reap}
use Rattle.journal_model.specs.rules.Stores.{within, stores_after}
use Rattle.swap_store.specs.Slots.{SwapSlots}
use Rattle.laws.proofs.law_owners.Counts.{times}
use Rattle.laws.proofs.law_owners.Keeps.{in_loc}
use Rattle.laws.specs.law_owners.OneOwner.{AreOwned}
use Rattle.laws.specs.lemma_bytes_told.Told.{IsThere}
use Rattle.room_representation.specs.Pages.{AreSlots}
use Rattle.room_representation.specs.lemma_bytes.GivenBack.{given, given_back, taken, slots_left}
use Rattle.room_representation.proofs.lemma_bytes.Held.{slots_changed, slots_gone, table_set, emptied_slots, zeros_hold_none}
use Rattle.room_representation.proofs.lemma_bytes.Lowest.{lowest_is_unheld}
use Rattle.room_representation.proofs.lemma_bytes.Slots.{slots_same, slots_less, slots_without, slots_more}

module _ (script : Script) (s : State) (who : Actor) (bytes : PageBytes) (swap : SwapSlots) (representation : AreSlots script.sizes.swap (held_slots s.core) bytes swap) where
  -- a ghost that is reaped holds no slot
  pub reap_slots : (g : ℕ) → AreSlots script.sizes.swap (held_slots (after_reap s g).core) (within script.sizes (stores_after script s who (kind.Reap g) bytes)) swap
  reap_slots g = slots_same script (held_slots s.core) bytes swap representation (held_slots (after_reap s g).core) bytes (λ k o. refl) (λ n. refl)

  module _ (b : BufId) (live : IsThere s b) where
    abbrev x : Buffer
    x = buffer s b

    page_changed : (page n : ℕ) (old l : Loc) → slice_get x.table page ≡ Some old →
        times n (held_slots (with_buffers (changed (with_loc page l) s.core.buffers b) s.core)) + in_loc slot_of n old ≡ times n (held_slots s.core) + in_loc slot_of n l
    page_changed page n old l at =
        let all = slots_changed s.core b x live (with_loc page l) n in
        let one = table_set slot_of n x.table page old l at in
        omega (arith, all, one)

    -- a page with nothing in it gets a frame
    pub populate_slots : (page f : ℕ) → slice_get x.table page ≡ Some loc.Zero →
        AreSlots script.sizes.swap (held_slots (after_populate s b page f).core) (within script.sizes (stores_after script s who (kind.Populate b page f) bytes)) swap
    populate_slots page f at =
        slots_same script (held_slots s.core) bytes swap representation (held_slots (after_populate s b page f).core) (stores_after script s who (kind.Populate b page f) bytes) (λ k o. refl)
        (λ n. let all = page_changed page n loc.Zero (loc.Frame f) at in omega (arith, all))

    -- a page gets a frame in the place of its slot, which is given back
    pub swap_in_slots : (page k f : ℕ) → AreOwned script.sizes.swap (held_slots s.core) → slice_get x.table page ≡ Some (loc.Slot k) →
        AreSlots script.sizes.swap (held_slots (after_swap_in s b page f).core) (within script.sizes (stores_after script s who (kind.SwapIn b page k f) bytes)) (record { held = given swap.held k; bytes = swap.bytes })
    swap_in_slots page k f owned at =
        slots_less script (held_slots s.core) bytes swap representation (held_slots (after_swap_in s b page f).core) (stores_after script s who (kind.SwapIn b page k f) bytes) (λ j o. refl) k owned
        (λ n. let all = page_changed page n (loc.Slot k) (loc.Frame f) at in omega (arith, all))

    -- a page gets the lowest free slot in the place of its frame, and its bytes are put there
    pub swap_out_slots : (page f k : ℕ) (copy : List ℕ) → slice_get x.table page ≡ Some (loc.Frame f) → free_slot script s.core ≡ Some k →
        length copy ≡ 4096 → length swap.bytes ≡ 4096 * length swap.held → ((o : ℕ) → o < 4096 → slice_index copy o ≡ bytes (page_at x page) o) →
        AreSlots script.sizes.swap (held_slots (after_swap_out s b page k).core) (within script.sizes (stores_after script s who (kind.SwapOut b page k) bytes))
        (record { held = taken swap.held k; bytes = overwritten swap.bytes (4096 * k) copy })
    swap_out_slots page f k copy at free whole long same =
        slots_more script (held_slots s.core) bytes swap representation (held_slots (after_swap_out s b page k).core) k copy (bytes (page_at x page)) (lowest_is_unheld (held_slots s.core) script.sizes.swap k free).1 whole long same
        (λ n. let all = page_changed page n (loc.Frame f) (loc.Slot k) at in omega (arith, all))

    -- frames that are given back are no slots
    pub depopulate_slots : AreSlots script.sizes.swap (held_slots (after_depopulate s b).core) (within script.sizes (stores_after script s who (kind.Depopulate b) bytes)) swap
    depopulate_slots =
        slots_same script (held_slots s.core) bytes swap representation (held_slots (after_depopulate s b).core) bytes (λ k o. refl)
        (λ n.
        let all = slots_changed s.core b x live without_frames n in
        let same = ap (times n) (emptied_slots x.table) in
        omega (arith, all, same))

    -- a freed buffer gives its slots back, also where a ghost keeps its frames
    pub free_slots : (t g : ℕ) → AreOwned script.sizes.swap (held_slots s.core) →
        AreSlots script.sizes.swap (held_slots (after_free s t b g).core) (within script.sizes (stores_after script s who (kind.Free b g) bytes)) (record { held = given_back swap.held (slots_of x); bytes = swap.bytes })
    free_slots t g owned =
        slots_without script (held_slots s.core) bytes swap representation (held_slots (after_free s t b g).core) bytes (λ k o. refl) (slots_of x) owned
        (λ n. let all = slots_gone s.core b x live n in omega (arith, all))

    left_or_kept : (mem : Mem) (n : ℕ) → times n (filter_map slot_of (table_left mem x.table)) + times n (slots_left mem x) ≡ times n (slots_of x)
    left_or_kept Tt n = let none = ap (times n) (zeros_hold_none slot_of refl x.table) in omega (arith, none)
    left_or_kept Vram n = omega arith
    left_or_kept System n = omega arith

    -- a move leaves slots, out of TT alone, where a full table has none
    pub move_slots : (mem : Mem) (num : ℕ) (l : Left) → AreOwned script.sizes.swap (held_slots s.core) →
        AreSlots script.sizes.swap (held_slots (after_move script s b mem num l).core) (within script.sizes (stores_after script s who (kind.Move b mem num l) bytes))
        (record { held = given_back swap.held (slots_left x.mem x); bytes = swap.bytes })
    move_slots mem num l owned =
        slots_without script (held_slots s.core) bytes swap representation (held_slots (after_move script s b mem num l).core) bytes (λ k o. refl) (slots_left x.mem x) owned
        (λ n.
        let all = slots_changed s.core b x live (moved mem (record { ctx = 0; num = num })) n in
        let parts = left_or_kept x.mem n in
        omega (arith, all, parts))
