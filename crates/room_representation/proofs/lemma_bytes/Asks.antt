-- What the calls of the pool and of the swap store ask for, and what they give, where both hold what the state holds.
use Rattle.std.proofs.Common.{◌≡◌, ℕ, Bool, true, not, List, take, Some, refl, ◌∙◌, ap, ap₂}
use Rattle.std.specs.Prelude.{filter_map, position, slice_get, unwrap_or}
use Rattle.ttm_base.specs.declared.BufId.{BufId}
use Rattle.ttm_base.specs.declared.Loc.TheVariants as loc
use Rattle.ttm_base.specs.declared.Mem.TheVariants.{System}
use Rattle.ttm_base.specs.Pages.{PageBytes, frame}
use Rattle.journal_model.specs.declared.script.Script.{Script}
use Rattle.journal_model.specs.declared.state.Ghost.{Ghost}
use Rattle.journal_model.specs.declared.state.State.{State}
use Rattle.journal_model.specs.rules.State.{buffer}
use Rattle.journal_model.specs.rules.Holds.{free_frame, free_slot, held_frames, held_slots}
use Rattle.journal_model.specs.rules.Places.{frame_of, page_at, page_in, page_in_table, slot_of}
use Rattle.swap_store.specs.Slots.{SwapSlots}
use Rattle.laws.specs.law_owners.OneOwner.{HaveOneOwner}
use Rattle.room_representation.specs.Pages.{ArePooled, AreSlots}
use Rattle.room_representation.specs.lemma_bytes.GivenBack.{given_back}
use Rattle.room_representation.specs.lemma_bytes.After.{HasLoc}
use Rattle.room_representation.proofs.lemma_bytes.Lowest.{pool_first, slot_first}
use Rattle.room_representation.proofs.lemma_bytes.Walks.{frames_within, slots_within, ghost_within, list_held_still, page_held, table_held_still}

-- a swap store from its two parts
pub slots_from : (swap : SwapSlots) (held : List Bool) (bytes : List ℕ) → swap.held ≡ held → swap.bytes ≡ bytes → swap ≡ record { held = held; bytes = bytes }
slots_from swap held bytes h b = ap₂ (λ x y. let s : SwapSlots = record { held = x; bytes = y } in s) h b

-- a page of a buffer in SYSTEM stands in its frame
pub in_its_frame : (s : State) (b : BufId) (page f : ℕ) → (buffer s b).mem ≡ System → HasLoc s b page (loc.Frame f) → page_at (buffer s b) page ≡ frame f
in_its_frame s b page f m has = ap (λ l. page_in l (buffer s b) page) m ∙ ap (λ o. page_in_table (unwrap_or o loc.Zero)) has.at

module _ (script : Script) (s : State) (owned : HaveOneOwner script s.core) where
  module _ (pool : List Bool) (representation : ArePooled script.sizes.frames (held_frames s.core) pool) where
    -- the pool gives the frame of the entry
    pub pool_gives : (f : ℕ) → free_frame script s.core ≡ Some f → position not pool ≡ Some f
    pool_gives f free = pool_first script s.core pool representation ∙ free

    -- the frame of a page may be given back
    pub frame_may_go : (b : BufId) (page f : ℕ) → HasLoc s b page (loc.Frame f) → slice_get pool f ≡ Some true
    frame_may_go b page f has =
        page_held frame_of script.sizes.frames (held_frames s.core) pool representation.held_are owned.frames (buffer s b).table (frames_within s.core b (buffer s b) has.live) page (loc.Frame f) f has.at refl

    -- and in a loop along the table that of the page at hand
    pub next_frame_may_go : (b : BufId) (i f : ℕ) → HasLoc s b i (loc.Frame f) → slice_get (given_back pool (filter_map frame_of (take i (buffer s b).table))) f ≡ Some true
    next_frame_may_go b i f has =
        table_held_still frame_of script.sizes.frames (held_frames s.core) pool representation.held_are owned.frames (buffer s b).table (frames_within s.core b (buffer s b) has.live) i (loc.Frame f) f has.at refl

    -- and in a loop along the frames of a ghost the one at hand
    pub ghost_frame_may_go : (place : ℕ) (g : Ghost) (i f : ℕ) → slice_get s.core.ghosts place ≡ Some g → slice_get g.frames i ≡ Some f → slice_get (given_back pool (take i g.frames)) f ≡ Some true
    ghost_frame_may_go place g i f at here =
        list_held_still script.sizes.frames (held_frames s.core) pool representation.held_are owned.frames g.frames (ghost_within s.core place g at) i f here

  module _ (bytes : PageBytes) (swap : SwapSlots) (representation : AreSlots script.sizes.swap (held_slots s.core) bytes swap) where
    -- the swap store puts a page into the slot of the entry
    pub store_gives : (k : ℕ) → free_slot script s.core ≡ Some k → position not swap.held ≡ Some k
    store_gives k free = slot_first script s.core bytes swap representation ∙ free

    -- the slot of a page may be given back
    pub slot_may_go : (b : BufId) (page k : ℕ) → HasLoc s b page (loc.Slot k) → slice_get swap.held k ≡ Some true
    slot_may_go b page k has =
        page_held slot_of script.sizes.swap (held_slots s.core) swap.held representation.held_are owned.slots (buffer s b).table (slots_within s.core b (buffer s b) has.live) page (loc.Slot k) k has.at refl

    -- and in a loop along the table that of the page at hand
    pub next_slot_may_go : (b : BufId) (i k : ℕ) → HasLoc s b i (loc.Slot k) → slice_get (given_back swap.held (filter_map slot_of (take i (buffer s b).table))) k ≡ Some true
    next_slot_may_go b i k has =
        table_held_still slot_of script.sizes.swap (held_slots s.core) swap.held representation.held_are owned.slots (buffer s b).table (slots_within s.core b (buffer s b) has.live) i (loc.Slot k) k has.at refl
