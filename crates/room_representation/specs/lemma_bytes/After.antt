-- What each kind of entry does to the pool and to the swap store, and what it is to tell of the state before it.
use Rattle.std.specs.Prelude.{◌≡◌, ℕ, ◌*◌, ◌<◌, ◌==◌, Bool, List, [], Some, None, find, length, option_map, slice_get, slice_index, unwrap_or, if◌then◌else◌}
use Rattle.ttm_base.specs.declared.Actor.{Actor}
use Rattle.ttm_base.specs.declared.BufId.{BufId}
use Rattle.ttm_base.specs.declared.Loc.{Loc}
use Rattle.ttm_base.specs.declared.Loc.TheVariants as loc
use Rattle.ttm_base.specs.declared.Mem.TheVariants.{System, Tt}
use Rattle.ttm_base.specs.Pages.{PageBytes}
use Rattle.byte_store.specs.Parts.{overwritten}
use Rattle.swap_store.specs.Slots.{SwapSlots}
use Rattle.journal_model.specs.declared.entry.Kind.{Kind}
use Rattle.journal_model.specs.declared.entry.Kind.TheVariants as kind
use Rattle.journal_model.specs.declared.entry.Left.TheVariants as left
use Rattle.journal_model.specs.declared.script.Script.{Script}
use Rattle.journal_model.specs.declared.state.Buffer.{Buffer}
use Rattle.journal_model.specs.declared.state.Core.{Core}
use Rattle.journal_model.specs.declared.state.Ghost.{Ghost}
use Rattle.journal_model.specs.declared.state.State.{State}
use Rattle.journal_model.specs.rules.State.{buffer, live_in}
use Rattle.journal_model.specs.rules.Holds.{free_frame, free_slot}
use Rattle.journal_model.specs.rules.Places.{frame_of, frames_of, loc_of, page_at, slots_of}
use Rattle.laws.specs.lemma_bytes_told.Told.{IsThere}
use Rattle.room_representation.specs.lemma_bytes.GivenBack.{given, given_back, taken}
use Rattle.room_representation.specs.lemma_bytes.Tables.{SparesSlots}

-- ---- the parts after an entry

-- the frame of a page that has one
abbrev pub frame_at : Buffer → ℕ → ℕ
frame_at x page = unwrap_or (frame_of (loc_of x page)) 0

-- the frames of the ghost number `num`
abbrev pub frames_behind : ℕ → List Ghost → List ℕ
frames_behind num ghosts = unwrap_or (option_map (λ g. g.frames) (find (λ g. g.num == num) ghosts)) []

-- the pool after an entry
abbrev pub pool_after : State → Kind → List Bool → List Bool
pool_after s (kind.Populate b page f) pool = taken pool f
pool_after s (kind.SwapIn b page k f) pool = taken pool f
pool_after s (kind.SwapOut b page k) pool = given pool (frame_at (buffer s b) page)
pool_after s (kind.Depopulate b) pool = given_back pool (frames_of (buffer s b))
pool_after s (kind.Free b g) pool = if g == 0 then given_back pool (frames_of (buffer s b)) else pool
pool_after s (kind.Reap g) pool = given_back pool (frames_behind g s.core.ghosts)
pool_after s _ pool = pool

-- the swap store after an entry; a page that is swapped out leaves `page_bytes` in its slot
abbrev pub slots_after : State → Kind → List ℕ → SwapSlots → SwapSlots
slots_after s (kind.SwapIn b page k f) page_bytes swap = record { held = given swap.held k; bytes = swap.bytes }
slots_after s (kind.SwapOut b page k) page_bytes swap = record { held = taken swap.held k; bytes = overwritten swap.bytes (4096 * k) page_bytes }
slots_after s (kind.Free b g) page_bytes swap = record { held = given_back swap.held (slots_of (buffer s b)); bytes = swap.bytes }
slots_after s _ page_bytes swap = swap

-- `page_bytes` are the bytes of the page that is swapped out
abbrev pub IsSwappedOut : State → Kind → PageBytes → List ℕ → Type 0
IsSwappedOut s (kind.SwapOut b page k) bytes page_bytes = (length page_bytes ≡ 4096) × ((o : ℕ) → o < 4096 → slice_index page_bytes o ≡ bytes (page_at (buffer s b) page) o)
IsSwappedOut s _ bytes page_bytes = Unit {0}

-- ---- what an entry tells

-- the table of the live buffer `b` has `l` at page `page`
pub record HasLoc (s : State) (b : BufId) (page : ℕ) (l : Loc) : Type 0 where
  pub live : IsThere s b
  pub at : slice_get (buffer s b).table page ≡ Some l

-- a ghost is the only one of its number
pub record IsOnlyGhost (ghosts : List Ghost) (num : ℕ) : Type 0 where
  pub place : ℕ
  pub ghost : Ghost
  pub at : slice_get ghosts place ≡ Some ghost
  pub number : ghost.num ≡ num
  pub only : (k : ℕ) (g : Ghost) → slice_get ghosts k ≡ Some g → g.num ≡ num → k ≡ place

-- the table of each live buffer in TT has no slot
abbrev pub HaveNoSlotsInTt : Core → Type 0
HaveNoSlotsInTt c = (b : BufId) (x : Buffer) → live_in c.buffers b ≡ Some x → x.mem ≡ Tt → (i k : ℕ) → slice_get x.table i ≡ Some (loc.Slot k) → ⊥

-- what an entry tells of the state before it, as far as frames and slots depend on it
abbrev pub Tells : Script → State → Actor → Kind → Type 0
Tells script s who (kind.New b) = live_in s.core.buffers b ≡ None
Tells script s who (kind.Free b g) = IsThere s b
Tells script s who (kind.Populate b page f) = HasLoc s b page loc.Zero × (free_frame script s.core ≡ Some f)
Tells script s who (kind.SwapIn b page k f) = HasLoc s b page (loc.Slot k) × (free_frame script s.core ≡ Some f)
Tells script s who (kind.SwapOut b page k) = HasLoc s b page (loc.Frame (frame_at (buffer s b) page)) × (free_slot script s.core ≡ Some k) × ((buffer s b).mem ≡ System)
Tells script s who (kind.Depopulate b) = IsThere s b
Tells script s who (kind.Move b mem n l) = IsThere s b × (l ≡ left.Now → (buffer s b).mem ≡ Tt → ⊥)
Tells script s who (kind.Reap g) = IsOnlyGhost s.core.ghosts g
Tells script s who (kind.Result r) = SparesSlots script s who (kind.Result r)
Tells script s who _ = Unit {0}
