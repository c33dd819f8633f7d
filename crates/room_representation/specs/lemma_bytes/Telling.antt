-- What a legal entry tells of the state before it, as far as the stores depend on it.
use Rattle.std.specs.Prelude.{◌≡◌, ℕ, ◌<◌, Some, None}
use Rattle.ttm_base.specs.declared.Mem.{Mem}
use Rattle.ttm_base.specs.declared.Mem.TheVariants.{System, Tt, Vram}
use Rattle.ttm_base.specs.declared.BufId.{BufId}
use Rattle.ttm_base.specs.declared.Loc.TheVariants as loc
use Rattle.journal_model.specs.declared.script.Script.{Script}
use Rattle.journal_model.specs.declared.entry.Kind.{Kind}
use Rattle.journal_model.specs.declared.entry.Kind.TheVariants as kind
use Rattle.journal_model.specs.declared.entry.Left.{Left}
use Rattle.journal_model.specs.declared.entry.Left.TheVariants as left
use Rattle.journal_model.specs.declared.state.State.{State}
use Rattle.journal_model.specs.rules.State.{buffer, live_in}
use Rattle.journal_model.specs.rules.Places.{loc_of}
use Rattle.room_representation.specs.lemma_bytes.Mapped.{IsFull}

-- buffer `b` is live and stands outside TT
pub record IsOutside (s : State) (b : BufId) : Type 0 where
  pub live : live_in s.core.buffers b ≡ Some (buffer s b)
  pub out : (buffer s b).mem ≡ Tt → ⊥

-- a page of buffer `b`, which stands outside TT, gets frame `f`
pub record GetsFrame (script : Script) (s : State) (b : BufId) (f : ℕ) : Type 0 where
  pub outside : IsOutside s b
  pub frame : f < script.sizes.frames

-- page `page` of buffer `b` gets frame `f` in the place of slot `k`
pub record LeavesSlot (script : Script) (s : State) (b : BufId) (page k f : ℕ) : Type 0 where
  pub gets : GetsFrame script s b f
  pub at : loc_of (buffer s b) page ≡ loc.Slot k

-- the live buffer `b` with all its frames comes to TT from the memory type `from`
pub record ComesIn (s : State) (b : BufId) (from : Mem) : Type 0 where
  pub live : live_in s.core.buffers b ≡ Some (buffer s b)
  pub mem : (buffer s b).mem ≡ from
  pub full : IsFull (buffer s b).table

-- a move goes to TT from VRAM, or to VRAM with a ghost
abbrev pub MoveTells : State → BufId → Mem → Left → Type 0
MoveTells s b Tt l = ComesIn s b Vram
MoveTells s b Vram left.Now = ⊥
MoveTells s b Vram (left.Ghost g) = live_in s.core.buffers b ≡ Some (buffer s b)
MoveTells s b System l = ⊥

-- what an entry of the kind tells
abbrev pub Tells : Script → State → Kind → Type 0
Tells script s (kind.New b) = live_in s.core.buffers b ≡ None
Tells script s (kind.Free b g) = live_in s.core.buffers b ≡ Some (buffer s b)
Tells script s (kind.Populate b page f) = GetsFrame script s b f
Tells script s (kind.SwapIn b page k f) = LeavesSlot script s b page k f
Tells script s (kind.SwapOut b page k) = IsOutside s b
Tells script s (kind.Depopulate b) = IsOutside s b
Tells script s (kind.Bind b) = ComesIn s b System
Tells script s (kind.Unbind b) = live_in s.core.buffers b ≡ Some (buffer s b)
Tells script s (kind.Move b mem n l) = MoveTells s b mem l
Tells script s _ = Unit {0}
