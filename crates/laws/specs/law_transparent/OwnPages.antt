-- The pages of buffers, targets and ghosts (ttm_resource).
use Rattle.std.specs.Prelude.{◌≡◌, ℕ, ◌<◌, ◌≤◌, List, Some, ◌==◌, find, length, slice_get}
use Rattle.ttm_base.specs.declared.Mem.{Mem}
use Rattle.ttm_base.specs.declared.Mem.TheVariants.{System}
use Rattle.ttm_base.specs.declared.Span.{Span}
use Rattle.ttm_base.specs.declared.BufId.{BufId}
use Rattle.journal_model.specs.declared.script.Script.{Script}
use Rattle.journal_model.specs.declared.state.Buffer.{Buffer}
use Rattle.journal_model.specs.declared.state.Ghost.{Ghost}
use Rattle.journal_model.specs.rules.State.{target_of}
use Rattle.journal_model.specs.rules.Commands.{decl}
use Rattle.journal_model.specs.rules.Places.{pages_of}

-- each span has a page
abbrev pub HaveAPage : List Span → Type 0
HaveAPage spans = (i : ℕ) (span : Span) → slice_get spans i ≡ Some span → span.start < span.end

-- the spans have n pages, and there is one span at least
pub record HavePages (n : ℕ) (spans : List Span) : Type 0 where
  pub some : 0 < length spans
  pub each : HaveAPage spans
  pub many : length (pages_of spans) ≡ n

-- the table, the resource out of SYSTEM, and the targets in VRAM and TT have the declared pages
pub record HasItsPages (script : Script) (b : BufId) (x : Buffer) : Type 0 where
  pub table : length x.table ≡ (decl script b).pages
  pub resource : (x.mem ≡ System → ⊥) → HavePages (decl script b).pages x.spans
  pub targets : (mem : Mem) (spans : List Span) → (mem ≡ System → ⊥) → target_of mem x.targets ≡ Some spans → HavePages (decl script b).pages spans

-- each ghost is the first of its number, which was drawn, and each of its spans has a page
pub record GoodGhosts (last : ℕ) (ghosts : List Ghost) : Type 0 where
  pub drawn : (i : ℕ) (g : Ghost) → slice_get ghosts i ≡ Some g → (1 ≤ g.num) × (g.num ≤ last)
  pub distinct : (i j : ℕ) (g h : Ghost) → slice_get ghosts i ≡ Some g → slice_get ghosts j ≡ Some h → g.num ≡ h.num → i ≡ j
  pub first : (i : ℕ) (g : Ghost) → slice_get ghosts i ≡ Some g → find (λ h. h.num == g.num) ghosts ≡ Some g
  pub in_vram : (i : ℕ) (g : Ghost) → slice_get ghosts i ≡ Some g → HaveAPage g.vram
  pub in_tt : (i : ℕ) (g : Ghost) → slice_get ghosts i ≡ Some g → HaveAPage g.tt
