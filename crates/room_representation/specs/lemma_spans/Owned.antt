-- The holders of spans of VRAM or TT, in a state and in a manager (ttm_resource_manager).
use Rattle.std.specs.Prelude.{◌≡◌, ℕ, ◌==◌, Bool, true, false, List, [], Option, Some, find, option_map, slice_get, unwrap_or, if◌then◌else◌}
use Rattle.ttm_base.specs.declared.Mem.{Mem}
use Rattle.ttm_base.specs.declared.Mem.TheVariants.{Vram as OfVram}
use Rattle.ttm_base.specs.declared.Span.{Span}
use Rattle.ttm_base.specs.declared.Owner.{Owner}
use Rattle.ttm_base.specs.declared.Owner.TheVariants as owner
use Rattle.resource_core.specs.declared.vram.PagesKind.{PagesKind}
use Rattle.resource_core.specs.declared.vram.PagesKind.TheVariants.{Ranges, Blocks}
use Rattle.resource_core.specs.Resources.{Resources, same_owner, kept_by, some_spans, AreDistinct}
use Rattle.resource_core.specs.Vram.{Vram}
use Rattle.journal_model.specs.declared.state.Buffer.{Buffer}
use Rattle.journal_model.specs.declared.state.Ghost.{Ghost}
use Rattle.journal_model.specs.declared.state.State.{State}
use Rattle.journal_model.specs.rules.State.{live_in, target_spans}
use Rattle.journal_model.specs.rules.Holds.{spans_in, ghost_spans}

-- what an owner holds of a memory type: a live buffer its own spans, a target those that wait for its buffer, a ghost what was left
abbrev pub owned : Mem → List (Option Buffer) → List Ghost → Owner → List Span
owned mem buffers ghosts (owner.Live b) = unwrap_or (option_map (spans_in mem) (live_in buffers b)) []
owned mem buffers ghosts (owner.Target b) = unwrap_or (option_map (target_spans mem) (live_in buffers b)) []
owned mem buffers ghosts (owner.Ghost g) = unwrap_or (option_map (ghost_spans mem) (find (λ h. h.num == g) ghosts)) []

-- a manager of `size` pages keeps of each owner the spans that `spans_of` tells, in one holding where there are some
pub record HoldsAs (size : ℕ) (spans_of : Owner → List Span) (r : Resources) : Type 0 where
  pub size_is : r.size ≡ size
  pub owners : AreDistinct r.held
  pub each : (o : Owner) → kept_by o r.held ≡ some_spans (spans_of o)

-- a manager keeps of each owner the spans that buffers and ghosts tell
abbrev pub HoldsAsOwned : ℕ → Mem → List (Option Buffer) → List Ghost → Resources → Type 0
HoldsAsOwned size mem buffers ghosts r = HoldsAs size (owned mem buffers ghosts) r

-- a manager keeps of each owner the spans that the state tells
abbrev pub HoldsAsIn : ℕ → Mem → State → Resources → Type 0
HoldsAsIn size mem s r = HoldsAsOwned size mem s.core.buffers s.core.ghosts r

-- the spans of each owner, where owner `o` has `spans`, and the others have what they had
abbrev pub with_owner : (Owner → List Span) → Owner → List Span → Owner → List Span
with_owner spans_of o spans p = if same_owner o p then spans else spans_of p

-- each ghost is the first of its number
abbrev pub FirstOfNumber : List Ghost → Type 0
FirstOfNumber ghosts = (i : ℕ) (g : Ghost) → slice_get ghosts i ≡ Some g → find (λ h. h.num == g.num) ghosts ≡ Some g

-- how VRAM's pages are kept, as the script's sizes say
abbrev pub kind_of : Bool → PagesKind
kind_of true = Blocks
kind_of false = Ranges

-- a manager of VRAM of the kind that `buddy` tells keeps the spans that buffers and ghosts tell
pub record HoldsVram (size : ℕ) (buddy : Bool) (buffers : List (Option Buffer)) (ghosts : List Ghost) (v : Vram) : Type 0 where
  pub kind_is : v.kind ≡ kind_of buddy
  pub holds : HoldsAsOwned size OfVram buffers ghosts v.resources
