-- The holder of each page of VRAM, frame or slot: buffers by the places of their pages, targets, and ghosts.
use Rattle.std.specs.Prelude.{◌≡◌, ℕ, Bool, true, false, Some, slice_get}
use Rattle.ttm_base.specs.declared.Mem.{Mem}
use Rattle.ttm_base.specs.declared.Mem.TheVariants as mem
use Rattle.ttm_base.specs.Pages as pages
use Rattle.journal_model.specs.declared.state.Core.{Core}
use Rattle.journal_model.specs.declared.state.Buffer.{Buffer}
use Rattle.journal_model.specs.declared.state.Ghost as ghosts
use Rattle.journal_model.specs.rules.State.{buffer_in, target_spans}
use Rattle.journal_model.specs.rules.Places.{pages_of, loc_of, page_in_vram, page_in_table, page_at}
use Rattle.journal_model.specs.rules.Holds.{has_number}
use Rattle.laws.specs.lemma_bytes_model.Memory.{Page, Nowhere, Vram, Frame, Slot}
use Rattle.laws.specs.lemma_bytes_model.View.{Owner, Idle, Free, Live, Kept, Target, Ghost}

-- a page as the law on plain bytes names it
abbrev pub seen : pages.Page → Page
seen pages.nowhere = Nowhere
seen (pages.vram p) = Vram p
seen (pages.frame f) = Frame f
seen (pages.slot k) = Slot k

-- ---- who holds which page

-- page k of a buffer
abbrev pub live_at : Buffer → ℕ → Page
live_at x k = seen (page_at x k)

-- what the table of a buffer in VRAM keeps for page k
abbrev pub kept_in : Mem → Buffer → ℕ → Page
kept_in mem.Vram x k = seen (page_in_table (loc_of x k))
kept_in mem.Tt x k = Nowhere
kept_in mem.System x k = Nowhere

-- page k of the target in VRAM
abbrev pub target_at : Buffer → ℕ → Page
target_at x k = seen (page_in_vram (slice_get (pages_of (target_spans mem.Vram x)) k))

-- a ghost has the page
abbrev pub in_ghost : Page → ghosts.Ghost → Bool
in_ghost (Vram p) g = has_number (pages_of g.vram) p
in_ghost (Frame f) g = has_number g.frames f
in_ghost _ g = false

-- a buffer by number
abbrev pub buffer_at : Core → ℕ → Buffer
buffer_at c b = buffer_in c (record { 0 = b })

-- the page stands in this hold
abbrev pub Holds : Core → Page → Owner → Type 0
Holds c x Idle = ⊥
Holds c x Free = ⊥
Holds c x (Live b k) = live_at (buffer_at c b) k ≡ x
Holds c x (Kept b k) = kept_in (buffer_at c b).mem (buffer_at c b) k ≡ x
Holds c x (Target b k) = target_at (buffer_at c b) k ≡ x
Holds c x (Ghost n) = (i : ℕ) × (g : ghosts.Ghost) × (slice_get c.ghosts i ≡ Some g) × (g.num ≡ n) × (in_ghost x g ≡ true)

-- the owner of a page that isn't held
abbrev pub unheld : Page → Owner
unheld (Vram n) = Free
unheld _ = Idle

-- each page that there is stands in one hold at most
abbrev pub HeldOnce : Core → Type 0
HeldOnce c = (x : Page) (o p : Owner) → (x ≡ Nowhere → ⊥) → Holds c x o → Holds c x p → o ≡ p
