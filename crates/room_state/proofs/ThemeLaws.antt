-- An entry of a theme is of one of the theme's kinds.
use Rattle.std.proofs.Common.{◌≡◌, ℕ, List, refl}
use Rattle.ttm_base.specs.declared.BufId.{BufId}
use Rattle.ttm_base.specs.declared.Deny.{Deny}
use Rattle.ttm_base.specs.declared.Mem.{Mem}
use Rattle.ttm_base.specs.declared.Span.{Span}
use Rattle.ttm_base.specs.declared.Stamp.{Stamp}
use Rattle.journal_model.specs.declared.entry.DryWhy.{DryWhy}
use Rattle.journal_model.specs.declared.entry.Kind.{Kind}
use Rattle.journal_model.specs.declared.entry.Kind.TheVariants as kind
use Rattle.journal_model.specs.declared.entry.Left.{Left}
use Rattle.journal_model.specs.declared.entry.Shown.{Shown}
use Rattle.journal_model.specs.declared.entry.Why.{Why}
use Rattle.room_state.specs.Themes.{theme_of}
use Rattle.room_state.specs.declared.themes.Theme.TheVariants as theme

-- tickets and holds
pub lock_has : (k : Kind) → theme_of k ≡ theme.Lock → ((stamp : Stamp) → k ≡ kind.Ticket stamp → ⊥) → ((b : BufId) → k ≡ kind.Reserve b → ⊥) → ((b : BufId) (stamp : Stamp) → k ≡ kind.Backoff b stamp → ⊥) → ⊥
lock_has (kind.Ticket stamp) h ticket reserve backoff = ticket stamp refl
lock_has (kind.Reserve b) h ticket reserve backoff = reserve b refl
lock_has (kind.Backoff b stamp) h ticket reserve backoff = backoff b stamp refl
lock_has k h ticket reserve backoff = cc

-- pages that are looked for
pub search_has : (k : Kind) → theme_of k ≡ theme.Search → ((b : BufId) (mem : Mem) (spans : List Span) → k ≡ kind.Take b mem spans → ⊥) → ((b : BufId) (mem : Mem) → k ≡ kind.Untake b mem → ⊥) → ((b : BufId) (w : Why) → k ≡ kind.Catch b w → ⊥) → ((b : BufId) (n : ℕ) (w : DryWhy) → k ≡ kind.Dry b n w → ⊥) → ⊥
search_has (kind.Take b mem spans) h take untake catch dry = take b mem spans refl
search_has (kind.Untake b mem) h take untake catch dry = untake b mem refl
search_has (kind.Catch b w) h take untake catch dry = catch b w refl
search_has (kind.Dry b n w) h take untake catch dry = dry b n w refl
search_has k h take untake catch dry = cc

-- ways to a target
pub carry_has : (k : Kind) → theme_of k ≡ theme.Carry → ((b : BufId) → k ≡ kind.Bind b → ⊥) → ((b : BufId) → k ≡ kind.Unbind b → ⊥) → ((b : BufId) (mem : Mem) (n : ℕ) (l : Left) → k ≡ kind.Move b mem n l → ⊥) → ⊥
carry_has (kind.Bind b) h bind unbind move = bind b refl
carry_has (kind.Unbind b) h bind unbind move = unbind b refl
carry_has (kind.Move b mem n l) h bind unbind move = move b mem n l refl
carry_has k h bind unbind move = cc

-- frames for a buffer
pub fill_has : (k : Kind) → theme_of k ≡ theme.Fill → ((b : BufId) (page frame : ℕ) → k ≡ kind.Populate b page frame → ⊥) → ((b : BufId) (page slot frame : ℕ) → k ≡ kind.SwapIn b page slot frame → ⊥) → ((b : BufId) → k ≡ kind.NoPages b → ⊥) → ⊥
fill_has (kind.Populate b page frame) h populate swap_in no_pages = populate b page frame refl
fill_has (kind.SwapIn b page slot frame) h populate swap_in no_pages = swap_in b page slot frame refl
fill_has (kind.NoPages b) h populate swap_in no_pages = no_pages b refl
fill_has k h populate swap_in no_pages = cc

-- frames that are given away, and victims let go
pub empty_has : (k : Kind) → theme_of k ≡ theme.Empty → ((b : BufId) → k ≡ kind.Depopulate b → ⊥) → ((b : BufId) (page slot : ℕ) → k ≡ kind.SwapOut b page slot → ⊥) → ((b : BufId) → k ≡ kind.Loose b → ⊥) → ((b : BufId) → k ≡ kind.Skip b → ⊥) → ⊥
empty_has (kind.Depopulate b) h depopulate swap_out loose skip = depopulate b refl
empty_has (kind.SwapOut b page slot) h depopulate swap_out loose skip = swap_out b page slot refl
empty_has (kind.Loose b) h depopulate swap_out loose skip = loose b refl
empty_has (kind.Skip b) h depopulate swap_out loose skip = skip b refl
empty_has k h depopulate swap_out loose skip = cc

-- what commands do
pub act_has : (k : Kind) → theme_of k ≡ theme.Act → ((b : BufId) → k ≡ kind.New b → ⊥) → ((b : BufId) (g : ℕ) → k ≡ kind.Free b g → ⊥) → ((engine n : ℕ) → k ≡ kind.Arm engine n → ⊥) → ((group : ℕ) → k ≡ kind.Bulk group → ⊥) → ((r : Shown) → k ≡ kind.Result r → ⊥) → ((d : Deny) → k ≡ kind.Refused d → ⊥) → ⊥
act_has (kind.New b) h new free arm bulk result refused = new b refl
act_has (kind.Free b g) h new free arm bulk result refused = free b g refl
act_has (kind.Arm engine n) h new free arm bulk result refused = arm engine n refl
act_has (kind.Bulk group) h new free arm bulk result refused = bulk group refl
act_has (kind.Result r) h new free arm bulk result refused = result r refl
act_has (kind.Refused d) h new free arm bulk result refused = refused d refl
act_has k h new free arm bulk result refused = cc
