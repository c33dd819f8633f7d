-- What page tables say.
use Rattle.std.specs.Prelude.{ℕ, Option, slice_get, option_and_then}
use Rattle.ttm_base.specs.declared.BufId.{BufId}
use Rattle.ttm_base.specs.declared.Loc.{Loc}
use Rattle.journal_model.specs.declared.state.Core.{Core}
use Rattle.journal_model.specs.rules.State.{live_in}

-- what the page table of a live buffer says of a page, where there is such a page
abbrev pub loc_at : Core → BufId → ℕ → Option Loc
loc_at c b page = option_and_then (λ x. slice_get x.table page) (live_in c.buffers b)
