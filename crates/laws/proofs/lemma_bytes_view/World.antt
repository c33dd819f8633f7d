-- A view is that of a state, where the owner of each page is the one that its search finds.
use Rattle.std.proofs.Common.{◌≡◌, [], None}
use Rattle.ttm_base.specs.Pages as pages
use Rattle.journal_model.specs.declared.script.Script.{Script}
use Rattle.journal_model.specs.declared.state.Core.{Core}
use Rattle.journal_model.specs.rules.PlainMemory.{Memory, OwedProbes}
use Rattle.laws.specs.lemma_bytes_model.View.{View}
pub use Rattle.laws.specs.lemma_bytes_view.World.{Before, IsChanging, IsUsing, IsGhostly, IsMover}
use Rattle.laws.specs.lemma_bytes_view.World.{SeenBy}
use Rattle.laws.proofs.law_holders.Owner.{owner_of}

-- what the owners of pages depend on
abbrev pub bare : Core → Core
bare c = record { buffers = c.buffers; jobs = []; ghosts = c.ghosts; move_fence = None }

-- the owners are those of the state
abbrev pub Seen : Script → Core → OwedProbes → Memory → pages.PageBytes → View → Type 0
Seen script c owed_probes memory bytes v = SeenBy (λ x o. o ≡ owner_of (bare c) x) script c owed_probes memory bytes v
