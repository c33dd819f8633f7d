-- The view of a state is good (`View`): jobs of which one writes a page that the other touches come one after the other, pages are guarded by
-- the jobs of their owners, and once the packets that are left have run, each page of a buffer has its plain bytes (dma_resv's fences, by pages).
use Rattle.std.specs.Prelude.{◌≡◌, ◌⊎◌}
use Rattle.ttm_base.specs.Pages as pages
use Rattle.journal_model.specs.declared.script.Script.{Script}
use Rattle.journal_model.specs.declared.state.Core.{Core}
use Rattle.journal_model.specs.rules.PlainMemory.{Memory, OwedProbes}
use Rattle.laws.specs.lemma_bytes_model.Memory.{Page, Nowhere}
use Rattle.laws.specs.lemma_bytes_model.View.{Owner, Idle, View, Good}
use Rattle.laws.specs.law_holders.Holding.{Holds, unheld}
use Rattle.laws.specs.lemma_bytes_view.World.{SeenBy}

-- the holder of a page is its owner; nobody holds Nowhere
abbrev pub IsOwner : Core → Page → Owner → Type 0
IsOwner c Nowhere o = o ≡ Idle
IsOwner c x o = Holds c x o ⊎ (((p : Owner) → Holds c x p → ⊥) × (o ≡ unheld x))

-- a good view that tells the state, its bytes, its plain memory and the owed_probes of its probes
pub record HasGoodView (script : Script) (c : Core) (owed_probes : OwedProbes) (memory : Memory) (bytes : pages.PageBytes) : Type 0 where
  pub view : View
  pub good : Good (λ o. 0) view
  pub seen : SeenBy (IsOwner c) script c owed_probes memory bytes view
