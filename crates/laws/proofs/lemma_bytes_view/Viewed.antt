-- A state with its bytes, its plain memory and the owed_probes of its probes has a good view.
use Rattle.journal_model.specs.declared.script.Script.{Script}
use Rattle.journal_model.specs.declared.state.Core.{Core}
use Rattle.ttm_base.specs.Pages as pages
use Rattle.journal_model.specs.rules.PlainMemory.{Memory, OwedProbes}
use Rattle.laws.specs.lemma_bytes_model.View.{View, Good}
use Rattle.laws.proofs.lemma_bytes_view.World.{Seen}
use Rattle.laws.proofs.lemma_bytes_view.PacketStep.{no_bytes}

pub record Viewed (script : Script) (c : Core) (owed_probes : OwedProbes) (memory : Memory) (bytes : pages.PageBytes) : Type 0 where
  pub view : View
  pub good : Good no_bytes view
  pub seen : Seen script c owed_probes memory bytes view
