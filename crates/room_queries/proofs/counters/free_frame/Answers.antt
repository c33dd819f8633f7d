use Rattle.std.proofs.Common.{◌∙◌}
use Rattle.journal_model.specs.rules.Legal.{state_of}
use Rattle.room_representation.proofs.lemma_bytes.Lowest.{pool_first}
use Rattle.room_queries.proofs.counters.free_frame.Goals as goal

pub returns : goal.returns
returns c = c.first.ensures ∙ pool_first c.args.script.now (state_of c.args.script.now c.args.before.now).core c.args.parts.now.pool c.requires.represents.pool
