use Rattle.std.proofs.Common.{◌∙◌}
use Rattle.journal_model.specs.rules.Legal.{state_of, stores_of}
use Rattle.room_representation.proofs.lemma_bytes.Lowest.{slot_first}
use Rattle.room_queries.proofs.counters.free_slot.Goals as goal

pub returns : goal.returns
returns c = c.first.ensures ∙ slot_first c.args.script.now (state_of c.args.script.now c.args.before.now).core (stores_of c.args.script.now c.args.before.now) c.args.parts.now.swap c.requires.represents.swap
