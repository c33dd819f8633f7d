use Rattle.std.proofs.Common.{◌≡◌, take, []}
use Rattle.std.specs.Prelude.{fold, flat_map}
use Rattle.script_rules.specs.Mentions.{mentioned}
use Rattle.journal_model.specs.scripts.LineRules.{buffers_of_word}
use Rattle.script_rules.proofs.rules.mention_ops.Given as goal

abbrev pub invariant-loop-op : goal.invariant-loop-op
invariant-loop-op l = l.seen ≡ fold mentioned [] (flat_map buffers_of_word (take l.op-index l.ops))
