use Rattle.std.proofs.Common.{◌≡◌, take, []}
use Rattle.std.specs.Prelude.{fold, flat_map}
use Rattle.script_rules.specs.Mentions.{mentioned}
use Rattle.journal_model.specs.rules.Commands.{buffers_of_op}
use Rattle.script_rules.proofs.addresses.mention_ops.Given as goal

abbrev pub invariant-loop-op : goal.invariant-loop-op
invariant-loop-op l = l.seen ≡ fold mentioned [] (flat_map buffers_of_op (take l.op-index l.ops))
