use Rattle.std.proofs.Common.{ap, ◌∙◌, arith, []}
use Rattle.std.proofs.lemmas.List.{take_all}
use Rattle.std.specs.Prelude.{fold, flat_map}
use Rattle.script_rules.specs.Mentions.{mentioned}
use Rattle.journal_model.specs.rules.Commands.{buffers_of_op}
use Rattle.script_rules.proofs.MentionLaws.{gathered_all}
use Rattle.script_rules.proofs.addresses.mention_ops.Goals as goal

pub returns : goal.returns
returns c =
    c.loop-op.invariant
    ∙ ap (λ ops. fold mentioned [] (flat_map buffers_of_op ops)) (take_all c.loop-op.op-index c.args.ops.now (omega arith))
    ∙ gathered_all (flat_map buffers_of_op c.args.ops.now)
