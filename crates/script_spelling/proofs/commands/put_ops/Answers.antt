use Rattle.std.proofs.lemmas.Result.{on_ok_weaker}
use Rattle.journal_model.specs.scripts.Spelling.{op_words}
use Rattle.script_spelling.proofs.SpacedLaws.{ops_grow}
use Rattle.script_spelling.proofs.commands.put_ops.Goals as goal

pub returns-in_ok-put_op-in-Some : goal.returns-in_ok-put_op-in-Some
returns-in_ok-put_op-in-Some c =
    on_ok_weaker c.put_more_ops.result
    (λ more. ops_grow (op_words c.args.script.now) c.args.text.now c.put_op.new.text c.put_more_ops.new.text c.args.ops.now c.in-Some.first.now c.in-Some.rest.now
    c.in-Some.ensures.cases.0 c.in_ok-put_op-in-Some.ensures more)
    c.put_more_ops.ensures
