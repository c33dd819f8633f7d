use Rattle.std.proofs.Common.{◌∷◌, decimal, map}
use Rattle.std.specs.Prelude.{codes}
use Rattle.std.proofs.lemmas.Result.{on_ok_weaker}
use Rattle.journal_model.specs.scripts.Spelling.{op_words, parted}
use Rattle.script_spelling.proofs.SpacedLaws.{line_grows, words_grow}
use Rattle.script_spelling.proofs.commands.put_submit.Goals as goal

pub returns : goal.returns
returns c =
    let words = parted (map (op_words c.args.script.now) c.args.ops.now) in
    let numbered = rw c.from.ensures at c.in_ok-number.ensures in
    on_ok_weaker c.end_line.result
    (λ end. line_grows c.args.text.now c.put.new.self c.put_ops.new.text c.end_line.new.self (codes "submit") (decimal c.args.engine ∷ words) c.in_ok-put.ensures
    (words_grow c.put.new.self c.number.new.self c.put_ops.new.text (decimal c.args.engine) words numbered c.in_ok-put_ops.ensures) end)
    c.end_line.ensures
