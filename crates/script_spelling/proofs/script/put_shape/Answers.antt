use Rattle.std.proofs.Common.{decimal}
use Rattle.std.specs.Prelude.{codes}
use Rattle.std.proofs.lemmas.Result.{on_ok_weaker}
use Rattle.journal_model.specs.scripts.Spelling.{group_word}
use Rattle.script_spelling.proofs.SpacedLaws.{eight_words}
use Rattle.script_spelling.proofs.script.put_shape.Goals as goal

pub returns : goal.returns
returns c =
    let d = c.args.decl.now in
    let named = rw c.items.ensures at c.in_ok-word.ensures in
    let pages = rw c.from.ensures at c.in_ok-number.ensures in
    let prio = rw c.from-2.ensures at c.in_ok-number-2.ensures in
    on_ok_weaker c.number-3.result
    (λ last. eight_words c.args.text.now c.word.new.self c.number.new.self c.word-2.new.self c.number-2.new.self c.word-3.new.self c.put_group.new.text c.word-4.new.self c.number-3.new.self
    d.name (decimal d.pages) (codes "prio") (decimal d.prio) (codes "group") (group_word d.group) (codes "align") (decimal d.align)
    named pages c.in_ok-word-2.ensures prio c.in_ok-word-3.ensures c.in_ok-put_group.ensures c.in_ok-word-4.ensures (rw c.from-3.ensures at last))
    c.number-3.ensures
