use Rattle.std.proofs.Common.{◌++◌}
use Rattle.std.specs.Prelude.{codes}
use Rattle.std.proofs.lemmas.Result.{on_ok_weaker}
use Rattle.journal_model.specs.scripts.Spelling.{placement_words}
use Rattle.script_spelling.specs.Parts.{shape_words}
use Rattle.script_spelling.proofs.SpacedLaws.{line_grows, words_join}
use Rattle.script_spelling.proofs.script.put_buffer.Goals as goal

pub returns : goal.returns
returns c =
    let d = c.args.decl.now in
    let placed = rw c.items.ensures at c.in_ok-put_placement.ensures in
    on_ok_weaker c.end_line.result
    (λ end. line_grows c.args.text.now c.put.new.self c.put_placement.new.text c.end_line.new.self (codes "buffer")
    (shape_words d ++ placement_words c.args.version d.placement.list) c.in_ok-put.ensures
    (words_join c.put.new.self c.put_shape.new.text c.put_placement.new.text (shape_words d) (placement_words c.args.version d.placement.list) c.in_ok-put_shape.ensures placed) end)
    c.end_line.ensures
