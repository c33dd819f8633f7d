use Rattle.std.proofs.lemmas.Result.{on_ok_weaker}
use Rattle.script_spelling.proofs.PartLaws.{new_words, not_one, old_words}
use Rattle.script_spelling.proofs.places.put_placement.Goals as goal

pub returns-in_ok-put_part : goal.returns-in_ok-put_part
returns-in_ok-put_part c =
    on_ok_weaker c.put_part-then-version-eq1.result
    (λ q. old_words c.args.version c.args.list.now c.args.text.now c.put_part.new.text c.put_part-then-version-eq1.new.text c.if-version-eq1.true c.in_ok-put_part.ensures q)
    c.put_part-then-version-eq1.ensures

pub returns-else-version-eq1 : goal.returns-else-version-eq1
returns-else-version-eq1 c =
    on_ok_weaker c.put_part-else-version-eq1.result
    (λ q. new_words c.args.version c.args.list.now c.args.text.now c.put_part-else-version-eq1.new.text (not_one c.args.version c.if-version-eq1.false) q)
    c.put_part-else-version-eq1.ensures
