use Rattle.std.proofs.Common.{map}
use Rattle.std.specs.Prelude.{codes}
use Rattle.std.proofs.lemmas.Result.{on_ok_weaker}
use Rattle.journal_model.specs.scripts.Words.{actor_word}
use Rattle.script_spelling.proofs.SpacedLaws.{line_grows}
use Rattle.script_spelling.proofs.script.put_turn_line.Goals as goal

pub returns : goal.returns
returns c =
    on_ok_weaker c.end_line.result
    (λ end. line_grows c.args.text.now c.put.new.self c.put_actors.new.text c.end_line.new.self (codes "schedule") (map actor_word c.args.actors.now)
    c.in_ok-put.ensures c.in_ok-put_actors.ensures end)
    c.end_line.ensures
