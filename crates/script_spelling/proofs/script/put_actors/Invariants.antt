use Rattle.std.proofs.Common.{◌≡◌, ◌++◌, map, take}
use Rattle.journal_model.specs.scripts.Words.{actor_word}
use Rattle.text_line.specs.Spaced.{spaced_out}
use Rattle.script_spelling.proofs.script.put_actors.Given as goal

abbrev pub invariant-loop-who : goal.invariant-loop-who
invariant-loop-who l = l.text ≡ l.fn.text ++ spaced_out (map actor_word (take l.who-index l.actors))
