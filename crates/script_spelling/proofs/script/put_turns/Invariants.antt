use Rattle.std.proofs.Common.{◌≡◌, ◌++◌, take}
use Rattle.std.specs.Prelude.{flat_map}
use Rattle.journal_model.specs.scripts.Spelling.{turn_line}
use Rattle.script_spelling.proofs.script.put_turns.Given as goal

abbrev pub invariant-loop-turns : goal.invariant-loop-turns
invariant-loop-turns l = l.text ≡ l.fn.text ++ flat_map turn_line (take l.turns-index l.script.turns)
