use Rattle.std.proofs.Common.{◌≡◌, ◌≤◌, take}
use Rattle.std.specs.Prelude.{sum_by}
use Rattle.journal_model.specs.scripts.LineRules.{len_of_word}
use Rattle.script_rules.proofs.rules.lens_within.Given as goal

abbrev pub invariant-loop-op : goal.invariant-loop-op
invariant-loop-op l = record { so_far : l.sum ≡ sum_by len_of_word (take l.op-index l.ops); within : l.sum ≤ l.left }
