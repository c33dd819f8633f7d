use Rattle.std.proofs.Common.{◌≡◌, take, length, unwrap_or}
use Rattle.journal_model.specs.rules.Lists.{behind_last, is_mate}
use Rattle.rules_state.proofs.parts.lists.place_in.Given as goal

abbrev pub invariant-loop-i : goal.invariant-loop-i
invariant-loop-i l = l.at ≡ unwrap_or (behind_last (is_mate l.script l.b) (take l.i l.list)) (length l.list)
