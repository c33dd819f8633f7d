use Rattle.std.proofs.Common.{◌≡◌, drop}
use Rattle.journal_model.specs.scripts.MarkRules.{are_in_order}
use Rattle.map_access.proofs.search.are_in_order.Given as goal

-- those before this mark stand in order
abbrev pub invariant-loop-i : goal.invariant-loop-i
invariant-loop-i l = are_in_order (drop l.i l.marks) ≡ are_in_order l.marks
