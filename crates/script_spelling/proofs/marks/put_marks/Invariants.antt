use Rattle.std.proofs.Common.{◌≡◌, ◌++◌, take}
use Rattle.std.specs.Prelude.{flat_map}
use Rattle.journal_model.specs.scripts.Spelling.{mark_line}
use Rattle.script_spelling.proofs.marks.put_marks.Given as goal

abbrev pub invariant-loop-mark : goal.invariant-loop-mark
invariant-loop-mark l = l.text ≡ l.fn.text ++ flat_map (λ m. mark_line l.script m.kind) (take l.mark-index l.marks)
