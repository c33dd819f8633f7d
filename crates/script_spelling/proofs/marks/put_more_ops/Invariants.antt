use Rattle.std.proofs.Common.{◌≡◌, ◌++◌, map, take}
use Rattle.journal_model.specs.scripts.Spelling.{vop_words}
use Rattle.script_spelling.specs.Parts.{parted_out}
use Rattle.text_line.specs.Spaced.{spaced_out}
use Rattle.script_spelling.proofs.marks.put_more_ops.Given as goal

abbrev pub invariant-loop-op : goal.invariant-loop-op
invariant-loop-op l = l.text ≡ l.fn.text ++ spaced_out (parted_out (map vop_words (take l.op-index l.ops)))
