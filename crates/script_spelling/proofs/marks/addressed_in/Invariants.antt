use Rattle.std.proofs.Common.{◌≡◌, drop}
use Rattle.std.specs.Prelude.{filter_map, slice_get}
use Rattle.journal_model.specs.marks.Marks.{addressed}
use Rattle.script_spelling.specs.Parts.{kinds}
use Rattle.script_spelling.proofs.marks.addressed_in.Given as goal

abbrev pub invariant-loop-mark : goal.invariant-loop-mark
invariant-loop-mark l = slice_get (filter_map addressed (kinds (drop l.mark-index l.marks))) 0 ≡ slice_get (filter_map addressed (kinds l.marks)) 0
