use Rattle.std.proofs.Common.{take}
use Rattle.std.specs.Prelude.{filter_map}
use Rattle.journal_model.specs.rules.Places.{frame_of}
use Rattle.rules_holds.specs.Marked.{AreMarked}
use Rattle.report_check.proofs.given.give_frames.Given as goal

abbrev pub invariant-loop-loc : goal.invariant-loop-loc
invariant-loop-loc l = AreMarked l.initial.free (filter_map frame_of (take l.loc-index l.table)) l.free
