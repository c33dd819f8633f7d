use Rattle.std.proofs.Common.{◌≡◌, ◌++◌, take, drop, length}
use Rattle.std.specs.Prelude.{map}
use Rattle.journal_model.specs.rules.ApplyPages.{without_frame}
use Rattle.state_words.proofs.places.drop_frames.Given as goal

abbrev pub invariant-loop-i : goal.invariant-loop-i
invariant-loop-i l =
    (l.table ≡ map without_frame (take l.i l.initial.table) ++ drop l.i l.initial.table) × (length l.table ≡ length l.initial.table)
