use Rattle.std.proofs.Common.{◌≡◌, fold, take}
use Rattle.map_follow.specs.Ends.{with_end}
use Rattle.map_follow.proofs.follow.end_by.Given as goal

abbrev pub invariant-loop-mark : goal.invariant-loop-mark
invariant-loop-mark l = l.maps ≡ fold (with_end l.thread l.answered) l.fn.maps (take l.mark-index l.marks)
