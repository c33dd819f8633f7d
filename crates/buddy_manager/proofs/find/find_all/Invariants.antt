use Rattle.std.proofs.Common.{◌≡◌, length}
use Rattle.buddy_manager.specs.Finding.{IsFinding, work_of}
use Rattle.buddy_manager.proofs.find.find_all.Given as goal

abbrev pub invariant-loop-search : goal.invariant-loop-search
invariant-loop-search l =
    record {
      finding : IsFinding l.initial.free l.range l.topdown l.initial.search.left l.free l.out l.search;
      count : length l.search.rests ≡ 32;
    }

abbrev pub decreases-loop-search : goal.decreases-loop-search
decreases-loop-search l = work_of l.search
