use Rattle.std.proofs.Common.{◌≡◌, take}
use Rattle.std.specs.Prelude.{fold}
use Rattle.ttm_base.specs.declared.BufId.{BufId}
use Rattle.map_access.specs.Passing.{behind_mark, start_of}
use Rattle.map_access.proofs.standing.pass_marks.Given as goal

-- the marks up to this one were passed
abbrev pub invariant-loop-mark : goal.invariant-loop-mark
invariant-loop-mark l = (c : BufId) → start_of l.starts c ≡ fold (behind_mark l.thread l.n c) (start_of l.fn.starts c) (take l.mark-index l.marks)
