use Rattle.std.proofs.Common.{◌≡◌, ◌-◌, length}
use Rattle.std.specs.Prelude.{find}
use Rattle.std.specs.List.{range_with_len}
use Rattle.fence_core.specs.Fences.{is_open}
use Rattle.fence_core.proofs.fence_set.FenceSet.need.Given as goal

-- no context so far has such a job
abbrev pub invariant-loop-ctx : goal.invariant-loop-ctx
invariant-loop-ctx l =
    find (is_open l.usage l.timeline l.self) (range_with_len 0 (length l.self)) ≡ find (is_open l.usage l.timeline l.self) (range_with_len l.ctx (length l.self - l.ctx))
