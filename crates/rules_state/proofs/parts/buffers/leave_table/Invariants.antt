use Rattle.std.proofs.Common.{◌≡◌, ◌++◌, take, drop, length}
use Rattle.std.specs.Prelude.{map}
use Rattle.ttm_base.specs.declared.Loc.TheVariants as loc
use Rattle.rules_state.proofs.parts.buffers.leave_table.Given as goal

abbrev pub invariant-loop-i : goal.invariant-loop-i
invariant-loop-i l =
    (l.table ≡ map (λ place. loc.Zero) (take l.i l.initial.table) ++ drop l.i l.initial.table) × (length l.table ≡ length l.initial.table)
