use Rattle.std.proofs.Common.{◌≡◌, ◌++◌, take, drop, length}
use Rattle.std.specs.Prelude.{map}
use Rattle.ttm_base.specs.declared.Loc.TheVariants as loc
use Rattle.bo_table.proofs.page_table.clear.Given as goal

abbrev pub invariant-loop-i : goal.invariant-loop-i
invariant-loop-i l =
    (l.places ≡ map (λ place. loc.Zero) (take l.i l.initial.places) ++ drop l.i l.initial.places) × (length l.places ≡ length l.initial.places)
