use Rattle.std.proofs.Common.{◌≡◌, None, false, get_or}
use Rattle.std.specs.Prelude.{find, not}
use Rattle.ttm_base.specs.ListWords.{count_from}
use Rattle.rules_holds.proofs.free.lowest_unmarked.Given as goal

abbrev pub invariant-loop-n : goal.invariant-loop-n
invariant-loop-n l = find (λ n. not (get_or l.marks n false)) (count_from 1 l.n 0) ≡ None
