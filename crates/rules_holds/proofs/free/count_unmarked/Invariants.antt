use Rattle.std.proofs.Common.{◌≡◌, ◌≤◌, false, length, get_or}
use Rattle.std.specs.Prelude.{filter, not}
use Rattle.ttm_base.specs.ListWords.{count_from}
use Rattle.rules_holds.proofs.free.count_unmarked.Given as goal

abbrev pub invariant-loop-n : goal.invariant-loop-n
invariant-loop-n l = (l.count ≡ length (filter (λ n. not (get_or l.marks n false)) (count_from 1 l.n 0))) × (l.count ≤ l.n)
