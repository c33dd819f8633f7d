use Rattle.std.proofs.Common.{◌≡◌, ◌++◌, ◌-◌}
use Rattle.std.specs.Prelude.{filter}
use Rattle.ttm_base.specs.ListWords.{count_from}
use Rattle.report_mappings.specs.Faults.{faults_in, is_fault, seen_at}
use Rattle.report_mappings.proofs.faults.faults_in.Given as goal

-- the faults so far, and those that are left
abbrev pub invariant-loop-page : goal.invariant-loop-page
invariant-loop-page l =
    l.pages ++ filter (λ i. is_fault l.from (seen_at l.seen l.access.b.0 i)) (count_from 1 (l.access.end - l.page) l.page) ≡ faults_in l.seen l.from l.access
