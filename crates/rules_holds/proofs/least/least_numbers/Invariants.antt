use Rattle.std.proofs.Common.{◌≡◌, true, take}
use Rattle.std.specs.List.{list_all}
use Rattle.rules_holds.specs.Least.{is_counted}
use Rattle.rules_holds.proofs.least.least_numbers.Given as goal

abbrev pub invariant-loop-job : goal.invariant-loop-job
invariant-loop-job l = list_all (is_counted l.least) (take l.job-index l.jobs) ≡ true
