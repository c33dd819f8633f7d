use Rattle.std.proofs.Common.{◌≡◌, ℕ, length}
use Rattle.report_mappings.specs.Faults.{number_at}
use Rattle.report_mappings.proofs.seen.grow.Given as goal

abbrev pub invariant-loop-page : goal.invariant-loop-page
invariant-loop-page l = record {
  len : length l.pages ≡ l._page;
  same : (i : ℕ) → number_at l.pages i ≡ number_at l.fn.pages i;
}
