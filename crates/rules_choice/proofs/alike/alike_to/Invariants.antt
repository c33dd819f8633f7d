use Rattle.std.proofs.Common.{◌≡◌, ℕ, ◌-◌, ◌<◌, ◌≤◌, false, get_or}
use Rattle.rules_choice.proofs.alike.alike_to.Given as goal

abbrev pub invariant-loop-page : goal.invariant-loop-page
invariant-loop-page l = record { from : l.start ≤ l.page; to : l.page ≤ l.end; alike : (k : ℕ) → l.start ≤ k → k < l.page → get_or l.marks k false ≡ l.mark }

abbrev pub decreases-loop-page : goal.decreases-loop-page
decreases-loop-page l = l.end - l.page
