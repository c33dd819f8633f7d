use Rattle.std.proofs.Common.{◌≡◌, ℕ, ◌+◌, ◌<◌, ◌≤◌, false, get_or}
use Rattle.rules_choice.proofs.alike.are_alike.Given as goal

abbrev pub invariant-loop-page : goal.invariant-loop-page
invariant-loop-page l =
    record {
      small : l.others + l.fn.start ≤ l.page;
      alike : l.others ≡ 0 → (k : ℕ) → l.fn.start ≤ k → k < l.page → get_or l.marks k false ≡ l.mark;
    }
