use Rattle.std.proofs.Common.{◌≡◌, ℕ, length}
use Rattle.std.specs.Prelude.{◌&&◌, not, nat_le, nat_lt}
use Rattle.rules_choice.specs.Marks.{marked}
use Rattle.rules_choice.proofs.pages.take_span.Given as goal

abbrev pub invariant-loop-page : goal.invariant-loop-page
invariant-loop-page l =
    record {
      len : length l.marks.items ≡ length l.initial.marks.items;
      taken : (k : ℕ) → marked l.marks.items k ≡ (marked l.initial.marks.items k && not (nat_le l.start k && nat_lt k l.page));
    }
