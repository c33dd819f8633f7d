use Rattle.std.proofs.Common.{◌≡◌, ◌<◌, ℕ, length, take}
use Rattle.ttm_base.specs.Holes.{is_free_beside}
use Rattle.rules_choice.specs.Marks.{marked}
use Rattle.rules_choice.proofs.pages.free_marks.Given as goal

abbrev pub invariant-loop-span : goal.invariant-loop-span
invariant-loop-span l =
    record {
      len : length l.marks.items ≡ l.size;
      same : (page : ℕ) → page < l.size → marked l.marks.items page ≡ is_free_beside (take l.span-index l.held) page;
    }
