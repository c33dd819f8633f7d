use Rattle.std.proofs.Common.{◌≡◌, ◌-◌, ◌++◌, length}
use Rattle.std.specs.Prelude.{option_map}
use Rattle.ttm_base.specs.BuddyChoice.{scattered}
use Rattle.rules_choice.specs.Marks.{marked}
use Rattle.rules_choice.proofs.buddy.scattered.Given as goal

abbrev pub invariant-loop-block : goal.invariant-loop-block
invariant-loop-block l =
    record {
      len : length l.rest.marks.items ≡ length l.fn.free.marks.items;
      same :
          option_map (λ more. l.spans ++ more)
          (scattered (l.pages - l._block) (marked l.rest.marks.items) (length l.rest.marks.items) l.range l.topdown l.left)
          ≡ scattered l.pages (marked l.fn.free.marks.items) (length l.fn.free.marks.items) l.range l.topdown l.pages;
    }
