use Rattle.std.proofs.Common.{◌≡◌, length, take}
use Rattle.mm_c.specs.Calls.{first_spans}
use Rattle.mm_c.proofs.page_span.write.Given as goal

abbrev pub invariant-loop-i : goal.invariant-loop-i
invariant-loop-i l =
    record {
      size : length l.out ≡ length l.initial.out;
      spans : first_spans l.i l.out ≡ take l.i l.spans;
    }
