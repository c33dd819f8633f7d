use Rattle.std.proofs.Common.{◌≡◌, ◌≤◌, ◌^◌, Some, ap, sym, ◌∙◌, length, arith}
use Rattle.std.specs.Prelude.{option_map}
use Rattle.ttm_base.specs.BuddyChoice.{candidate}
use Rattle.rules_choice.specs.Marks.{marked}
use Rattle.rules_choice.specs.Candidates.{candidate_of}
use Rattle.rules_choice.proofs.BuddyLaws.{candidate_size}
use Rattle.rules_choice.proofs.buddy.contiguous.Goals as goal

pub overflow_add-cut : goal.overflow_add-cut
overflow_add-cut c =
    let found : candidate (marked c.args.free.now.marks.items) (length c.args.free.now.marks.items) c.args.range c.args.topdown c.order_of.result ≡ Some (candidate_of c.in-Some.found)
    = sym c.candidate.ensures ∙ ap (option_map candidate_of) c.in-Some.is in
    let size = candidate_size (marked c.args.free.now.marks.items) (length c.args.free.now.marks.items) c.args.range c.args.topdown c.order_of.result (candidate_of c.in-Some.found) found in
    let enough : c.args.pages ≤ 2 ^ c.order_of.result = c.order_of.ensures.enough in
    omega (arith, size, enough)
