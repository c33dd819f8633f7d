use Rattle.std.proofs.Common.{◌≡◌, Some, length, sym, ap, ◌∙◌}
use Rattle.std.specs.Prelude.{option_map}
use Rattle.ttm_base.specs.BlockStarts.{candidate_at}
use Rattle.rules_choice.specs.Marks.{marked}
use Rattle.rules_choice.specs.Least.{best_with}
use Rattle.rules_choice.specs.Candidates.{candidate_of}
use Rattle.rules_choice.proofs.NestLaws.{best_stays}
use Rattle.rules_choice.proofs.candidates.next_best.Goals as goal

pub returns-then-is_free_block : goal.returns-then-is_free_block
returns-then-is_free_block c =
    let marks = c.args.free.now.marks.items in
    let best : option_map candidate_of c.args.best ≡ Some (candidate_of c.in-Some.least) = ap (option_map candidate_of) c.in-Some.is in
    best_stays (marked marks) (length marks) c.args.range c.args.order c.args.start (candidate_of c.in-Some.least) (sym c.is_free_block.ensures ∙ c.if-is_free_block.true)
    ∙ ap (λ b. best_with (λ c. c.whole) b (candidate_at (marked marks) (length marks) c.args.range c.args.order c.args.start)) (sym best)
