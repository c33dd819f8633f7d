use Rattle.std.proofs.Common.{◌≡◌, false, ap, ◌∙◌, arith}
use Rattle.std.specs.Prelude.{option_map}
use Rattle.std.specs.Ordering.{nat_cmp, is_gt}
use Rattle.std.specs.declared.cmp.Ordering.TheVariants.{Less}
use Rattle.std.proofs.lemmas.Bool.Decides.{nat_tests}
use Rattle.gpu_spaces.specs.Kept.{region_at}
use Rattle.gpu_spaces.proofs.Kept.{starting_is, regions_in_order}
use Rattle.gpu_spaces.proofs.mappings.first_in.Goals as goal

pub returns-in-Some-clause-ordered : goal.returns-in-Some-clause-ordered
returns-in-Some-clause-ordered c = regions_in_order c.args.mappings.now c.range.ensures.ordered

pub returns-in-None-clause-ordered : goal.returns-in-None-clause-ordered
returns-in-None-clause-ordered c = regions_in_order c.args.mappings.now c.range.ensures.ordered

pub returns-in-None-clause-none : goal.returns-in-None-clause-none
returns-in-None-clause-none c = λ q l u.
    let from : is_gt (nat_cmp c.args.range.start q) ≡ false = grind (arith, nat_tests, l) in
    let up : nat_cmp q c.args.range.end ≡ Less = grind (arith, nat_tests, u) in
    starting_is c.args.mappings.now q ∙ ap (option_map (λ r. region_at (q, r))) ((c.range.ensures.in_range tt).5 c.in-None.ensures.steps.0 q (from, up))
