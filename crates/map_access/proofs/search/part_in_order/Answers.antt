use Rattle.std.proofs.Common.{◌-◌, ◌∙◌, ap, drop, length, take}
use Rattle.journal_model.specs.scripts.MarkRules.{are_in_order}
use Rattle.map_access.proofs.Order.{all_taken, cut_is_part, drop_order}
use Rattle.map_access.proofs.search.part_in_order.Goals as goal

pub count_up_to-requires : goal.count_up_to-requires
count_up_to-requires c = ap are_in_order (all_taken c.count_before.result c.args.marks.now) ∙ drop_order c.count_before.result c.args.marks.now c.requires

pub returns : goal.returns
returns c =
    let marks = c.args.marks.now in
    let i = c.count_before.result in
    cut_is_part c.args.thread c.args.first c.args.last i c.count_up_to.result marks (take (length marks - i) (drop i marks)) c.count_before.ensures.bound (all_taken i marks)
    c.count_before.ensures.point c.count_up_to.ensures.point
