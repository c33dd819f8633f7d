use Rattle.std.proofs.Common.{◌≤◌, ◌-◌, length, arith}
use Rattle.std.proofs.lemmas.Bool.Decides.{nat_tests}
use Rattle.std.proofs.lemmas.Grind.{common_steps}
use Rattle.journal_model.proofs.RowLaws.{row_within, none_behind}
use Rattle.journal_model.proofs.jobs.row.end_of.Goals as goal

pub overflow_sub-end-2 : goal.overflow_sub-end-2
overflow_sub-end-2 c =
    let within = row_within c.args.jobs.now c.args.row c.requires.row in
    omega arith

pub returns-clause-apart : goal.returns-clause-apart
returns-clause-apart c =
    let within = row_within c.args.jobs.now c.args.row c.requires.row in
    let end : length c.args.jobs.now - (c.args.row.count - c.count_up_to.result) ≤ c.max.result = grind (arith, common_steps, nat_tests) in
    none_behind c.args.jobs.now c.args.row c.args.id c.count_up_to.result c.max.result c.requires.row c.count_up_to.ensures.within end c.count_up_to.ensures.apart
