use Rattle.std.specs.Prelude.{option_copied}
use Rattle.rules_apply.proofs.Courses.{after_result_is}
use Rattle.rules_apply.proofs.commands.answer.Goals as goal

pub returns-clause-ok : goal.returns-clause-ok
returns-clause-ok c =
    after_result_is c.args.script.now c.args.state.now c.args.thread (option_copied c.command_at_work-command.result) c.get-course.result.now c.new_course.result
    c.items.result.now c.items-5.result.now c.in_ok-reservations.reservations c.items-3.result.now c.items-2.result.now c.items-4.result.now c.in_ok-lists.lists c.set.new.self
    c.requires.answer.there c.command_at_work-command.ensures c.get-course.ensures c.new_course.ensures c.items.ensures c.items-5.ensures
    c.in_ok-reservations.ensures c.items-2.ensures c.items-3.ensures c.items-4.ensures c.in_ok-lists.ensures c.set.ensures
