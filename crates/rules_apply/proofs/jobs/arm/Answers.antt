use Rattle.std.specs.Prelude.{option_copied}
use Rattle.rules_apply.proofs.Courses.{after_arm_is}
use Rattle.rules_apply.proofs.jobs.arm.Goals as goal

pub returns-clause-ok : goal.returns-clause-ok
returns-clause-ok c =
    after_arm_is c.args.script.now c.args.state.now c.args.thread (record { ctx = c.args.ctx; num = c.args.num }) (option_copied c.command_at_work-command.result)
    c.ops_of.result.now c.named_in-bs.result.now c.emit.new.core c.put_item.new.items c.get_mut-course.result.now
    c.requires c.command_at_work-command.ensures c.ops_of.ensures c.named_in-bs.ensures
    c.in_ok-emit.ensures.ok c.put_item.ensures c.get_mut-course.ensures.value
