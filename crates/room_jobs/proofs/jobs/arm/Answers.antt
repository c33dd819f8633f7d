use Rattle.std.proofs.Common.{◌∙◌}
use Rattle.room_jobs.proofs.Armed.{arm_declared, arm_wide, arm_ring, arm_num, arm_waits, arm_few, arm_known, arm_emitted, arm_context, arm_there, arm_held}
use Rattle.room_jobs.proofs.jobs.arm.Goals as goal

pub command_at_work-command-requires : goal.command_at_work-command-requires
command_at_work-command-requires g c = arm_there c.args.script.now g.w.before c.args.parts.now g.w.entry c.args.thread c.args.engine c.args.num c.requires.0 c.requires.1.0 c.requires.1.1

pub waits_at-requires-clause-declared : goal.waits_at-requires-clause-declared
waits_at-requires-clause-declared g c = arm_declared c.args.script.now g.w.before c.args.parts.now g.w.entry c.args.thread c.args.engine c.args.num c.requires.0 c.requires.1.0 c.requires.1.1 _ _ c.command_at_work-command.ensures c.named_in-bs.ensures

pub waits_at-requires-clause-wide : goal.waits_at-requires-clause-wide
waits_at-requires-clause-wide g c = arm_wide c.args.script.now g.w.before c.args.parts.now g.w.entry c.args.thread c.args.engine c.args.num c.requires.0 c.requires.1.0 c.requires.1.1 _ c.contexts.ensures

pub push-requires-clause-known : goal.push-requires-clause-known
push-requires-clause-known g c = arm_ring c.args.script.now g.w.before c.args.parts.now g.w.entry c.args.thread c.args.engine c.args.num c.requires.0 c.requires.1.0 c.requires.1.1

pub push-requires-clause-num : goal.push-requires-clause-num
push-requires-clause-num g c = arm_num c.args.script.now g.w.before c.args.parts.now g.w.entry c.args.thread c.args.engine c.args.num c.requires.0 c.requires.1.0 c.requires.1.1

pub push-requires-clause-waits : goal.push-requires-clause-waits
push-requires-clause-waits g c = arm_waits c.args.script.now g.w.before c.args.parts.now g.w.entry c.args.thread c.args.engine c.args.num c.requires.0 c.requires.1.0 c.requires.1.1 _ _ _ _ _ c.command_at_work-command.ensures c.ops_of-ops.ensures c.named_in-bs.ensures c.contexts.ensures c.in_ok-waits.ensures

pub push-requires-clause-few : goal.push-requires-clause-few
push-requires-clause-few g c = arm_few c.args.script.now g.w.before c.args.parts.now g.w.entry c.args.thread c.args.engine c.args.num c.requires.0 c.requires.1.0 c.requires.1.1 _ _ _ c.command_at_work-command.ensures c.ops_of-ops.ensures c.in_ok-packets.ensures

pub emit-emitted-requires-clause-known : goal.emit-emitted-requires-clause-known
emit-emitted-requires-clause-known g c = arm_known c.args.script.now g.w.before c.args.parts.now g.w.entry c.args.thread c.args.engine c.args.num c.requires.0 c.requires.1.0 c.requires.1.1

pub emit-emitted-requires-clause-few : goal.emit-emitted-requires-clause-few
emit-emitted-requires-clause-few g c = arm_emitted c.args.script.now g.w.before c.args.parts.now g.w.entry c.args.thread c.args.engine c.args.num c.requires.0 c.requires.1.0 c.requires.1.1

pub add_uses-requires-clause-known : goal.add_uses-requires-clause-known
add_uses-requires-clause-known g c = arm_context c.args.script.now g.w.before c.args.parts.now g.w.entry c.args.thread c.args.engine c.args.num c.requires.0 c.requires.1.0 c.requires.1.1

pub add_uses-requires-clause-num : goal.add_uses-requires-clause-num
add_uses-requires-clause-num g c = arm_num c.args.script.now g.w.before c.args.parts.now g.w.entry c.args.thread c.args.engine c.args.num c.requires.0 c.requires.1.0 c.requires.1.1

pub has_made-requires : goal.has_made-requires
has_made-requires g c = arm_there c.args.script.now g.w.before c.args.parts.now g.w.entry c.args.thread c.args.engine c.args.num c.requires.0 c.requires.1.0 c.requires.1.1

pub returns-clause-ok : goal.returns-clause-ok
returns-clause-ok g c =
    arm_held c.args.script.now g.w.before c.args.parts.now g.w.entry c.args.thread c.args.engine c.args.num c.requires.0 c.requires.1.0 c.requires.1.1 _ _ _ _ _ _ c.push.new.self c.emit-emitted.new.self c.add_uses.new.bos c.has_made.new.courses c.command_at_work-command.ensures c.ops_of-ops.ensures c.named_in-bs.ensures c.contexts.ensures c.in_ok-waits.ensures c.in_ok-packets.ensures
    c.in_ok-push.ensures.ok c.emit-emitted.ensures.after c.add_uses.ensures c.has_made.ensures
