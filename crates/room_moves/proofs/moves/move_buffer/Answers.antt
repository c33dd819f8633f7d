use Rattle.room_moves.proofs.Moved.{move_num, move_below, move_to, move_from, move_wide, move_known, move_waits, move_few, move_has, move_ring, move_line, move_emitted, move_vram, move_tt, move_joins, move_held}
use Rattle.room_moves.proofs.moves.move_buffer.Goals as goal

pub get-bo-requires : goal.get-bo-requires
get-bo-requires g c = move_below g.w.script g.w.before c.args.parts.now g.w.entry c.args.thread c.args.b c.args.mem c.args.num c.args.left c.requires.0 c.requires.1.0 c.requires.1.1

pub move_packets-requires-clause-to : goal.move_packets-requires-clause-to
move_packets-requires-clause-to g c = move_to g.w.script g.w.before c.args.parts.now g.w.entry c.args.thread c.args.b c.args.mem c.args.num c.args.left c.requires.0 c.requires.1.0 c.requires.1.1 c.get-bo.result.now c.get-bo.ensures

pub move_packets-requires-clause-from : goal.move_packets-requires-clause-from
move_packets-requires-clause-from g c = move_from g.w.script g.w.before c.args.parts.now g.w.entry c.args.thread c.args.b c.args.mem c.args.num c.args.left c.requires.0 c.requires.1.0 c.requires.1.1 c.get-bo.result.now c.get-bo.ensures

pub waits_of-requires : goal.waits_of-requires
waits_of-requires g c = move_wide g.w.script g.w.before c.args.parts.now g.w.entry c.args.thread c.args.b c.args.mem c.args.num c.args.left c.requires.0 c.requires.1.0 c.requires.1.1 c.get-bo.result.now c.get-bo.ensures c.contexts-contexts.result c.contexts-contexts.ensures

pub ghost_left-requires-clause-known : goal.ghost_left-requires-clause-known
ghost_left-requires-clause-known g c = move_known g.w.script g.w.before c.args.parts.now g.w.entry c.args.thread c.args.b c.args.mem c.args.num c.args.left c.requires.0 c.requires.1.0 c.requires.1.1 c.get-bo.result.now c.get-bo.ensures c.contexts-contexts.result c.contexts-contexts.ensures

pub ghost_left-requires-clause-num : goal.ghost_left-requires-clause-num
ghost_left-requires-clause-num g c = move_num g.w.script g.w.before c.args.parts.now g.w.entry c.args.thread c.args.b c.args.mem c.args.num c.args.left c.requires.0 c.requires.1.0 c.requires.1.1

pub start_job-requires-clause-known : goal.start_job-requires-clause-known
start_job-requires-clause-known g c = move_ring g.w.script g.w.before c.args.parts.now g.w.entry c.args.thread c.args.b c.args.mem c.args.num c.args.left c.requires.0 c.requires.1.0 c.requires.1.1

pub start_job-requires-clause-num : goal.start_job-requires-clause-num
start_job-requires-clause-num g c = move_num g.w.script g.w.before c.args.parts.now g.w.entry c.args.thread c.args.b c.args.mem c.args.num c.args.left c.requires.0 c.requires.1.0 c.requires.1.1

pub start_job-requires-clause-waits : goal.start_job-requires-clause-waits
start_job-requires-clause-waits g c = move_waits g.w.script g.w.before c.args.parts.now g.w.entry c.args.thread c.args.b c.args.mem c.args.num c.args.left c.requires.0 c.requires.1.0 c.requires.1.1 c.get-bo.result.now c.get-bo.ensures c.contexts-contexts.result c.contexts-contexts.ensures c.in_ok-waits.waits c.in_ok-waits.ensures

pub start_job-requires-clause-few : goal.start_job-requires-clause-few
start_job-requires-clause-few g c = move_few g.w.script g.w.before c.args.parts.now g.w.entry c.args.thread c.args.b c.args.mem c.args.num c.args.left c.requires.0 c.requires.1.0 c.requires.1.1 c.get-bo.result.now c.get-bo.ensures c.in_ok-packets.packets.items c.in_ok-packets.ensures

pub map_target-requires : goal.map_target-requires
map_target-requires g c = move_has g.w.script g.w.before c.args.parts.now g.w.entry c.args.thread c.args.b c.args.mem c.args.num c.args.left c.requires.0 c.requires.1.0 c.requires.1.1 c.get-bo.result.now c.get-bo.ensures

pub emit-emitted-requires-clause-known : goal.emit-emitted-requires-clause-known
emit-emitted-requires-clause-known g c = move_line g.w.script g.w.before c.args.parts.now g.w.entry c.args.thread c.args.b c.args.mem c.args.num c.args.left c.requires.0 c.requires.1.0 c.requires.1.1

pub emit-emitted-requires-clause-few : goal.emit-emitted-requires-clause-few
emit-emitted-requires-clause-few g c = move_emitted g.w.script g.w.before c.args.parts.now g.w.entry c.args.thread c.args.b c.args.mem c.args.num c.args.left c.requires.0 c.requires.1.0 c.requires.1.1

pub carry_spans-requires : goal.carry_spans-requires
carry_spans-requires g c = move_vram g.w.script g.w.before c.args.parts.now g.w.entry c.args.thread c.args.b c.args.mem c.args.num c.args.left c.requires.0 c.requires.1.0 c.requires.1.1

pub carry_spans-requires-2 : goal.carry_spans-requires-2
carry_spans-requires-2 g c = move_tt g.w.script g.w.before c.args.parts.now g.w.entry c.args.thread c.args.b c.args.mem c.args.num c.args.left c.requires.0 c.requires.1.0 c.requires.1.1

pub add_fence-requires-clause-known : goal.add_fence-requires-clause-known
add_fence-requires-clause-known g c = move_joins g.w.script g.w.before c.args.parts.now g.w.entry c.args.thread c.args.b c.args.mem c.args.num c.args.left c.requires.0 c.requires.1.0 c.requires.1.1 c.carry.new.self c.carry.ensures c.get-bo.result.now c.get-bo.ensures

pub add_fence-requires-clause-num : goal.add_fence-requires-clause-num
add_fence-requires-clause-num g c = move_num g.w.script g.w.before c.args.parts.now g.w.entry c.args.thread c.args.b c.args.mem c.args.num c.args.left c.requires.0 c.requires.1.0 c.requires.1.1

pub returns-clause-ok : goal.returns-clause-ok
returns-clause-ok g c =
    move_held g.w.script g.w.before c.args.parts.now g.w.entry c.args.thread c.args.b c.args.mem c.args.num c.args.left c.requires.0 c.requires.1.0 c.requires.1.1 c.get-bo.result.now c.get-bo.ensures c.contexts-contexts.result c.contexts-contexts.ensures c.in_ok-packets.packets.items c.in_ok-packets.ensures c.in_ok-waits.waits c.in_ok-waits.ensures c.in_ok-ghost_object.ghost_object c.in_ok-ghost_object.ensures
    c.start_job.new.rings c.in_ok-start_job.ensures.rings c.start_job.new.ghosts c.in_ok-start_job.ensures.ghosts c.map_target.new.aper c.map_target.ensures c.emit-emitted.new.self c.emit-emitted.ensures.after
    c.carry_spans.new.room c.keep_move_fence.new.room c.carry_spans.ensures.held c.carry_spans.ensures.rule c.keep_move_fence.ensures.held c.keep_move_fence.ensures.rule c.carry_spans-2.new.room c.carry_spans-2.ensures.held
    c.carry.new.self c.add_fence.new.self c.carry.ensures c.add_fence.ensures c.relist.new.lru c.relist.ensures c.members_stand_once.ensures.listed c.last_ghost-parts.result c.last_ghost-parts.ensures
