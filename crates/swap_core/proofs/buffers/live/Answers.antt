use Rattle.std.proofs.Common.{◌≤◌, length, arith}
use Rattle.swap_core.proofs.LiveLaws.{lent_beyond, lent_dead, lent_alive}
use Rattle.swap_core.proofs.buffers.live.Goals as goal

pub returns-then-b-len : goal.returns-then-b-len
returns-then-b-len c =
    let many = c.len.ensures in
    let past = c.if-b-len.true in
    let beyond : length c.parts.result.now.bos.reservations ≤ c.args.b.0 = omega (arith, many, past) in
    lent_beyond c.args.rooms.now.script c.args.rooms.now.journal c.parts.result.now c.parts.ensures c.args.b beyond

pub returns-then-bo : goal.returns-then-bo
returns-then-bo c = lent_alive c.args.rooms.now.script c.args.rooms.now.journal c.parts.result.now c.parts.ensures c.args.b c.get-bo.result.now c.get-bo.ensures c.if-bo.true

pub returns-else-bo : goal.returns-else-bo
returns-else-bo c = lent_dead c.args.rooms.now.script c.args.rooms.now.journal c.parts.result.now c.parts.ensures c.args.b c.get-bo.result.now c.get-bo.ensures c.if-bo.false
