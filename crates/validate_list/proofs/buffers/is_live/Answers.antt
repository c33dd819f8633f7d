use Rattle.std.proofs.Common.{◌≤◌, length, arith}
use Rattle.validate_list.proofs.Lent.{dead_beyond}
use Rattle.validate_list.proofs.buffers.is_live.Goals as goal

pub returns-else-b-len : goal.returns-else-b-len
returns-else-b-len c =
    let beyond : length c.parts.result.now.bos.reservations ≤ c.args.b.0 = omega arith in
    dead_beyond c.args.rooms.now.script c.args.rooms.now.journal c.parts.result.now c.parts.ensures c.args.b beyond
