use Rattle.std.proofs.Common.{Some, None, arith}
use Rattle.room_queries.proofs.Known.{past_end}
use Rattle.room_queries.proofs.Needs.{ghost_first}
use Rattle.room_queries.proofs.waits.first_ghost.Goals as goal

pub returns-then-len-eq0 : goal.returns-then-len-eq0
returns-then-len-eq0 c =
    let many = c.len.ensures in
    let none = c.if-len-eq0.true in
    ghost_first c.args.script.now c.args.before.now c.args.parts.now c.requires None (past_end c.args.parts.now.ghosts 0 (omega (arith, many, none)))

pub returns : goal.returns
returns c = ghost_first c.args.script.now c.args.before.now c.args.parts.now c.requires (Some c.get.result.now) c.get.ensures
