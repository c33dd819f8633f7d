use Rattle.std.proofs.Common.{Some, None, ◌∙◌, arith}
use Rattle.room_queries.proofs.Known.{past_end}
use Rattle.room_queries.proofs.Needs.{ghost_known, ghost_needs}
use Rattle.room_queries.proofs.waits.ghost_need.Goals as goal

pub need-requires : goal.need-requires
need-requires c = ghost_known c.args.script.now c.args.before.now c.args.parts.now c.requires c.args.at c.get.result.now c.get.ensures

pub returns-then-at-len : goal.returns-then-at-len
returns-then-at-len c = c.need.ensures ∙ ghost_needs c.args.script.now c.args.before.now c.args.parts.now c.requires c.args.at (Some c.get.result.now) c.get.ensures

pub returns-else-at-len : goal.returns-else-at-len
returns-else-at-len c =
    let many = c.len.ensures in
    let past = c.if-at-len.false in
    ghost_needs c.args.script.now c.args.before.now c.args.parts.now c.requires c.args.at None (past_end c.args.parts.now.ghosts c.args.at (omega (arith, many, past)))
