use Rattle.room_queries.proofs.Known.{line_context, job_next}
use Rattle.room_queries.proofs.counters.next_job.Goals as goal

pub next-requires : goal.next-requires
next-requires c = line_context c.args.script.now c.args.before.now c.args.parts.now c.requires.held c.args.ctx c.requires.known

pub returns : goal.returns
returns c = job_next c.args.script.now c.args.before.now c.args.parts.now c.requires.held c.args.ctx c.next.result c.requires.known c.next.ensures.next
