use Rattle.script_lines.proofs.Patterns.{submit_is}
use Rattle.script_lines.proofs.jobs.submit.Goals as goal

pub returns-in_ok-read_ops-in-len2-up : goal.returns-in_ok-read_ops-in-len2-up
returns-in_ok-read_ops-in-len2-up c =
    rw (c.submit_with.ensures, c.engine.ensures, c.items.ensures, c.in_ok-read_ops-in-len2-up.ensures)
    (submit_is c.args.names.now c.args.words.now c.args.engines c.number-item.result c.in-len2-up.len_at_least c.number-item.is)
