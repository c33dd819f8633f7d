use Rattle.script_rules.proofs.AddressLaws.{line_inside}
use Rattle.script_rules.proofs.addresses.breaks_page.Goals as goal

pub job_len-requires : goal.job_len-requires
job_len-requires c =
    rw (c.items-in-Vsubmit.ensures, c.in_ok-ops-in-Vsubmit.ensures, c.items.ensures)
    (line_inside c.args.script.now c.args.line.now _ _ c.in-Vsubmit.is c.requires.numbers c.requires.ranges)
