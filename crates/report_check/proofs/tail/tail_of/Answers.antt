use Rattle.report_check.proofs.TailLaws.{written_tail}
use Rattle.report_check.proofs.tail.tail_of.Goals as goal

pub returns-in-Ok : goal.returns-in-Ok
returns-in-Ok c =
    written_tail c.args.script.now c.args.journal.now c.args.accounts.now c.new-bytes.result.items _
    c.requires.accounts c.new-bytes.ensures.items c.in-Ok.ensures
