use Rattle.std.proofs.Common.{refl}
use Rattle.journal_model.specs.declared.line.Line.TheVariants as line
use Rattle.script_rules.proofs.AddressLaws.{line_inside}
use Rattle.script_text.proofs.marks.put_vsubmit.Goals as goal

pub job_of-requires : goal.job_of-requires
job_of-requires c =
    rw (c.items-3.ensures, c.in_ok-vops.ensures, c.items-2.ensures)
    (line_inside c.args.progress.now.script (line.Vsubmit c.args.engine c.args.words) c.args.engine c.args.words refl c.requires.clean.numbers c.requires.clean.ranges)
