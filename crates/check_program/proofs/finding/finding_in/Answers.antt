use Rattle.std.proofs.Common.{◌∙◌}
use Rattle.std.proofs.lemmas.Result.{IfOk-weaker}
use Rattle.check_program.specs.Finds.{FindsIn, FindsReport}
use Rattle.check_program.proofs.FindLaws.{found}
use Rattle.check_program.proofs.finding.finding_in.Goals as goal

pub returns-in-Ok : goal.returns-in-Ok
returns-in-Ok c =
    IfOk-weaker c.judged.result (FindsReport c.in-Ok.script c.split_at.result.1.now) (FindsIn c.args.bytes.now)
    (found c.args.bytes.now c.split_at.result.0.now c.split_at.result.1.now c.in-Ok.script (c.split_at.ensures.front ∙ c.len_of_script.ensures.script) (c.split_at.ensures.back ∙ c.len_of_script.ensures.report)
    c.in-Ok.ensures.spelled) c.judged.ensures
