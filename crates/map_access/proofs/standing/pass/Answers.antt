use Rattle.std.proofs.Common.{◌∙◌}
use Rattle.std.proofs.lemmas.Result.{on_ok_weaker}
use Rattle.map_access.specs.Passing.{start_of}
use Rattle.map_access.proofs.Passed.{passed_by_part}
use Rattle.map_access.proofs.standing.pass.Goals as goal

pub returns : goal.returns
returns c =
    on_ok_weaker c.pass_marks.result
    (λ is. λ b. is b ∙ passed_by_part c.args.thread c.args.n b c.part.result.now c.args.search.now.marks c.part.ensures (start_of c.args.starts.now b))
    c.pass_marks.ensures
