use Rattle.std.proofs.Common.{◌≡◌, ◌+◌, length, arith}
use Rattle.std.proofs.lemmas.Grind.{common_steps}
use Rattle.journal_model.proofs.RunsLaws.{last_longer, all_set}
use Rattle.journal_model.proofs.runs.Runs.push_run.Goals as goal

pub invariant_of-self : goal.invariant_of-self
invariant_of-self g c =
    let whole = all_set g.R.Run.is_whole c.self.inside.runs c.in-Some.last c.in-Some-joined.both c.self.invariant c.in-Some-joined.ensures.whole in
    grind (arith, common_steps, whole, c.set.ensures)

pub returns-in-Some-joined-clause-ok : goal.returns-in-Some-joined-clause-ok
returns-in-Some-joined-clause-ok g c =
    let last : c.in-Some.last + 1 ≡ length c.self.inside.runs = grind (arith, common_steps) in
    let items = last_longer g.R.Run.items c.self.inside.runs c.in-Some.last c.at.result c.in-Some-joined.both (g.R.Run.items c.args.run) last c.at.ensures c.in-Some-joined.ensures.items in
    grind (arith, common_steps, items, c.set.ensures, c.self.view_is)
