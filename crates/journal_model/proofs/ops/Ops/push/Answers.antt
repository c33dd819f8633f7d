use Rattle.std.proofs.Common.{arith}
use Rattle.std.proofs.lemmas.Grind.{common_steps}
use Rattle.journal_model.proofs.Mentions.{named_with}
use Rattle.journal_model.proofs.ops.Ops.push.Goals as goal

pub invariant_of-self-in-Ok : goal.invariant_of-self-in-Ok
invariant_of-self-in-Ok c =
    let named = named_with c.self.inside.list c.args.op in
    let was = c.self.invariant in
    grind (arith, common_steps, named, was)
