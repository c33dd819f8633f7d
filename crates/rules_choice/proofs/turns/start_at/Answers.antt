use Rattle.std.proofs.Common.{arith}
use Rattle.std.proofs.lemmas.Grind.{common_steps}
use Rattle.rules_choice.proofs.StartLaws.{lowest_first, highest_first}
use Rattle.rules_choice.proofs.turns.start_at.Goals as goal
use Rattle.rules_choice.proofs.turns.start_at.Goals.{then-topdown, else-topdown}

pub returns-clause-value : goal.returns-clause-value
returns-clause-value c =
    elim c.if-topdown.branch [
      | then-topdown w ↦ let at = highest_first c.args.order c.args.size c.args.i c.requires.there in grind (arith, common_steps, at)
      | else-topdown w ↦ let at = lowest_first c.args.order c.args.size c.args.i c.requires.there in grind (arith, common_steps, at)
    ]
