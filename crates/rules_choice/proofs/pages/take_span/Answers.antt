use Rattle.std.proofs.Common.{false, arith}
use Rattle.std.proofs.lemmas.Grind.{common_steps}
use Rattle.std.proofs.lemmas.Bool.Decides.{nat_tests}
use Rattle.std.proofs.lemmas.List.{get_or_past}
use Rattle.rules_choice.proofs.pages.take_span.Goals as goal

pub returns-clause-taken : goal.returns-clause-taken
returns-clause-taken c = λ page.
    let taken = c.loop-page.invariant.taken page in
    let past = get_or_past c.args.marks.now.items page false in
    grind (arith, common_steps, nat_tests, taken, past)
