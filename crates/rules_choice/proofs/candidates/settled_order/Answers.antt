use Rattle.std.proofs.Common.{◌≡◌, false, ap, sym, subst, arith}
use Rattle.std.specs.Prelude.{option_map}
use Rattle.std.proofs.lemmas.Grind.{common_steps}
use Rattle.rules_choice.specs.Marks.{marked}
use Rattle.rules_choice.specs.Candidates.{candidate_of}
use Rattle.rules_choice.specs.Settled.{IsSettled}
use Rattle.rules_choice.proofs.AlikeLaws.{settled_alike, settled_held_alike}
use Rattle.rules_choice.proofs.candidates.settled_order.Goals as goal

pub returns-in-Some-clause-settled : goal.returns-in-Some-clause-settled
returns-in-Some-clause-settled c =
    λ range.
    let marks = c.args.free.now.marks.items in
    subst (λ b. IsSettled marks range c.args.order c.alike_order-alike.result c.args.start b) (sym (ap (option_map candidate_of) c.in-Some.is))
    (settled_alike marks range c.args.order c.alike_order-alike.result c.args.start (candidate_of c.in-Some.least) c.alike_order-alike.ensures.least
    c.alike_order-alike.ensures.alike c.if-least-alike.true)

pub returns-in_default-2-clause-settled : goal.returns-in_default-2-clause-settled
returns-in_default-2-clause-settled c =
    λ range.
    let marks = c.args.free.now.marks.items in
    let held : marked marks c.args.start ≡ false = grind (arith, common_steps) in
    settled_held_alike marks range c.args.order c.alike_order-alike.result c.args.start (option_map candidate_of c.args.best) c.alike_order-alike.ensures.least
    c.alike_order-alike.ensures.alike held
