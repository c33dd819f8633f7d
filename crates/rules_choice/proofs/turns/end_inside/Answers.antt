use Rattle.std.proofs.Common.{sym, subst, arith}
use Rattle.rules_choice.specs.Settled.{IsOutside}
use Rattle.rules_choice.proofs.TurnLaws.{lowest_after, highest_after}
use Rattle.rules_choice.proofs.turns.end_inside.Goals as goal

pub returns-then-topdown-clause-outside : goal.returns-then-topdown-clause-outside
returns-then-topdown-clause-outside c =
    λ i h l.
    let all = c.blocks_of.ensures in
    let before = c.blocks_before.ensures in
    subst (λ t. IsOutside c.args.range t c.args.order c.args.size i) (sym c.if-topdown.true)
    (highest_after c.args.range c.args.order c.args.size i (omega (arith, all, before, h)) l)

pub returns-else-topdown-clause-outside : goal.returns-else-topdown-clause-outside
returns-else-topdown-clause-outside c =
    λ i h l.
    let to = c.blocks_to.ensures in
    subst (λ t. IsOutside c.args.range t c.args.order c.args.size i) (sym c.if-topdown.false)
    (lowest_after c.args.range c.args.order c.args.size i (omega (arith, to, h)) l)
