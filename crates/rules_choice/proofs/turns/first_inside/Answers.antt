use Rattle.std.proofs.Common.{sym, subst, arith}
use Rattle.rules_choice.specs.Settled.{IsOutside}
use Rattle.rules_choice.proofs.TurnLaws.{lowest_before, highest_before}
use Rattle.rules_choice.proofs.turns.first_inside.Goals as goal

pub returns-then-topdown-clause-outside : goal.returns-then-topdown-clause-outside
returns-then-topdown-clause-outside c =
    λ i h l.
    let all = c.blocks_of.ensures in
    let to = c.blocks_to.ensures in
    subst (λ t. IsOutside c.args.range t c.args.order c.args.size i) (sym c.if-topdown.true)
    (highest_before c.args.range c.args.order c.args.size i (omega (arith, all, to, h)) l)

pub returns-else-topdown-clause-outside : goal.returns-else-topdown-clause-outside
returns-else-topdown-clause-outside c =
    λ i h l.
    let before = c.blocks_before.ensures in
    subst (λ t. IsOutside c.args.range t c.args.order c.args.size i) (sym c.if-topdown.false)
    (lowest_before c.args.range c.args.order c.args.size i (omega (arith, before, h)) l)
