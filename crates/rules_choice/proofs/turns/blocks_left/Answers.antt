use Rattle.std.proofs.Common.{◌≡◌, ◌+◌, ◌-◌, ◌*◌, ◌/◌, ◌<◌, ◌^◌, subst}
use Rattle.rules_choice.proofs.AlikeLaws.{clash}
use Rattle.rules_choice.proofs.TurnLaws.{next_up, next_down}
use Rattle.rules_choice.proofs.turns.blocks_left.Goals as goal
use Rattle.rules_choice.proofs.turns.blocks_left.Goals.{then-topdown, else-topdown}

pub returns-clause-down : goal.returns-clause-down
returns-clause-down c =
    λ t n h. elim c.if-topdown.branch [
      | then-topdown w ↦
          let pages : c.if-topdown.pages ≡ c.args.start - c.args.start / 2 ^ c.args.whole * 2 ^ c.args.whole = rw c.block_len-len.ensures.value at w.pages-is in
          next_down c.args.order c.args.whole c.args.start n
          (subst (λ p. n < p / 2 ^ c.args.order + 1) pages (subst (λ b. n < c.if-topdown.pages / b + 1) c.block_len.ensures.value h))
      | else-topdown w ↦ absurd (clash c.args.topdown t w.if-topdown.false)
    ]

pub returns-clause-up : goal.returns-clause-up
returns-clause-up c =
    λ t n h. elim c.if-topdown.branch [
      | then-topdown w ↦ absurd (clash c.args.topdown w.if-topdown.true t)
      | else-topdown w ↦
          let pages : c.if-topdown.pages ≡ c.args.start / 2 ^ c.args.whole * 2 ^ c.args.whole + 2 ^ c.args.whole - 1 - c.args.start = rw c.block_len-len.ensures.value at w.pages-is in
          next_up c.args.order c.args.whole c.args.start n
          (subst (λ p. n < p / 2 ^ c.args.order + 1) pages (subst (λ b. n < c.if-topdown.pages / b + 1) c.block_len.ensures.value h))
    ]
