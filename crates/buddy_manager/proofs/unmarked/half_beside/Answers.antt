use Rattle.std.proofs.Common.{◌≡◌, ◌≤◌, ◌+◌, ◌*◌, ◌/◌, ◌%◌, ◌^◌, sym, subst}
use Rattle.buddy_manager.proofs.KnownLaws.{beside_fits}
use Rattle.buddy_manager.proofs.unmarked.half_beside.Goals as goal

pub returns-then-number-eq0-clause-numbers : goal.returns-then-number-eq0-clause-numbers
returns-then-number-eq0-clause-numbers c =
    let e = c.block_len.ensures.value in
    subst (λ n. (c.args.block.start / n + 1) * 2 ^ c.args.order + 2 ^ c.args.order ≤ 2 ^ 31) (sym e)
    (beside_fits c.args.block.start c.args.order c.requires.small c.requires.order (subst (λ n. c.args.block.start / n % 2 ≡ 0) e c.if-number-eq0.true))
