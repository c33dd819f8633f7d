use Rattle.std.proofs.Common.{◌≡◌, ◌-◌, ◌<◌, Some, length, option_map, ap, sym, subst, ◌∙◌, arith}
use Rattle.ttm_base.specs.BuddyChoice.{candidate, first_candidate}
use Rattle.block_tree.specs.FreeSet.{is_free}
use Rattle.buddy_manager.proofs.TakingLaws.{of_candidate, no_candidate, first_on, first_here}
use Rattle.buddy_manager.proofs.choice.take_block.Goals as goal

pub returns-in-Some-clause-choice : goal.returns-in-Some-clause-choice
returns-in-Some-clause-choice c = λ test h.
    let k = c.loop-order.invariant.kept in
    let found = of_candidate (candidate test (length c.loop-order.free) c.args.range c.args.topdown (c.loop-order.order - 1)) c.in-Some.block (c.in-Some.ensures.choice test (λ page l. h page (subst (λ f. page < length f) k l) ∙ ap (λ f. is_free f page) (sym k))) in
    let here = first_here (candidate test (length c.loop-order.free) c.args.range c.args.topdown) c.loop-order.order found.candidate c.loop-order-test.true found.is in
    let was = subst (λ f. first_candidate (candidate test (length f) c.args.range c.args.topdown) c.loop-order.order ≡ Some found.candidate) k here in
    ap (option_map (λ c. c.block)) (sym (c.loop-order.invariant.same test h) ∙ was) ∙ ap Some found.block

pub loop-order-preserved : goal.loop-order-preserved
loop-order-preserved c =
    let k = c.loop-order.invariant.kept in
    let most = c.loop-order.invariant.most in
    record {
      most = omega (arith, most);
      kept = c.take.ensures.none c.in_default.is ∙ k;
      same = λ test h.
          let none = no_candidate (candidate test (length c.loop-order.free) c.args.range c.args.topdown (c.loop-order.order - 1)) (c.take.ensures.choice test (λ page l. h page (subst (λ f. page < length f) k l) ∙ ap (λ f. is_free f page) (sym k)) ∙ c.in_default.is) in
          first_on (candidate test (length c.args.free.now) c.args.range c.args.topdown) c.loop-order.order c.loop-order-test.true (rw k at none) ∙ c.loop-order.invariant.same test h;
    }

pub returns-in-Some-clause-less : goal.returns-in-Some-clause-less
returns-in-Some-clause-less c = λ pages h.
    let most = c.loop-order.invariant.most in
    let some = c.loop-order-test.true in
    let len = c.in-Some.ensures.len in
    let few = h (c.loop-order.order - 1) (omega (arith, most, some)) in
    omega (arith, len, few)
