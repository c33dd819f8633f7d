use Rattle.std.proofs.Common.{◌≡◌, ℕ, ◌+◌, ◌-◌, ◌<◌, Bool, List, [], ◌∷◌, ◌++◌, Option, length, option_map, ap, sym, subst, ◌∙◌, arith}
use Rattle.ttm_base.specs.declared.Span.{Span}
use Rattle.ttm_base.specs.BuddyChoice.{candidate, first_candidate, log2, scattered}
use Rattle.block_tree.specs.FreeSet.{is_free}
use Rattle.buddy_manager.specs.Taking.{beside, less, Tells, IsTakenBy}
use Rattle.buddy_manager.proofs.TakingLaws.{beside_more, took_more, tells_beside, marked_not, of_candidate, no_candidate, scattered_none, scattered_more}
use Rattle.buddy_manager.proofs.choice.scattered.Goals as goal
use Rattle.buddy_manager.proofs.choice.scattered.Goals.{After-take_block}

-- what the block in hand is among the pages that are left
at_test : (c : After-take_block) (test : ℕ → Bool) → Tells test c.args.free.now
    → option_map (λ c. c.block) (first_candidate (candidate (beside test c.loop-block.out) (length c.args.free.now) c.args.range c.args.topdown) (log2 c.loop-block.left + 1)) ≡ c.take_block.result
at_test c test h =
    let tells = tells_beside test c.args.free.now c.loop-block.free c.loop-block.out h c.loop-block.invariant.taken in
    ap (λ k. option_map (λ c. c.block) (first_candidate (candidate (beside test c.loop-block.out) (length c.args.free.now) c.args.range c.args.topdown) (k + 1))) (sym c.log2.ensures.value)
    ∙ ap (λ n. option_map (λ c. c.block) (first_candidate (candidate (beside test c.loop-block.out) n c.args.range c.args.topdown) (c.log2.result + 1))) (sym c.loop-block.invariant.taken.size)
    ∙ c.take_block.ensures.choice (beside test c.loop-block.out) tells

pub returns-in_default-clause-none : goal.returns-in_default-clause-none
returns-in_default-clause-none c = λ e test h.
    let some : 0 < c.loop-block.left = omega arith in
    let none = no_candidate _ (at_test (goal.at.returns-in_default-clause-none c).After-take_block test h ∙ c.in_default.is) in
    sym (c.loop-block.invariant.same test h)
    ∙ ap (option_map (λ more. c.loop-block.out ++ more)) (scattered_none (c.args.pages - c.loop-block._block) (beside test c.loop-block.out) (length c.args.free.now) c.args.range c.args.topdown c.loop-block.left some none)

-- (the block in hand was just taken)
pub give-requires : goal.give-requires
give-requires c =
    let size = c.in-Some.ensures.size in
    let within = c.in-Some.ensures.can.within in
    record {
      end = omega (arith, size, within);
      held = λ page t. c.in-Some.ensures.taken page ∙ marked_not c.in-Some.block (is_free c.loop-block.free page) page t;
    }

pub loop-block-preserved : goal.loop-block-preserved
loop-block-preserved c =
    let block = c.in-Some.block in
    let fuel : ℕ = c.args.pages - c.loop-block._block in
    let enough : 0 < c.args.pages - c.loop-block._block = omega arith in
    let some : 0 < c.loop-block.left = omega arith in
    let pushed : c.push.new.self ≡ c.loop-block.out ++ block ∷ [] = c.in-Ok.ensures.ok in
    let took = took_more c.args.free.now c.loop-block.free c.take_block.new.free c.loop-block.out block c.loop-block.invariant.taken c.in-Some.ensures.can c.in-Some.ensures.size c.in-Some.ensures.taken in
    let less_one : c.args.pages - (c.loop-block._block + 1) ≡ c.args.pages - c.loop-block._block - 1 = omega arith in
    let left : c.saturating_sub-left.result ≡ c.loop-block.left - (block.end - block.start) = omega arith in
    record {
      taken = subst (λ xs. IsTakenBy c.args.free.now xs c.take_block.new.free) (sym pushed) took;
      same = λ test h.
          let found = of_candidate (first_candidate (candidate (beside test c.loop-block.out) (length c.args.free.now) c.args.range c.args.topdown) (log2 c.loop-block.left + 1)) block (at_test (goal.at.loop-block-preserved c).After-take_block test h ∙ c.in-Some.is) in
          let behind : ℕ → ℕ → List Span → Option (List Span)
          = λ n left spans. option_map (λ more. spans ++ more) (scattered n (beside test spans) (length c.args.free.now) c.args.range c.args.topdown left) in
          let step = scattered_more fuel (beside test c.loop-block.out) (length c.args.free.now) c.args.range c.args.topdown c.loop-block.left c.loop-block.out found.candidate enough some found.is in
          ap (λ (n : ℕ). behind n c.saturating_sub-left.result c.push.new.self) less_one
          ∙ ap (λ (n : ℕ). behind (fuel - 1) n c.push.new.self) left
          ∙ ap (λ (spans : List Span). behind (fuel - 1) (c.loop-block.left - (block.end - block.start)) spans) pushed
          ∙ ap (λ (f : ℕ → Bool). option_map (λ more. (c.loop-block.out ++ block ∷ []) ++ more) (scattered (fuel - 1) f (length c.args.free.now) c.args.range c.args.topdown (c.loop-block.left - (block.end - block.start)))) (beside_more test c.loop-block.out block)
          ∙ ap (λ (b : Span). option_map (λ more. (c.loop-block.out ++ b ∷ []) ++ more) (scattered (fuel - 1) (less (beside test c.loop-block.out) b) (length c.args.free.now) c.args.range c.args.topdown (c.loop-block.left - (b.end - b.start)))) (sym found.block)
          ∙ step
          ∙ c.loop-block.invariant.same test h;
    }
