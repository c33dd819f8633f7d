use Rattle.std.proofs.Common.{◌≡◌, ℕ, ◌+◌, ◌*◌, ◌/◌, ◌^◌, ◌≤◌, false, length, refl, sym, ◌∙◌, subst, arith}
use Rattle.block_tree.specs.FreeSet.{beside, is_free}
use Rattle.block_tree.specs.Masks.{is_marked}
use Rattle.block_tree.specs.Searching.{numbered}
use Rattle.block_tree.specs.Holding.{IsFree}
use Rattle.block_tree.proofs.MarkingLaws.{at_block, IsGiving, give_step, above_end, free_end}
use Rattle.block_tree.proofs.free_blocks.FreeBlocks.give_block.Goals as goal

pub has_beside-requires : goal.has_beside-requires
has_beside-requires c = c.loop-self.invariant.end

pub loop-self-init : goal.loop-self-init
loop-self-init c = record { size = refl; end = c.requires.end; giving = record { held = c.requires.held; same = λ p. refl } }

pub remove-requires : goal.remove-requires
remove-requires c = at_block (IsFree (is_free c.loop-self.self) (length c.loop-self.self)) c.beside.result.order c.beside.result.number c.loop-self.block.order (beside c.loop-self.block.number) c.beside.ensures.order c.beside.ensures.number (c.has_beside.ensures.yes c.loop-self-test.true)

pub above-block-requires : goal.above-block-requires
above-block-requires c = let s = c.has_beside.ensures.small c.loop-self-test.true in omega (arith, s)

pub loop-self-preserved : goal.loop-self-preserved
loop-self-preserved c =
    let f = c.has_beside.ensures.yes c.loop-self-test.true in
    record {
      size = c.remove.ensures.size ∙ c.loop-self.invariant.size;
      end = at_block (λ j m. m * 2 ^ j + 2 ^ j ≤ length c.remove.new.self) c.above-block.result.order c.above-block.result.number (c.loop-self.block.order + 1) (c.loop-self.block.number / 2) c.above-block.ensures.order c.above-block.ensures.number
          (subst (λ n. c.loop-self.block.number / 2 * 2 ^ (c.loop-self.block.order + 1) + 2 ^ (c.loop-self.block.order + 1) ≤ n) (sym c.remove.ensures.size) (above_end c.loop-self.block.order c.loop-self.block.number (length c.loop-self.self) c.loop-self.invariant.end (free_end (is_free c.loop-self.self) (length c.loop-self.self) c.loop-self.block.order (beside c.loop-self.block.number) f)));
      giving = at_block (IsGiving (is_free c.args.self.now) (is_free c.remove.new.self) c.args.held.order c.args.held.number) c.above-block.result.order c.above-block.result.number (c.loop-self.block.order + 1) (c.loop-self.block.number / 2) c.above-block.ensures.order c.above-block.ensures.number
          (give_step (is_free c.args.self.now) (is_free c.loop-self.self) (is_free c.remove.new.self) (length c.loop-self.self) c.args.held.order c.args.held.number c.loop-self.block.order c.loop-self.block.number c.loop-self.invariant.giving f
          (at_block (λ j m. (page : ℕ) → is_free c.remove.new.self page ≡ is_marked (numbered j m) false (is_free c.loop-self.self page) page) c.loop-self.block.order (beside c.loop-self.block.number) c.beside.result.order c.beside.result.number (sym c.beside.ensures.order) (sym c.beside.ensures.number) c.remove.ensures.marked));
    }

pub loop-self-smaller : goal.loop-self-smaller
loop-self-smaller c = let s = c.has_beside.ensures.small c.loop-self-test.true in let e = c.above-block.ensures.order in omega (arith, s, e)

pub add-requires : goal.add-requires
add-requires c = record { end = c.loop-self.invariant.end; held = c.loop-self.invariant.giving.held; alone = c.has_beside.ensures.no c.loop-self-test.false }

pub returns-clause-size : goal.returns-clause-size
returns-clause-size c = c.add.ensures.size ∙ c.loop-self.invariant.size

pub returns-clause-marked : goal.returns-clause-marked
returns-clause-marked c = λ p. c.add.ensures.marked p ∙ c.loop-self.invariant.giving.same p
