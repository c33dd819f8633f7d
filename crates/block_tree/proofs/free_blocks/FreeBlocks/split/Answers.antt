use Rattle.std.proofs.Common.{◌≡◌, ℕ, ◌+◌, ◌*◌, ◌/◌, ◌^◌, ◌≤◌, true, false, length, sym, ◌∙◌, subst, arith}
use Rattle.block_tree.specs.FreeSet.{beside, is_free}
use Rattle.block_tree.specs.Masks.{is_marked}
use Rattle.block_tree.specs.Searching.{numbered}
use Rattle.block_tree.specs.Holding.{IsFree}
use Rattle.block_tree.proofs.MarkingLaws.{at_block, IsSplitting, split_start, split_step, split_end, beside_end, beside_held, beside_alone, free_end, free_pages}
use Rattle.block_tree.proofs.free_blocks.FreeBlocks.split.Goals as goal

pub remove-requires : goal.remove-requires
remove-requires c = c.requires.free

pub loop-block-init : goal.loop-block-init
loop-block-init c = record { size = c.remove.ensures.size; splitting = split_start (is_free c.args.self.now) (is_free c.remove.new.self) c.args.found.free.order c.args.found.free.number c.args.found.piece.order c.args.found.piece.number c.requires.order c.requires.number c.remove.ensures.marked }

pub add-requires : goal.add-requires
add-requires c =
    let l = c.loop-block-test.true in
    let e = c.loop-block.invariant.size in
    record {
      end = at_block (λ j m. m * 2 ^ j + 2 ^ j ≤ length c.loop-block.self) c.beside.result.order c.beside.result.number c.loop-block.block.order (beside c.loop-block.block.number) c.beside.ensures.order c.beside.ensures.number (beside_end (is_free c.args.self.now) (is_free c.loop-block.self) c.args.found.free.order c.args.found.free.number c.args.found.piece.order c.args.found.piece.number c.loop-block.block.order c.loop-block.block.number c.requires.number c.loop-block.invariant.splitting (length c.loop-block.self) l (subst (λ n. c.args.found.free.number * 2 ^ c.args.found.free.order + 2 ^ c.args.found.free.order ≤ n) (sym e) (free_end (is_free c.args.self.now) (length c.args.self.now) c.args.found.free.order c.args.found.free.number c.requires.free)));
      held = at_block (λ j m. (page : ℕ) → page / 2 ^ j ≡ m → is_free c.loop-block.self page ≡ false) c.beside.result.order c.beside.result.number c.loop-block.block.order (beside c.loop-block.block.number) c.beside.ensures.order c.beside.ensures.number (beside_held (is_free c.args.self.now) (is_free c.loop-block.self) c.args.found.free.order c.args.found.free.number c.args.found.piece.order c.args.found.piece.number c.loop-block.block.order c.loop-block.block.number c.requires.number c.loop-block.invariant.splitting l);
      alone = at_block (λ j m. IsFree (is_free c.loop-block.self) (length c.loop-block.self) j (beside m) → ⊥) c.beside.result.order c.beside.result.number c.loop-block.block.order (beside c.loop-block.block.number) c.beside.ensures.order c.beside.ensures.number (beside_alone (is_free c.args.self.now) (is_free c.loop-block.self) c.args.found.free.order c.args.found.free.number c.args.found.piece.order c.args.found.piece.number c.loop-block.block.order c.loop-block.block.number c.requires.number c.loop-block.invariant.splitting (length c.loop-block.self));
    }

pub loop-block-preserved : goal.loop-block-preserved
loop-block-preserved c = record {
  size = c.add.ensures.size ∙ c.loop-block.invariant.size;
  splitting = at_block (IsSplitting (is_free c.args.self.now) (is_free c.add.new.self) c.args.found.free.order c.args.found.free.number c.args.found.piece.order c.args.found.piece.number) c.above-block.result.order c.above-block.result.number (c.loop-block.block.order + 1) (c.loop-block.block.number / 2) c.above-block.ensures.order c.above-block.ensures.number
      (split_step (is_free c.args.self.now) (is_free c.loop-block.self) c.args.found.free.order c.args.found.free.number c.args.found.piece.order c.args.found.piece.number c.loop-block.block.order c.loop-block.block.number c.requires.number c.loop-block.invariant.splitting (is_free c.add.new.self) c.loop-block-test.true (λ p h. free_pages (is_free c.args.self.now) (length c.args.self.now) c.args.found.free.order c.args.found.free.number p c.requires.free h)
      (at_block (λ j m. (page : ℕ) → is_free c.add.new.self page ≡ is_marked (numbered j m) true (is_free c.loop-block.self page) page) c.loop-block.block.order (beside c.loop-block.block.number) c.beside.result.order c.beside.result.number (sym c.beside.ensures.order) (sym c.beside.ensures.number) c.add.ensures.marked));
}

pub returns-clause-marked : goal.returns-clause-marked
returns-clause-marked c = split_end (is_free c.args.self.now) (is_free c.loop-block.self) c.args.found.free.order c.args.found.free.number c.args.found.piece.order c.args.found.piece.number c.loop-block.block.order c.loop-block.block.number c.requires.number c.loop-block.invariant.splitting (λ x. let n = c.loop-block-test.false in omega (arith, x, n))
