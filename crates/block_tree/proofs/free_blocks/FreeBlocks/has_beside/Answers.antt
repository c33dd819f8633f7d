use Rattle.std.proofs.Common.{false, length, refl, sym, arith}
use Rattle.std.proofs.lemmas.Bool.{both_ways}
use Rattle.block_tree.specs.FreeSet.{beside, is_free}
use Rattle.block_tree.specs.Holding.{IsFree}
use Rattle.block_tree.proofs.KeptLaws.{IsPlaced, placed_block, placed_beside, placed_small, placed_spot, count_small, at_spot, not_at_spot, none_beside}
use Rattle.block_tree.proofs.MarkingLaws.{at_block}
use Rattle.block_tree.proofs.free_blocks.FreeBlocks.has_beside.Goals as goal

pub place-requires : goal.place-requires
place-requires c = record { order = placed_small c.self.inside.count c.self.inside.order c.self.inside.size c.self.inside.blocks c.beside.result.order c.beside.result.number c.self.invariant (at_block (IsPlaced c.self.inside.order) c.beside.result.order c.beside.result.number c.args.block.order (beside c.args.block.number) c.beside.ensures.order c.beside.ensures.number (placed_beside c.self.inside.order c.args.block.order c.args.block.number (placed_block c.self.inside.count c.self.inside.order c.self.inside.size c.self.inside.blocks c.args.self.now c.args.block.order c.args.block.number c.self.invariant c.self.view_is c.requires) c.if-block-self.false)); count = count_small c.self.inside.count c.self.inside.order c.self.inside.size c.self.inside.blocks c.self.invariant }

pub contains-requires : goal.contains-requires
contains-requires c = placed_spot c.self.inside.count c.self.inside.order c.self.inside.size c.self.inside.blocks c.beside.result.order c.beside.result.number c.place.result c.self.invariant (at_block (IsPlaced c.self.inside.order) c.beside.result.order c.beside.result.number c.args.block.order (beside c.args.block.number) c.beside.ensures.order c.beside.ensures.number (placed_beside c.self.inside.order c.args.block.order c.args.block.number (placed_block c.self.inside.count c.self.inside.order c.self.inside.size c.self.inside.blocks c.args.self.now c.args.block.order c.args.block.number c.self.invariant c.self.view_is c.requires) c.if-block-self.false)) c.place.ensures

pub returns : goal.returns
returns c =
    let p = (at_block (IsPlaced c.self.inside.order) c.beside.result.order c.beside.result.number c.args.block.order (beside c.args.block.number) c.beside.ensures.order c.beside.ensures.number (placed_beside c.self.inside.order c.args.block.order c.args.block.number (placed_block c.self.inside.count c.self.inside.order c.self.inside.size c.self.inside.blocks c.args.self.now c.args.block.order c.args.block.number c.self.invariant c.self.view_is c.requires) c.if-block-self.false)) in
    let l = c.if-block-self.false in
    let s = c.self.invariant.order in
    record {
      yes = λ t. at_block (IsFree (is_free c.args.self.now) (length c.args.self.now)) c.args.block.order (beside c.args.block.number) c.beside.result.order c.beside.result.number (sym c.beside.ensures.order) (sym c.beside.ensures.number) (at_spot c.self.inside.count c.self.inside.order c.self.inside.size c.self.inside.blocks c.args.self.now c.beside.result.order c.beside.result.number c.place.result c.contains.result c.self.invariant c.self.view_is p.order p.number c.place.ensures c.contains.ensures t);
      no = λ t w. not_at_spot c.self.inside.count c.self.inside.order c.self.inside.size c.self.inside.blocks c.args.self.now c.beside.result.order c.beside.result.number c.place.result c.contains.result c.self.invariant c.self.view_is c.place.ensures c.contains.ensures t (at_block (IsFree (is_free c.args.self.now) (length c.args.self.now)) c.beside.result.order c.beside.result.number c.args.block.order (beside c.args.block.number) c.beside.ensures.order c.beside.ensures.number w);
      small = λ t. omega (arith, l, s);
    }

pub returns-then-block-self : goal.returns-then-block-self
returns-then-block-self c =
    record {
      yes = λ t. absurd (both_ways false refl t);
      no = λ t w. none_beside c.self.inside.count c.self.inside.order c.self.inside.size c.self.inside.blocks c.args.self.now c.args.block.order c.args.block.number c.self.invariant c.self.view_is c.if-block-self.true c.requires w;
      small = λ t. absurd (both_ways false refl t);
    }
