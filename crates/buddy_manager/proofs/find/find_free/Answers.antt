use Rattle.std.proofs.Common.{◌+◌, true, false, None, length, inl, inr, refl, subst, arith}
use Rattle.block_tree.specs.FreeSet.{is_free}
use Rattle.block_tree.specs.Pieces.{IsFirstPiece, FirstPieceOf}
use Rattle.buddy_manager.specs.Finding.{IsEven, rest_of}
use Rattle.buddy_manager.proofs.KnownLaws.{bound_whole, bound_nowhere, bound_beyond, bound_next, whole_small, looked_found, found_left, free_room}
use Rattle.buddy_manager.proofs.find.find_free.Goals as goal

pub loop-whole-init : goal.loop-whole-init
loop-whole-init c = record { order = omega arith; ends = inl refl; bound = λ h left i u x. x.order }

pub returns-then-is_beyond : goal.returns-then-is_beyond
returns-then-is_beyond c =
    let inv = c.loop-whole.invariant in
    bound_beyond (is_free c.args.free.now) (length c.args.free.now) c.args.range c.args.rests.now c.args.order c.loop-whole.from inv.ends inv.bound c.args.half c.in-Some.whole (c.is_beyond.ensures.beyond c.if-is_beyond.true) c.in-Some.ensures.least

pub first_piece-requires-clause-order : goal.first_piece-requires-clause-order
first_piece-requires-clause-order c = let l = c.in-Some.ensures.least.is.order in let o = c.loop-whole.invariant.order in omega (arith, l, o)

pub returns-in-Some-first_piece : goal.returns-in-Some-first_piece
returns-in-Some-first_piece c =
    let inv = c.loop-whole.invariant in
    let small = c.in-Some.ensures.small in
    let first = subst (λ r. IsFirstPiece (is_free c.args.free.now) (length c.args.free.now) r c.args.topdown c.args.order c.in-Some.whole c.in-Some-first_piece.block) c.rest_of-rest.ensures c.in-Some-first_piece.ensures.first in
    looked_found (is_free c.args.free.now) (length c.args.free.now) c.args.range c.args.topdown c.args.order c.args.rests.now c.args.half c.in-Some.whole c.in-Some-first_piece.block c.found_free.result c.found_free.ensures.below c.found_free.ensures.none
    (λ below. found_left (is_free c.args.free.now) (length c.args.free.now) c.args.range c.args.topdown c.args.order c.args.rests.now c.args.half c.in-Some.whole c.in-Some-first_piece.block small below
    (bound_whole (is_free c.args.free.now) (length c.args.free.now) c.args.range c.args.rests.now c.args.order c.loop-whole.from inv.ends inv.bound c.in-Some.whole c.in-Some.ensures.least) first)
    (free_room (is_free c.args.free.now) (length c.args.free.now) (rest_of c.args.rests.now c.in-Some.whole) c.args.topdown c.args.order c.in-Some.whole c.in-Some-first_piece.block first c.in-Some-first_piece.ensures.small small)

pub has_even_ends-requires : goal.has_even_ends-requires
has_even_ends-requires c =
    let l = whole_small (is_free c.args.free.now) (length c.args.free.now) c.args.range c.loop-whole.from c.in-Some.whole c.in-Some.ensures.least.number c.in-Some.ensures.least.is (let v = c.size-size.ensures.value in let s = c.size-size.ensures.small in omega (arith, v, s)) in
    omega (arith, l)

pub loop-whole-smaller : goal.loop-whole-smaller
loop-whole-smaller c =
    let l = c.in-Some.ensures.least.is.order in
    let s = c.in-Some.ensures.small in
    omega (arith, l, s)

pub loop-whole-preserved : goal.loop-whole-preserved
loop-whole-preserved c =
    let inv = c.loop-whole.invariant in
    let l = c.in-Some.ensures.least.is.order in
    let o = inv.order in
    record {
      order = omega (arith, l, o);
      ends = inr (subst (λ n. IsEven false c.args.range n (c.in-Some.whole + 1) × IsEven true c.args.range n (c.in-Some.whole + 1)) c.size-size.ensures.value (c.has_even_ends.ensures.start c.if-not-has_even_ends.false, c.has_even_ends.ensures.end c.if-not-has_even_ends.false));
      bound = bound_next (is_free c.args.free.now) (length c.args.free.now) c.args.range c.args.rests.now c.args.order c.loop-whole.from inv.ends inv.bound c.args.topdown c.in-Some.whole c.in-Some.ensures.small c.in-Some.ensures.least
          (subst (λ r. FirstPieceOf (is_free c.args.free.now) (length c.args.free.now) r c.args.topdown c.args.order c.in-Some.whole None) c.rest_of-rest.ensures c.in_default-first_piece.ensures.first);
    }

pub returns : goal.returns
returns c =
    let inv = c.loop-whole.invariant in
    bound_nowhere (is_free c.args.free.now) (length c.args.free.now) c.args.range c.args.rests.now c.args.order c.loop-whole.from inv.ends inv.bound c.args.half c.in_default.ensures.least
