use Rattle.std.proofs.Common.{arith}
use Rattle.bit_set.proofs.BitWalks.{word_below}
use Rattle.bit_set.proofs.BitWalksBack.{climb_start, climb_next, climb_none, descent_start, descent_next, descent_end}
use Rattle.bit_set.proofs.words.last_to.Goals as goal

pub loop-bits-init : goal.loop-bits-init
loop-bits-init c = record {
  within = c.requires.within;
  small = omega arith;
  climb = climb_start c.args.first c.args.start c.bits_to-bits.result c.args.words.now c.requires.tree c.bits_to-bits.ensures;
}

pub returns-then-at-eq0 : goal.returns-then-at-eq0
returns-then-at-eq0 c =
    climb_none c.args.first c.args.start c.loop-bits.place c.loop-bits.bits c.args.words.now c.requires.tree c.requires.from c.requires.within
    c.loop-bits.invariant.climb (omega arith) (omega arith)

pub loop-bits-preserved : goal.loop-bits-preserved
loop-bits-preserved c = record {
  within = omega (arith, c.loop-bits.invariant.within);
  small = omega arith;
  climb = climb_next c.args.first c.args.start c.loop-bits.place c.loop-bits.bits c.bits_below-bits.result c.args.words.now c.requires.tree c.requires.from c.requires.within
      c.loop-bits.invariant.climb (omega arith) (omega arith) c.bits_below-bits.ensures;
}

pub loop-place-init : goal.loop-place-init
loop-place-init c =
    descent_start c.args.first c.args.start c.loop-bits.place c.loop-bits.bits c.highest_bit-bit.result c.args.words.now
    c.requires.tree c.requires.from c.requires.within c.loop-bits.invariant.climb c.highest_bit-bit.ensures

pub highest_bit-last-requires : goal.highest_bit-last-requires
highest_bit-last-requires c = word_below c.args.first c.loop-place.place c.args.words.now c.requires.tree c.loop-place.invariant.is (omega arith)

pub loop-place-preserved : goal.loop-place-preserved
loop-place-preserved c =
    descent_next c.args.first c.args.start c.loop-place.place c.highest_bit-last.result c.args.words.now c.requires.tree c.loop-place.invariant (omega arith)
    c.highest_bit-last.ensures

pub returns : goal.returns
returns c = descent_end c.args.first c.args.start c.loop-place.place c.args.words.now c.loop-place.invariant (omega arith)
