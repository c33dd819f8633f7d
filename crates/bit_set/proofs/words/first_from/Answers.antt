use Rattle.std.proofs.Common.{◌+◌, get_or, arith, w64}
use Rattle.std.proofs.Math.Facts.{Fits-lt-pow}
use Rattle.std.specs.Int.{trailing_zeros}
use Rattle.bit_set.proofs.BitWalks.{climb_start, climb_next, climb_none, descent_start, descent_next, descent_end, lowest_bit, word_below}
use Rattle.bit_set.proofs.words.first_from.Goals as goal

pub loop-bits-init : goal.loop-bits-init
loop-bits-init c = record {
  within = c.requires.within;
  small = omega arith;
  climb = climb_start c.args.first c.args.start c.bits_from-bits.result c.args.words.now c.requires.tree c.bits_from-bits.ensures;
}

pub returns-then-at-eq0 : goal.returns-then-at-eq0
returns-then-at-eq0 c =
    climb_none c.args.first c.args.start c.loop-bits.place c.loop-bits.bits c.args.words.now c.requires.tree c.requires.from c.requires.within
    c.loop-bits.invariant.climb (omega arith) (omega arith)

pub loop-bits-preserved : goal.loop-bits-preserved
loop-bits-preserved c = record {
  within = omega (arith, c.loop-bits.invariant.within);
  small = omega arith;
  climb = climb_next c.args.first c.args.start c.loop-bits.place c.loop-bits.bits c.bits_above-bits.result c.args.words.now c.requires.tree c.requires.from c.requires.within
      c.loop-bits.invariant.climb (omega arith) (omega arith) c.bits_above-bits.ensures;
}

pub loop-place-init : goal.loop-place-init
loop-place-init c =
    descent_start c.args.first c.args.start c.loop-bits.place c.loop-bits.bits (trailing_zeros w64 c.loop-bits.bits) c.args.words.now
    c.requires.tree c.requires.from c.requires.within c.loop-bits.invariant.climb
    (lowest_bit c.loop-bits.bits (omega arith) c.loop-bits.invariant.small)

pub loop-place-preserved : goal.loop-place-preserved
loop-place-preserved c =
    let word = get_or c.args.words.now (c.loop-place.place + 1) 0 in
    let some = word_below c.args.first c.loop-place.place c.args.words.now c.requires.tree c.loop-place.invariant.is (omega arith) in
    descent_next c.args.first c.args.start c.loop-place.place (trailing_zeros w64 word) c.args.words.now c.requires.tree c.requires.from c.loop-place.invariant (omega arith)
    (lowest_bit word some (Fits-lt-pow (c.type_inv.words (c.loop-place.place + 1))))

pub returns : goal.returns
returns c = descent_end c.args.first c.args.start c.loop-place.place c.args.words.now c.loop-place.invariant (omega arith)
