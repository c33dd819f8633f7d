use Rattle.bit_set.proofs.BitWalksBack.{leading_below, highest_bit}
use Rattle.bit_set.proofs.words.highest_bit.Goals as goal

pub overflow_sub-result : goal.overflow_sub-result
overflow_sub-result c = leading_below c.args.word c.requires c.ranges.word.fits

pub returns : goal.returns
returns c = highest_bit c.args.word c.requires c.ranges.word.fits
