use Rattle.bit_set.proofs.BitLaws.{part_below}
use Rattle.bit_set.proofs.words.bits_below.Goals as goal

pub returns : goal.returns
returns c = part_below c.args.word c.args.bit c.ranges.word.fits c.requires
