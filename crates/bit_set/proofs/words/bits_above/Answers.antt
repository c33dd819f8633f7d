use Rattle.bit_set.proofs.BitLaws.{part_above}
use Rattle.bit_set.proofs.words.bits_above.Goals as goal

pub returns : goal.returns
returns c = part_above c.args.word c.args.bit c.ranges.word.fits c.requires
