use Rattle.bit_set.proofs.BitLaws.{part_from}
use Rattle.bit_set.proofs.words.bits_from.Goals as goal

pub returns : goal.returns
returns c = part_from c.args.word c.args.bit c.ranges.word.fits c.requires
