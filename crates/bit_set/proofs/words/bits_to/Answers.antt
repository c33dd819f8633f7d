use Rattle.bit_set.proofs.BitLaws.{part_to}
use Rattle.bit_set.proofs.words.bits_to.Goals as goal

pub returns : goal.returns
returns c = part_to c.args.word c.args.bit c.requires
