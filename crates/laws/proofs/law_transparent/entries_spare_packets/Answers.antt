use Rattle.laws.proofs.law_transparent.Spared.{spares_law}
use Rattle.laws.proofs.law_transparent.entries_spare_packets.Goals as goal

pub returns : goal.returns
returns c = spares_law
