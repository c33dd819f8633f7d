use Rattle.laws.proofs.law_transparent.PacketPlacesLaw.{places_law}
use Rattle.laws.proofs.law_transparent.packets_name_what_is_there.Goals as goal

pub returns : goal.returns
returns c = places_law
