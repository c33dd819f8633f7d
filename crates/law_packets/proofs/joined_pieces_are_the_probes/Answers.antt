use Rattle.std.proofs.Common.{refl}
use Rattle.law_packets.specs.Through.{memory_of}
use Rattle.law_packets.proofs.Through.{ops_are_shown}
use Rattle.law_packets.proofs.joined_pieces_are_the_probes.Goals as goal

pub returns : goal.returns
returns c = λ aper names pages ops bytes apart inside. ops_are_shown aper names pages apart ops bytes (memory_of aper names bytes) inside (λ c x l. refl)
