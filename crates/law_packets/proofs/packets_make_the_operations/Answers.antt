use Rattle.std.proofs.Common.{refl}
use Rattle.law_packets.specs.Through.{memory_of}
use Rattle.law_packets.proofs.Through.{ops_on_memory}
use Rattle.law_packets.proofs.packets_make_the_operations.Goals as goal

pub returns : goal.returns
returns c = λ aper names pages ops bytes apart inside b x l. ops_on_memory aper names pages apart ops bytes (memory_of aper names bytes) inside (λ c x l. refl) b x l
