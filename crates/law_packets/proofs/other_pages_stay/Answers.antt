use Rattle.law_packets.proofs.Through.{ops_stay}
use Rattle.law_packets.proofs.other_pages_stay.Goals as goal

pub returns : goal.returns
returns c = λ aper names pages ops bytes page inside other off. ops_stay aper names pages page other ops bytes inside off
