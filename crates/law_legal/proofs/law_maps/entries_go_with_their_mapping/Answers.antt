use Rattle.law_legal.proofs.law_maps.Following.{ended}
use Rattle.law_legal.proofs.law_maps.entries_go_with_their_mapping.Goals as goal

pub returns : goal.returns
returns c = λ script made m areas h. ended script made m areas h
