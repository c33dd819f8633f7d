use Rattle.laws.proofs.law_sound.Orders.{rests_law}
use Rattle.laws.proofs.law_sound.nobody_goes_on_behind_the_end.Goals as goal

pub returns : goal.returns
returns c = λ script journal fits h over who. rests_law script journal fits h over who
