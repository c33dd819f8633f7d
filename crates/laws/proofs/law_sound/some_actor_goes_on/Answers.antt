use Rattle.laws.proofs.law_sound.Along.{goes_on_law}
use Rattle.laws.proofs.law_sound.some_actor_goes_on.Goals as goal

pub returns : goal.returns
returns c = λ script journal fits h unfinished. goes_on_law script journal fits h unfinished
