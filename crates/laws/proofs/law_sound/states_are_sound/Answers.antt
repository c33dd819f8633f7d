use Rattle.laws.proofs.law_sound.Along.{sound_law}
use Rattle.laws.proofs.law_sound.states_are_sound.Goals as goal

pub returns : goal.returns
returns c = λ script journal fits h. sound_law script journal fits h
