use Rattle.laws.proofs.law_sound.DeadEnds.{no_dead_end}
use Rattle.laws.proofs.law_sound.sound_states_go_on.Goals as goal

pub returns : goal.returns
returns c = λ script s sound over. no_dead_end script s sound over
