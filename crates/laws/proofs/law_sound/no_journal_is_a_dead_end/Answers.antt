use Rattle.laws.proofs.law_sound.Along.{dead_end_law}
use Rattle.laws.proofs.law_sound.no_journal_is_a_dead_end.Goals as goal

pub returns : goal.returns
returns c = λ script journal fits h dead. dead_end_law script journal fits h dead
