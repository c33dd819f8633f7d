use Rattle.laws.proofs.law_sound.Orders.{until_the_end}
use Rattle.laws.proofs.law_sound.entries_come_until_the_end.Goals as goal

pub returns : goal.returns
returns c = λ script journal fits h. until_the_end script journal fits h
