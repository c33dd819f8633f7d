use Rattle.law_facts.proofs.Marks.{story_law}
use Rattle.law_facts.proofs.marks_tell_nothing.Goals as goal

pub returns : goal.returns
returns c = story_law
