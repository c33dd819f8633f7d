use Rattle.law_legal.proofs.law_maps.Following.{follows}
use Rattle.law_legal.proofs.law_maps.entries_go_with_their_pages.Goals as goal

pub returns : goal.returns
returns c = λ script made e m areas h known. follows script made e m areas h known
