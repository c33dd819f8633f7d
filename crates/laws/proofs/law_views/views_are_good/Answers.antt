use Rattle.laws.proofs.law_views.Law.{good_view}
use Rattle.laws.proofs.law_views.views_are_good.Goals as goal

pub returns : goal.returns
returns c = good_view
