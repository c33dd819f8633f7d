use Rattle.range_manager.proofs.GapLaws.{around_hole, around_page, around_none}
use Rattle.range_manager.proofs.gaps.around.Goals as goal

pub returns-clause-hole : goal.returns-clause-hole
returns-clause-hole c = around_hole c.args.page c.args.holes.now.holes c.around.result c.around.ensures c.requires.spaced

pub returns-clause-page : goal.returns-clause-page
returns-clause-page c = around_page c.args.page c.args.holes.now.holes c.around.result c.around.ensures

pub returns-clause-none : goal.returns-clause-none
returns-clause-none c = around_none c.args.page c.args.holes.now.holes c.around.result c.around.ensures
