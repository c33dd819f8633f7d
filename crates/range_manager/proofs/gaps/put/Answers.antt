use Rattle.std.proofs.Common.{ap, sym, subst, ◌∙◌}
use Rattle.std.specs.List.{list_any}
use Rattle.ttm_base.specs.Holes.{has_page}
use Rattle.range_manager.specs.Kept.{IsSpaced}
use Rattle.range_manager.proofs.SpanLaws.{apart_of_clear, spaced_with, pages_with}
use Rattle.range_manager.proofs.gaps.put.Goals as goal

pub add-requires-clause-apart : goal.add-requires-clause-apart
add-requires-clause-apart c = apart_of_clear c.args.pages c.args.holes.now.holes c.requires.spaced c.if-pages.true c.requires.clear

pub returns-then-pages-clause-spaced : goal.returns-then-pages-clause-spaced
returns-then-pages-clause-spaced c = subst (IsSpaced 1) (sym c.add.ensures.holes) (spaced_with 1 c.args.pages c.args.holes.now.holes c.requires.spaced c.if-pages.true c.requires.clear)

pub returns-then-pages-clause-pages : goal.returns-then-pages-clause-pages
returns-then-pages-clause-pages c = λ page. ap (list_any (has_page page)) c.add.ensures.holes ∙ pages_with c.args.pages c.args.holes.now.holes page
