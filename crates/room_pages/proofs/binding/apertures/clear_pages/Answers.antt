use Rattle.std.proofs.Common.{◌∙◌}
use Rattle.room_pages.proofs.binding.Walks.{first_below, rest_below, cleared_step}
use Rattle.room_pages.proofs.binding.apertures.clear_pages.Goals as goal

pub clear-requires : goal.clear-requires
clear-requires c = first_below c.loop-page.page-iterator c.next.new.self c.in-Some.page c.in-Some.ensures.steps _ c.loop-page.invariant.3

pub loop-page-preserved : goal.loop-page-preserved
loop-page-preserved c = (
  tt,
  tt,
  cleared_step c.loop-page.page-iterator c.next.new.self c.in-Some.page c.in-Some.ensures.steps _ c.clear.new.self c.clear.ensures.after ∙ c.loop-page.invariant.2,
  rest_below c.loop-page.page-iterator c.next.new.self c.in-Some.page c.in-Some.ensures.steps _ _ c.clear.ensures.len c.loop-page.invariant.3,
)
