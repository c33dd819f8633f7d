use Rattle.std.proofs.Common.{◌∙◌, arith}
use Rattle.room_pages.proofs.binding.Walks.{first_below, rest_below, mapped_step, mapped_end}
use Rattle.room_pages.proofs.binding.apertures.map_pages.Goals as goal

pub map_page-requires : goal.map_page-requires
map_page-requires c = first_below c.loop-place.pages c.next.new.self c.in-Some.page c.in-Some.ensures.steps _ c.loop-place.invariant.3

pub loop-place-preserved : goal.loop-place-preserved
loop-place-preserved c = (
  tt,
  tt,
  mapped_step c.loop-place.pages c.next.new.self c.in-Some.page c.in-Some.ensures.steps _ c.map_page.new.aper _ c.loop-place.place-index _ (omega arith) c.map_page.ensures.after ∙ c.loop-place.invariant.2,
  rest_below c.loop-place.pages c.next.new.self c.in-Some.page c.in-Some.ensures.steps _ _ c.map_page.ensures.len c.loop-place.invariant.3,
)

pub returns : goal.returns
returns c = mapped_end c.loop-place.aper c.loop-place.pages c.args.table.now c.loop-place.place-index (omega arith) ∙ c.loop-place.invariant.2
