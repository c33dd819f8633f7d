use Rattle.std.proofs.Common.{sym, ◌∙◌, ap, subst}
use Rattle.std.specs.Prelude.{IsSome}
use Rattle.room_pages.specs.Tables.{frame_in}
use Rattle.room_pages.proofs.SwappedOut.{swap_out_below, swap_out_frame, swap_out_inside, swap_out_given, swap_out_held}
use Rattle.room_pages.proofs.pages.swap_out.Goals as goal

pub get-bo-requires : goal.get-bo-requires
get-bo-requires g c = swap_out_below g.w.script g.w.before c.args.parts.now g.w.entry c.args.thread c.args.b c.args.page c.args.slot c.requires.0 c.requires.1.0 c.requires.1.1

pub frame_of_page-frame-requires : goal.frame_of_page-frame-requires
frame_of_page-frame-requires g c =
    subst (λ l. IsSome (frame_in l c.args.page)) (sym c.places.ensures)
    (swap_out_frame g.w.script g.w.before c.args.parts.now g.w.entry c.args.thread c.args.b c.args.page c.args.slot c.requires.0 c.requires.1.0 c.requires.1.1 _ c.get-bo.ensures)

pub part-bytes-requires-clause-inside : goal.part-bytes-requires-clause-inside
part-bytes-requires-clause-inside g c =
    swap_out_inside g.w.script g.w.before c.args.parts.now g.w.entry c.args.thread c.args.b c.args.page c.args.slot c.requires.0 c.requires.1.0 c.requires.1.1 _ c.frame_of_page-frame.result c.get-bo.ensures
    (ap (λ l. frame_in l c.args.page) (sym c.places.ensures) ∙ c.frame_of_page-frame.ensures)

pub give-requires : goal.give-requires
give-requires g c =
    swap_out_given g.w.script g.w.before c.args.parts.now g.w.entry c.args.thread c.args.b c.args.page c.args.slot c.requires.0 c.requires.1.0 c.requires.1.1 _ c.frame_of_page-frame.result c.get-bo.ensures
    (ap (λ l. frame_in l c.args.page) (sym c.places.ensures) ∙ c.frame_of_page-frame.ensures)

pub returns : goal.returns
returns g c =
    swap_out_held g.w.script g.w.before c.args.parts.now g.w.entry c.args.thread c.args.b c.args.page c.args.slot c.requires.0 c.requires.1.0 c.requires.1.1 c.give.new.self c.put-taken.new.self c.set_page.new.self _ c.frame_of_page-frame.result _ _ c.get-bo.ensures
    (ap (λ l. frame_in l c.args.page) (sym c.places.ensures) ∙ c.frame_of_page-frame.ensures) c.part-bytes.ensures.value c.part-bytes.ensures.len c.put-taken.ensures.lowest c.put-taken.ensures.held c.put-taken.ensures.stored c.put-taken.ensures.len c.give.ensures c.set_page.ensures
