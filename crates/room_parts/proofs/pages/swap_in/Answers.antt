use Rattle.room_parts.proofs.SwappedIn.{swap_in_slot, swap_in_below, swap_in_inside, swap_in_held}
use Rattle.room_parts.proofs.pages.swap_in.Goals as goal

pub page-bytes-requires : goal.page-bytes-requires
page-bytes-requires g c = swap_in_below g.w.script g.w.before c.args.parts.now g.w.entry c.args.thread c.args.b c.args.page c.args.slot c.args.frame c.requires.0 c.requires.1.0 c.requires.1.1

pub copy_page_part-requires : goal.copy_page_part-requires
copy_page_part-requires g c = swap_in_inside g.w.script g.w.before c.args.parts.now g.w.entry c.args.thread c.args.b c.args.page c.args.slot c.args.frame c.requires.0 c.requires.1.0 c.requires.1.1 _ c.page-bytes.ensures.len

pub drop_slot-requires : goal.drop_slot-requires
drop_slot-requires g c = swap_in_slot g.w.script g.w.before c.args.parts.now g.w.entry c.args.thread c.args.b c.args.page c.args.slot c.args.frame c.requires.0 c.requires.1.0 c.requires.1.1

pub returns : goal.returns
returns g c =
    swap_in_held g.w.script g.w.before c.args.parts.now g.w.entry c.args.thread c.args.b c.args.page c.args.slot c.args.frame c.requires.0 c.requires.1.0 c.requires.1.1 c.take-taken.new.self c.copy_page_part.new.self c.drop_slot.new.self c.set_page.new.self _ _ c.take-taken.ensures.lowest c.take-taken.ensures.taken c.page-bytes.ensures.value
    c.page-bytes.ensures.len c.copy_page_part.ensures.after c.drop_slot.ensures c.set_page.ensures
