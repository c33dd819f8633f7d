use Rattle.std.proofs.Common.{◌+◌, ◌*◌, ◌/◌, length, get_or, ap, ◌∙◌, arith}
use Rattle.std.specs.Prelude.{◌%◌}
use Rattle.byte_store.specs.Parts.{overwritten, part}
use Rattle.byte_store.specs.Slots.{page_bytes, shown_slot}
use Rattle.byte_store.specs.declared.slots.Stored.TheVariants as stored
use Rattle.byte_store.proofs.PartLaws.{length-overwritten, length-part}
use Rattle.byte_store.proofs.SlotLaws.{has_written, page_count, place_fits, read_there, shown_fits, written_there}
use Rattle.byte_store.proofs.ByteStore.copy_in_page.Goals as goal

pub open_place-into-requires-clause-page : goal.open_place-into-requires-clause-page
open_place-into-requires-clause-page c =
    let count = page_count c.self.inside.table.items c.self.inside.slots.items c.self.inside.slots.cap c.self.invariant in
    let v = ap (λ xs. length xs) c.self.view_is in
    let i = c.requires.target in
    let some = c.requires.some in
    omega (arith, count, v, i, some)

pub shown_place-start-requires : goal.shown_place-start-requires
shown_place-start-requires c =
    let count = page_count c.self.inside.table.items c.self.inside.slots.items c.self.inside.slots.cap c.self.invariant in
    let v = ap (λ xs. length xs) c.self.view_is in
    let i = c.requires.source in
    let some = c.requires.some in
    let l = c.open_place-into.ensures.pages in
    let d = ap (λ xs. length xs) c.deref.ensures.value in
    omega (arith, count, v, i, some, l, d)

pub move_part-requires-clause-source : goal.move_part-requires-clause-source
move_part-requires-clause-source c =
    let shown = c.shown_place-start.ensures ∙ ap (λ xs. 4096 * shown_slot (get_or xs (c.args.from / 4096) stored.Zeros) + c.args.from % 4096) c.deref.ensures.value in
    let f = shown_fits c.open_place-into.new.table.items c.open_place-into.new.slots.items c.open_place-into.new.slots.cap c.open_place-into.ensures.slots (c.args.from / 4096) (c.args.from % 4096) c.shown_place-start.result c.args.len shown c.requires.source_page in
    omega (arith, f)

pub move_part-requires-clause-target : goal.move_part-requires-clause-target
move_part-requires-clause-target c =
    let f = place_fits c.open_place-into.new.table.items c.open_place-into.new.slots.items c.open_place-into.new.slots.cap c.open_place-into.ensures.slots (c.args.to / 4096) (c.args.to % 4096) c.open_place-into.result c.args.len c.open_place-into.ensures.place c.requires.target_page in
    omega (arith, f)

pub invariant_of-self : goal.invariant_of-self
invariant_of-self c =
    let shown = c.shown_place-start.ensures ∙ ap (λ xs. 4096 * shown_slot (get_or xs (c.args.from / 4096) stored.Zeros) + c.args.from % 4096) c.deref.ensures.value in
    let f = shown_fits c.open_place-into.new.table.items c.open_place-into.new.slots.items c.open_place-into.new.slots.cap c.open_place-into.ensures.slots (c.args.from / 4096) (c.args.from % 4096) c.shown_place-start.result c.args.len shown c.requires.source_page in
    let l = length-part c.open_place-into.new.slots.items c.shown_place-start.result c.args.len f in
    let page = c.requires.target_page in
    has_written c.open_place-into.new.table.items c.open_place-into.new.slots.items c.open_place-into.new.slots.cap c.open_place-into.ensures.slots
    (c.args.to / 4096) (c.args.to % 4096) c.open_place-into.result (part c.open_place-into.new.slots.items c.shown_place-start.result c.args.len) c.move_part.new.bytes.items c.move_part.new.bytes.cap
    c.open_place-into.ensures.place (omega (arith, l, page)) c.move_part.ensures.after c.move_part.ensures.reserved

pub returns-clause-after : goal.returns-clause-after
returns-clause-after c =
    let shown = c.shown_place-start.ensures ∙ ap (λ xs. 4096 * shown_slot (get_or xs (c.args.from / 4096) stored.Zeros) + c.args.from % 4096) c.deref.ensures.value in
    let f = shown_fits c.open_place-into.new.table.items c.open_place-into.new.slots.items c.open_place-into.new.slots.cap c.open_place-into.ensures.slots (c.args.from / 4096) (c.args.from % 4096) c.shown_place-start.result c.args.len shown c.requires.source_page in
    let l = length-part c.open_place-into.new.slots.items c.shown_place-start.result c.args.len f in
    let page = c.requires.target_page in
    let count = page_count c.self.inside.table.items c.self.inside.slots.items c.self.inside.slots.cap c.self.invariant in
    let v = ap (λ xs. length xs) c.self.view_is in
    let t = c.requires.target in
    let s = c.requires.source in
    let some = c.requires.some in
    let p = c.open_place-into.ensures.pages in
    let bytes = page_bytes c.open_place-into.new.table.items c.open_place-into.new.slots.items in
    written_there c.open_place-into.new.table.items c.open_place-into.new.slots.items c.open_place-into.new.slots.cap c.open_place-into.ensures.slots
    c.args.to c.open_place-into.result (part c.open_place-into.new.slots.items c.shown_place-start.result c.args.len) c.move_part.new.bytes.items (omega (arith, count, v, t, some, p))
    c.open_place-into.ensures.place (omega (arith, l, page)) c.move_part.ensures.after
    ∙ ap (λ xs. overwritten bytes c.args.to xs)
    (read_there c.open_place-into.new.table.items c.open_place-into.new.slots.items c.open_place-into.new.slots.cap c.open_place-into.ensures.slots
    c.args.from c.args.len c.shown_place-start.result (omega (arith, count, v, s, some, p)) shown c.requires.source_page)
    ∙ ap (λ xs. overwritten xs c.args.to (part xs c.args.from c.args.len)) (c.open_place-into.ensures.same ∙ c.self.view_is)

pub returns-clause-len : goal.returns-clause-len
returns-clause-len c =
    let l = length-part c.args.self.now c.args.from c.args.len c.requires.source in
    let t = c.requires.target in
    ap (λ xs. length xs) (returns-clause-after c) ∙ length-overwritten c.args.self.now c.args.to (part c.args.self.now c.args.from c.args.len) (omega (arith, l, t))
