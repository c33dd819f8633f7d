use Rattle.std.proofs.Common.{◌/◌, length, ap, ◌∙◌, arith}
use Rattle.std.specs.Prelude.{◌%◌}
use Rattle.byte_store.specs.Parts.{overwritten, part, xored}
use Rattle.byte_store.specs.Slots.{page_bytes}
use Rattle.byte_store.proofs.PartLaws.{length-overwritten, length-part, length-xored}
use Rattle.byte_store.proofs.SlotLaws.{has_written, page_count, place_fits, read_there, written_there}
use Rattle.byte_store.proofs.ByteStore.xor_in_page.Goals as goal

pub open_place-start-requires-clause-page : goal.open_place-start-requires-clause-page
open_place-start-requires-clause-page c =
    let some = c.requires.some in
    let count = page_count c.self.inside.table.items c.self.inside.slots.items c.self.inside.slots.cap c.self.invariant in
    let v = ap (λ xs. length xs) c.self.view_is in
    let i = c.requires.inside in
    omega (arith, count, v, i, some)

pub xor_part-requires : goal.xor_part-requires
xor_part-requires c =
    let f = place_fits c.open_place-start.new.table.items c.open_place-start.new.slots.items c.open_place-start.new.slots.cap c.open_place-start.ensures.slots (c.args.to / 4096) (c.args.to % 4096) c.open_place-start.result (length c.args.from.now) c.open_place-start.ensures.place c.requires.page in
    omega (arith, f)

pub invariant_of-self : goal.invariant_of-self
invariant_of-self c =
    let f = place_fits c.open_place-start.new.table.items c.open_place-start.new.slots.items c.open_place-start.new.slots.cap c.open_place-start.ensures.slots (c.args.to / 4096) (c.args.to % 4096) c.open_place-start.result (length c.args.from.now) c.open_place-start.ensures.place c.requires.page in
    let l = length-part c.open_place-start.new.slots.items c.open_place-start.result (length c.args.from.now) f in
    let x = length-xored (part c.open_place-start.new.slots.items c.open_place-start.result (length c.args.from.now)) c.args.from.now l in
    let page = c.requires.page in
    has_written c.open_place-start.new.table.items c.open_place-start.new.slots.items c.open_place-start.new.slots.cap c.open_place-start.ensures.slots
    (c.args.to / 4096) (c.args.to % 4096) c.open_place-start.result (xored (part c.open_place-start.new.slots.items c.open_place-start.result (length c.args.from.now)) c.args.from.now) c.xor_part.new.bytes.items c.xor_part.new.bytes.cap
    c.open_place-start.ensures.place (omega (arith, l, x, page)) c.xor_part.ensures.after c.xor_part.ensures.reserved

pub returns-clause-after : goal.returns-clause-after
returns-clause-after c =
    let some = c.requires.some in
    let f = place_fits c.open_place-start.new.table.items c.open_place-start.new.slots.items c.open_place-start.new.slots.cap c.open_place-start.ensures.slots (c.args.to / 4096) (c.args.to % 4096) c.open_place-start.result (length c.args.from.now) c.open_place-start.ensures.place c.requires.page in
    let l = length-part c.open_place-start.new.slots.items c.open_place-start.result (length c.args.from.now) f in
    let x = length-xored (part c.open_place-start.new.slots.items c.open_place-start.result (length c.args.from.now)) c.args.from.now l in
    let page = c.requires.page in
    let count = page_count c.self.inside.table.items c.self.inside.slots.items c.self.inside.slots.cap c.self.invariant in
    let v = ap (λ xs. length xs) c.self.view_is in
    let i = c.requires.inside in
    let p = c.open_place-start.ensures.pages in
    let bytes = page_bytes c.open_place-start.new.table.items c.open_place-start.new.slots.items in
    let place = c.open_place-start.ensures.place in
    written_there c.open_place-start.new.table.items c.open_place-start.new.slots.items c.open_place-start.new.slots.cap c.open_place-start.ensures.slots
    c.args.to c.open_place-start.result (xored (part c.open_place-start.new.slots.items c.open_place-start.result (length c.args.from.now)) c.args.from.now) c.xor_part.new.bytes.items (omega (arith, count, v, i, some, p))
    c.open_place-start.ensures.place (omega (arith, l, x, page)) c.xor_part.ensures.after
    ∙ ap (λ xs. overwritten bytes c.args.to (xored xs c.args.from.now))
    (read_there c.open_place-start.new.table.items c.open_place-start.new.slots.items c.open_place-start.new.slots.cap c.open_place-start.ensures.slots
    c.args.to (length c.args.from.now) c.open_place-start.result (omega (arith, count, v, i, some, p)) place.there c.requires.page)
    ∙ ap (λ xs. overwritten xs c.args.to (xored (part xs c.args.to (length c.args.from.now)) c.args.from.now)) (c.open_place-start.ensures.same ∙ c.self.view_is)

pub returns-clause-len : goal.returns-clause-len
returns-clause-len c =
    let l = length-part c.args.self.now c.args.to (length c.args.from.now) c.requires.inside in
    let x = length-xored (part c.args.self.now c.args.to (length c.args.from.now)) c.args.from.now l in
    let i = c.requires.inside in
    ap (λ xs. length xs) (returns-clause-after c)
    ∙ length-overwritten c.args.self.now c.args.to (xored (part c.args.self.now c.args.to (length c.args.from.now)) c.args.from.now) (omega (arith, l, x, i))
