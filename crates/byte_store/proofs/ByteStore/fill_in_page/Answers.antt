use Rattle.std.proofs.Common.{◌≡◌, ◌+◌, ◌-◌, ◌/◌, length, ap, ◌∙◌, arith}
use Rattle.std.specs.Prelude.{◌%◌}
use Rattle.byte_store.specs.Parts.{filled, overwritten}
use Rattle.byte_store.specs.Slots.{page_bytes}
use Rattle.byte_store.proofs.PartLaws.{length-filled, length-overwritten}
use Rattle.byte_store.proofs.SlotLaws.{has_written, page_count, place_fits, slots_short}
use Rattle.byte_store.proofs.ByteStore.fill_in_page.Goals as goal

pub ready_place-start-requires-clause-page : goal.ready_place-start-requires-clause-page
ready_place-start-requires-clause-page c =
    let count = page_count c.self.inside.table.items c.self.inside.slots.items c.self.inside.slots.cap c.self.invariant in
    let v = ap (λ xs. length xs) c.self.view_is in
    let s = c.requires.some in
    let i = c.requires.inside in
    omega (arith, count, v, s, i)

pub fill_part-requires-clause-inside : goal.fill_part-requires-clause-inside
fill_part-requires-clause-inside c =
    let f = place_fits c.ready_place-start.new.table.items c.ready_place-start.new.slots.items c.ready_place-start.new.slots.cap c.ready_place-start.ensures.slots
    (c.args.at / 4096) (c.args.at % 4096) c.ready_place-start.result c.args.len c.ready_place-start.ensures.place c.requires.page in
    omega (arith, f)

pub overflow_add-start : goal.overflow_add-start
overflow_add-start c =
    let f = place_fits c.ready_place-start.new.table.items c.ready_place-start.new.slots.items c.ready_place-start.new.slots.cap c.ready_place-start.ensures.slots
    (c.args.at / 4096) (c.args.at % 4096) c.ready_place-start.result c.args.len c.ready_place-start.ensures.place c.requires.page in
    let s = slots_short c.ready_place-start.new.table.items c.ready_place-start.new.slots.items c.ready_place-start.new.slots.cap c.ready_place-start.ensures.slots in
    omega (arith, f, s)

pub invariant_of-self : goal.invariant_of-self
invariant_of-self c =
    let n : c.ready_place-start.result + c.args.len - c.ready_place-start.result ≡ c.args.len = omega arith in
    let l = length-filled (c.ready_place-start.result + c.args.len - c.ready_place-start.result) c.args.byte in
    let page = c.requires.page in
    has_written c.ready_place-start.new.table.items c.ready_place-start.new.slots.items c.ready_place-start.new.slots.cap c.ready_place-start.ensures.slots
    (c.args.at / 4096) (c.args.at % 4096) c.ready_place-start.result (filled (c.ready_place-start.result + c.args.len - c.ready_place-start.result) c.args.byte)
    c.fill_part.new.bytes.items c.fill_part.new.bytes.cap c.ready_place-start.ensures.place (omega (arith, n, l, page)) c.fill_part.ensures.after c.fill_part.ensures.reserved

pub returns-clause-after : goal.returns-clause-after
returns-clause-after c =
    let n : c.ready_place-start.result + c.args.len - c.ready_place-start.result ≡ c.args.len = omega arith in
    ap (λ xs. page_bytes c.ready_place-start.new.table.items xs)
    (c.fill_part.ensures.after ∙ ap (λ m. overwritten c.ready_place-start.new.slots.items c.ready_place-start.result (filled m c.args.byte)) n)
    ∙ c.ready_place-start.ensures.ready.after (filled c.args.len c.args.byte) (length-filled c.args.len c.args.byte)
    ∙ ap (λ xs. overwritten xs c.args.at (filled c.args.len c.args.byte)) c.self.view_is

pub returns-clause-len : goal.returns-clause-len
returns-clause-len c =
    let l = length-filled c.args.len c.args.byte in
    let i = c.requires.inside in
    ap (λ xs. length xs) (returns-clause-after c) ∙ length-overwritten c.args.self.now c.args.at (filled c.args.len c.args.byte) (omega (arith, l, i))
