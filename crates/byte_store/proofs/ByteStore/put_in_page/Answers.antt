use Rattle.std.proofs.Common.{◌/◌, length, refl, ap, ◌∙◌, arith}
use Rattle.std.specs.Prelude.{◌%◌}
use Rattle.byte_store.specs.Parts.{overwritten}
use Rattle.byte_store.specs.Slots.{page_bytes}
use Rattle.byte_store.proofs.PartLaws.{length-overwritten}
use Rattle.byte_store.proofs.SlotLaws.{has_written, page_count, place_fits}
use Rattle.byte_store.proofs.ByteStore.put_in_page.Goals as goal

pub ready_place-start-requires-clause-page : goal.ready_place-start-requires-clause-page
ready_place-start-requires-clause-page c =
    let count = page_count c.self.inside.table.items c.self.inside.slots.items c.self.inside.slots.cap c.self.invariant in
    let v = ap (λ xs. length xs) c.self.view_is in
    let s = c.requires.some in
    let i = c.requires.inside in
    omega (arith, count, v, s, i)

pub put_part-requires : goal.put_part-requires
put_part-requires c =
    let f = place_fits c.ready_place-start.new.table.items c.ready_place-start.new.slots.items c.ready_place-start.new.slots.cap c.ready_place-start.ensures.slots
    (c.args.to / 4096) (c.args.to % 4096) c.ready_place-start.result (length c.args.from.now) c.ready_place-start.ensures.place c.requires.page in
    omega (arith, f)

pub invariant_of-self : goal.invariant_of-self
invariant_of-self c =
    has_written c.ready_place-start.new.table.items c.ready_place-start.new.slots.items c.ready_place-start.new.slots.cap c.ready_place-start.ensures.slots
    (c.args.to / 4096) (c.args.to % 4096) c.ready_place-start.result c.args.from.now c.put_part.new.bytes.items c.put_part.new.bytes.cap
    c.ready_place-start.ensures.place c.requires.page c.put_part.ensures.after c.put_part.ensures.reserved

pub returns-clause-after : goal.returns-clause-after
returns-clause-after c =
    ap (λ xs. page_bytes c.ready_place-start.new.table.items xs) c.put_part.ensures.after
    ∙ c.ready_place-start.ensures.ready.after c.args.from.now refl
    ∙ ap (λ xs. overwritten xs c.args.to c.args.from.now) c.self.view_is

pub returns-clause-len : goal.returns-clause-len
returns-clause-len c = ap (λ xs. length xs) (returns-clause-after c) ∙ length-overwritten c.args.self.now c.args.to c.args.from.now c.requires.inside
