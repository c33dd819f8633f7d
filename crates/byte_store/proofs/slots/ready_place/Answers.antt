use Rattle.std.proofs.Common.{◌≡◌, ◌+◌, ◌*◌, ◌/◌, arith}
use Rattle.std.specs.Prelude.{◌%◌}
use Rattle.byte_store.specs.Slots.{page_bytes}
use Rattle.byte_store.proofs.SlotLaws.{ready_there, ready_whole}
use Rattle.byte_store.proofs.slots.ready_place.Goals as goal

pub returns-else-len-eq-SLOT-clause-ready : goal.returns-else-len-eq-SLOT-clause-ready
returns-else-len-eq-SLOT-clause-ready c =
    let at = c.args.at in
    let start : at ≡ 4096 * (at / 4096) + at % 4096 = omega arith in
    let l = c.open_place.ensures.pages in
    let w = c.requires.page in
    ready_there c.open_place.new.table.items c.open_place.new.slots.items c.open_place.new.slots.cap c.open_place.ensures.slots (page_bytes c.args.table.now.items c.args.slots.now.items) (at / 4096) (at % 4096)
    c.open_place.result c.args.len at (omega (arith, l, w)) c.open_place.ensures.place c.open_place.ensures.same c.requires.part start

pub returns-then-len-eq-SLOT-clause-ready : goal.returns-then-len-eq-SLOT-clause-ready
returns-then-len-eq-SLOT-clause-ready c =
    let p = c.page_of.ensures in
    let l = c.if-len-eq-SLOT.true in
    let part = c.requires.part in
    ready_whole c.claim.new.table.items c.claim.new.slots.items (page_bytes c.args.table.now.items c.args.slots.now.items) c.claim.result (4096 * c.page_of.result) 4096 c.args.at c.args.len
    c.claim.ensures.ready (omega (arith, p, l, part)) l
