use Rattle.std.proofs.Common.{◌≡◌, ◌+◌, ◌-◌, get_or, ap, arith}
use Rattle.byte_store.specs.Slots.{own_slot}
use Rattle.byte_store.specs.declared.slots.Stored.TheVariants as stored
use Rattle.byte_store.proofs.SlotLaws.{has_filled, same_filled, slot_inside, stored_is}
use Rattle.byte_store.proofs.slots.open.Goals as goal

pub fill_part-requires-clause-inside : goal.fill_part-requires-clause-inside
fill_part-requires-clause-inside c =
    let table = c.args.table.now.items in
    let slots = c.args.slots.now.items in
    let is : get_or table c.args.page stored.Zeros ≡ stored.Cleared c.in-Cleared.number =
    stored_is table c.args.page c.index.result.now (stored.Cleared c.in-Cleared.number) c.requires.page c.index.ensures c.in-Cleared.is in
    let own = ap own_slot is in
    let i = c.requires.slots.inside c.args.page in
    let s = slot_inside table slots c.args.slots.now.cap c.requires.slots (own_slot (get_or table c.args.page stored.Zeros)) i in
    let t = c.slot_start-start.ensures in
    omega (arith, own, s, t)

pub returns-in-Cleared-clause-slots : goal.returns-in-Cleared-clause-slots
returns-in-Cleared-clause-slots c =
    let table = c.args.table.now.items in
    let is : get_or table c.args.page stored.Zeros ≡ stored.Cleared c.in-Cleared.number =
    stored_is table c.args.page c.index.result.now (stored.Cleared c.in-Cleared.number) c.requires.page c.index.ensures c.in-Cleared.is in
    let n : c.slot_start-start.result + 4096 - c.slot_start-start.result ≡ 4096 = omega arith in
    has_filled table c.args.slots.now.items c.args.slots.now.cap c.requires.slots c.args.page c.in-Cleared.number c.slot_start-start.result
    (c.slot_start-start.result + 4096 - c.slot_start-start.result) c.fill_part.new.bytes.items c.fill_part.new.bytes.cap c.requires.page is c.slot_start-start.ensures n c.fill_part.ensures.after c.fill_part.ensures.reserved

pub returns-in-Cleared-clause-same : goal.returns-in-Cleared-clause-same
returns-in-Cleared-clause-same c =
    let table = c.args.table.now.items in
    let is : get_or table c.args.page stored.Zeros ≡ stored.Cleared c.in-Cleared.number =
    stored_is table c.args.page c.index.result.now (stored.Cleared c.in-Cleared.number) c.requires.page c.index.ensures c.in-Cleared.is in
    let n : c.slot_start-start.result + 4096 - c.slot_start-start.result ≡ 4096 = omega arith in
    same_filled table c.args.slots.now.items c.args.slots.now.cap c.requires.slots c.args.page c.in-Cleared.number c.slot_start-start.result
    (c.slot_start-start.result + 4096 - c.slot_start-start.result) c.fill_part.new.bytes.items c.requires.page is c.slot_start-start.ensures n c.fill_part.ensures.after
