use Rattle.std.proofs.Common.{◌≡◌, ◌+◌, ◌*◌, refl, get_or, arith}
use Rattle.byte_store.specs.Slots.{page_bytes}
use Rattle.byte_store.specs.declared.slots.Stored.TheVariants as stored
use Rattle.byte_store.proofs.SlotLaws.{has_opened, place_written, ready_cleared, ready_there, stored_is}
use Rattle.byte_store.proofs.slots.claim.Goals as goal

pub returns-in-Written-clause-ready : goal.returns-in-Written-clause-ready
returns-in-Written-clause-ready c =
    let table = c.args.table.now.items in
    let slots = c.args.slots.now.items in
    let is : get_or table c.args.page stored.Zeros ≡ stored.Written c.in-Written.number =
    stored_is table c.args.page c.index.result.now (stored.Written c.in-Written.number) c.requires.page c.index.ensures c.in-Written.is in
    let start : 4096 * c.args.page ≡ 4096 * c.args.page + 0 = omega arith in
    ready_there table slots c.args.slots.now.cap c.requires.slots (page_bytes table slots) c.args.page 0 c.slot_start.result 4096 (4096 * c.args.page) c.requires.page
    (place_written table slots c.args.slots.now.cap c.requires.slots c.args.page c.in-Written.number c.slot_start.result is c.slot_start.ensures) refl (omega arith) start

pub returns-in-Cleared-clause-slots : goal.returns-in-Cleared-clause-slots
returns-in-Cleared-clause-slots c =
    let table = c.args.table.now.items in
    let is : get_or table c.args.page stored.Zeros ≡ stored.Cleared c.in-Cleared.number =
    stored_is table c.args.page c.index.result.now (stored.Cleared c.in-Cleared.number) c.requires.page c.index.ensures c.in-Cleared.is in
    has_opened table c.args.slots.now.items c.args.slots.now.cap c.requires.slots c.args.page c.in-Cleared.number c.requires.page is

pub returns-in-Cleared-clause-ready : goal.returns-in-Cleared-clause-ready
returns-in-Cleared-clause-ready c =
    let table = c.args.table.now.items in
    let is : get_or table c.args.page stored.Zeros ≡ stored.Cleared c.in-Cleared.number =
    stored_is table c.args.page c.index.result.now (stored.Cleared c.in-Cleared.number) c.requires.page c.index.ensures c.in-Cleared.is in
    ready_cleared table c.args.slots.now.items c.args.slots.now.cap c.requires.slots c.args.page c.in-Cleared.number c.slot_start-in-Cleared.result c.requires.page is c.slot_start-in-Cleared.ensures

pub returns-in-Zeros-clause-ready : goal.returns-in-Zeros-clause-ready
returns-in-Zeros-clause-ready c =
    let start : 4096 * c.args.page ≡ 4096 * c.args.page + 0 = omega arith in
    let l = c.begin.ensures.pages in
    let w = c.requires.page in
    ready_there c.begin.new.table.items c.begin.new.slots.items c.begin.new.slots.cap c.begin.ensures.slots (page_bytes c.args.table.now.items c.args.slots.now.items) c.args.page 0
    c.begin.result 4096 (4096 * c.args.page) (omega (arith, l, w)) c.begin.ensures.place c.begin.ensures.same (omega arith) start
