use Rattle.std.proofs.Common.{◌≡◌, ℕ, ◌+◌, ◌*◌, ◌-◌, ◌/◌, length, set, subst, ap, ◌∙◌, sym, arith}
use Rattle.byte_store.specs.Slots.{HasSlots, IsPlace, count_begun, page_bytes}
use Rattle.byte_store.specs.declared.slots.Stored.TheVariants as stored
use Rattle.byte_store.proofs.SlotLaws.{fewer_begun, has_one_more, place_begun, room_for_one, same_begun}
use Rattle.byte_store.proofs.slots.begin.Goals as goal

pub add_zeros-requires : goal.add_zeros-requires
add_zeros-requires c = record { room = room_for_one c.args.table.now.items c.args.slots.now.items (c.args.slots.now.cap) c.args.page c.requires.slots c.requires.page c.requires.zeros }

pub overflow_cast-start : goal.overflow_cast-start
overflow_cast-start c =
    let f = c.requires.slots.full in
    let w = c.requires.slots.few in
    let l = fewer_begun c.args.table.now.items c.args.page c.requires.page c.requires.zeros in
    let s = c.len-start.ensures in
    omega (arith, f, w, l, s)

number_is : (start len count : ℕ) → start ≡ len → len ≡ 4096 + 4096 * count → start / 4096 - 1 ≡ count
number_is start len count s f = omega (arith, s, f)

pub returns-clause-slots : goal.returns-clause-slots
returns-clause-slots c =
    let table = c.args.table.now.items in
    let n = number_is c.len-start.result (length c.args.slots.now.items) (count_begun table) (omega (arith, c.len-start.ensures)) c.requires.slots.full in
    subst (λ k. HasSlots (set table c.args.page (stored.Written k)) c.add_zeros.new.slots.items c.add_zeros.new.slots.cap) (sym n)
    (subst (λ xs. HasSlots (set table c.args.page (stored.Written (count_begun table))) xs c.add_zeros.new.slots.cap) (sym c.add_zeros.ensures.slots)
    (has_one_more table c.args.slots.now.items c.args.slots.now.cap c.args.page c.requires.slots c.requires.page c.requires.zeros c.add_zeros.new.slots.cap c.add_zeros.ensures.room))

pub returns-clause-place : goal.returns-clause-place
returns-clause-place c =
    let table = c.args.table.now.items in
    let n = number_is c.len-start.result (length c.args.slots.now.items) (count_begun table) (omega (arith, c.len-start.ensures)) c.requires.slots.full in
    subst (λ k. IsPlace (set table c.args.page (stored.Written k)) c.args.page 0 c.len-start.result) (sym n)
    (place_begun table c.args.slots.now.items c.args.slots.now.cap c.args.page c.requires.slots c.requires.page c.requires.zeros c.len-start.result (omega (arith, c.len-start.ensures)))

pub returns-clause-same : goal.returns-clause-same
returns-clause-same c =
    let table = c.args.table.now.items in
    let n = number_is c.len-start.result (length c.args.slots.now.items) (count_begun table) (omega (arith, c.len-start.ensures)) c.requires.slots.full in
    ap (λ k. page_bytes (set table c.args.page (stored.Written k)) c.add_zeros.new.slots.items) n
    ∙ ap (λ xs. page_bytes (set table c.args.page (stored.Written (count_begun table))) xs) c.add_zeros.ensures.slots
    ∙ same_begun table c.args.slots.now.items c.args.slots.now.cap c.args.page c.requires.slots c.requires.page c.requires.zeros
