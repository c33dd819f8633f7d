use Rattle.std.proofs.Common.{◌≡◌, ◌+◌, ◌-◌, ◌*◌, ◌/◌, length, get_or, take, drop, ap, ◌∙◌, arith}
use Rattle.std.specs.Prelude.{◌%◌}
use Rattle.byte_store.specs.Parts.{part}
use Rattle.byte_store.specs.Slots.{shown_slot}
use Rattle.byte_store.specs.declared.slots.Stored.TheVariants as stored
use Rattle.byte_store.proofs.PartLaws.{length-part}
use Rattle.byte_store.proofs.SlotLaws.{page_count, read_there, shown_fits, slots_short}
use Rattle.byte_store.proofs.ByteStore.part.Goals as goal

pub shown_place-start-requires : goal.shown_place-start-requires
shown_place-start-requires c =
    let count = page_count c.self.inside.table.items c.self.inside.slots.items c.self.inside.slots.cap c.self.invariant in
    let v = ap (λ xs. length xs) c.self.view_is in
    let i = c.requires.inside in
    let d = ap (λ xs. length xs) c.deref.ensures.value in
    let some = c.if-len-eq0.false in
    omega (arith, count, v, i, d, some)

pub overflow_add-result : goal.overflow_add-result
overflow_add-result c =
    let table = c.self.inside.table.items in
    let shown = c.shown_place-start.ensures ∙ ap (λ xs. 4096 * shown_slot (get_or xs (c.args.at / 4096) stored.Zeros) + c.args.at % 4096) c.deref.ensures.value in
    let f = shown_fits table c.self.inside.slots.items c.self.inside.slots.cap c.self.invariant (c.args.at / 4096) (c.args.at % 4096) c.shown_place-start.result c.args.len shown c.requires.page in
    let s = slots_short table c.self.inside.slots.items c.self.inside.slots.cap c.self.invariant in
    omega (arith, f, s)

pub slice_bounds-result-end-2 : goal.slice_bounds-result-end-2
slice_bounds-result-end-2 c =
    let table = c.self.inside.table.items in
    let shown = c.shown_place-start.ensures ∙ ap (λ xs. 4096 * shown_slot (get_or xs (c.args.at / 4096) stored.Zeros) + c.args.at % 4096) c.deref.ensures.value in
    let f = shown_fits table c.self.inside.slots.items c.self.inside.slots.cap c.self.invariant (c.args.at / 4096) (c.args.at % 4096) c.shown_place-start.result c.args.len shown c.requires.page in
    let d = ap (λ xs. length xs) c.deref-2.ensures.value in
    omega (arith, f, d)

pub returns-clause-value : goal.returns-clause-value
returns-clause-value c =
    let table = c.self.inside.table.items in
    let slots = c.self.inside.slots.items in
    let shown = c.shown_place-start.ensures ∙ ap (λ xs. 4096 * shown_slot (get_or xs (c.args.at / 4096) stored.Zeros) + c.args.at % 4096) c.deref.ensures.value in
    let count = page_count table slots c.self.inside.slots.cap c.self.invariant in
    let v = ap (λ xs. length xs) c.self.view_is in
    let i = c.requires.inside in
    let some = c.if-len-eq0.false in
    let n : c.shown_place-start.result + c.args.len - c.shown_place-start.result ≡ c.args.len = omega arith in
    ap (λ m. take m (drop c.shown_place-start.result c.deref-2.result.now)) n
    ∙ ap (λ xs. part xs c.shown_place-start.result c.args.len) c.deref-2.ensures.value
    ∙ read_there table slots c.self.inside.slots.cap c.self.invariant c.args.at c.args.len c.shown_place-start.result (omega (arith, count, v, i, some)) shown c.requires.page
    ∙ ap (λ xs. part xs c.args.at c.args.len) c.self.view_is

pub returns-clause-len : goal.returns-clause-len
returns-clause-len c = ap (λ xs. length xs) (returns-clause-value c) ∙ length-part c.args.self.now c.args.at c.args.len c.requires.inside
