use Rattle.std.proofs.Common.{◌*◌, ◌<◌, length, ap, ◌∙◌, arith}
use Rattle.std.proofs.lemmas.List.{get_or_default}
use Rattle.byte_store.specs.Parts.{filled, overwritten}
use Rattle.byte_store.specs.Slots.{own_slot}
use Rattle.byte_store.specs.declared.slots.Stored.TheVariants as stored
use Rattle.byte_store.proofs.PartLaws.{length-filled, length-overwritten}
use Rattle.byte_store.proofs.SlotLaws.{page_count, slots_kept, zeros_shown}
use Rattle.byte_store.proofs.ByteStore.zero_page.Goals as goal

pub index-requires : goal.index-requires
index-requires c =
    let count = page_count c.self.inside.table.items c.self.inside.slots.items c.self.inside.slots.cap c.self.invariant in
    let v = ap (λ xs. length xs) c.self.view_is in
    let i = c.requires in
    omega (arith, count, v, i)

pub index_mut-requires : goal.index_mut-requires
index_mut-requires c =
    let count = page_count c.self.inside.table.items c.self.inside.slots.items c.self.inside.slots.cap c.self.invariant in
    let v = ap (λ xs. length xs) c.self.view_is in
    let i = c.requires in
    omega (arith, count, v, i)

pub invariant_of-self : goal.invariant_of-self
invariant_of-self c =
    let table = c.self.inside.table.items in
    let count = page_count table c.self.inside.slots.items c.self.inside.slots.cap c.self.invariant in
    let v = ap (λ xs. length xs) c.self.view_is in
    let i = c.requires in
    let row : c.args.page < length table = omega (arith, count, v, i) in
    let read = c.index.ensures ∙ get_or_default table c.args.page c.index.result.now stored.Zeros row in
    slots_kept table c.self.inside.slots.items c.self.inside.slots.cap c.self.invariant c.args.page c.cleared.result (c.cleared.ensures.own ∙ ap own_slot read)

pub returns-clause-after : goal.returns-clause-after
returns-clause-after c =
    let table = c.self.inside.table.items in
    let count = page_count table c.self.inside.slots.items c.self.inside.slots.cap c.self.invariant in
    let v = ap (λ xs. length xs) c.self.view_is in
    let i = c.requires in
    zeros_shown table c.self.inside.slots.items c.self.inside.slots.cap c.self.invariant c.args.page c.cleared.result (omega (arith, count, v, i)) c.cleared.ensures.zeros
    ∙ ap (λ xs. overwritten xs (4096 * c.args.page) (filled 4096 0)) c.self.view_is

pub returns-clause-len : goal.returns-clause-len
returns-clause-len c =
    let l = length-filled 4096 0 in
    let i = c.requires in
    ap (λ xs. length xs) (returns-clause-after c) ∙ length-overwritten c.args.self.now (4096 * c.args.page) (filled 4096 0) (omega (arith, l, i))
