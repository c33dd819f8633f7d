use Rattle.std.proofs.Common.{length, ap, arith}
use Rattle.byte_store.proofs.SlotLaws.{page_count}
use Rattle.byte_store.proofs.ByteStore.size.Goals as goal

pub overflow_mul-result : goal.overflow_mul-result
overflow_mul-result c = let w = c.self.invariant.few in let l = c.len.ensures in omega (arith, w, l)

pub returns : goal.returns
returns c =
    let count = page_count c.self.inside.table.items c.self.inside.slots.items c.self.inside.slots.cap c.self.invariant in
    let v = ap (λ xs. length xs) c.self.view_is in
    let l = c.len.ensures in
    omega (arith, count, v, l)
