use Rattle.std.proofs.Common.{ℕ, ◌*◌, ◌++◌, List, length, replicate, ap, ◌∙◌, arith}
use Rattle.byte_store.specs.Slots.{page_bytes}
use Rattle.byte_store.proofs.PartLaws.{length-filled}
use Rattle.byte_store.proofs.SlotLaws.{has_none, zeros_pages}
use Rattle.byte_store.proofs.ByteStore.new.Goals as goal

pub invariant_of-result : goal.invariant_of-result
invariant_of-result c =
    let x = c.in_ok-slots.ensures.exact in
    let r = c.add_zeros.ensures.room in
    let f = c.ranges.pages.fits in
    has_none c.in_ok-table.table.items c.add_zeros.new.slots.items c.args.pages c.add_zeros.new.slots.cap (c.in_ok-table.ensures.items_if_clones_equal (λ y e. e))
    (c.add_zeros.ensures.slots ∙ ap (λ (xs : List ℕ). xs ++ replicate 4096 0) c.in_ok-slots.ensures.items) (omega (arith, f)) (omega (arith, x, r))

pub returns-clause-zeros : goal.returns-clause-zeros
returns-clause-zeros c =
    ap (λ xs. page_bytes xs c.add_zeros.new.slots.items) (c.in_ok-table.ensures.items_if_clones_equal (λ y e. e))
    ∙ zeros_pages c.add_zeros.new.slots.items c.args.pages ((invariant_of-result c).zeros)

pub returns-clause-len : goal.returns-clause-len
returns-clause-len c = ap (λ ys. length ys) (returns-clause-zeros c) ∙ length-filled (4096 * c.args.pages) 0
