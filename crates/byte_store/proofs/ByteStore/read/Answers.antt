use Rattle.std.proofs.Common.{◌++◌, length, ap, ◌∙◌, arith}
use Rattle.byte_store.specs.Parts.{part}
use Rattle.byte_store.proofs.SlotLaws.{parts_join}
use Rattle.byte_store.proofs.ByteStore.read.Goals as goal

pub overflow_add-at : goal.overflow_add-at
overflow_add-at c =
    let s = c.size-size.ensures in
    let t = c.size-size.type_inv in
    let m = c.min-first.ensures in
    let fits = c.requires.inside in
    omega (arith, s, t, m, fits)

pub returns : goal.returns
returns c =
    let m = c.min-first.ensures in
    let f = c.split_at_mut-head.ensures.front_len in
    let b = c.split_at_mut-head.ensures.back_len in
    ap (λ xs. xs ++ c.copy_from_slice-2.new.self) (c.copy_from_slice.ensures.after ∙ c.part.ensures.value)
    ∙ ap (λ xs. part c.args.self.now c.args.at c.min-first.result ++ xs) (c.copy_from_slice-2.ensures.after ∙ c.part-2.ensures.value)
    ∙ parts_join c.args.self.now c.args.at c.min-first.result (length c.split_at_mut-head.result.1.now)
    ∙ ap (λ n. part c.args.self.now c.args.at n) (omega (arith, m, f, b))
