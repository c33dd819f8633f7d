use Rattle.std.proofs.Common.{ℕ, ◌∙◌, ◌+◌, ◌<◌, length, arith}
use Rattle.std.specs.Prelude.{bit_xor, slice_index}
use Rattle.rules_stores.specs.StorePages.{page_of}
use Rattle.rules_stores.specs.Kept.{bytes_of}
use Rattle.rules_stores.proofs.KeptLaws.{becomes_cut}
use Rattle.rules_stores.proofs.parts.xor_through.Goals as goal

pub returns : goal.returns
returns c =
    let value = λ (i : ℕ). bit_xor (bytes_of c.args.stores.now (page_of c.args.to.page) (c.args.to.off + i)) (bytes_of c.args.stores.now (page_of c.args.from.page) (c.args.from.off + i)) in
    becomes_cut _ _ _ _ _ _ (slice_index c.xor_into.new.bytes) value c.write.ensures (c.xor_into.auto.bytes ∙ c.read.auto.into ∙ c.requires.through)
    (λ i h.
    let first : i < length c.read.new.into = omega arith in
    let through : i < length c.args.through.now = omega arith in
    let beside : i < length c.args.beside.now = omega (arith, c.requires.through, c.requires.beside) in
    rw (c.xor_into.ensures i first, c.read.ensures i through, c.read-2.ensures i beside))
