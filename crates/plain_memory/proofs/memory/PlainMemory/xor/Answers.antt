use Rattle.std.proofs.Common.{◌≡◌, ℕ, List, ◌∙◌, ap, get_or, length, subst, sym}
use Rattle.plain_memory.specs.Fits.{HasRange}
use Rattle.plain_memory.specs.Kept.{memory_in, sizes_in}
use Rattle.plain_memory.proofs.ContentLaws.{becomes_xor, length-range}
use Rattle.plain_memory.proofs.memory.PlainMemory.xor.Goals as goal

pub xored-requires : goal.xored-requires
xored-requires c =
    let one : length c.range-one.result.now ≡ c.args.len = ap length c.range-one.ensures ∙ length-range (memory_in c.args.self.now c.args.from.b.0) c.args.len c.args.from.off in
    let other : length c.range-other.result.now ≡ c.args.len = ap length c.range-other.ensures ∙ length-range (memory_in c.args.self.now c.args.to.b.0) c.args.len c.args.to.off in
    one ∙ sym other

pub write-requires : goal.write-requires
write-requires c =
    let one : length c.range-one.result.now ≡ c.args.len = ap length c.range-one.ensures ∙ length-range (memory_in c.args.self.now c.args.from.b.0) c.args.len c.args.from.off in
    let n : length c.items.result.now ≡ c.args.len = ap length c.items.ensures ∙ c.in_ok-bytes.ensures.len ∙ one in
    subst (λ (m : ℕ). HasRange (sizes_in c.args.self.now) c.args.to.b c.args.to.off m) (sym n) c.requires.to

pub returns-clause-ok : goal.returns-clause-ok
returns-clause-ok c =
    becomes_xor c.args.self.now c.write.new.self c.args.to.b c.args.from.b c.args.to.off c.args.from.off c.args.len c.range-one.result.now c.range-other.result.now c.items.result.now
    c.range-one.ensures c.range-other.ensures (ap length c.items.ensures ∙ c.in_ok-bytes.ensures.len)
    (λ i h. ap (λ (r : List ℕ). get_or r i 0) c.items.ensures ∙ c.in_ok-bytes.ensures.each i h) c.write.ensures
