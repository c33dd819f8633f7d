use Rattle.std.proofs.Common.{◌≡◌, ℕ, ◌∙◌, ap, length, subst, sym}
use Rattle.plain_memory.specs.Fits.{HasRange}
use Rattle.plain_memory.specs.Kept.{memory_in, sizes_in}
use Rattle.plain_memory.proofs.ContentLaws.{becomes_copy, length-range}
use Rattle.plain_memory.proofs.memory.PlainMemory.copy.Goals as goal

pub write-requires : goal.write-requires
write-requires c =
    let is = c.as_slice.ensures.value ∙ c.in_ok-bytes.ensures.items ∙ c.range.ensures in
    let n : length c.as_slice.result.now ≡ c.args.len = ap length is ∙ length-range (memory_in c.args.self.now c.args.from.b.0) c.args.len c.args.from.off in
    subst (λ (m : ℕ). HasRange (sizes_in c.args.self.now) c.args.to.b c.args.to.off m) (sym n) c.requires.to

pub returns-clause-ok : goal.returns-clause-ok
returns-clause-ok c =
    becomes_copy c.args.self.now c.write.new.self c.args.to.b c.args.from.b c.args.to.off c.args.from.off c.args.len c.as_slice.result.now
    (c.as_slice.ensures.value ∙ c.in_ok-bytes.ensures.items ∙ c.range.ensures) c.write.ensures
