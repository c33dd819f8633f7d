use Rattle.std.proofs.Common.{◌≡◌, ◌+◌, ◌-◌, ◌≤◌, ap, ◌∙◌, arith}
use Rattle.byte_store.specs.Parts.{overwritten, part}
use Rattle.byte_store.proofs.SlotLaws.{copied_up}
use Rattle.byte_store.proofs.ByteStore.copy_up.Goals as goal

pub loop-left-preserved : goal.loop-left-preserved
loop-left-preserved c =
    let some = c.loop-left.invariant.some in
    let m = c.min-count.ensures in
    let o = c.requires.order in
    let fits = c.requires.target in
    let less : c.min-count.result ≤ c.loop-left.left = omega (arith, m) in
    let t : c.args.to + c.loop-left.left ≡ c.args.to + (c.loop-left.left - c.min-count.result) + c.min-count.result = omega (arith, less) in
    let f : c.args.from + c.loop-left.left ≡ c.args.from + (c.loop-left.left - c.min-count.result) + c.min-count.result = omega (arith, less) in
    let n : c.min-count.result + (c.args.len - c.loop-left.left) ≡ c.args.len - (c.loop-left.left - c.min-count.result) = omega (arith, less, some) in
    record {
      some = omega (arith, some);
      after =
          copied_up c.args.self.now c.loop-left.self c.copy_in_page.new.self c.args.to c.args.from (c.loop-left.left - c.min-count.result) c.min-count.result (c.args.len - c.loop-left.left)
          (omega (arith, o)) (omega (arith, some, less, fits))
          (c.loop-left.invariant.after
          ∙ ap (λ i. overwritten c.args.self.now i (part c.args.self.now (c.args.from + c.loop-left.left) (c.args.len - c.loop-left.left))) t
          ∙ ap (λ i. overwritten c.args.self.now (c.args.to + (c.loop-left.left - c.min-count.result) + c.min-count.result) (part c.args.self.now i (c.args.len - c.loop-left.left))) f)
          c.copy_in_page.ensures.after
          ∙ ap (λ i. overwritten c.args.self.now (c.args.to + (c.loop-left.left - c.min-count.result)) (part c.args.self.now (c.args.from + (c.loop-left.left - c.min-count.result)) i)) n;
      size = c.copy_in_page.ensures.len ∙ c.loop-left.invariant.size;
    }
