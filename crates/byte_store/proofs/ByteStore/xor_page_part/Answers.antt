use Rattle.std.proofs.Common.{◌+◌, ◌-◌, ap, ◌∙◌, arith}
use Rattle.byte_store.specs.Parts.{part}
use Rattle.byte_store.proofs.SlotLaws.{exclusive_more}
use Rattle.byte_store.proofs.ByteStore.xor_page_part.Goals as goal

pub loop-done-preserved : goal.loop-done-preserved
loop-done-preserved c =
    let some = c.loop-done.invariant.some in
    let m = c.min-count.ensures in
    let fits = c.requires in
    let t = c.loop-done-test.true in
    record {
      some = omega (arith, some, m, t);
      after =
          exclusive_more c.args.self.now c.loop-done.self c.xor_in_page.new.self c.args.from.now (part c.args.from.now c.loop-done.done (c.loop-done.done + c.min-count.result - c.loop-done.done)) c.args.to c.loop-done.done c.min-count.result
          (omega (arith, some, m, t)) fits c.loop-done.invariant.after (ap (λ n. part c.args.from.now c.loop-done.done n) (omega arith)) c.xor_in_page.ensures.after;
      size = c.xor_in_page.ensures.len ∙ c.loop-done.invariant.size;
    }
