use Rattle.std.proofs.Common.{◌∙◌, arith}
use Rattle.byte_store.proofs.SlotLaws.{copied_down}
use Rattle.byte_store.proofs.ByteStore.copy_down.Goals as goal

pub loop-done-preserved : goal.loop-done-preserved
loop-done-preserved c =
    let some = c.loop-done.invariant.some in
    let m = c.min-count.ensures in
    let o = c.requires.order in
    let fits = c.requires.source in
    let t = c.loop-done-test.true in
    record {
      some = omega (arith, some, m, t);
      after = copied_down c.args.self.now c.loop-done.self c.copy_in_page.new.self c.args.to c.args.from c.loop-done.done c.min-count.result o (omega (arith, some, m, fits, t)) c.loop-done.invariant.after c.copy_in_page.ensures.after;
      size = c.copy_in_page.ensures.len ∙ c.loop-done.invariant.size;
    }
