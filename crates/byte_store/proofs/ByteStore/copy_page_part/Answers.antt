use Rattle.std.proofs.Common.{◌+◌, refl, ap, ◌∙◌, take_all, arith}
use Rattle.byte_store.specs.Parts.{overwritten, part}
use Rattle.byte_store.proofs.StoredLaws.{written_none}
use Rattle.byte_store.proofs.SlotLaws.{copied_more}
use Rattle.byte_store.proofs.ByteStore.copy_page_part.Goals as goal

pub loop-done-init : goal.loop-done-init
loop-done-init c = record { some = omega arith; after = written_none c.args.self.now c.args.to; size = refl }

pub overflow_add-start : goal.overflow_add-start
overflow_add-start c =
    let some = c.loop-done.invariant.some in
    let s = c.size-size.ensures in
    let t = c.size-size.type_inv in
    let fits = c.requires in
    omega (arith, some, s, t, fits)

pub loop-done-preserved : goal.loop-done-preserved
loop-done-preserved c =
    let some = c.loop-done.invariant.some in
    let m = c.min-count.ensures in
    let fits = c.requires in
    let t = c.loop-done-test.true in
    record {
      some = omega (arith, some, m, t);
      after = copied_more c.args.self.now c.loop-done.self c.put_in_page.new.self c.args.from.now c.args.to c.loop-done.done c.min-count.result (omega (arith, some, m, t)) fits c.loop-done.invariant.after (c.put_in_page.ensures.after ∙ ap (λ n. overwritten c.loop-done.self (c.args.to + c.loop-done.done) (part c.args.from.now c.loop-done.done n)) (omega arith));
      size = c.put_in_page.ensures.len ∙ c.loop-done.invariant.size;
    }

pub returns-clause-after : goal.returns-clause-after
returns-clause-after c =
    c.loop-done.invariant.after ∙ ap (λ xs. overwritten c.args.self.now c.args.to xs) (take_all c.loop-done.done c.args.from.now c.loop-done-test.false)

pub returns-clause-len : goal.returns-clause-len
returns-clause-len c = c.loop-done.invariant.size
