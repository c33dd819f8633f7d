use Rattle.std.proofs.Common.{◌≡◌, refl, ap, ◌∙◌, arith}
use Rattle.byte_store.specs.Parts.{filled, overwritten}
use Rattle.byte_store.proofs.StoredLaws.{filled_none}
use Rattle.byte_store.proofs.SlotLaws.{filled_more}
use Rattle.byte_store.proofs.ByteStore.fill.Goals as goal

pub loop-done-init : goal.loop-done-init
loop-done-init c = record { some = omega arith; after = filled_none c.args.self.now c.args.at c.args.byte; size = refl }

pub overflow_add-start : goal.overflow_add-start
overflow_add-start c =
    let some = c.loop-done.invariant.some in
    let s = c.size-size.ensures in
    let t = c.size-size.type_inv in
    let fits = c.requires in
    omega (arith, some, s, t, fits)

pub loop-done-preserved : goal.loop-done-preserved
loop-done-preserved c =
    let some = c.loop-done.invariant.some in
    let m = c.min-count.ensures in
    let fits = c.requires in
    let t = c.loop-done-test.true in
    record {
      some = omega (arith, some, m, t);
      after = filled_more c.args.self.now c.loop-done.self c.fill_in_page.new.self c.args.at c.loop-done.done c.min-count.result c.args.byte (omega (arith, some, m, fits, t)) c.loop-done.invariant.after c.fill_in_page.ensures.after;
      size = c.fill_in_page.ensures.len ∙ c.loop-done.invariant.size;
    }

pub returns-clause-after : goal.returns-clause-after
returns-clause-after c =
    let some = c.loop-done.invariant.some in
    let f = c.loop-done-test.false in
    let all : c.loop-done.done ≡ c.args.len = omega (arith, some, f) in
    c.loop-done.invariant.after ∙ ap (λ n. overwritten c.args.self.now c.args.at (filled n c.args.byte)) all

pub returns-clause-len : goal.returns-clause-len
returns-clause-len c = c.loop-done.invariant.size
