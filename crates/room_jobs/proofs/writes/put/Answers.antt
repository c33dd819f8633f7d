use Rattle.std.proofs.Common.{◌+◌, ◌%◌, ◌/◌, ◌≤◌, ◌∙◌, arith, length, subst, take_all}
use Rattle.room_representation.specs.steps.Lent.{as_buffer}
use Rattle.room_jobs.specs.Writes.{HasPut}
use Rattle.room_jobs.proofs.Put.{pages_kept, put_more}
use Rattle.room_jobs.proofs.writes.put.Goals as goal

pub loop-done-preserved : goal.loop-done-preserved
loop-done-preserved c =
    let inv = c.loop-done.invariant in
    let inside : c.loop-done.done + c.min-len.result ≤ length c.args.bytes.now = omega arith in
    let fits : (c.args.off + c.loop-done.done) % 4096 + c.min-len.result ≤ 4096 = omega arith in
    let there = pages_kept c.args.stores.now c.loop-done.stores (as_buffer c.args.bo.now) (c.args.off + length c.args.bytes.now) inv.2 inv.3 c.requires.pages ((c.args.off + c.loop-done.done) / 4096) (omega arith) in
    (inside, put_more (as_buffer c.args.bo.now) c.args.off c.args.bytes.now c.loop-done.done c.min-len.result c.args.stores.now c.loop-done.stores c.put_on_page.new.stores inv.1 inside fits there c.put_on_page.ensures.after, c.put_on_page.ensures.vram ∙ inv.2, c.put_on_page.ensures.frames ∙ inv.3)

pub returns : goal.returns
returns c = subst (λ l. HasPut (as_buffer c.args.bo.now) c.args.off l c.args.stores.now c.loop-done.stores) (take_all c.loop-done.done c.args.bytes.now c.loop-done-test.false) c.loop-done.invariant.1
