use Rattle.std.proofs.Common.{◌≡◌, ◌≤◌, ◌^◌, min, length, ap, sym, subst, refl, ◌∙◌, arith}
use Rattle.ttm_base.specs.BuddyChoice.{log2}
use Rattle.block_tree.proofs.Numbers.{some_pages}
use Rattle.buddy_manager.specs.declared.find.Search.{Search}
use Rattle.buddy_manager.specs.Finding.{IsMarkedIn}
use Rattle.buddy_manager.proofs.FindingLaws.{length_more, clamped_fits, on_err, finding_clamped, finding_over, finding_lower, finding_noted}
use Rattle.buddy_manager.proofs.find.step.Goals as goal

pub block_len-requires : goal.block_len-requires
block_len-requires c =
    let o = c.find_next.ensures.order in
    let r = c.in-Some.ensures.room.order in
    omega (arith, o, r)

pub note_found-requires-clause-marked : goal.note_found-requires-clause-marked
note_found-requires-clause-marked c =
    let m = c.find_next.ensures.marked in
    let e = ap length c.in_ok-put_block.ensures.out in
    let n = length_more c.args.out.now c.in-Some.found.block in
    omega (arith, m, e, n)

pub note_found-requires-clause-count : goal.note_found-requires-clause-count
note_found-requires-clause-count c = c.find_next.ensures.count

pub note_found-requires-clause-room : goal.note_found-requires-clause-room
note_found-requires-clause-room c = c.in-Some.ensures.room

pub returns-in_err-put_block-clause-count : goal.returns-in_err-put_block-clause-count
returns-in_err-put_block-clause-count c = c.find_next.ensures.count

pub returns-in_err-next_order-clause-count : goal.returns-in_err-next_order-clause-count
returns-in_err-next_order-clause-count c = ap length c.next_order.ensures.rests ∙ c.find_next.ensures.count

pub returns-clause-count : goal.returns-clause-count
returns-clause-count c = c.note_found.ensures.count

pub returns-in_err-put_block-clause-marks : goal.returns-in_err-put_block-clause-marks
returns-in_err-put_block-clause-marks c = on_err c.from_residual-in_err-put_block.result (λ before pages f.
    let is : c.min-order.result ≡ min c.args.search.now.order (log2 c.args.search.now.left) = c.min-order.ensures ∙ ap (min c.args.search.now.order) c.log2.ensures.value in
    let f1 = finding_clamped before c.args.free.now c.args.range c.args.topdown pages c.args.out.now c.args.search.now (record c.args.search.now { order = c.min-order.result }) f is refl refl refl refl in
    let f2 = c.find_next.ensures.finding before pages f1 in
    subst (IsMarkedIn before c.find_next.new.free c.find_next.new.search.marked) (sym c.in_err-put_block.ensures.same) f2.marks)

pub returns-in_err-next_order-clause-marks : goal.returns-in_err-next_order-clause-marks
returns-in_err-next_order-clause-marks c = on_err c.from_residual.result (λ before pages f.
    let is : c.min-order.result ≡ min c.args.search.now.order (log2 c.args.search.now.left) = c.min-order.ensures ∙ ap (min c.args.search.now.order) c.log2.ensures.value in
    let f1 = finding_clamped before c.args.free.now c.args.range c.args.topdown pages c.args.out.now c.args.search.now (record c.args.search.now { order = c.min-order.result }) f is refl refl refl refl in
    let f2 = c.find_next.ensures.finding before pages f1 in
    subst (λ n. IsMarkedIn before c.find_next.new.free n c.args.out.now) (sym c.next_order.ensures.marked) f2.marks)

pub returns-in_err-next_order-clause-none : goal.returns-in_err-next_order-clause-none
returns-in_err-next_order-clause-none c = λ e before pages f.
    let is : c.min-order.result ≡ min c.args.search.now.order (log2 c.args.search.now.left) = c.min-order.ensures ∙ ap (min c.args.search.now.order) c.log2.ensures.value in
    let f1 = finding_clamped before c.args.free.now c.args.range c.args.topdown pages c.args.out.now c.args.search.now (record c.args.search.now { order = c.min-order.result }) f is refl refl refl refl in
    let f2 = c.find_next.ensures.finding before pages f1 in
    let l = c.find_next.ensures.left in
    let some = c.requires.some in
    finding_over before c.find_next.new.free c.args.range c.args.topdown pages c.args.out.now c.find_next.new.search f2 (omega (arith, l, some)) (c.find_next.ensures.none c.in_default.is) c.in_err-next_order.ensures.least

pub returns-in_default-clause-finding : goal.returns-in_default-clause-finding
returns-in_default-clause-finding c = λ before pages f.
    let is : c.min-order.result ≡ min c.args.search.now.order (log2 c.args.search.now.left) = c.min-order.ensures ∙ ap (min c.args.search.now.order) c.log2.ensures.value in
    let f1 = finding_clamped before c.args.free.now c.args.range c.args.topdown pages c.args.out.now c.args.search.now (record c.args.search.now { order = c.min-order.result }) f is refl refl refl refl in
    let f2 = c.find_next.ensures.finding before pages f1 in
    let l = c.find_next.ensures.left in
    let some = c.requires.some in
    finding_lower before c.find_next.new.free c.args.range c.args.topdown pages c.args.out.now c.find_next.new.search f2 (omega (arith, l, some)) (c.find_next.ensures.none c.in_default.is) c.next_order.new.search c.in_ok-next_order.ensures.order c.next_order.ensures.left c.next_order.ensures.rests c.next_order.ensures.half c.next_order.ensures.marked

pub returns-in_default-clause-less : goal.returns-in_default-clause-less
returns-in_default-clause-less c =
    let is : c.min-order.result ≡ min c.args.search.now.order (log2 c.args.search.now.left) = c.min-order.ensures ∙ ap (min c.args.search.now.order) c.log2.ensures.value in
    let l = c.find_next.ensures.left in
    let o = c.find_next.ensures.order in
    let m = c.next_order.ensures.left in
    let n = c.in_ok-next_order.ensures.order in
    omega (arith, is, l, o, m, n)

pub returns-in_default-clause-count : goal.returns-in_default-clause-count
returns-in_default-clause-count c = ap length c.next_order.ensures.rests ∙ c.find_next.ensures.count

pub returns-clause-finding : goal.returns-clause-finding
returns-clause-finding c = λ before pages f.
    let is : c.min-order.result ≡ min c.args.search.now.order (log2 c.args.search.now.left) = c.min-order.ensures ∙ ap (min c.args.search.now.order) c.log2.ensures.value in
    let f1 = finding_clamped before c.args.free.now c.args.range c.args.topdown pages c.args.out.now c.args.search.now (record c.args.search.now { order = c.min-order.result }) f is refl refl refl refl in
    let f2 = c.find_next.ensures.finding before pages f1 in
    let s : Search = c.find_next.new.search in
    let l = c.find_next.ensures.left in
    let o = c.find_next.ensures.order in
    let some = c.requires.some in
    let fits = subst (λ n. 2 ^ n ≤ s.left) (sym o) (subst (λ n. 2 ^ c.min-order.result ≤ n) (sym l) (clamped_fits c.min-order.result c.args.search.now.order c.args.search.now.left some is)) in
    let len = c.block_len.ensures.value ∙ ap (λ n. 2 ^ n) (sym o) in
    finding_noted before c.find_next.new.free c.args.range c.args.topdown pages c.args.out.now s f2 c.in-Some.found (omega (arith, l, some)) fits c.in-Some.ensures.room.len c.in-Some.ensures.found c.note_found.new.free c.put_block.new.out c.saturating_sub-left.result c.note_found.new.search
    c.in_ok-put_block.ensures.out (omega (arith, fits, len)) c.note_found.ensures.left c.note_found.ensures.order (c.note_found.ensures.numbers f2.numbers) c.note_found.ensures.marks c.note_found.ensures.known

pub returns-clause-less : goal.returns-clause-less
returns-clause-less c =
    let is : c.min-order.result ≡ min c.args.search.now.order (log2 c.args.search.now.left) = c.min-order.ensures ∙ ap (min c.args.search.now.order) c.log2.ensures.value in
    let l = c.find_next.ensures.left in
    let o = c.find_next.ensures.order in
    let m = c.note_found.ensures.left in
    let n = c.note_found.ensures.order in
    let len = c.block_len.ensures.value in
    let p = some_pages c.min-order.result in
    let some = c.requires.some in
    omega (arith, is, l, o, m, n, len, p, some)
