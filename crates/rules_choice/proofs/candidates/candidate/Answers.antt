use Rattle.std.proofs.Common.{◌≡◌, ◌<◌, ◌∙◌, sym, ap, subst, length, arith}
use Rattle.std.specs.Prelude.{option_map}
use Rattle.ttm_base.specs.BlockStarts.{candidate_at}
use Rattle.rules_choice.specs.Marks.{marked}
use Rattle.rules_choice.specs.Candidates.{candidate_of}
use Rattle.rules_choice.specs.Least.{best_with}
use Rattle.rules_choice.proofs.ScanLaws.{begun, early, ended, passed}
use Rattle.rules_choice.proofs.TurnLaws.{start_below}
use Rattle.rules_choice.proofs.candidates.candidate.Goals as goal

pub loop-i-init : goal.loop-i-init
loop-i-init c =
    let marks = c.args.free.now.marks.items in
    let size : c.len-size.result ≡ length marks = omega arith in
    begun marks c.args.range c.args.topdown c.args.order c.first_inside-i.result (rw size at c.first_inside-i.ensures.outside)

pub settled_order-settled-requires-clause-start : goal.settled_order-settled-requires-clause-start
settled_order-settled-requires-clause-start c =
    let marks = c.args.free.now.marks.items in
    let size : c.len-size.result ≡ length marks = omega arith in
    let blocks = rw size at c.end_inside-end.ensures.within in
    let start = rw size at c.start_at-start.ensures.value in
    subst (λ n. n < length marks) (sym start) (start_below c.args.topdown c.args.order (length marks) c.loop-i.i (omega (arith, blocks)))

pub loop-i-preserved : goal.loop-i-preserved
loop-i-preserved c =
    let marks = c.args.free.now.marks.items in
    let test = candidate_at (marked marks) (length marks) c.args.range c.args.order in
    let size : c.len-size.result ≡ length marks = omega arith in
    let blocks = rw size at c.end_inside-end.ensures.within in
    let start = rw size at c.start_at-start.ensures.value in
    passed marks c.args.range c.args.topdown c.args.order c.settled_order-settled.result c.loop-i.i c.blocks_left-i.result
    (option_map candidate_of c.loop-i.best) (option_map candidate_of c.next_best-best.result)
    (omega (arith, blocks)) c.blocks_left-i.ensures.some c.loop-i.invariant
    (c.next_best-best.ensures ∙ ap (λ s. best_with (λ c. c.whole) (option_map candidate_of c.loop-i.best) (test s)) start)
    (rw start at (c.settled_order-settled.ensures.settled c.args.range))
    (rw start at c.blocks_left-i.ensures.up)
    (rw start at c.blocks_left-i.ensures.down)

pub returns-then-is_whole : goal.returns-then-is_whole
returns-then-is_whole c =
    let marks = c.args.free.now.marks.items in
    let test = candidate_at (marked marks) (length marks) c.args.range c.args.order in
    let size : c.len-size.result ≡ length marks = omega arith in
    let blocks = rw size at c.end_inside-end.ensures.within in
    let start = rw size at c.start_at-start.ensures.value in
    early marks c.args.range c.args.topdown c.args.order c.loop-i.i (option_map candidate_of c.loop-i.best) (option_map candidate_of c.next_best-best.result)
    (omega (arith, blocks)) c.loop-i.invariant
    (c.next_best-best.ensures ∙ ap (λ s. best_with (λ c. c.whole) (option_map candidate_of c.loop-i.best) (test s)) start)
    (sym c.is_whole.ensures ∙ c.if-is_whole.true)

pub returns : goal.returns
returns c =
    let marks = c.args.free.now.marks.items in
    let size : c.len-size.result ≡ length marks = omega arith in
    let outside = rw size at c.end_inside-end.ensures.outside in
    ended marks c.args.range c.args.topdown c.args.order c.loop-i.i (option_map candidate_of c.loop-i.best) c.loop-i.invariant (λ m a l. outside m (omega arith) l)
