use Rattle.std.proofs.Common.{◌≡◌, ◌-◌, ◌*◌, ◌^◌, false, length, refl, ap, sym, ◌∙◌, subst, arith}
use Rattle.ttm_base.specs.declared.Span.{Span}
use Rattle.ttm_base.specs.BuddyChoice.{block_around, is_free_block}
use Rattle.block_tree.specs.FreeSet.{is_free}
use Rattle.block_tree.proofs.Numbers.{some_pages, small_order}
use Rattle.block_tree.proofs.KeptLaws.{free_page}
use Rattle.block_tree.proofs.MarkingLaws.{clear_step, clear_end, clear_fewer}
use Rattle.block_tree.proofs.free_blocks.FreeBlocks.clear_inside.Goals as goal

pub pages-span-requires : goal.pages-span-requires
pages-span-requires c =
    let e = c.requires.end in
    let s = c.requires.small in
    record { order = small_order c.args.block.order 31 (omega (arith, e, s)); small = omega (arith, e, s) }

pub overflow_sub-pages : goal.overflow_sub-pages
overflow_sub-pages c = (let e = ap (λ (b : Span). b.end) c.pages-span.ensures in let s = some_pages c.args.block.order in omega (arith, e, s))

pub lowest-requires : goal.lowest-requires
lowest-requires c =
    let e = ap (λ (b : Span). b.end) c.pages-span.ensures in
    let b = ap (λ (b : Span). b.start) c.pages-span.ensures in
    let s = some_pages c.args.block.order in
    let z = c.loop-inside.invariant.size in
    let l = c.requires.end in
    record { order = omega arith; some = omega (arith, e, b, s); end = omega (arith, e, s, z, l) }

pub loop-inside-init : goal.loop-inside-init
loop-inside-init c = record { size = refl; clearing = record { outer = λ p h. refl; inner = λ p h t. t } }

pub remove-requires : goal.remove-requires
remove-requires c = c.in-Some.ensures.lowest.is.free

pub loop-inside-preserved : goal.loop-inside-preserved
loop-inside-preserved c =
    let z = c.loop-inside.invariant.size in
    let l = c.requires.end in
    record {
      size = c.remove.ensures.size ∙ z;
      clearing = clear_step (is_free c.args.self.now) (is_free c.loop-inside.self) (length c.loop-inside.self) c.args.block.order c.args.block.number (record { order = 0; first = c.pages-span.result.start; last = c.pages-span.result.end - 1 }) refl (ap (λ (b : Span). b.start) c.pages-span.ensures) (let e = ap (λ (b : Span). b.end) c.pages-span.ensures in omega (arith, e)) (is_free c.remove.new.self) c.in-Some.inside.order c.in-Some.inside.number c.loop-inside.invariant.clearing (omega (arith, z, l))
          (subst (λ n. is_free_block (is_free c.args.self.now) n (block_around c.args.block.order (c.args.block.number * 2 ^ c.args.block.order)) ≡ false) (sym z) c.requires.held) c.in-Some.ensures.lowest.is c.remove.ensures.marked;
    }

pub loop-inside-smaller : goal.loop-inside-smaller
loop-inside-smaller c = clear_fewer c.loop-inside.self c.remove.new.self c.in-Some.inside.order c.in-Some.inside.number c.in-Some.ensures.lowest.is.free c.remove.ensures.size c.remove.ensures.marked

pub returns-clause-size : goal.returns-clause-size
returns-clause-size c = c.loop-inside.invariant.size

pub returns-clause-marked : goal.returns-clause-marked
returns-clause-marked c = clear_end (is_free c.args.self.now) (is_free c.loop-inside.self) (length c.loop-inside.self) c.args.block.order c.args.block.number (record { order = 0; first = c.pages-span.result.start; last = c.pages-span.result.end - 1 }) refl (ap (λ (b : Span). b.start) c.pages-span.ensures) (let e = ap (λ (b : Span). b.end) c.pages-span.ensures in omega (arith, e)) c.loop-inside.invariant.clearing (λ p t. free_page c.loop-inside.self p t) c.in_default.ensures.lowest
