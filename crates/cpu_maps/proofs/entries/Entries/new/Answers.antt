use Rattle.std.proofs.Common.{◌+◌, ◌/◌, ap, ◌∙◌, arith}
use Rattle.cpu_maps.specs.Pieces.{entries_from}
use Rattle.cpu_maps.proofs.PieceLaws.{has_none, no_slots}
use Rattle.cpu_maps.proofs.entries.Entries.new.Goals as goal

pub invariant_of-result : goal.invariant_of-result
invariant_of-result c =
    let x = c.in_ok-slots.ensures.exact in
    let f = c.ranges.pages.fits in
    has_none c.in_ok-begun.begun.items c.in_ok-slots.slots.items (c.args.pages / 16 + 1) c.args.pages c.in_ok-slots.slots.cap (c.in_ok-begun.ensures.items_if_clones_equal (λ y e. e)) c.in_ok-slots.ensures.items (omega arith) (omega (arith, f)) (omega (arith, x))

pub returns : goal.returns
returns c = ap (λ slots. entries_from c.in_ok-begun.begun.items slots 0 c.args.pages) c.in_ok-slots.ensures.items ∙ no_slots c.in_ok-begun.begun.items 0 c.args.pages
