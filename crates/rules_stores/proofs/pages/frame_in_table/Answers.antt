use Rattle.ttm_base.specs.declared.Span.{Span}
use Rattle.rules_stores.proofs.MapLaws.{table_span, first_found, first_passed}
use Rattle.rules_stores.proofs.pages.frame_in_table.Goals as goal

pub returns-in-Some : goal.returns-in-Some
returns-in-Some c =
    let none : Span = record { start = 0; end = 0 } in
    first_found _ _ _ _ _ c.in-Some.ensures (table_span c.args.spans.now c.loop-span.span-index none c.loop-span.rest.now c.args.page c.loop-span-test.true) c.loop-span.invariant

pub loop-span-preserved : goal.loop-span-preserved
loop-span-preserved c =
    let none : Span = record { start = 0; end = 0 } in
    rw (c.behind-rest.ensures, c.length_of.ensures)
    (first_passed _ _ _ _ c.in_default.ensures (table_span c.args.spans.now c.loop-span.span-index none c.loop-span.rest.now c.args.page c.loop-span-test.true) c.loop-span.invariant)
