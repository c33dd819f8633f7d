use Rattle.std.proofs.Common.{arith}
use Rattle.std.proofs.lemmas.Grind.{common_steps}
use Rattle.std.proofs.lemmas.Bool.Decides.{nat_tests}
use Rattle.state_words.proofs.PageLaws.{slice_get-pages}
use Rattle.state_words.proofs.places.page_at.Goals as goal

pub returns-then-left-pages : goal.returns-then-left-pages
returns-then-left-pages c =
    let here = slice_get-pages c.args.spans.now c.loop-span.span-index (record { start = 0; end = 0 }) c.loop-span.left c.loop-span-test.true in
    grind (arith, common_steps, nat_tests, here)

pub loop-span-preserved : goal.loop-span-preserved
loop-span-preserved c =
    let here = slice_get-pages c.args.spans.now c.loop-span.span-index (record { start = 0; end = 0 }) c.loop-span.left c.loop-span-test.true in
    grind (arith, common_steps, nat_tests, here)
