use Rattle.std.proofs.Common.{arith}
use Rattle.std.specs.Prelude.{slice_set}
use Rattle.std.proofs.lemmas.Result.{on_ok_weaker}
use Rattle.report_mappings.proofs.Numbered.{page_set, page_set_grown}
use Rattle.report_mappings.proofs.seen.meet.Goals as goal

pub returns : goal.returns
returns c =
    let long = c.in_ok-grow_seen.ensures.long in
    on_ok_weaker c.set_number.result
    (λ is. page_set_grown c.args.seen.now c.grow_seen.new.seen (slice_set c.grow_seen.new.seen c.args.b.0 c.set_number.new.pages) c.args.b.0 c.args.page c.args.number
    c.in_ok-grow_seen.ensures.same
    (page_set c.grow_seen.new.seen c.args.b.0 c.get_mut.result.now c.set_number.new.pages (omega (arith, long)) c.get_mut.ensures.value c.args.page c.args.number is))
    c.set_number.ensures
