use Rattle.std.proofs.lemmas.Result.{on_ok_weaker}
use Rattle.journal_model.specs.scripts.Words.{span_word}
use Rattle.report_mappings.proofs.SpacedLaws.{listed_after}
use Rattle.report_mappings.proofs.spans.put_spans.Goals as goal

pub returns-in_ok-put_span-in-Some : goal.returns-in_ok-put_span-in-Some
returns-in_ok-put_span-in-Some c =
    on_ok_weaker c.put_more_spans.result
    (λ more. listed_after span_word c.args.line.now c.put_span.new.line c.put_more_spans.new.line c.args.spans.now c.in-Some.first.now c.in-Some.rest.now
    c.in-Some.ensures.cases.0 c.in_ok-put_span-in-Some.ensures more)
    c.put_more_spans.ensures
