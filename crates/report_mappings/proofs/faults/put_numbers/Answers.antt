use Rattle.std.proofs.Common.{decimal}
use Rattle.std.proofs.lemmas.Result.{on_ok_weaker}
use Rattle.report_mappings.proofs.SpacedLaws.{listed_after}
use Rattle.report_mappings.proofs.faults.put_numbers.Goals as goal

pub returns-in_ok-put_number-in-Some : goal.returns-in_ok-put_number-in-Some
returns-in_ok-put_number-in-Some c =
    on_ok_weaker c.put_more_numbers.result
    (λ more. listed_after decimal c.args.line.now c.put_number.new.self c.put_more_numbers.new.line c.args.numbers.now c.in-Some.first.now c.in-Some.rest.now
    c.in-Some.ensures.cases.0 c.in_ok-put_number-in-Some.ensures more)
    c.put_more_numbers.ensures
