use Rattle.std.proofs.Common.{◌∙◌, sym}
use Rattle.rules_stores.specs.Kept.{bytes_of}
use Rattle.report_check.proofs.ReplayLaws.{judged, no_step}
use Rattle.report_check.proofs.judge.broken_rule.Goals as goal

pub returns-in_ok-made-in-Ok : goal.returns-in_ok-made-in-Ok
returns-in_ok-made-in-Ok c =
    judged c.args.script.now c.args.state.now (bytes_of c.args.stores.now) c.args.entry.now c.in-Ok.kind c.in_ok-made-in-Ok.made c.rule_between.result
    (sym c.in_ok-kind.ensures ∙ c.in-Ok.is) c.in_ok-made-in-Ok.ensures c.rule_between.ensures

pub returns-in-Err : goal.returns-in-Err
returns-in-Err c = no_step c.args.script.now c.args.state.now (bytes_of c.args.stores.now) c.args.entry.now c.in-Err.field-0 (sym c.in_ok-kind.ensures ∙ c.in-Err.is)
