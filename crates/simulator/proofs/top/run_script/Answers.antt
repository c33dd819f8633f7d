use Rattle.std.proofs.Common.{min, ap, ◌∙◌}
use Rattle.std.specs.Prelude.{unwrap_or}
use Rattle.journal_model.specs.statements.Scheduled.{turn_limit}
use Rattle.sim_drive.specs.Ends.{Kept}
use Rattle.simulator.proofs.RunLaws.{is_run}
use Rattle.simulator.proofs.top.run_script.Goals as goal

pub returns : goal.returns
returns c =
    let of = c.script.ensures ∙ ap (λ (k : Kept). k.script) c.in_ok-device.ensures in
    let most = c.unwrap_or-allowed.ensures ∙ ap (unwrap_or c.args.turns) (c.turn_limit.ensures ∙ ap (λ s. min (turn_limit s) 18446744073709551615) of) in
    record { ran = is_run c.args.script c.args.turns c.in_ok-device.device c.drive.new.device c.unwrap_or-allowed.result c.in_ok-turns.turns c.in_ok-device.ensures most c.in_ok-turns.ensures.turns c.in_ok-turns.ensures.journal c.journal-legal.ensures.legal }
