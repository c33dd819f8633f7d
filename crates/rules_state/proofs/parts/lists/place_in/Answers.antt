use Rattle.std.proofs.Common.{◌<◌, length, arith}
use Rattle.std.proofs.lemmas.Grind.{common_steps}
use Rattle.journal_model.specs.rules.Lists.{is_mate}
use Rattle.rules_state.proofs.parts.OrderLaws.{behind_last_more}
use Rattle.rules_state.proofs.parts.lists.place_in.Goals as goal

pub loop-i-preserved : goal.loop-i-preserved
loop-i-preserved c =
    let within : c.loop-i.i < length c.args.list.now = omega arith in
    let more = behind_last_more (is_mate c.args.script.now c.args.b) c.args.list.now c.loop-i.i c.args.b within in
    grind (arith, common_steps, more)
