use Rattle.std.proofs.Common.{sym, ◌∙◌}
use Rattle.report_check.proofs.TradeLaws.{free_traded}
use Rattle.report_check.proofs.kept.free_after_page.Goals as goal

pub returns : goal.returns
returns c script owner are =
    free_traded script c.args.state.now c.args.b c.args.page c.in_ok-old.old c.args.loc c.args.free c.give.new.self c.take.new.self owner
    (sym c.loc_at.ensures ∙ c.in_ok-old.was) c.give.ensures.frames c.give.ensures.slots c.take.ensures.frames c.take.ensures.slots are
