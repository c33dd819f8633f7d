use Rattle.std.proofs.Common.{◌∙◌, ap}
use Rattle.journal_model.specs.rules.PageSteps.{target_to_untake}
use Rattle.move_pipeline.proofs.Carried.{given_there, untake_entry}
use Rattle.move_pipeline.proofs.carries.release_target.Goals as goal

pub lent-requires : goal.lent-requires
lent-requires c = given_there c.args.rooms.now c.args.thread c.args.b c.requires.task c.journal-legal.ensures.fits c.journal-legal.ensures.legal

pub make-requires : goal.make-requires
make-requires c = untake_entry c.args.rooms.now c.args.thread c.args.b c.target_to_untake-mem.result c.requires.task c.requires.untake (c.target_to_untake-mem.ensures ∙ ap target_to_untake c.lent.ensures)
