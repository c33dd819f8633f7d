use Rattle.validate_list.proofs.Shown.{denied_entry}
use Rattle.validate_list.proofs.refusals.refuse_for.Goals as goal

pub make-requires : goal.make-requires
make-requires c = denied_entry c.args.rooms.now c.args.thread c.args.deny c.requires
