use Rattle.std.proofs.Common.{Some, sym, ◌∙◌, ap}
use Rattle.ghost_destroy.proofs.FreeLaws.{freed_declared}
use Rattle.ghost_destroy.proofs.free.hold.Goals as goal

pub kind_of_free-kind-requires : goal.kind_of_free-kind-requires
kind_of_free-kind-requires c =
    freed_declared c.args.rooms.now.script c.args.rooms.now.journal c.args.thread c.in-Some-Free.b c.journal-legal.ensures.fits c.journal-legal.ensures.legal c.requires
    (ap Some (sym c.in-Some-Free.field-0-is) ∙ c.in-Some-Free.ensures)
