use Rattle.std.proofs.Common.{subst}
use Rattle.std.specs.Prelude.{IfSome, option_copied}
use Rattle.journal_model.specs.rules.Holds.{held_frames}
use Rattle.rules_holds.specs.Free.{AreFree}
use Rattle.rules_search.proofs.pages.frame_to_give.Goals as goal

pub returns-in-Some : goal.returns-in-Some
returns-in-Some c =
    let free = subst (λ o. IfSome (option_copied o) (AreFree c.args.script.now c.args.core.now)) c.in-Some.is c.requires in
    c.lowest.ensures c.args.script.now.sizes.frames (held_frames c.args.core.now) free.frames
