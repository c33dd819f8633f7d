use Rattle.std.proofs.Common.{subst}
use Rattle.journal_model.specs.rules.Legal.{IsLegalNext, world_of}
use Rattle.room_state.proofs.WhoLaws.{reaper_has, reaper_makes}
use Rattle.room_state.proofs.make.make_of_reaper.Goals as goal

pub unreachable-requires : goal.unreachable-requires
unreachable-requires g c =
    let world = world_of g.w.script g.w.before in
    let next = subst (IsLegalNext g.w.script world) c.requires.0 c.requires.1.1.1 in
    reaper_has c.args.entry.now.kind (reaper_makes g.w.script world c.args.entry.now next c.requires.1.1.0) c.in_default.not-Reap
