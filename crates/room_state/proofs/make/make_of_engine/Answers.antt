use Rattle.std.proofs.Common.{subst}
use Rattle.journal_model.specs.rules.Legal.{IsLegalNext, world_of}
use Rattle.room_state.proofs.WhoLaws.{engine_has, engine_makes}
use Rattle.room_state.proofs.make.make_of_engine.Goals as goal

pub unreachable-requires : goal.unreachable-requires
unreachable-requires g c =
    let world = world_of g.w.script g.w.before in
    let next = subst (IsLegalNext g.w.script world) c.requires.0 c.requires.1.1.1 in
    engine_has c.args.entry.now.kind (engine_makes g.w.script world c.args.entry.now next c.args.ctx c.requires.1.1.0) c.in_default.not-Packet c.in_default.not-Done
