use Rattle.std.proofs.Common.{subst, sym, ◌∙◌}
use Rattle.journal_model.specs.rules.Legal.{IsLegalNext, world_of}
use Rattle.room_state.proofs.WhoLaws.{thread_makes, thread_works}
use Rattle.room_state.proofs.threads.make_of_thread.Goals as goal

pub unreachable-requires : goal.unreachable-requires
unreachable-requires g c =
    let world = world_of g.w.script g.w.before in
    let next = subst (IsLegalNext g.w.script world) c.requires.1.0 c.requires.1.1.1.1 in
    thread_works c.args.entry.now.kind (thread_makes g.w.script world c.args.entry.now next c.args.thread c.requires.1.1.1.0)
    (sym c.theme_of.ensures ∙ c.in-Worker.is)
