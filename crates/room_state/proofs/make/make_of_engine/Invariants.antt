use Rattle.room_state.proofs.make.make_of_engine.Given as goal

abbrev pub ghost-packet : goal.ghost-packet
ghost-packet g a = g.w

abbrev pub ghost-done : goal.ghost-done
ghost-done g a = g.w
