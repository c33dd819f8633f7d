use Rattle.room_state.proofs.make.make_parts.Given as goal

abbrev pub ghost-make_of_thread : goal.ghost-make_of_thread
ghost-make_of_thread g a = g.w

abbrev pub ghost-make_of_engine : goal.ghost-make_of_engine
ghost-make_of_engine g a = g.w

abbrev pub ghost-make_of_reaper : goal.ghost-make_of_reaper
ghost-make_of_reaper g a = g.w
