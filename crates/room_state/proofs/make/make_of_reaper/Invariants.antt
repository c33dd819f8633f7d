use Rattle.room_state.proofs.make.make_of_reaper.Given as goal

abbrev pub ghost-reap : goal.ghost-reap
ghost-reap g a = g.w
