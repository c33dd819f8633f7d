use Rattle.room_state.proofs.threads.make_act.Given as goal

abbrev pub ghost-make : goal.ghost-make
ghost-make g a = g.w

abbrev pub ghost-free : goal.ghost-free
ghost-free g a = g.w

abbrev pub ghost-arm : goal.ghost-arm
ghost-arm g a = g.w

abbrev pub ghost-bulk : goal.ghost-bulk
ghost-bulk g a = g.w

abbrev pub ghost-answer : goal.ghost-answer
ghost-answer g a = g.w

abbrev pub ghost-refuse : goal.ghost-refuse
ghost-refuse g a = g.w
