use Rattle.room_state.proofs.threads.make_of_thread.Given as goal

abbrev pub ghost-make_lock : goal.ghost-make_lock
ghost-make_lock g a = g.w

abbrev pub ghost-make_search : goal.ghost-make_search
ghost-make_search g a = g.w

abbrev pub ghost-make_carry : goal.ghost-make_carry
ghost-make_carry g a = g.w

abbrev pub ghost-make_fill : goal.ghost-make_fill
ghost-make_fill g a = g.w

abbrev pub ghost-make_empty : goal.ghost-make_empty
ghost-make_empty g a = g.w

abbrev pub ghost-make_act : goal.ghost-make_act
ghost-make_act g a = g.w
