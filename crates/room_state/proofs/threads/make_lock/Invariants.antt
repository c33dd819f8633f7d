use Rattle.room_state.proofs.threads.make_lock.Given as goal

abbrev pub ghost-ticket : goal.ghost-ticket
ghost-ticket g a = g.w

abbrev pub ghost-reserve : goal.ghost-reserve
ghost-reserve g a = g.w

abbrev pub ghost-back_off : goal.ghost-back_off
ghost-back_off g a = g.w
