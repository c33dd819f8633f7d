use Rattle.room_state.proofs.threads.make_carry.Given as goal

abbrev pub ghost-bind : goal.ghost-bind
ghost-bind g a = g.w

abbrev pub ghost-unbind : goal.ghost-unbind
ghost-unbind g a = g.w

abbrev pub ghost-move_buffer : goal.ghost-move_buffer
ghost-move_buffer g a = g.w
