use Rattle.room_state.proofs.threads.make_empty.Given as goal

abbrev pub ghost-depopulate : goal.ghost-depopulate
ghost-depopulate g a = g.w

abbrev pub ghost-swap_out : goal.ghost-swap_out
ghost-swap_out g a = g.w

abbrev pub ghost-loose : goal.ghost-loose
ghost-loose g a = g.w

abbrev pub ghost-skip : goal.ghost-skip
ghost-skip g a = g.w
