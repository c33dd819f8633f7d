use Rattle.room_state.proofs.threads.make_fill.Given as goal

abbrev pub ghost-populate : goal.ghost-populate
ghost-populate g a = g.w

abbrev pub ghost-swap_in : goal.ghost-swap_in
ghost-swap_in g a = g.w

abbrev pub ghost-no_pages : goal.ghost-no_pages
ghost-no_pages g a = g.w
