use Rattle.room_state.proofs.threads.make_search.Given as goal

abbrev pub ghost-take : goal.ghost-take
ghost-take g a = g.w

abbrev pub ghost-untake : goal.ghost-untake
ghost-untake g a = g.w

abbrev pub ghost-catch : goal.ghost-catch
ghost-catch g a = g.w

abbrev pub ghost-dry : goal.ghost-dry
ghost-dry g a = g.w
