use Rattle.room_pages.proofs.ghosts.frees.free.Given as goal

abbrev pub ghost-free_idle : goal.ghost-free_idle
ghost-free_idle g a = g.w
