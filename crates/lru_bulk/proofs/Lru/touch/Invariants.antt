use Rattle.lru_bulk.proofs.Lru.touch.Given as goal

abbrev pub ghosts-replace : goal.ghosts-replace
ghosts-replace a = record { name = a.blank.name; parts = a.blank.parts }
