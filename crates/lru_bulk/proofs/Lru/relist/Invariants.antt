use Rattle.lru_bulk.proofs.Lru.relist.Given as goal

abbrev pub ghosts-rehome : goal.ghosts-rehome
ghosts-rehome a = record { name = a.blank.name; parts = a.blank.parts }
