use Rattle.lru_bulk.proofs.Lru.remove.Given as goal

abbrev pub ghosts-delist : goal.ghosts-delist
ghosts-delist a = record { name = a.blank.name; parts = a.blank.parts }
