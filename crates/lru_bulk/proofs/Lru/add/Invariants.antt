use Rattle.lru_bulk.proofs.Lru.add.Given as goal

abbrev pub ghosts-enlist : goal.ghosts-enlist
ghosts-enlist a = record { name = a.blank.name; parts = a.blank.parts }
