use Rattle.lru_bulk.proofs.Lru.bulk_tail.Given as goal

abbrev pub ghosts-splice_uncounted : goal.ghosts-splice_uncounted
ghosts-splice_uncounted a = record { name = a.blank.name; parts = a.blank.parts }
