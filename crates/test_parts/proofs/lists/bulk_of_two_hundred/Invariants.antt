use Rattle.test_parts.proofs.lists.bulk_of_two_hundred.Given as goal

abbrev pub ghosts-moved : goal.ghosts-moved
ghosts-moved g a = record { name = a.blank.name; parts = a.blank.parts }
