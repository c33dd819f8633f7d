use Rattle.test_parts.proofs.lists.bulk_of_one_list.Given as goal

abbrev pub ghosts-moved_in : goal.ghosts-moved_in
ghosts-moved_in g a = record { name = a.blank.name; parts = a.blank.parts }
