use Rattle.hole_tree.proofs.holes.Holes.highest.Given as goal

abbrev pub ghosts-choose : goal.ghosts-choose
ghosts-choose a = record { name = a.blank.name; parts = a.blank.parts }
