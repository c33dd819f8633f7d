use Rattle.hole_tree.proofs.tree.Tree.+take_first.Given as goal

abbrev pub decreases-take_first : goal.decreases-take_first
decreases-take_first g l = goal.size-take_first g l
