use Rattle.hole_tree.proofs.tree.Tree.+take.Given as goal

abbrev pub decreases-take : goal.decreases-take
decreases-take g l = goal.size-take g l
