use Rattle.hole_tree.proofs.Sides.{low_sound}
use Rattle.hole_tree.proofs.tree.Tree.+take_first.Goals as goal

pub returns-then-not-is_empty-clause-low : goal.returns-then-not-is_empty-clause-low
returns-then-not-is_empty-clause-low g t c = low_sound g.S.Side.keeps _ c.shrunk_left-lower.ensures.sound
