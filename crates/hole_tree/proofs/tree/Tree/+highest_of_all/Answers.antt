use Rattle.std.proofs.Common.{◌≡◌, ℕ, ◌<◌, None, length, sym, ◌∙◌, arith, rules}
use Rattle.ttm_base.specs.declared.Mode.TheVariants.{High}
use Rattle.hole_tree.specs.Fitting.{fits, find_last}
use Rattle.hole_tree.specs.Rising.{IsRising}
use Rattle.hole_tree.proofs.Looking.{rising_above, rising_below, shorter_above, shorter_below, unreached_above_last, unreached_below_last, none_of, last_above, last_here, last_below}
use Rattle.hole_tree.proofs.tree.Tree.+highest_of_all.Given.{Over}
use Rattle.hole_tree.proofs.tree.Tree.+highest_of_all.Goals as goal
use Rattle.hole_tree.proofs.tree.Tree.+highest_of_all.Goals.{After-fits, then-reaches_right+else-is_some, else-reaches_right}

pub highest_of_all-above-requires : goal.highest_of_all-above-requires
highest_of_all-above-requires g t c κs lives =
    let s = c.args.self.now in
    let n = c.in_ok-node.node.now in
    let rising : IsRising n.right.spans = rising_above s n c.in_ok-node.ensures.shape c.requires.rising in
    let fewer : length n.right.spans < length s.spans = shorter_above s n c.in_ok-node.ensures.shape in
    (first_of (omega arith, search rules), (search rules, (search rules, (rising, c.requires.align))))

pub highest_of_all-requires : goal.highest_of_all-requires
highest_of_all-requires g t c κs lives =
    let s = c.args.self.now in
    let n = c.in_ok-node.node.now in
    let rising : IsRising n.left.spans = rising_below s n c.in_ok-node.ensures.shape c.requires.rising in
    let fewer : length n.left.spans < length s.spans = shorter_below s n c.in_ok-node.ensures.shape in
    (first_of (omega arith, search rules), (search rules, (search rules, (rising, c.requires.align))))

pub returns-then-is_some-clause-found : goal.returns-then-is_some-clause-found
returns-then-is_some-clause-found g t c = last_above _ (fits High c.args.request.now) c.args.self.now c.in_ok-node.node.now c.highest_of_all-above.result c.in_ok-node.ensures.shape c.highest_of_all-above.ensures.found (sym c.if-is_some.ensures)

missed : (g : Over) (t : ℕ) (c : After-fits g t) → find_last (fits High c.args.request.now) c.in_ok-node.node.now.right.spans ≡ None
missed g t c = elim c.if-reaches_right.branch [
  | then-reaches_right+else-is_some w ↦ none_of _ _ _ w.highest_of_all-above.ensures.found (sym w.if-is_some.ensures)
  | else-reaches_right w ↦ unreached_above_last High c.args.request.now c.args.self.now c.in_ok-node.node.now c.in_ok-node.ensures.shape _ (c.longest.ensures _ c.in_ok-node.ensures.sound.sides.of_right) c.requires.rising (sym w.if-reaches_right.ensures)
]

pub returns-then-fits-clause-found : goal.returns-then-fits-clause-found
returns-then-fits-clause-found g t c =
    last_here (fits High c.args.request.now) c.args.self.now c.in_ok-node.node.now c.in_ok-node.ensures.shape (missed g t (goal.at.returns-then-fits-clause-found g t c).After-fits) (sym c.if-fits.ensures)

pub returns-then-reaches_left-clause-found : goal.returns-then-reaches_left-clause-found
returns-then-reaches_left-clause-found g t c =
    c.highest_of_all.ensures.found ∙ last_below (fits High c.args.request.now) c.args.self.now c.in_ok-node.node.now c.in_ok-node.ensures.shape (missed g t (goal.at.returns-then-reaches_left-clause-found g t c).After-fits) (sym c.if-fits.ensures)

pub returns-clause-found : goal.returns-clause-found
returns-clause-found g t c =
    sym (unreached_below_last High c.args.request.now c.args.self.now c.in_ok-node.node.now c.in_ok-node.ensures.shape _ (c.longest-2.ensures _ c.in_ok-node.ensures.sound.sides.of_left) c.requires.rising (sym c.if-reaches_left.ensures))
    ∙ last_below (fits High c.args.request.now) c.args.self.now c.in_ok-node.node.now c.in_ok-node.ensures.shape (missed g t (goal.at.returns-clause-found g t c).After-fits) (sym c.if-fits.ensures)
