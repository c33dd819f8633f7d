use Rattle.std.proofs.Common.{◌≡◌, ℕ, ◌<◌, None, length, sym, ◌∙◌, arith, rules}
use Rattle.std.specs.List.{find}
use Rattle.ttm_base.specs.declared.Mode.TheVariants.{Low}
use Rattle.hole_tree.specs.Fitting.{fits}
use Rattle.hole_tree.specs.Rising.{IsRising}
use Rattle.hole_tree.proofs.Looking.{rising_below, rising_above, shorter_below, shorter_above, unreached_below, unreached_above, none_of, first_below, first_here, first_above}
use Rattle.hole_tree.proofs.tree.Tree.+first_of_all.Given.{Over}
use Rattle.hole_tree.proofs.tree.Tree.+first_of_all.Goals as goal
use Rattle.hole_tree.proofs.tree.Tree.+first_of_all.Goals.{After-fits, then-reaches_left+else-is_some, else-reaches_left}

pub first_of_all-below-requires : goal.first_of_all-below-requires
first_of_all-below-requires g t c κs lives =
    let s = c.args.self.now in
    let n = c.in_ok-node.node.now in
    let rising : IsRising n.left.spans = rising_below s n c.in_ok-node.ensures.shape c.requires.rising in
    let fewer : length n.left.spans < length s.spans = shorter_below s n c.in_ok-node.ensures.shape in
    (first_of (omega arith, search rules), (search rules, (search rules, (rising, c.requires.align))))

pub first_of_all-requires : goal.first_of_all-requires
first_of_all-requires g t c κs lives =
    let s = c.args.self.now in
    let n = c.in_ok-node.node.now in
    let rising : IsRising n.right.spans = rising_above s n c.in_ok-node.ensures.shape c.requires.rising in
    let fewer : length n.right.spans < length s.spans = shorter_above s n c.in_ok-node.ensures.shape in
    (first_of (omega arith, search rules), (search rules, (search rules, (rising, c.requires.align))))

pub returns-then-is_some-clause-found : goal.returns-then-is_some-clause-found
returns-then-is_some-clause-found g t c = first_below _ (fits Low c.args.request.now) c.args.self.now c.in_ok-node.node.now c.first_of_all-below.result c.in_ok-node.ensures.shape c.first_of_all-below.ensures.found (sym c.if-is_some.ensures)

missed : (g : Over) (t : ℕ) (c : After-fits g t) → find (fits Low c.args.request.now) c.in_ok-node.node.now.left.spans ≡ None
missed g t c = elim c.if-reaches_left.branch [
  | then-reaches_left+else-is_some w ↦ none_of _ _ _ w.first_of_all-below.ensures.found (sym w.if-is_some.ensures)
  | else-reaches_left w ↦ unreached_below Low c.args.request.now c.args.self.now c.in_ok-node.node.now c.in_ok-node.ensures.shape _ (c.longest.ensures _ c.in_ok-node.ensures.sound.sides.of_left) c.requires.rising (sym w.if-reaches_left.ensures)
]

pub returns-then-fits-clause-found : goal.returns-then-fits-clause-found
returns-then-fits-clause-found g t c =
    first_here (fits Low c.args.request.now) c.args.self.now c.in_ok-node.node.now c.in_ok-node.ensures.shape (missed g t (goal.at.returns-then-fits-clause-found g t c).After-fits) (sym c.if-fits.ensures)

pub returns-then-reaches_right-clause-found : goal.returns-then-reaches_right-clause-found
returns-then-reaches_right-clause-found g t c =
    c.first_of_all.ensures.found ∙ first_above (fits Low c.args.request.now) c.args.self.now c.in_ok-node.node.now c.in_ok-node.ensures.shape (missed g t (goal.at.returns-then-reaches_right-clause-found g t c).After-fits) (sym c.if-fits.ensures)

pub returns-clause-found : goal.returns-clause-found
returns-clause-found g t c =
    sym (unreached_above Low c.args.request.now c.args.self.now c.in_ok-node.node.now c.in_ok-node.ensures.shape _ (c.longest-2.ensures _ c.in_ok-node.ensures.sound.sides.of_right) c.requires.rising (sym c.if-reaches_right.ensures))
    ∙ first_above (fits Low c.args.request.now) c.args.self.now c.in_ok-node.node.now c.in_ok-node.ensures.shape (missed g t (goal.at.returns-clause-found g t c).After-fits) (sym c.if-fits.ensures)
