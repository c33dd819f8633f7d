use Rattle.std.proofs.Common.{◌≡◌, ℕ, ◌<◌, ◌++◌, ◌∷◌, length, refl, ap, sym, ◌∙◌, subst, arith, rules}
use Rattle.hole_tree.specs.Longest.{longest}
use Rattle.hole_tree.specs.Sorting.{replaced}
use Rattle.hole_tree.specs.Trees.{shape_of, IsNode, IsSound, IsTree}
use Rattle.hole_tree.proofs.Resizing.{IsLeft, IsRight, is_left, is_right, length-replaced, replaced_here, longest_kept, sound_left, sound_right}
use Rattle.hole_tree.proofs.Sides.{opened, node_rising}
use Rattle.hole_tree.proofs.tree.Tree.+resize.Given.{Over}
use Rattle.hole_tree.proofs.tree.Tree.+resize.Goals as goal
use Rattle.hole_tree.proofs.tree.Tree.+resize.Goals.{Then-start, Then-start-2, then-longest-longer, else-longest-longer, then-longest-longer-2, else-longest-longer-2}

left : (g : Over) (t : ℕ) (c : Then-start g t) → IsLeft c.args.self.now c.deref_mut-node.result.now c.args.from.now
left g t c =
    let beside : c.args.from.now.start < c.deref_mut-node.result.now.hole.start = omega (arith, c.start.ensures, c.start-2.ensures) in
    is_left (opened (subst (λ t. shape_of t ≡ c.args.self.now) c.in-Full.is c.self.view_is) (subst (IsTree g.S.Side.keeps) c.in-Full.is c.self.invariant) c.deref_mut-node.ensures.value) beside c.requires.rising c.requires.held

right : (g : Over) (t : ℕ) (c : Then-start-2 g t) → IsRight c.args.self.now c.deref_mut-node.result.now c.args.from.now
right g t c =
    let beside : c.deref_mut-node.result.now.hole.start < c.args.from.now.start = omega (arith, c.start-3.ensures, c.start-4.ensures) in
    is_right (opened (subst (λ t. shape_of t ≡ c.args.self.now) c.in-Full.is c.self.view_is) (subst (IsTree g.S.Side.keeps) c.in-Full.is c.self.invariant) c.deref_mut-node.ensures.value) beside c.requires.rising c.requires.held

pub resize-requires : goal.resize-requires
resize-requires g t c κs within =
    let on = left g t (goal.at.resize-requires g t c).Then-start in
    let fewer : length c.deref_mut-node.result.now.left.spans < length c.args.self.now.spans = on.fewer in
    (first_of (omega arith, search rules), (search rules, (on.rising, (on.found, (c.requires.longer_from, c.requires.longer_to)))))

pub invariant_of-self : goal.invariant_of-self
invariant_of-self g t c =
    let on = left g t (goal.at.invariant_of-self g t c).Then-start in
    let n = c.deref_mut-node.result.now in
    let sound : IsSound g.S.Side.keeps n = rw c.deref_mut-node.ensures.value (subst (IsTree g.S.Side.keeps) c.in-Full.is c.self.invariant) in
    let count : length c.resize.new.self.spans ≡ length n.left.spans = ap length c.resize.ensures.spans ∙ length-replaced c.args.from.now.start c.args.to.now n.left.spans in
    elim c.if-longest-longer.branch [
      | then-longest-longer w ↦ rw w.self-inside-is (sound_left sound c.resize.ensures.height count refl refl w.kept-node.ensures refl)
      | else-longest-longer w ↦
          let was : c.longest.result ≡ longest n.left.spans = c.longest.ensures _ sound.sides.of_left in
          let same : longest n.left.spans ≡ longest (replaced c.args.from.now.start c.args.to.now n.left.spans) = longest_kept c.args.longer c.args.from.now c.args.to.now n.left.spans on.rising on.found c.requires.longer_from c.requires.longer_to (omega (arith, was, w.if-longest-longer.false)) in
          rw w.self-inside-is (sound_left sound c.resize.ensures.height count refl refl (sound.sides.of_left ∙ ap g.S.Side.keeps (same ∙ sym (ap longest c.resize.ensures.spans))) refl)
    ]

pub returns-then-start-clause-spans : goal.returns-then-start-clause-spans
returns-then-start-clause-spans g t c =
    let on = left g t (goal.at.returns-then-start-clause-spans g t c).Then-start in
    let n = c.deref_mut-node.result.now in
    let spans = ap (λ w. w ++ n.hole ∷ n.right.spans) c.resize.ensures.spans ∙ sym (on.spans c.args.to.now) in
    elim c.if-longest-longer.branch [
      | then-longest-longer w ↦ rw w.self-inside-is spans
      | else-longest-longer w ↦ rw w.self-inside-is spans
    ]

pub resize-requires-then-start-2 : goal.resize-requires-then-start-2
resize-requires-then-start-2 g t c κs within =
    let on = right g t (goal.at.resize-requires-then-start-2 g t c).Then-start-2 in
    let fewer : length c.deref_mut-node.result.now.right.spans < length c.args.self.now.spans = on.fewer in
    (first_of (omega arith, search rules), (search rules, (on.rising, (on.found, (c.requires.longer_from, c.requires.longer_to)))))

pub invariant_of-self-then-start-2 : goal.invariant_of-self-then-start-2
invariant_of-self-then-start-2 g t c =
    let on = right g t (goal.at.invariant_of-self-then-start-2 g t c).Then-start-2 in
    let n = c.deref_mut-node.result.now in
    let sound : IsSound g.S.Side.keeps n = rw c.deref_mut-node.ensures.value (subst (IsTree g.S.Side.keeps) c.in-Full.is c.self.invariant) in
    let count : length c.resize-then-start-2.new.self.spans ≡ length n.right.spans = ap length c.resize-then-start-2.ensures.spans ∙ length-replaced c.args.from.now.start c.args.to.now n.right.spans in
    elim c.if-longest-longer-2.branch [
      | then-longest-longer-2 w ↦ rw w.self-inside-is (sound_right sound refl c.resize-then-start-2.ensures.height count refl refl w.kept-node-then-longest-longer-2.ensures)
      | else-longest-longer-2 w ↦
          let was : c.longest-then-start-2.result ≡ longest n.right.spans = c.longest-then-start-2.ensures _ sound.sides.of_right in
          let same : longest n.right.spans ≡ longest (replaced c.args.from.now.start c.args.to.now n.right.spans) = longest_kept c.args.longer c.args.from.now c.args.to.now n.right.spans on.rising on.found c.requires.longer_from c.requires.longer_to (omega (arith, was, w.if-longest-longer-2.false)) in
          rw w.self-inside-is (sound_right sound refl c.resize-then-start-2.ensures.height count refl refl (sound.sides.of_right ∙ ap g.S.Side.keeps (same ∙ sym (ap longest c.resize-then-start-2.ensures.spans))))
    ]

pub returns-then-start-2-clause-spans : goal.returns-then-start-2-clause-spans
returns-then-start-2-clause-spans g t c =
    let on = right g t (goal.at.returns-then-start-2-clause-spans g t c).Then-start-2 in
    let n = c.deref_mut-node.result.now in
    let spans = ap (λ w. n.left.spans ++ n.hole ∷ w) c.resize-then-start-2.ensures.spans ∙ sym (on.spans c.args.to.now) in
    elim c.if-longest-longer-2.branch [
      | then-longest-longer-2 w ↦ rw w.self-inside-is spans
      | else-longest-longer-2 w ↦ rw w.self-inside-is spans
    ]

pub returns-clause-spans : goal.returns-clause-spans
returns-clause-spans g t c =
    let n = c.deref_mut-node.result.now in
    let node : IsNode c.args.self.now n.left n.hole n.right = opened (subst (λ t. shape_of t ≡ c.args.self.now) c.in-Full.is c.self.view_is) (subst (IsTree g.S.Side.keeps) c.in-Full.is c.self.invariant) c.deref_mut-node.ensures.value in
    let begins : n.hole.start ≡ c.args.from.now.start = omega (arith, c.start.ensures, c.start-2.ensures, c.start-3.ensures, c.start-4.ensures) in
    sym (ap (λ ys. replaced c.args.from.now.start c.args.to.now ys) node.spans ∙ replaced_here c.args.from.now.start c.args.to.now n.left.spans n.hole n.right.spans begins (node_rising node c.requires.rising))
