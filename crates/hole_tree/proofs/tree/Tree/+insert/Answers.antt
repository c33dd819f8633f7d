use Rattle.std.proofs.Common.{◌≡◌, ℕ, ◌<◌, ◌∙◌, true, false, length, subst, arith, rules, if◌then◌else◌}
use Rattle.hole_tree.specs.Sorting.{before}
use Rattle.hole_tree.specs.Trees.{shape_of, IsTree}
use Rattle.hole_tree.proofs.Placing.{ComesLeft, ComesRight, comes_left, comes_right}
use Rattle.hole_tree.proofs.Sides.{low_sound}
use Rattle.hole_tree.proofs.tree.Tree.+insert.Given.{Over}
use Rattle.hole_tree.proofs.tree.Tree.+insert.Goals as goal
use Rattle.hole_tree.proofs.tree.Tree.+insert.Goals.{Then-is_before, Else-is_before}

left : (g : Over) (t : ℕ) (c : Then-is_before g t) → ComesLeft g.S.Sort.order c.args.fresh.value.hole c.args.self.now c.deref_mut-root.result.now
left g t c =
    let below : before g.S.Sort.order c.args.fresh.value.hole c.deref_mut-root.result.now.hole ≡ true = cc (c.if-is_before.ensures, c.order.ensures, c.deref.ensures) in
    comes_left g.S.Sort.order c.args.fresh.value.hole (subst (λ t. shape_of t ≡ c.args.self.now) c.in-Full.is c.self.view_is) (subst (IsTree g.S.Side.keeps) c.in-Full.is c.self.invariant) c.deref_mut-root.ensures.value c.requires.sorted below

right : (g : Over) (t : ℕ) (c : Else-is_before g t) → ComesRight g.S.Sort.order c.args.fresh.value.hole c.args.self.now c.deref_mut-root.result.now
right g t c =
    let behind : before g.S.Sort.order c.args.fresh.value.hole c.deref_mut-root.result.now.hole ≡ false = cc (c.if-is_before.ensures, c.order.ensures, c.deref.ensures) in
    comes_right g.S.Sort.order c.args.fresh.value.hole (subst (λ t. shape_of t ≡ c.args.self.now) c.in-Full.is c.self.view_is) (subst (IsTree g.S.Side.keeps) c.in-Full.is c.self.invariant) c.deref_mut-root.ensures.value c.requires.sorted behind

pub insert-grew-requires : goal.insert-grew-requires
insert-grew-requires g t c κs within =
    let on = left g t (goal.at.insert-grew-requires g t c).Then-is_before in
    let fewer : length c.deref_mut-root.result.now.left.spans < length c.args.self.now.spans = on.fewer in
    (first_of (omega arith, search rules), (search rules, (on.sorted, c.requires.blank)))

pub grown_left-requires-clause-lean : goal.grown_left-requires-clause-lean
grown_left-requires-clause-lean g t c =
    let on = left g t (goal.at.grown_left-requires-clause-lean g t c).Then-is_before in
    on.lean c.insert-grew.new.self.height (if c.insert-grew.result then 1 else 0) c.insert-grew.ensures.height

pub returns-then-is_before-clause-spans : goal.returns-then-is_before-clause-spans
returns-then-is_before-clause-spans g t c =
    let on = left g t (goal.at.returns-then-is_before-clause-spans g t c).Then-is_before in
    c.grown_left.ensures.spans ∙ on.spans c.insert-grew.new.self.spans c.insert-grew.ensures.spans

pub returns-then-is_before-clause-low : goal.returns-then-is_before-clause-low
returns-then-is_before-clause-low g t c = low_sound g.S.Side.keeps _ c.grown_left.ensures.sound

pub insert-grew-requires-2 : goal.insert-grew-requires-2
insert-grew-requires-2 g t c κs within =
    let on = right g t (goal.at.insert-grew-requires-2 g t c).Else-is_before in
    let fewer : length c.deref_mut-root.result.now.right.spans < length c.args.self.now.spans = on.fewer in
    (first_of (omega arith, search rules), (search rules, (on.sorted, c.requires.blank)))

pub grown_right-requires-clause-lean : goal.grown_right-requires-clause-lean
grown_right-requires-clause-lean g t c =
    let on = right g t (goal.at.grown_right-requires-clause-lean g t c).Else-is_before in
    on.lean c.insert-grew-2.new.self.height (if c.insert-grew-2.result then 1 else 0) c.insert-grew-2.ensures.height

pub returns-clause-spans : goal.returns-clause-spans
returns-clause-spans g t c =
    let on = right g t (goal.at.returns-clause-spans g t c).Else-is_before in
    c.grown_right.ensures.spans ∙ on.spans c.insert-grew-2.new.self.spans c.insert-grew-2.ensures.spans

pub returns-clause-low : goal.returns-clause-low
returns-clause-low g t c = low_sound g.S.Side.keeps _ c.grown_right.ensures.sound
