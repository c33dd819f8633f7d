use Rattle.std.proofs.Common.{◌≡◌, ℕ, ◌<◌, max, true, false, List, [], ◌∷◌, ◌++◌, Option, Some, None, IsSome, length, sym, ap, ◌∙◌, subst, arith, rules}
use Rattle.ttm_base.specs.declared.Span.{Span}
use Rattle.ttm_base.specs.Reach.{length_of}
use Rattle.hole_tree.specs.Longest.{longest}
use Rattle.hole_tree.specs.Sorting.{before}
use Rattle.hole_tree.specs.Trees.{shape_of, IsNode, IsTree}
use Rattle.hole_tree.specs.declared.tree.Top.{Top}
use Rattle.hole_tree.specs.declared.tree.Top.TheVariants.{Empty, Full}
use Rattle.hole_tree.proofs.Sides.{opened, low_sound, node_goes_here}
use Rattle.hole_tree.proofs.Sorts.{Goes}
use Rattle.hole_tree.proofs.Taking.{OnLeft, OnRight, on_left, on_right}
use Rattle.hole_tree.proofs.tree.Tree.+take.Given.{Over}
use Rattle.hole_tree.proofs.tree.Tree.+take.Goals as goal
use Rattle.hole_tree.proofs.tree.Tree.+take.Goals.{Then-is_before, Then-is_before-2, Else-is_before-2}

abbrev hole_of : {S : Type 0} → Top S → Option Span
hole_of Empty = None
hole_of (Full n) = Some n.value.hole

abbrev beside : {S : Type 0} → Top S → List Span
beside Empty = []
beside (Full n) = n.value.left.spans ++ n.value.right.spans

left : (g : Over) (t : ℕ) (c : Then-is_before g t) → OnLeft g.S.Side.keeps g.S.Sort.order c.args.sought.now c.args.self.now c.deref_mut-root.result.now
left g t c =
    let below : before g.S.Sort.order c.args.sought.now c.deref_mut-root.result.now.hole ≡ true = cc (c.if-is_before.ensures, c.order.ensures) in
    on_left g.S.Sort.order c.args.sought.now (subst (λ t. shape_of t ≡ c.args.self.now) c.in-Full.is c.self.view_is) (subst (IsTree g.S.Side.keeps) c.in-Full.is c.self.invariant) c.deref_mut-root.ensures.value c.requires.sorted below

right : (g : Over) (t : ℕ) (c : Then-is_before-2 g t) → OnRight g.S.Side.keeps g.S.Sort.order c.args.sought.now c.args.self.now c.deref_mut-root.result.now
right g t c =
    let above : before g.S.Sort.order c.deref_mut-root.result.now.hole c.args.sought.now ≡ true = cc (c.if-is_before-2.ensures, c.order-2.ensures) in
    on_right g.S.Sort.order c.args.sought.now (subst (λ t. shape_of t ≡ c.args.self.now) c.in-Full.is c.self.view_is) (subst (IsTree g.S.Side.keeps) c.in-Full.is c.self.invariant) c.deref_mut-root.ensures.value c.requires.sorted above

pub take-found-requires : goal.take-found-requires
take-found-requires g t c κs within =
    let on = left g t (goal.at.take-found-requires g t c).Then-is_before in
    let fewer : length c.deref_mut-root.result.now.left.spans < length c.args.self.now.spans = on.fewer in
    (first_of (omega arith, search rules), (search rules, (on.sorted, subst IsSome on.found c.requires.held)))

pub shrunk_left-lower-requires-clause-of_left : goal.shrunk_left-lower-requires-clause-of_left
shrunk_left-lower-requires-clause-of_left g t c =
    let on = left g t (goal.at.shrunk_left-lower-requires-clause-of_left g t c).Then-is_before in
    on.kept c.take-found.result.node.value.hole c.pages.result c.take-found.new.self.spans c.take-found.ensures.found (c.pages.ensures ∙ ap (λ m. length_of m.hole) c.deref.ensures) c.take-found.ensures.left

pub returns-then-is_before-clause-found : goal.returns-then-is_before-clause-found
returns-then-is_before-clause-found g t c =
    let on = left g t (goal.at.returns-then-is_before-clause-found g t c).Then-is_before in
    on.found ∙ c.take-found.ensures.found

pub returns-then-is_before-clause-left : goal.returns-then-is_before-clause-left
returns-then-is_before-clause-left g t c =
    let on = left g t (goal.at.returns-then-is_before-clause-left g t c).Then-is_before in
    c.shrunk_left-lower.ensures.spans ∙ on.left c.take-found.new.self.spans c.take-found.ensures.left

pub take-found-requires-then-is_before-2 : goal.take-found-requires-then-is_before-2
take-found-requires-then-is_before-2 g t c κs within =
    let on = right g t (goal.at.take-found-requires-then-is_before-2 g t c).Then-is_before-2 in
    let fewer : length c.deref_mut-root.result.now.right.spans < length c.args.self.now.spans = on.fewer in
    (first_of (omega arith, search rules), (search rules, (on.sorted, subst IsSome on.found c.requires.held)))

pub shrunk_right-lower-requires-clause-of_right : goal.shrunk_right-lower-requires-clause-of_right
shrunk_right-lower-requires-clause-of_right g t c =
    let on = right g t (goal.at.shrunk_right-lower-requires-clause-of_right g t c).Then-is_before-2 in
    on.kept c.take-found-then-is_before-2.result.node.value.hole c.pages-then-is_before-2.result c.take-found-then-is_before-2.new.self.spans c.take-found-then-is_before-2.ensures.found (c.pages-then-is_before-2.ensures ∙ ap (λ m. length_of m.hole) c.deref-then-is_before-2.ensures) c.take-found-then-is_before-2.ensures.left

pub returns-then-is_before-2-clause-found : goal.returns-then-is_before-2-clause-found
returns-then-is_before-2-clause-found g t c =
    let on = right g t (goal.at.returns-then-is_before-2-clause-found g t c).Then-is_before-2 in
    on.found ∙ c.take-found-then-is_before-2.ensures.found

pub returns-then-is_before-2-clause-left : goal.returns-then-is_before-2-clause-left
returns-then-is_before-2-clause-left g t c =
    let on = right g t (goal.at.returns-then-is_before-2-clause-left g t c).Then-is_before-2 in
    c.shrunk_right-lower.ensures.spans ∙ on.left c.take-found-then-is_before-2.new.self.spans c.take-found-then-is_before-2.ensures.left

here : (g : Over) (t : ℕ) (c : Else-is_before-2 g t) → Goes g.S.Sort.order c.args.sought.now c.args.self.now.spans (Some c.deref_mut-root.result.now.hole) (c.deref_mut-root.result.now.left.spans ++ c.deref_mut-root.result.now.right.spans)
here g t c =
    let root = c.deref_mut-root.result.now in
    let node : IsNode c.args.self.now root.left root.hole root.right = opened (subst (λ t. shape_of t ≡ c.args.self.now) c.in-Full.is c.self.view_is) (subst (IsTree g.S.Side.keeps) c.in-Full.is c.self.invariant) c.deref_mut-root.ensures.value in
    let below : before g.S.Sort.order c.args.sought.now root.hole ≡ false = cc (c.if-is_before.ensures, c.order.ensures) in
    let above : before g.S.Sort.order root.hole c.args.sought.now ≡ false = cc (c.if-is_before-2.ensures, c.order-2.ensures) in
    node_goes_here g.S.Sort.order c.args.sought.now node c.requires.sorted below above

pub returns-clause-found : goal.returns-clause-found
returns-clause-found g t c =
    (here g t (goal.at.returns-clause-found g t c).Else-is_before-2).found ∙ ap hole_of (sym c.replace.ensures.value ∙ c.in-Full-replace.is) ∙ ap (λ k. Some k) (sym c.close_over.ensures.hole)

pub returns-clause-left : goal.returns-clause-left
returns-clause-left g t c =
    c.close_over.ensures.spans ∙ ap beside (sym c.in-Full-replace.is ∙ c.replace.ensures.value) ∙ sym (here g t (goal.at.returns-clause-left g t c).Else-is_before-2).left

pub returns-then-is_before-clause-low : goal.returns-then-is_before-clause-low
returns-then-is_before-clause-low g t c = low_sound g.S.Side.keeps _ c.shrunk_left-lower.ensures.sound

pub returns-then-is_before-2-clause-low : goal.returns-then-is_before-2-clause-low
returns-then-is_before-2-clause-low g t c = low_sound g.S.Side.keeps _ c.shrunk_right-lower.ensures.sound
