use Rattle.std.proofs.Common.{◌≡◌, ◌+◌, ◌<◌, ◌≤◌, Some, length, refl, ap, sym, ◌∙◌, subst, arith, rules}
use Rattle.std.specs.List.{find}
use Rattle.ttm_base.specs.Holes.{has_page}
use Rattle.hole_tree.specs.Trees.{shape_of, shape_of_node, IsNode, IsTree}
use Rattle.hole_tree.proofs.Around.{around_left, around_here, around_right}
use Rattle.hole_tree.proofs.Sides.{opened, node_count, node_rising, node_rising_left, node_rising_right}
use Rattle.hole_tree.proofs.tree.Tree.+around.Goals as goal

pub around-requires : goal.around-requires
around-requires g t c κs within =
    let whole : shape_of_node c.in-Full.node.value ≡ c.args.self.now = subst (λ t. shape_of t ≡ c.args.self.now) c.in-Full.is c.self.view_is in
    let node : IsNode c.args.self.now c.deref-then-page-start.result.now.left c.deref-then-page-start.result.now.hole c.deref-then-page-start.result.now.right = opened whole (subst (IsTree g.S.Side.keeps) c.in-Full.is c.self.invariant) c.deref-then-page-start.ensures in
    let count : length c.args.self.now.spans ≡ length c.deref-then-page-start.result.now.left.spans + length c.deref-then-page-start.result.now.right.spans + 1 = node_count node in
    (first_of (omega arith, search rules), (search rules, node_rising_left node c.requires.rising))

pub around-requires-else-page-end : goal.around-requires-else-page-end
around-requires-else-page-end g t c κs within =
    let whole : shape_of_node c.in-Full.node.value ≡ c.args.self.now = subst (λ t. shape_of t ≡ c.args.self.now) c.in-Full.is c.self.view_is in
    let node : IsNode c.args.self.now c.deref-else-page-end.result.now.left c.deref-else-page-end.result.now.hole c.deref-else-page-end.result.now.right = opened whole (subst (IsTree g.S.Side.keeps) c.in-Full.is c.self.invariant) c.deref-else-page-end.ensures in
    let count : length c.args.self.now.spans ≡ length c.deref-else-page-end.result.now.left.spans + length c.deref-else-page-end.result.now.right.spans + 1 = node_count node in
    (first_of (omega arith, search rules), (search rules, node_rising_right node c.requires.rising))

pub returns-then-page-start : goal.returns-then-page-start
returns-then-page-start g t c =
    let whole : shape_of_node c.in-Full.node.value ≡ c.args.self.now = subst (λ t. shape_of t ≡ c.args.self.now) c.in-Full.is c.self.view_is in
    let node : IsNode c.args.self.now c.in-Full.node.value.left c.in-Full.node.value.hole c.in-Full.node.value.right = opened whole (subst (IsTree g.S.Side.keeps) c.in-Full.is c.self.invariant) refl in
    let side : c.deref-then-page-start.result.now ≡ c.in-Full.node.value = c.deref-then-page-start.ensures in
    let below = around_left c.args.page c.in-Full.node.value.left.spans c.in-Full.node.value.hole c.in-Full.node.value.right.spans (rw (c.start.ensures, c.deref.ensures) at c.if-page-start.true) (node_rising node c.requires.rising) in
    c.around.ensures ∙ ap (λ m. find (has_page c.args.page) m.left.spans) side ∙ sym (ap (λ ys. find (has_page c.args.page) ys) node.spans ∙ below)

pub returns-then-page-end : goal.returns-then-page-end
returns-then-page-end g t c =
    let whole : shape_of_node c.in-Full.node.value ≡ c.args.self.now = subst (λ t. shape_of t ≡ c.args.self.now) c.in-Full.is c.self.view_is in
    let node : IsNode c.args.self.now c.in-Full.node.value.left c.in-Full.node.value.hole c.in-Full.node.value.right = opened whole (subst (IsTree g.S.Side.keeps) c.in-Full.is c.self.invariant) refl in
    let from : c.in-Full.node.value.hole.start ≤ c.args.page = rw (c.start.ensures, c.deref.ensures) at c.if-page-start.false in
    let to : c.args.page < c.in-Full.node.value.hole.end = rw (c.end.ensures, c.deref-else-page-start.ensures) at c.if-page-end.true in
    let here = around_here c.args.page c.in-Full.node.value.left.spans c.in-Full.node.value.hole c.in-Full.node.value.right.spans from to (node_rising node c.requires.rising) in
    ap (λ m. Some m.hole) c.deref-then-page-end.ensures ∙ sym (ap (λ ys. find (has_page c.args.page) ys) node.spans ∙ here)

pub returns-else-page-end : goal.returns-else-page-end
returns-else-page-end g t c =
    let whole : shape_of_node c.in-Full.node.value ≡ c.args.self.now = subst (λ t. shape_of t ≡ c.args.self.now) c.in-Full.is c.self.view_is in
    let node : IsNode c.args.self.now c.in-Full.node.value.left c.in-Full.node.value.hole c.in-Full.node.value.right = opened whole (subst (IsTree g.S.Side.keeps) c.in-Full.is c.self.invariant) refl in
    let from : c.in-Full.node.value.hole.start ≤ c.args.page = rw (c.start.ensures, c.deref.ensures) at c.if-page-start.false in
    let past : c.in-Full.node.value.hole.end ≤ c.args.page = rw (c.end.ensures, c.deref-else-page-start.ensures) at c.if-page-end.false in
    let above = around_right c.args.page c.in-Full.node.value.left.spans c.in-Full.node.value.hole c.in-Full.node.value.right.spans from past (node_rising node c.requires.rising) in
    c.around-else-page-end.ensures ∙ ap (λ m. find (has_page c.args.page) m.right.spans) c.deref-else-page-end.ensures ∙ sym (ap (λ ys. find (has_page c.args.page) ys) node.spans ∙ above)
