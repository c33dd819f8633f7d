use Rattle.std.proofs.Common.{◌≡◌, ◌∷◌, ◌++◌, Bor, option_map, length, length-append, ap, sym, ◌∙◌, subst, arith}
use Rattle.std.specs.List.{find}
use Rattle.std.specs.Option.{option_or}
use Rattle.ttm_base.specs.declared.Span.{Span}
use Rattle.hole_tree.specs.Fitting.{find_last}
use Rattle.hole_tree.specs.HoleSet.{ends_by, ends_past}
use Rattle.hole_tree.specs.Rising.{IsRising}
use Rattle.hole_tree.proofs.Beside.{past_right, by_right, past_left, by_left}
use Rattle.hole_tree.proofs.ByLengths.{or_some}
use Rattle.hole_tree.proofs.Rises.{rising_left, rising_right}
use Rattle.hole_tree.proofs.tree.Tree.beside.Goals as goal

pub loop-node-preserved-then-end-page : goal.loop-node-preserved-then-end-page
loop-node-preserved-then-end-page g c =
    let n = c.in-Some.node.now in
    let page = c.args.page in
    let rising : IsRising (n.left.spans ++ n.hole ∷ n.right.spans) = subst IsRising c.in-Some.ensures.spans c.loop-node.invariant.rising in
    record {
      rising = rising_right n.left.spans n.hole n.right.spans rising;
      before =
          sym (ap (λ o. option_or o (option_map (λ (h : Bor Span). h.now) c.loop-node.before)) (ap (find_last (ends_by page)) c.in-Some.ensures.spans ∙ by_right page n.left.spans n.hole n.right.spans (rw c.end.ensures at c.if-end-page.true)) ∙ or_some _ n.hole _)
          ∙ c.loop-node.invariant.before;
      behind =
          sym (ap (λ o. option_or o (option_map (λ (h : Bor Span). h.now) c.loop-node.behind)) (ap (find (ends_past page)) c.in-Some.ensures.spans ∙ past_right page n.left.spans n.hole n.right.spans (rw c.end.ensures at c.if-end-page.true) rising))
          ∙ c.loop-node.invariant.behind;
    }

pub loop-node-preserved : goal.loop-node-preserved
loop-node-preserved g c =
    let n = c.in-Some.node.now in
    let page = c.args.page in
    let rising : IsRising (n.left.spans ++ n.hole ∷ n.right.spans) = subst IsRising c.in-Some.ensures.spans c.loop-node.invariant.rising in
    record {
      rising = rising_left n.left.spans (n.hole ∷ n.right.spans) rising;
      before =
          sym (ap (λ o. option_or o (option_map (λ (h : Bor Span). h.now) c.loop-node.before)) (ap (find_last (ends_by page)) c.in-Some.ensures.spans ∙ by_left page n.left.spans n.hole n.right.spans (rw c.end.ensures at c.if-end-page.false) rising))
          ∙ c.loop-node.invariant.before;
      behind =
          sym (ap (λ o. option_or o (option_map (λ (h : Bor Span). h.now) c.loop-node.behind)) (ap (find (ends_past page)) c.in-Some.ensures.spans ∙ past_left page n.left.spans n.hole n.right.spans (rw c.end.ensures at c.if-end-page.false)) ∙ or_some _ n.hole _)
          ∙ c.loop-node.invariant.behind;
    }

pub loop-node-smaller-then-end-page : goal.loop-node-smaller-then-end-page
loop-node-smaller-then-end-page g c =
    let n = c.in-Some.node.now in
    let count : length c.loop-node.tree.now.spans ≡ length (n.left.spans ++ n.hole ∷ n.right.spans) = ap length c.in-Some.ensures.spans in
    omega (arith, length-append n.left.spans (n.hole ∷ n.right.spans))

pub loop-node-smaller : goal.loop-node-smaller
loop-node-smaller g c =
    let n = c.in-Some.node.now in
    let count : length c.loop-node.tree.now.spans ≡ length (n.left.spans ++ n.hole ∷ n.right.spans) = ap length c.in-Some.ensures.spans in
    omega (arith, length-append n.left.spans (n.hole ∷ n.right.spans))
