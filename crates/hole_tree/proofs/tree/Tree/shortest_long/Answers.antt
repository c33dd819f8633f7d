use Rattle.std.proofs.Common.{◌≡◌, ◌+◌, ◌≤◌, ◌<◌, max, true, false, cond, Some, None, ap, sym, ◌∙◌, arith}
use Rattle.std.proofs.lemmas.Bool.{le-leb, lt-leb}
use Rattle.std.specs.List.{find}
use Rattle.std.specs.Option.{option_or}
use Rattle.ttm_base.specs.Reach.{length_of}
use Rattle.hole_tree.specs.Fitting.{is_long}
use Rattle.hole_tree.specs.Trees.{shape_of_node}
use Rattle.hole_tree.proofs.Looking.{shorter_below, shorter_above}
use Rattle.hole_tree.proofs.ByLengths.{sorted_below, sorted_above, long_past, long_up_to, or_some, or_none}
use Rattle.hole_tree.proofs.tree.Tree.shortest_long.Goals as goal
use Rattle.hole_tree.proofs.tree.Tree.shortest_long.Goals.{then-pages, else-pages}

pub loop-node-init : goal.loop-node-init
loop-node-init g c =
    let s = c.args.self.now in
    let n = c.in_ok-found.found.now in
    let e : s ≡ shape_of_node n = c.in_ok-found.ensures.shape in
    let levels : s.height ≡ max n.left.height n.right.height + 1 = ap (λ t. t.height) e in
    elim c.if-pages.branch [
      | then-pages w ↦
          let short : length_of n.hole < c.args.pages = omega (arith, c.pages.ensures, w.if-pages.true) in
          let test : is_long c.args.pages n.hole ≡ false = lt-leb _ _ short in
          rw w.tree-is (record {
            sorted = sorted_above s n e c.requires.sorted;
            found = rw test (or_none (find (is_long c.args.pages) n.right.spans) ∙ sym (long_past c.args.pages s n e c.requires.sorted short));
            counts = omega arith;
            cost = omega arith;
          })
      | else-pages w ↦
          let long : c.args.pages ≤ length_of n.hole = omega (arith, c.pages.ensures, w.if-pages.false) in
          let test : is_long c.args.pages n.hole ≡ true = le-leb _ _ long in
          rw w.tree-is (record {
            sorted = sorted_below s n e c.requires.sorted;
            found = rw test (sym (long_up_to c.args.pages s n e long));
            counts = omega arith;
            cost = omega arith;
          })
    ]

pub loop-node-preserved-then-pages-2 : goal.loop-node-preserved-then-pages-2
loop-node-preserved-then-pages-2 g c =
    let s = c.loop-node.tree.now in
    let n = c.in-Some.node.now in
    let e = c.in-Some.ensures.shape in
    let short : length_of n.hole < c.args.pages = omega (arith, c.pages-in-Some.ensures) in
    let levels : s.height ≡ max n.left.height n.right.height + 1 = ap (λ t. t.height) e in
    let kept = cond (is_long c.args.pages c.loop-node.found.now.hole) (Some c.loop-node.found.now.hole) None in
    record {
      sorted = sorted_above s n e c.loop-node.invariant.sorted;
      found = ap (λ o. option_or o kept) (sym (long_past c.args.pages s n e c.loop-node.invariant.sorted short)) ∙ c.loop-node.invariant.found;
      counts = omega (arith, c.in-Some.ensures.steps, c.loop-node.invariant.counts);
      cost = omega (arith, c.in-Some.ensures.steps, c.loop-node.invariant.cost);
    }

pub loop-node-preserved : goal.loop-node-preserved
loop-node-preserved g c =
    let s = c.loop-node.tree.now in
    let n = c.in-Some.node.now in
    let e = c.in-Some.ensures.shape in
    let long : c.args.pages ≤ length_of n.hole = omega (arith, c.pages-in-Some.ensures) in
    let levels : s.height ≡ max n.left.height n.right.height + 1 = ap (λ t. t.height) e in
    let kept = cond (is_long c.args.pages c.loop-node.found.now.hole) (Some c.loop-node.found.now.hole) None in
    let test : is_long c.args.pages n.hole ≡ true = le-leb _ _ long in
    record {
      sorted = sorted_below s n e c.loop-node.invariant.sorted;
      found =
          ap (λ t. option_or (find (is_long c.args.pages) n.left.spans) (cond t (Some n.hole) None)) test
          ∙ sym (ap (λ o. option_or o kept) (long_up_to c.args.pages s n e long) ∙ or_some _ n.hole _)
          ∙ c.loop-node.invariant.found;
      counts = omega (arith, c.in-Some.ensures.steps, c.loop-node.invariant.counts);
      cost = omega (arith, c.in-Some.ensures.steps, c.loop-node.invariant.cost);
    }

pub loop-node-smaller-then-pages-2 : goal.loop-node-smaller-then-pages-2
loop-node-smaller-then-pages-2 g c = shorter_above c.loop-node.tree.now c.in-Some.node.now c.in-Some.ensures.shape

pub loop-node-smaller : goal.loop-node-smaller
loop-node-smaller g c = shorter_below c.loop-node.tree.now c.in-Some.node.now c.in-Some.ensures.shape
