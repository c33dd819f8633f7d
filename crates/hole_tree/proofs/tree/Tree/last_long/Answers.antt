use Rattle.std.proofs.Common.{◌≡◌, ◌∙◌, arith}
use Rattle.hole_tree.specs.Longest.{longest}
use Rattle.hole_tree.proofs.Looking.{shorter_below, shorter_above, long_above_last, long_here_last, long_below_last, Levels, levels}
use Rattle.hole_tree.proofs.tree.Tree.last_long.Goals as goal

pub loop-node-preserved-then-pages-longest : goal.loop-node-preserved-then-pages-longest
loop-node-preserved-then-pages-longest g c =
    let s = c.loop-node.tree.now in
    let n = c.in-Some.node.now in
    let e = c.in-Some.ensures.shape in
    let d = c.in-Some.ensures.sound in
    let k : c.longest.result ≡ longest n.right.spans = c.longest.ensures _ d.sides.of_right in
    let high : Levels s n = levels s n e in
    record {
      found = long_above_last c.args.pages s n e _ k c.requires c.if-pages-longest.true ∙ c.loop-node.invariant.found;
      counts = omega (arith, c.in-Some.ensures.steps);
      cost = omega (arith, c.in-Some.ensures.steps);
    }

pub loop-node-preserved : goal.loop-node-preserved
loop-node-preserved g c =
    let s = c.loop-node.tree.now in
    let n = c.in-Some.node.now in
    let e = c.in-Some.ensures.shape in
    let d = c.in-Some.ensures.sound in
    let k : c.longest.result ≡ longest n.right.spans = c.longest.ensures _ d.sides.of_right in
    let high : Levels s n = levels s n e in
    record {
      found = long_below_last c.args.pages s n e _ k c.if-pages-longest.false (omega (arith, c.pages.ensures)) ∙ c.loop-node.invariant.found;
      counts = omega (arith, c.in-Some.ensures.steps);
      cost = omega (arith, c.in-Some.ensures.steps);
    }

pub returns-then-pages-clause-found : goal.returns-then-pages-clause-found
returns-then-pages-clause-found g c =
    long_here_last c.args.pages c.loop-node.tree.now c.in-Some.node.now c.in-Some.ensures.shape _ (c.longest.ensures _ c.in-Some.ensures.sound.sides.of_right) c.if-pages-longest.false (omega (arith, c.pages.ensures)) ∙ c.loop-node.invariant.found

pub loop-node-smaller-then-pages-longest : goal.loop-node-smaller-then-pages-longest
loop-node-smaller-then-pages-longest g c = shorter_above c.loop-node.tree.now c.in-Some.node.now c.in-Some.ensures.shape

pub loop-node-smaller : goal.loop-node-smaller
loop-node-smaller g c = shorter_below c.loop-node.tree.now c.in-Some.node.now c.in-Some.ensures.shape
