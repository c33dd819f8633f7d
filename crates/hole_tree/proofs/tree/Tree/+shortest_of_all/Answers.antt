use Rattle.std.proofs.Common.{◌≡◌, ◌<◌, Bor, true, false, is_some, length, option_map, sym, ◌∙◌, arith, rules}
use Rattle.ttm_base.specs.declared.Span.{Span}
use Rattle.ttm_base.specs.declared.Mode.TheVariants.{Low}
use Rattle.ttm_base.specs.Reach.{length_of}
use Rattle.hole_tree.specs.Fitting.{fits}
use Rattle.hole_tree.proofs.Looking.{shorter_below, shorter_above}
use Rattle.hole_tree.proofs.ByLengths.{sorted_below, sorted_above, fit_past, entry_below, entry_here, entry_above, is_some-map}
use Rattle.hole_tree.proofs.tree.Tree.+shortest_of_all.Goals as goal

pub shortest_of_all-requires : goal.shortest_of_all-requires
shortest_of_all-requires g t c κs within =
    let s = c.args.self.now in
    let n = c.in_ok-node.node.now in
    let fewer : length n.right.spans < length s.spans = shorter_above s n c.in_ok-node.ensures.shape in
    (first_of (omega arith, search rules), (search rules, (search rules, (sorted_above s n c.in_ok-node.ensures.shape c.requires.sorted, c.requires.align))))

pub shortest_of_all-below-requires : goal.shortest_of_all-below-requires
shortest_of_all-below-requires g t c κs within =
    let s = c.args.self.now in
    let n = c.in_ok-node.node.now in
    let fewer : length n.left.spans < length s.spans = shorter_below s n c.in_ok-node.ensures.shape in
    (first_of (omega arith, search rules), (search rules, (search rules, (sorted_below s n c.in_ok-node.ensures.shape c.requires.sorted, c.requires.align))))

pub shortest_of_all-requires-2 : goal.shortest_of_all-requires-2
shortest_of_all-requires-2 g t c κs within =
    let s = c.args.self.now in
    let n = c.in_ok-node.node.now in
    let fewer : length n.right.spans < length s.spans = shorter_above s n c.in_ok-node.ensures.shape in
    (first_of (omega arith, search rules), (search rules, (search rules, (sorted_above s n c.in_ok-node.ensures.shape c.requires.sorted, c.requires.align))))

pub returns-then-pages-request-clause-found : goal.returns-then-pages-request-clause-found
returns-then-pages-request-clause-found g t c =
    let n = c.in_ok-node.node.now in
    let short : length_of n.hole < c.args.request.now.pages = omega (arith, c.pages.ensures, c.if-pages-request.true) in
    c.shortest_of_all.ensures.found ∙ sym (fit_past Low c.args.request.now c.args.self.now n c.in_ok-node.ensures.shape c.requires.sorted short)

pub returns-then-is_some-clause-found : goal.returns-then-is_some-clause-found
returns-then-is_some-clause-found g t c =
    let below = option_map (λ (h : Bor Span). h.now) c.shortest_of_all-below.result in
    let some : is_some below ≡ true = is_some-map _ c.shortest_of_all-below.result ∙ sym c.if-is_some.ensures in
    entry_below (fits Low c.args.request.now) c.args.self.now c.in_ok-node.node.now below c.in_ok-node.ensures.shape c.shortest_of_all-below.ensures.found some

pub returns-then-fits-clause-found : goal.returns-then-fits-clause-found
returns-then-fits-clause-found g t c =
    let below = option_map (λ (h : Bor Span). h.now) c.shortest_of_all-below.result in
    let none : is_some below ≡ false = is_some-map _ c.shortest_of_all-below.result ∙ sym c.if-is_some.ensures in
    entry_here (fits Low c.args.request.now) c.args.self.now c.in_ok-node.node.now below c.in_ok-node.ensures.shape c.shortest_of_all-below.ensures.found none (sym c.if-fits.ensures)

pub returns-clause-found : goal.returns-clause-found
returns-clause-found g t c =
    let below = option_map (λ (h : Bor Span). h.now) c.shortest_of_all-below.result in
    let none : is_some below ≡ false = is_some-map _ c.shortest_of_all-below.result ∙ sym c.if-is_some.ensures in
    c.shortest_of_all-2.ensures.found
    ∙ entry_above (fits Low c.args.request.now) c.args.self.now c.in_ok-node.node.now below c.in_ok-node.ensures.shape c.shortest_of_all-below.ensures.found none (sym c.if-fits.ensures)
