use Rattle.std.proofs.Common.{◌≡◌, ◌+◌, true, ◌∷◌, [], length, sym, ap, ◌∙◌, subst, arith, length-append}
use Rattle.std.specs.List.{list_all}
use Rattle.hole_tree.specs.declared.order.Order.TheVariants.{ByStart, ByLength}
use Rattle.hole_tree.specs.HoleSet.{is_apart, with_hole}
use Rattle.hole_tree.specs.Rising.{IsRising}
use Rattle.hole_tree.specs.Sorting.{IsSorted, placed, sorted_by_length}
use Rattle.hole_tree.proofs.Counting.{length-with}
use Rattle.hole_tree.proofs.Rises.{rising_with}
use Rattle.hole_tree.proofs.SortedByLength.{placed_start, start_sorted, length_sorted, sorted_with}
use Rattle.hole_tree.proofs.holes.Holes.add.Goals as goal

pub insert-requires-clause-sorted : goal.insert-requires-clause-sorted
insert-requires-clause-sorted c = start_sorted c.self.inside.by_start.spans c.self.invariant.rising

pub insert-requires-2-clause-sorted : goal.insert-requires-2-clause-sorted
insert-requires-2-clause-sorted c = subst (IsSorted ByLength) (sym c.self.invariant.lengths) (length_sorted c.self.inside.by_start.spans c.self.invariant.rising)

pub overflow_add-self : goal.overflow_add-self
overflow_add-self c =
    let spare : length c.self.inside.spare.items ≡ c.args.self.now.spare = ap (λ h. h.spare) c.self.view_is in
    omega (arith, c.self.invariant.count, c.self.invariant.room, c.requires.spare, c.capacity-room.ensures)

pub returns-clause-holes : goal.returns-clause-holes
returns-clause-holes c = c.insert.ensures.spans ∙ ap (λ h. placed ByStart h c.self.inside.by_start.spans) c.of-hole.ensures ∙ placed_start c.args.hole c.self.inside.by_start.spans ∙ ap (λ h. with_hole c.args.hole h.holes) c.self.view_is

pub returns-clause-spare : goal.returns-clause-spare
returns-clause-spare c =
    let less : length c.self.inside.spare.items ≡ length c.pop.new.self.items + 1 = ap length c.in-Some.ensures.items ∙ length-append c.pop.new.self.items (c.in-Some.nodes ∷ []) in
    let spare : length c.self.inside.spare.items ≡ c.args.self.now.spare = ap (λ h. h.spare) c.self.view_is in
    omega arith

pub invariant_of-self : goal.invariant_of-self
invariant_of-self c =
    let ys = c.self.inside.by_start.spans in
    let less : length c.self.inside.spare.items ≡ length c.pop.new.self.items + 1 = ap length c.in-Some.ensures.items ∙ length-append c.pop.new.self.items (c.in-Some.nodes ∷ []) in
    let holes : c.insert.new.self.spans ≡ with_hole c.args.hole ys = c.insert.ensures.spans ∙ ap (λ h. placed ByStart h ys) c.of-hole.ensures ∙ placed_start c.args.hole ys in
    let more : length c.insert.new.self.spans ≡ length ys + 1 = ap (λ zs. length zs) holes ∙ length-with c.args.hole ys in
    let apart : list_all (is_apart c.args.hole) ys ≡ true = ap (λ h. list_all (is_apart c.args.hole) h.holes) c.self.view_is ∙ c.requires.apart in
    let by_length : c.insert-2.new.self.spans ≡ sorted_by_length (with_hole c.args.hole ys) =
    c.insert-2.ensures.spans
    ∙ ap (λ h. placed ByLength h c.self.inside.by_length.spans) c.of-hole.ensures
    ∙ ap (λ zs. placed ByLength c.args.hole zs) c.self.invariant.lengths
    ∙ sym (sorted_with c.args.hole ys c.requires.whole apart c.self.invariant.rising) in
    record {
      rising = subst IsRising (sym holes) (rising_with c.args.hole ys c.requires.whole apart c.self.invariant.rising);
      lengths = by_length ∙ ap sorted_by_length (sym holes);
      count = omega (arith, c.self.invariant.count);
      room = omega (arith, c.self.invariant.room, c.in-Some.ensures.capacity);
    }
