use Rattle.std.proofs.Common.{◌≡◌, ◌+◌, Some, IsSome, length, sym, ap, ◌∙◌, subst, arith}
use Rattle.std.specs.List.{find}
use Rattle.hole_tree.specs.declared.order.Order.TheVariants.{ByStart, ByLength}
use Rattle.hole_tree.specs.HoleSet.{starts_at, without}
use Rattle.hole_tree.specs.Rising.{IsRising}
use Rattle.hole_tree.specs.Sorting.{ties, IsSorted, untied, sorted_by_length}
use Rattle.hole_tree.proofs.Counting.{length-without}
use Rattle.hole_tree.proofs.Rises.{rising_filter}
use Rattle.hole_tree.proofs.SortedByLength.{find_start, without_start, start_sorted, length_sorted, sorted_without, held_by_length}
use Rattle.hole_tree.proofs.holes.Holes.remove.Goals as goal

pub take-requires-clause-sorted : goal.take-requires-clause-sorted
take-requires-clause-sorted c = start_sorted c.self.inside.by_start.spans c.self.invariant.rising

pub take-by_length-requires-clause-sorted : goal.take-by_length-requires-clause-sorted
take-by_length-requires-clause-sorted c = subst (IsSorted ByLength) (sym c.self.invariant.lengths) (length_sorted c.self.inside.by_start.spans c.self.invariant.rising)

pub take-by_length-requires-clause-held : goal.take-by_length-requires-clause-held
take-by_length-requires-clause-held c =
    let ys = c.self.inside.by_start.spans in
    let x = c.deref.result.now.hole in
    let found : find (starts_at c.args.start) ys ≡ Some x = sym (find_start c.args.start ys) ∙ ap (λ b. find (ties ByStart b) ys) (sym c.of-begins.ensures) ∙ c.take.ensures.found ∙ ap (λ n. Some n.hole) (sym c.deref.ensures) in
    let held : IsSome (find (ties ByLength x) (sorted_by_length ys)) = held_by_length c.args.start ys x c.self.invariant.rising found in
    subst (λ zs. IsSome (find (ties ByLength x) zs)) (sym c.self.invariant.lengths) held

pub overflow_sub-self : goal.overflow_sub-self
overflow_sub-self c =
    let ys = c.self.inside.by_start.spans in
    let found : find (starts_at c.args.start) ys ≡ Some c.deref.result.now.hole = sym (find_start c.args.start ys) ∙ ap (λ b. find (ties ByStart b) ys) (sym c.of-begins.ensures) ∙ c.take.ensures.found ∙ ap (λ n. Some n.hole) (sym c.deref.ensures) in
    omega (arith, c.self.invariant.count, length-without c.args.start ys c.deref.result.now.hole c.self.invariant.rising found)

pub keep-requires : goal.keep-requires
keep-requires c =
    let ys = c.self.inside.by_start.spans in
    let found : find (starts_at c.args.start) ys ≡ Some c.deref.result.now.hole = sym (find_start c.args.start ys) ∙ ap (λ b. find (ties ByStart b) ys) (sym c.of-begins.ensures) ∙ c.take.ensures.found ∙ ap (λ n. Some n.hole) (sym c.deref.ensures) in
    omega (arith, c.self.invariant.count, c.self.invariant.room, length-without c.args.start ys c.deref.result.now.hole c.self.invariant.rising found)

pub returns-clause-hole : goal.returns-clause-hole
returns-clause-hole c =
    ap (λ h. find (starts_at c.args.start) h.holes) (sym c.self.view_is)
    ∙ sym (find_start c.args.start c.self.inside.by_start.spans)
    ∙ ap (λ b. find (ties ByStart b) c.self.inside.by_start.spans) (sym c.of-begins.ensures)
    ∙ c.take.ensures.found
    ∙ ap (λ n. Some n.hole) (sym c.deref.ensures)
    ∙ ap (λ h. Some h) (sym c.span.ensures)

pub returns-clause-left : goal.returns-clause-left
returns-clause-left c =
    c.take.ensures.left
    ∙ ap (λ b. untied ByStart b c.self.inside.by_start.spans) c.of-begins.ensures
    ∙ without_start c.args.start c.self.inside.by_start.spans
    ∙ ap (λ h. without c.args.start h.holes) c.self.view_is

pub returns-clause-spare : goal.returns-clause-spare
returns-clause-spare c =
    let spare : length c.self.inside.spare.items ≡ c.args.self.now.spare = ap (λ h. h.spare) c.self.view_is in
    omega (arith, c.keep.ensures.len)

pub invariant_of-self : goal.invariant_of-self
invariant_of-self c =
    let ys = c.self.inside.by_start.spans in
    let x = c.deref.result.now.hole in
    let found : find (starts_at c.args.start) ys ≡ Some x = sym (find_start c.args.start ys) ∙ ap (λ b. find (ties ByStart b) ys) (sym c.of-begins.ensures) ∙ c.take.ensures.found ∙ ap (λ n. Some n.hole) (sym c.deref.ensures) in
    let left : c.take.new.self.spans ≡ without c.args.start ys = c.take.ensures.left ∙ ap (λ b. untied ByStart b ys) c.of-begins.ensures ∙ without_start c.args.start ys in
    let less : length c.take.new.self.spans + 1 ≡ length ys = ap (λ zs. length zs + 1) left ∙ length-without c.args.start ys x c.self.invariant.rising found in
    let lengths : c.take-by_length.new.self.spans ≡ sorted_by_length (without c.args.start ys) =
    c.take-by_length.ensures.left
    ∙ ap (λ zs. untied ByLength x zs) c.self.invariant.lengths
    ∙ sorted_without c.args.start ys x c.self.invariant.rising found in
    record {
      rising = subst IsRising (sym left) (rising_filter _ ys c.self.invariant.rising);
      lengths = lengths ∙ ap sorted_by_length (sym left);
      count = omega (arith, c.self.invariant.count);
      room = omega (arith, c.self.invariant.count, c.self.invariant.room, c.keep.ensures.len, c.keep.ensures.capacity);
    }
