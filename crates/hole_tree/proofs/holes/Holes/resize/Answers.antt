use Rattle.std.proofs.Common.{◌≡◌, true, Some, IsSome, length, sym, ap, ◌∙◌, subst, arith}
use Rattle.std.specs.List.{find, list_all}
use Rattle.hole_tree.specs.declared.order.Order.TheVariants.{ByLength}
use Rattle.hole_tree.specs.HoleSet.{is_apart, starts_at, with_hole, without}
use Rattle.hole_tree.specs.Rising.{IsRising}
use Rattle.hole_tree.specs.Sorting.{ties, IsSorted, placed, replaced, untied, sorted_by_length}
use Rattle.hole_tree.proofs.Counting.{length-with, length-without}
use Rattle.hole_tree.proofs.Resizing.{resized}
use Rattle.hole_tree.proofs.Rises.{rising_filter, rising_with}
use Rattle.hole_tree.proofs.SortedByLength.{length_sorted, sorted_with, sorted_without, held_by_length}
use Rattle.hole_tree.proofs.holes.Holes.resize.Goals as goal

pub take-requires-clause-sorted : goal.take-requires-clause-sorted
take-requires-clause-sorted c = subst (IsSorted ByLength) (sym c.self.invariant.lengths) (length_sorted c.self.inside.by_start.spans c.self.invariant.rising)

pub take-requires-clause-held : goal.take-requires-clause-held
take-requires-clause-held c =
    let ys = c.self.inside.by_start.spans in
    let found : find (starts_at c.args.from.start) ys ≡ Some c.args.from = ap (λ h. find (starts_at c.args.from.start) h.holes) c.self.view_is ∙ c.requires.held in
    let held : IsSome (find (ties ByLength c.args.from) (sorted_by_length ys)) = held_by_length c.args.from.start ys c.args.from c.self.invariant.rising found in
    rw c.of-from.ensures (subst (λ zs. IsSome (find (ties ByLength c.args.from) zs)) (sym c.self.invariant.lengths) held)

pub insert-requires-clause-sorted : goal.insert-requires-clause-sorted
insert-requires-clause-sorted c =
    let ys = c.self.inside.by_start.spans in
    let found : find (starts_at c.args.from.start) ys ≡ Some c.args.from = ap (λ h. find (starts_at c.args.from.start) h.holes) c.self.view_is ∙ c.requires.held in
    let left : c.take.new.self.spans ≡ sorted_by_length (without c.args.from.start ys) =
    c.take.ensures.left
    ∙ ap (λ h. untied ByLength h c.self.inside.by_length.spans) c.of-from.ensures
    ∙ ap (λ zs. untied ByLength c.args.from zs) c.self.invariant.lengths
    ∙ sorted_without c.args.from.start ys c.args.from c.self.invariant.rising found in
    subst (IsSorted ByLength) (sym left) (length_sorted (without c.args.from.start ys) (rising_filter _ ys c.self.invariant.rising))

pub returns-clause-holes : goal.returns-clause-holes
returns-clause-holes c =
    let ys = c.self.inside.by_start.spans in
    let found : find (starts_at c.args.from.start) ys ≡ Some c.args.from = ap (λ h. find (starts_at c.args.from.start) h.holes) c.self.view_is ∙ c.requires.held in
    let apart : list_all (is_apart c.args.to) (without c.args.from.start ys) ≡ true = ap (λ h. list_all (is_apart c.args.to) (without c.args.from.start h.holes)) c.self.view_is ∙ c.requires.apart in
    c.resize.ensures.spans
    ∙ ap (λ h. replaced h.start c.of-to.result ys) c.of-from.ensures
    ∙ ap (λ h. replaced c.args.from.start h ys) c.of-to.ensures
    ∙ resized c.args.from c.args.to ys c.self.invariant.rising found c.requires.starts c.requires.ends apart
    ∙ ap (λ h. with_hole c.args.to (without c.args.from.start h.holes)) c.self.view_is

pub invariant_of-self : goal.invariant_of-self
invariant_of-self c =
    let ys = c.self.inside.by_start.spans in
    let rest = without c.args.from.start ys in
    let found : find (starts_at c.args.from.start) ys ≡ Some c.args.from = ap (λ h. find (starts_at c.args.from.start) h.holes) c.self.view_is ∙ c.requires.held in
    let apart : list_all (is_apart c.args.to) rest ≡ true = ap (λ h. list_all (is_apart c.args.to) (without c.args.from.start h.holes)) c.self.view_is ∙ c.requires.apart in
    let rising : IsRising rest = rising_filter _ ys c.self.invariant.rising in
    let holes : c.resize.new.self.spans ≡ with_hole c.args.to rest =
    c.resize.ensures.spans
    ∙ ap (λ h. replaced h.start c.of-to.result ys) c.of-from.ensures
    ∙ ap (λ h. replaced c.args.from.start h ys) c.of-to.ensures
    ∙ resized c.args.from c.args.to ys c.self.invariant.rising found c.requires.starts c.requires.ends apart in
    let left : c.take.new.self.spans ≡ sorted_by_length rest =
    c.take.ensures.left
    ∙ ap (λ h. untied ByLength h c.self.inside.by_length.spans) c.of-from.ensures
    ∙ ap (λ zs. untied ByLength c.args.from zs) c.self.invariant.lengths
    ∙ sorted_without c.args.from.start ys c.args.from c.self.invariant.rising found in
    let by_length : c.insert.new.self.spans ≡ sorted_by_length (with_hole c.args.to rest) =
    c.insert.ensures.spans
    ∙ ap (λ h. placed ByLength h c.take.new.self.spans) c.of-to.ensures
    ∙ ap (λ zs. placed ByLength c.args.to zs) left
    ∙ sym (sorted_with c.args.to rest c.requires.whole apart rising) in
    let count : length c.resize.new.self.spans ≡ length ys = ap (λ zs. length zs) holes ∙ length-with c.args.to rest ∙ length-without c.args.from.start ys c.args.from c.self.invariant.rising found in
    record {
      rising = subst IsRising (sym holes) (rising_with c.args.to rest c.requires.whole apart rising);
      lengths = by_length ∙ ap sorted_by_length (sym holes);
      count = omega (arith, c.self.invariant.count);
      room = c.self.invariant.room;
    }
