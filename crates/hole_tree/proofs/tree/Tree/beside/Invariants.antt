use Rattle.std.specs.Prelude.{◌≡◌, option_map, length}
use Rattle.std.specs.List.{find}
use Rattle.std.specs.Option.{option_or}
use Rattle.hole_tree.specs.Fitting.{find_last}
use Rattle.hole_tree.specs.HoleSet.{ends_by, ends_past}
use Rattle.hole_tree.specs.Rising.{IsRising}
use Rattle.hole_tree.proofs.tree.Tree.beside.Given as goal

abbrev pub invariant-loop-node : goal.invariant-loop-node
invariant-loop-node g l = record {
  rising : IsRising l.tree.spans;
  before : option_or (find_last (ends_by l.page) l.tree.spans) (option_map (λ hole. hole.now) l.before) ≡ find_last (ends_by l.page) l.self.spans;
  behind : option_or (find (ends_past l.page) l.tree.spans) (option_map (λ hole. hole.now) l.behind) ≡ find (ends_past l.page) l.self.spans;
}

abbrev pub decreases-loop-node : goal.decreases-loop-node
decreases-loop-node g l = length l.tree.spans
