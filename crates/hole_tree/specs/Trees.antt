-- What a node is seen as, and what holds of it.
use Rattle.std.specs.Prelude.{◌≡◌, ℕ, ◌+◌, ◌≤◌, max, List, ◌∷◌, ◌++◌}
use Rattle.ttm_base.specs.declared.Span.{Span}
use Rattle.hole_tree.specs.Leaning.{Leans}
use Rattle.hole_tree.specs.Longest.{longest}
use Rattle.hole_tree.specs.Shape.{Shape, no_shape, IsLow}
use Rattle.hole_tree.specs.declared.lean.Lean.TheVariants.{Even}
use Rattle.hole_tree.specs.declared.tree.Node.{Node}
use Rattle.hole_tree.specs.declared.tree.Top.{Top}
use Rattle.hole_tree.specs.declared.tree.Top.TheVariants.{Empty, Full}

-- the holes below a node in order
abbrev pub spans_of : {S : Type 0} → Node S → List Span
spans_of n = n.left.spans ++ n.hole ∷ n.right.spans

-- its levels, and those below it
abbrev pub height_of : {S : Type 0} → Node S → ℕ
height_of n = max n.left.height n.right.height + 1

abbrev pub shape_of_node : {S : Type 0} → Node S → Shape
shape_of_node n = record { spans = spans_of n; height = height_of n }

abbrev pub shape_of : {S : Type 0} → Top S → Shape
shape_of Empty = no_shape
shape_of (Full n) = shape_of_node n.value

-- the sides differ by at most this many levels
pub record DifferBy (by : ℕ) (l r : ℕ) : Type 0 where
  pub left : l ≤ r + by
  pub right : r ≤ l + by

-- a balanced node of a hole between two sides
pub record IsNode (whole left : Shape) (hole : Span) (right : Shape) : Type 0 where
  pub spans : whole.spans ≡ left.spans ++ hole ∷ right.spans
  pub height : whole.height ≡ max left.height right.height + 1
  pub balance : DifferBy 1 left.height right.height

-- both sides are no higher than balance allows, and what the node keeps of them is right
pub record HasSides {S : Type 0} (keeps : ℕ → S) (n : Node S) : Type 0 where
  pub left : IsLow n.left
  pub right : IsLow n.right
  pub of_left : n.of_left ≡ keeps (longest n.left.spans)
  pub of_right : n.of_right ≡ keeps (longest n.right.spans)

-- the node leans as it says
pub record IsSound {S : Type 0} (keeps : ℕ → S) (n : Node S) : Type 0 where
  pub lean : Leans n.lean n.left.height n.right.height
  pub sides : HasSides keeps n

-- nothing stands beside its hole
pub record IsBlankNode {S : Type 0} (keeps : ℕ → S) (n : Node S) : Type 0 where
  pub left : n.left ≡ no_shape
  pub right : n.right ≡ no_shape
  pub lean : n.lean ≡ Even
  pub of_left : n.of_left ≡ keeps 0
  pub of_right : n.of_right ≡ keeps 0

abbrev pub IsTree : {S : Type 0} → (ℕ → S) → Top S → Type 0
IsTree keeps Empty = Unit {0}
IsTree keeps (Full n) = IsSound keeps n.value
