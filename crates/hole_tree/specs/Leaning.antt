-- Which of two sides is higher.
use Rattle.std.specs.Prelude.{◌≡◌, ℕ, ◌+◌}
use Rattle.hole_tree.specs.declared.lean.Lean.{Lean}
use Rattle.hole_tree.specs.declared.lean.Lean.TheVariants.{Left, Even, Right}

-- sides of these heights lean so
abbrev pub Leans : Lean → ℕ → ℕ → Type 0
Leans Left l r = l ≡ r + 1
Leans Even l r = l ≡ r
Leans Right l r = r ≡ l + 1
