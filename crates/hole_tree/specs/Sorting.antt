-- Holes in an order.
use Rattle.std.specs.Prelude.{◌≡◌, ℕ, Bool, true, List, [], ◌∷◌, ◌||◌, ◌&&◌, ◌==◌, nat_lt, not, filter, if◌then◌else◌}
use Rattle.ttm_base.specs.declared.Span.{Span}
use Rattle.ttm_base.specs.Reach.{length_of}
use Rattle.hole_tree.specs.HoleSet.{starts_at}
use Rattle.hole_tree.specs.declared.order.Order.{Order}
use Rattle.hole_tree.specs.declared.order.Order.TheVariants.{ByStart, ByLength}

-- one hole stands before another
abbrev pub before : Order → Span → Span → Bool
before ByStart a b = nat_lt a.start b.start
before ByLength a b = nat_lt (length_of a) (length_of b) || (length_of a == length_of b && nat_lt a.start b.start)

-- neither stands before the other
abbrev pub ties : Order → Span → Span → Bool
ties order a b = not (before order a b) && not (before order b a)

-- one hole stands before all of some
abbrev pub IsBefore : Order → Span → List Span → Type 0
IsBefore order x [] = Unit {0}
IsBefore order x (y ∷ ys) = (before order x y ≡ true) × IsBefore order x ys

-- each stands before those that follow it
abbrev pub IsSorted : Order → List Span → Type 0
IsSorted order [] = Unit {0}
IsSorted order (x ∷ xs) = IsBefore order x xs × IsSorted order xs

-- the holes with one more in its place
abbrev pub placed : Order → Span → List Span → List Span
placed order x [] = x ∷ []
placed order x (y ∷ ys) = if before order x y then x ∷ y ∷ ys else y ∷ placed order x ys

-- the holes but those that tie with one
abbrev pub untied : Order → Span → List Span → List Span
untied order x ys = filter (λ y. not (ties order x y)) ys

-- the holes with another in the place of the one that begins at a page
abbrev pub replaced : ℕ → Span → List Span → List Span
replaced start hole [] = []
replaced start hole (x ∷ xs) = (if starts_at start x then hole else x) ∷ replaced start hole xs

-- the holes by length, the lower first among equals
abbrev pub sorted_by_length : List Span → List Span
sorted_by_length [] = []
sorted_by_length (x ∷ xs) = placed ByLength x (sorted_by_length xs)
