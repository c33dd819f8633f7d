-- The lesser of two by a key.
use Rattle.std.specs.Prelude.{ℕ, Bool, false, Option, Some, None, nat_eq, nat_lt, if◌then◌else◌}

-- the least of those before, or one after them that is less
abbrev pub lesser_by : {X : Type 0} → (X → ℕ) → Option X → X → X
lesser_by key None x = x
lesser_by key (Some y) x = if nat_lt (key x) (key y) then x else y

-- the least of those before, and maybe one after them
abbrev pub best_with : {X : Type 0} → (X → ℕ) → Option X → Option X → Option X
best_with key best found = elim found [ None ↦ best | Some x ↦ Some (lesser_by key best x) ]

-- there is an item, and it has this key
abbrev pub has_key : {X : Type 0} → (X → ℕ) → ℕ → Option X → Bool
has_key key k None = false
has_key key k (Some x) = nat_eq (key x) k
