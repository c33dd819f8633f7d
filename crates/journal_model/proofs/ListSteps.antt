-- Steps of loops over the elements of a list.
use Rattle.std.proofs.Common.{◌≡◌, ℕ, zero, suc, ◌+◌, ◌<◌, Bool, List, [], ◌∷◌, ◌++◌, length, take, drop, Some, refl, sym, arith}
use Rattle.std.proofs.lemmas.Grind.{common_steps}
use Rattle.std.specs.Prelude.{IsTrue, map, slice_get, slice_set}
use Rattle.std.specs.List.{list_all}
use Rattle.std.proofs.lemmas.Option.{get_or_from_slice_get}
use Rattle.std.proofs.lemmas.List.Edits.{map_over_more}

-- one step of a loop that writes f x over each element x
pub map_over_step : {X : Type 0} (f : X → X) (xs ys : List X) (i : ℕ) (x : X) → i < length xs → ys ≡ map f (take i xs) ++ drop i xs → slice_get ys i ≡ Some x → slice_set ys i (f x) ≡ map f (take (i + 1) xs) ++ drop (i + 1) xs
map_over_step f xs ys i x h e g = map_over_more f xs ys i x h e (sym (get_or_from_slice_get ys i x x g))

-- an element of a list of which all pass
pub passes_at : {X : Type 0} (p : X → Bool) (xs : List X) (i : ℕ) (x : X) → IsTrue (list_all p xs) → slice_get xs i ≡ Some x → IsTrue (p x)
passes_at p [] i x h g = cc
passes_at p (y ∷ xs) zero x h g = grind (arith, common_steps)
passes_at p (y ∷ xs) (suc i) x h g = passes_at p xs i x (grind (arith, common_steps)) g

-- in the middle of a loop over each element the next is as it was
pub over_next : {X : Type 0} (f : X → X) (xs ys : List X) (i : ℕ) → i < length xs → ys ≡ map f (take i xs) ++ drop i xs → slice_get ys i ≡ slice_get xs i
over_next f [] ys i h e = absurd (omega arith)
over_next f (x ∷ xs) ys zero h e = rw e
over_next f (x ∷ xs) ys (suc i) h e = rw e (over_next f xs (map f (take i xs) ++ drop i xs) i (omega arith) refl)
