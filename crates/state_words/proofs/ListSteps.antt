-- A step of a loop that keeps what a test gives.
use Rattle.std.proofs.Common.{◌≡◌, ℕ, ◌+◌, ◌<◌, List, [], ◌∷◌, ◌++◌, Option, length, take, get_or, arith}
use Rattle.std.specs.Prelude.{filter_map, option_to_list}
use Rattle.std.proofs.lemmas.Grind.{common_steps}
use Rattle.std.proofs.lemmas.List.{take_more}
use Rattle.std.proofs.lemmas.List.Elements.{filter_map-append}

pub filter_map_more : {X Y : Type 0} (f : X → Option Y) (xs : List X) (i : ℕ) (d : X) → i < length xs
    → filter_map f (take (i + 1) xs) ≡ filter_map f (take i xs) ++ option_to_list (f (get_or xs i d))
filter_map_more f xs i d h =
    let e = take_more xs i d h in
    let g = filter_map-append f (take i xs) (get_or xs i d ∷ []) in
    grind (arith, common_steps)
