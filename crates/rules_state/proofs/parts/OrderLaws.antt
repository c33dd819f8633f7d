-- The position after the last that passes.
use Rattle.std.proofs.Common.{◌≡◌, ℕ, ◌+◌, ◌≤◌, ◌<◌, Bool, List, [], ◌∷◌, ◌++◌, length, take, get_or, Some, arith, if◌then◌else◌}
use Rattle.std.specs.Prelude.{unwrap_or}
use Rattle.std.proofs.lemmas.Grind.{common_steps}
use Rattle.std.proofs.lemmas.List.{take_more}
use Rattle.ttm_base.specs.declared.BufId.{BufId}
use Rattle.journal_model.specs.rules.Lists.{behind_last}

-- the last that passes, of a list and one more
behind_last-append : (test : BufId → Bool) (xs : List BufId) (x : BufId) → behind_last test (xs ++ x ∷ []) ≡ (if test x then Some (length xs + 1) else behind_last test xs)
behind_last-append test [] x = grind (arith, common_steps)
behind_last-append test (y ∷ xs) x = let e = behind_last-append test xs x in grind (arith, common_steps)

-- one step of a loop over the list
pub behind_last_more : (test : BufId → Bool) (xs : List BufId) (i : ℕ) (d : BufId) → i < length xs → behind_last test (take (i + 1) xs) ≡ (if test (get_or xs i d) then Some (i + 1) else behind_last test (take i xs))
behind_last_more test xs i d h = let e = take_more xs i d h in let f = behind_last-append test (take i xs) (get_or xs i d) in grind (arith, common_steps)

-- it is a position where one can be put in
pub behind_last_within : (test : BufId → Bool) (xs : List BufId) → unwrap_or (behind_last test xs) (length xs) ≤ length xs
behind_last_within test [] = omega arith
behind_last_within test (x ∷ xs) = let h = behind_last_within test xs in grind (arith, common_steps)
