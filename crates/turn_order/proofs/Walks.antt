-- For callers that ask one actor after the other: a search goes on with those that are left.
use Rattle.std.proofs.Common.{◌≡◌, ◌<◌, Bool, true, false, cond, List, [], ◌∷◌, length, Some, None, ap, ◌∙◌, arith}
use Rattle.std.specs.Prelude.{find}
use Rattle.ttm_base.specs.declared.Actor.{Actor}

-- who doesn't pass is passed over
pub passed_over : (p : Actor → Bool) (all rest : List Actor) (who : Actor) → all ≡ who ∷ rest → p who ≡ false → find p all ≡ find p rest
passed_over p all rest who e f = ap (find p) e ∙ ap (λ b. cond b (Some who) (find p rest)) f

-- who passes is found
pub found_here : (p : Actor → Bool) (all rest : List Actor) (who : Actor) → all ≡ who ∷ rest → p who ≡ true → find p all ≡ Some who
found_here p all rest who e f = ap (find p) e ∙ ap (λ b. cond b (Some who) (find p rest)) f

-- among none nobody is found
pub none_found : (p : Actor → Bool) (all : List Actor) → all ≡ [] → find p all ≡ None
none_found p all e = ap (find p) e

-- fewer are left
pub fewer_left : (all rest : List Actor) (who : Actor) → all ≡ who ∷ rest → length rest < length all
fewer_left all rest who e = let same = ap length e in omega (arith, same)
