-- Sets of jobs, context by context.
use Rattle.std.proofs.Common.{◌≡◌, ℕ, zero, suc, ◌+◌, ◌-◌, ◌<◌, Bool, true, false, List, [], ◌∷◌, ◌++◌, Some, length, take, drop, get_or, set, refl, ap, ◌∙◌, sym, arith}
use Rattle.std.specs.Prelude.{find}
use Rattle.std.specs.List.{range_with_len}
use Rattle.std.proofs.lemmas.List.{take_more_set}
use Rattle.std.proofs.lemmas.Grind.{common_steps}
use Rattle.ttm_base.specs.declared.Usage.{Usage}
use Rattle.fence_core.specs.declared.fence_set.Latest.{Latest}
use Rattle.fence_core.specs.Fences.{nothing_kept, later, up_to, all_added}

-- ---- all jobs of another set

pub length-all_added : (how : Usage) (xs ys : List Latest) → length xs ≡ length ys → length (all_added how xs ys) ≡ length xs
length-all_added how [] ys h = refl
length-all_added how (x ∷ xs) [] h = cc
length-all_added how (x ∷ xs) (y ∷ ys) h = ap suc (length-all_added how xs ys (omega arith))

-- one context more
pub all_added_more : (how : Usage) (xs ys : List Latest) (i : ℕ) → i < length xs → i < length ys
    → all_added how (take (suc i) xs) (take (suc i) ys)
    ≡ all_added how (take i xs) (take i ys) ++ later (get_or xs i nothing_kept) (up_to how (get_or ys i nothing_kept)) ∷ []
all_added_more how [] ys i h k = absurd (omega arith)
all_added_more how (x ∷ xs) [] i h k = absurd (omega arith)
all_added_more how (x ∷ xs) (y ∷ ys) zero h k = refl
all_added_more how (x ∷ xs) (y ∷ ys) (suc i) h k =
    ap (λ zs. later x (up_to how y) ∷ zs) (all_added_more how xs ys i (omega arith) (omega arith))

-- a list whose items from a place on are those of another has its item there
pub same_item : (xs ys : List Latest) (i : ℕ) → drop i xs ≡ drop i ys → get_or xs i nothing_kept ≡ get_or ys i nothing_kept
same_item xs ys i h = grind (arith, common_steps)

-- after a step of the loop
pub add_step : (how : Usage) (old now others : List Latest) (i : ℕ) → i < length now → length now ≡ length old → i < length others
    → take i now ≡ all_added how (take i old) (take i others) → drop i now ≡ drop i old
    → take (i + 1) (set now i (later (get_or now i nothing_kept) (up_to how (get_or others i nothing_kept)))) ≡ all_added how (take (i + 1) old) (take (i + 1) others)
add_step how old now others i h l k done rest =
    let e : i + 1 ≡ suc i = omega arith in
    let more : i < length old = omega arith in
    take_more_set now i (later (get_or now i nothing_kept) (up_to how (get_or others i nothing_kept)))
    h ∙ ap (λ t. t ++ later (get_or now i nothing_kept) (up_to how (get_or others i nothing_kept)) ∷ []) done
    ∙ ap (λ x. all_added how (take i old) (take i others) ++ later x (up_to how (get_or others i nothing_kept)) ∷ []) (same_item now old i rest)
    ∙ sym (all_added_more how old others i more k) ∙ ap (λ n. all_added how (take n old) (take n others)) (sym e)

-- ---- the first of several numbers that passes a test

pub find_here : (p : ℕ → Bool) (c n : ℕ) → c < n → p c ≡ true → find p (range_with_len c (n - c)) ≡ Some c
find_here p c n h passes =
    let e : n - c ≡ suc (n - (c + 1)) = omega arith in
    rw e (rw passes refl)

pub find_on : (p : ℕ → Bool) (c n : ℕ) → c < n → p c ≡ false → find p (range_with_len c (n - c)) ≡ find p (range_with_len (c + 1) (n - (c + 1)))
find_on p c n h fails =
    let e : n - c ≡ suc (n - (c + 1)) = omega arith in
    rw e (rw fails refl)
