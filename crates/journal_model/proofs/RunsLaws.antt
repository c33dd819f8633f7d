-- Lists kept by runs: the last run gets longer or shorter, or goes.
use Rattle.std.proofs.Common.{◌≡◌, ℕ, zero, suc, ◌+◌, Bool, List, [], ◌∷◌, ◌++◌, Some, true, length, refl, arith}
use Rattle.std.specs.Prelude.{flat_map, slice_set, slice_get, remove}
use Rattle.std.specs.List.{list_all}
use Rattle.std.proofs.lemmas.Grind.{common_steps}

-- the last run gets longer
pub last_longer : {R X : Type 0} (items : R → List X) (runs : List R) (at : ℕ) (last longer : R) (more : List X) → at + 1 ≡ length runs → slice_get runs at ≡ Some last
    → items longer ≡ items last ++ more → flat_map items (slice_set runs at longer) ≡ flat_map items runs ++ more
last_longer items [] at last longer more l g h = absurd (omega arith)
last_longer items (r ∷ []) zero last longer more l g h = grind (arith, common_steps)
last_longer items (r ∷ s ∷ runs) zero last longer more l g h = absurd (omega arith)
last_longer items (r ∷ runs) (suc at) last longer more l g h =
    let e = last_longer items runs at last longer more (omega arith) g h in
    grind (arith, common_steps)

-- the last run gets shorter
pub last_shorter : {R X : Type 0} (items : R → List X) (runs : List R) (at : ℕ) (last shorter : R) (more : List X) → at + 1 ≡ length runs → slice_get runs at ≡ Some last
    → items last ≡ items shorter ++ more → flat_map items runs ≡ flat_map items (slice_set runs at shorter) ++ more
last_shorter items [] at last shorter more l g h = absurd (omega arith)
last_shorter items (r ∷ []) zero last shorter more l g h = grind (arith, common_steps)
last_shorter items (r ∷ s ∷ runs) zero last shorter more l g h = absurd (omega arith)
last_shorter items (r ∷ runs) (suc at) last shorter more l g h =
    let e = last_shorter items runs at last shorter more (omega arith) g h in
    grind (arith, common_steps)

-- the last run goes
pub last_goes : {R X : Type 0} (items : R → List X) (runs : List R) (at : ℕ) (last : R) → at + 1 ≡ length runs → slice_get runs at ≡ Some last
    → flat_map items runs ≡ flat_map items (remove runs at) ++ items last
last_goes items [] at last l g = absurd (omega arith)
last_goes items (r ∷ []) zero last l g = grind (arith, common_steps)
last_goes items (r ∷ s ∷ runs) zero last l g = absurd (omega arith)
last_goes items (r ∷ runs) (suc at) last l g =
    let e = last_goes items runs at last (omega arith) g in
    grind (arith, common_steps)

-- another run of which the same is true
pub all_set : {R : Type 0} (p : R → Bool) (runs : List R) (at : ℕ) (run : R) → list_all p runs ≡ true → p run ≡ true → list_all p (slice_set runs at run) ≡ true
all_set p [] at run a h = refl
all_set p (r ∷ runs) zero run a h = grind (arith, common_steps)
all_set p (r ∷ runs) (suc at) run a h =
    let e = all_set p runs at run (grind (arith, common_steps)) h in
    grind (arith, common_steps)

-- one run less
pub all_removed : {R : Type 0} (p : R → Bool) (runs : List R) (at : ℕ) → list_all p runs ≡ true → list_all p (remove runs at) ≡ true
all_removed p [] zero a = refl
all_removed p [] (suc at) a = refl
all_removed p (r ∷ runs) zero a = grind (arith, common_steps)
all_removed p (r ∷ runs) (suc at) a =
    let e = all_removed p runs at (grind (arith, common_steps)) in
    grind (arith, common_steps)
