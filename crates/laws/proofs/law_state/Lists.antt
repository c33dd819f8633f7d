-- Elements of lists that were set, mapped, or made longer.
use Rattle.std.proofs.Common.{◌≡◌, ℕ, ◌<◌, zero, suc, List, [], ◌∷◌, ◌++◌, length, Option, Some, refl, sym, ◌∙◌, ap, arith, ◌⊎◌, inl, inr, ⊎_elim}
use Rattle.std.specs.Prelude.{slice_get, slice_set, map, option_map, option_and_then}
use Rattle.ttm_base.specs.declared.BufId.{BufId}
use Rattle.journal_model.specs.declared.state.Buffer.{Buffer}
use Rattle.journal_model.specs.rules.State.{live_in, changed}

pub set_at : {X : Type 0} (xs : List X) (i j : ℕ) (v : X) → (slice_get (slice_set xs i v) j ≡ slice_get xs j) ⊎ ((i ≡ j) × (slice_get (slice_set xs i v) j ≡ Some v))
set_at [] i j v = inl refl
set_at (x ∷ xs) zero zero v = inr (refl, refl)
set_at (x ∷ xs) zero (suc j) v = inl refl
set_at (x ∷ xs) (suc i) zero v = inl refl
set_at (x ∷ xs) (suc i) (suc j) v = ⊎_elim (λ h. inl h) (λ h. inr (ap suc h.0, h.1)) (set_at xs i j v)

-- the last element of a list with one more, or one that was there
pub get_pushed : {X : Type 0} (xs : List X) (y x : X) (i : ℕ) → slice_get (xs ++ y ∷ []) i ≡ Some x → (slice_get xs i ≡ Some x) ⊎ ((i ≡ length xs) × (x ≡ y))
get_pushed [] y x zero h = inr (refl, (let e : y ≡ x = cc in sym e))
get_pushed [] y x (suc i) h = cc
get_pushed (z ∷ xs) y x zero h = inl h
get_pushed (z ∷ xs) y x (suc i) h = ⊎_elim (λ a. inl a) (λ a. inr (ap suc a.0, a.1)) (get_pushed xs y x i h)

pub get_mapped : {X Y : Type 0} (f : X → Y) (xs : List X) (y : Y) (i : ℕ) → slice_get (map f xs) i ≡ Some y → (x : X) × (slice_get xs i ≡ Some x) × (y ≡ f x)
get_mapped f [] y i h = cc
get_mapped f (x ∷ xs) y zero h = (x, refl, (let e : f x ≡ y = cc in sym e))
get_mapped f (x ∷ xs) y (suc i) h = get_mapped f xs y i h

pub get_within : {X : Type 0} (xs : List X) (i : ℕ) (x : X) → slice_get xs i ≡ Some x → i < length xs
get_within [] i x h = cc
get_within (y ∷ xs) zero x h = omega arith
get_within (y ∷ xs) (suc i) x h = let l : i < length xs = get_within xs i x h in omega arith

-- each buffer is as it was, or changed by f
pub live_changed : (f : Buffer → Buffer) (xs : List (Option Buffer)) (b d : BufId) →
    (live_in (changed f xs b) d ≡ live_in xs d) ⊎ (live_in (changed f xs b) d ≡ option_map f (live_in xs d))
live_changed f xs b d =
    ⊎_elim
    (λ h. inl (ap (option_and_then (λ x. x)) h))
    (λ h.
    let new : live_in (changed f xs b) d ≡ option_map f (live_in xs b) = ap (option_and_then (λ x. x)) h.1 in
    let one : live_in xs b ≡ live_in xs d = ap (λ i. option_and_then (λ x. x) (slice_get xs i)) h.0 in
    inr (new ∙ ap (option_map f) one))
    (set_at xs b.0 d.0 (option_map f (live_in xs b)))
