-- What was added at the end and taken back is as it was.
use Rattle.std.proofs.Common.{◌≡◌, ℕ, zero, suc, List, [], ◌∷◌, ◌++◌, Some, None, Option, refl, ap, arith}
use Rattle.std.proofs.lemmas.Grind.{common_steps}
use Rattle.std.specs.Prelude.{option_map, option_and_then, slice_get, slice_set}
use Rattle.ttm_base.specs.declared.BufId.{BufId}
use Rattle.ttm_base.specs.declared.JobId.{JobId}
use Rattle.ttm_base.specs.declared.Usage.{Usage}
use Rattle.journal_model.specs.declared.state.Buffer.{Buffer}
use Rattle.ttm_base.specs.declared.Fence.{Fence}
use Rattle.journal_model.specs.rules.State.{changed}
use Rattle.journal_model.specs.rules.ApplyPages.{with_fence}
use Rattle.rules_state.specs.parts.Undo.{without_last, without_last_fence}

-- one more element at the end
pub without_last-append : {X : Type 0} (xs : List X) (x : X) → without_last (xs ++ x ∷ []) ≡ xs
without_last-append xs x = grind (arith, common_steps)

-- a change of a buffer, and the one that takes it back, by index
undone_at : (f g : Buffer → Buffer) → ((x : Buffer) → g (f x) ≡ x) → (buffers : List (Option Buffer)) (i : ℕ) →
    let new = slice_set buffers i (option_map f (option_and_then (λ x. x) (slice_get buffers i))) in
    slice_set new i (option_map g (option_and_then (λ x. x) (slice_get new i))) ≡ buffers
undone_at f g undo [] i = refl
undone_at f g undo (None ∷ xs) zero = refl
undone_at f g undo (Some x ∷ xs) zero = ap (λ y. Some y ∷ xs) (undo x)
undone_at f g undo (x ∷ xs) (suc i) = ap (λ ys. x ∷ ys) (undone_at f g undo xs i)

-- a fence that was added and taken back
pub fence_undone : (job : JobId) (how : Usage) (buffers : List (Option Buffer)) (b : BufId) → changed without_last_fence (changed (with_fence job how) buffers b) b ≡ buffers
fence_undone job how buffers b =
    undone_at (with_fence job how) without_last_fence (λ x. ap (λ (fences : List Fence). record x { fences = fences }) (without_last-append x.fences _)) buffers b.0
