-- What is told of each buffer, one after another, where one of them is changed.
use Rattle.std.proofs.Common.{◌≡◌, ℕ, zero, suc, Bool, List, [], ◌∷◌, Option, Some, None, refl, ◌∙◌, sym, ap, ap₂}
use Rattle.std.specs.Prelude.{◌&&◌, fold, map, option_map, slice_set}
use Rattle.std.specs.List.{list_all}
use Rattle.ttm_base.specs.declared.BufId.{BufId}
use Rattle.ttm_base.specs.declared.JobId.{JobId}
use Rattle.ttm_base.specs.declared.Op.{Op}
use Rattle.journal_model.specs.declared.state.Buffer.{Buffer}
use Rattle.journal_model.specs.rules.State.{changed}
use Rattle.journal_model.specs.rules.Waits.{use_of}
use Rattle.journal_model.specs.rules.ApplyPages.{with_fence}
use Rattle.journal_model.specs.rules.ApplyJobs.{with_use}
use Rattle.room_representation.specs.Bos.{unfenced}
use Rattle.room_representation.proofs.lemma_jobs.Lists.{there}

-- where the change keeps what is told, the same is told
told_at : {Y : Type 0} (g : Option Buffer → Y) (f : Buffer → Buffer) → ((x : Buffer) → g (Some (f x)) ≡ g (Some x)) → (xs : List (Option Buffer)) (i : ℕ) →
    map g (slice_set xs i (option_map f (there xs i))) ≡ map g xs
told_at g f same [] i = refl
told_at g f same (None ∷ xs) zero = refl
told_at g f same (Some x ∷ xs) zero = ap (λ y. y ∷ map g xs) (same x)
told_at g f same (o ∷ xs) (suc i) = ap (λ ys. g o ∷ ys) (told_at g f same xs i)

pub told_same : {Y : Type 0} (g : Option Buffer → Y) (f : Buffer → Buffer) → ((x : Buffer) → g (Some (f x)) ≡ g (Some x)) → (buffers : List (Option Buffer)) (b : BufId) →
    map g (changed f buffers b) ≡ map g buffers
told_same g f same buffers b = told_at g f same buffers b.0

-- a test that the change keeps
pub all_same : (p : Option Buffer → Bool) (f : Buffer → Buffer) → ((x : Buffer) → p (Some (f x)) ≡ p (Some x)) → (buffers : List (Option Buffer)) (b : BufId) →
    list_all p (changed f buffers b) ≡ list_all p buffers
all_same p f same buffers b = flat (changed f buffers b) ∙ ap (list_all (λ q. q)) (told_same p f same buffers b) ∙ sym (flat buffers)
  where
    flat : (xs : List (Option Buffer)) → list_all p xs ≡ list_all (λ q. q) (map p xs)
    flat [] = refl
    flat (o ∷ xs) = ap (λ q. p o && q) (flat xs)

-- ---- without fences

unfenced_at : (g f : Buffer → Buffer) → ((x : Buffer) → unfenced (g x) ≡ f (unfenced x)) → (xs : List (Option Buffer)) (i : ℕ) →
    map (option_map unfenced) (slice_set xs i (option_map g (there xs i))) ≡ slice_set (map (option_map unfenced) xs) i (option_map f (there (map (option_map unfenced) xs) i))
unfenced_at g f past [] i = refl
unfenced_at g f past (None ∷ xs) zero = refl
unfenced_at g f past (Some x ∷ xs) zero = ap (λ y. Some y ∷ map (option_map unfenced) xs) (past x)
unfenced_at g f past (o ∷ xs) (suc i) = ap (λ ys. option_map unfenced o ∷ ys) (unfenced_at g f past xs i)

-- a change of a buffer is another one of the buffer without its fences
pub unfenced_as : (g f : Buffer → Buffer) → ((x : Buffer) → unfenced (g x) ≡ f (unfenced x)) → (buffers : List (Option Buffer)) (b : BufId) →
    map (option_map unfenced) (changed g buffers b) ≡ changed f (map (option_map unfenced) buffers) b
unfenced_as g f past buffers b = unfenced_at g f past buffers b.0

-- one more fence of each buffer of a job
pub unfenced_armed : (job : JobId) (ops : List Op) (bs : List BufId) (buffers : List (Option Buffer)) → map (option_map unfenced) (fold (with_use job ops) buffers bs) ≡ map (option_map unfenced) buffers
unfenced_armed job ops [] buffers = refl
unfenced_armed job ops (b ∷ bs) buffers =
    unfenced_armed job ops bs (with_use job ops buffers b) ∙ told_same (option_map unfenced) (with_fence job (use_of ops b)) (λ x. refl) buffers b
