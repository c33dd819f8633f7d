-- Frames, slots and the aperture stay where buffers change but not in their places.
use Rattle.std.proofs.Common.{◌≡◌, ℕ, zero, suc, ◌+◌, List, [], ◌∷◌, ◌++◌, Option, Some, None, refl, ◌∙◌, ap, ap₂}
use Rattle.std.specs.Prelude.{filter_map, flat_map, fold, option_map, slice_set, zip}
use Rattle.std.specs.List.{enumerate_from}
use Rattle.ttm_base.specs.declared.BufId.{BufId}
use Rattle.ttm_base.specs.declared.JobId.{JobId}
use Rattle.ttm_base.specs.declared.Mem.{Mem}
use Rattle.ttm_base.specs.declared.Mem.TheVariants.{System, Tt, Vram}
use Rattle.ttm_base.specs.declared.Op.{Op}
use Rattle.journal_model.specs.declared.state.Buffer.{Buffer}
use Rattle.journal_model.specs.rules.State.{changed}
use Rattle.journal_model.specs.rules.Holds.{live_entry}
use Rattle.journal_model.specs.rules.Places.{pages_of, frame_of, frames_of, slot_of, slots_of, mapped_frame, mapped_in}
use Rattle.journal_model.specs.rules.Waits.{use_of}
use Rattle.journal_model.specs.rules.ApplyPages.{with_fence}
use Rattle.journal_model.specs.rules.ApplyJobs.{with_use}
use Rattle.room_representation.proofs.lemma_jobs.Lists.{there}

-- the change leaves a buffer where it stands
pub record KeepsPlaces (g : Buffer → Buffer) : Type 0 where
  pub mem : (x : Buffer) → (g x).mem ≡ x.mem
  pub spans : (x : Buffer) → (g x).spans ≡ x.spans
  pub table : (x : Buffer) → (g x).table ≡ x.table

-- one more fence does
pub fence_keeps : (job : JobId) (ops : List Op) (b : BufId) → KeepsPlaces (with_fence job (use_of ops b))
fence_keeps job ops b = record { mem = λ x. refl; spans = λ x. refl; table = λ x. refl }

-- ---- what tables say

-- what is seen of each live buffer, one after another
abbrev pub of_live : {Y : Type 0} → (Buffer → List Y) → ℕ → List (Option Buffer) → List Y
of_live see k xs = flat_map (λ e. see e.1) (filter_map live_entry (enumerate_from k xs))

live_same : {Y : Type 0} (see : Buffer → List Y) (g : Buffer → Buffer) → ((x : Buffer) → see (g x) ≡ see x) → (k : ℕ) (xs : List (Option Buffer)) (i : ℕ) →
    of_live see k (slice_set xs i (option_map g (there xs i))) ≡ of_live see k xs
live_same see g h k [] i = refl
live_same see g h k (None ∷ xs) zero = refl
live_same see g h k (Some x ∷ xs) zero = ap (λ ys. ys ++ of_live see (k + 1) xs) (h x)
live_same see g h k (None ∷ xs) (suc i) = live_same see g h (k + 1) xs i
live_same see g h k (Some x ∷ xs) (suc i) = ap (λ ys. see x ++ ys) (live_same see g h (k + 1) xs i)

-- ---- the aperture

-- the pages of TT of live buffers, each with its frame
abbrev pub of_mapped : List (Option Buffer) → List (ℕ × ℕ)
of_mapped xs = flat_map (λ x. mapped_in x.mem x) (filter_map (λ x. x) xs)

mapped_alike : (m : Mem) (x y : Buffer) → x.spans ≡ y.spans → x.table ≡ y.table → mapped_in m x ≡ mapped_in m y
mapped_alike Tt x y s t = ap₂ (λ a b. filter_map mapped_frame (zip (pages_of a) b)) s t
mapped_alike Vram x y s t = refl
mapped_alike System x y s t = refl

module _ (g : Buffer → Buffer) (keeps : KeepsPlaces g) where
  mapped_kept : (x : Buffer) → mapped_in (g x).mem (g x) ≡ mapped_in x.mem x
  mapped_kept x = ap (λ m. mapped_in m (g x)) (keeps.mem x) ∙ mapped_alike x.mem (g x) x (keeps.spans x) (keeps.table x)

  mapped_same : (xs : List (Option Buffer)) (i : ℕ) → of_mapped (slice_set xs i (option_map g (there xs i))) ≡ of_mapped xs
  mapped_same [] i = refl
  mapped_same (None ∷ xs) zero = refl
  mapped_same (Some x ∷ xs) zero = ap (λ ys. ys ++ of_mapped xs) (mapped_kept x)
  mapped_same (None ∷ xs) (suc i) = mapped_same xs i
  mapped_same (Some x ∷ xs) (suc i) = ap (λ ys. mapped_in x.mem x ++ ys) (mapped_same xs i)

  -- the frames in tables
  pub frames_kept : (buffers : List (Option Buffer)) (b : BufId) → of_live frames_of 0 (changed g buffers b) ≡ of_live frames_of 0 buffers
  frames_kept buffers b = live_same frames_of g (λ x. ap (filter_map frame_of) (keeps.table x)) 0 buffers b.0

  -- the slots in tables
  pub slots_kept : (buffers : List (Option Buffer)) (b : BufId) → of_live slots_of 0 (changed g buffers b) ≡ of_live slots_of 0 buffers
  slots_kept buffers b = live_same slots_of g (λ x. ap (filter_map slot_of) (keeps.table x)) 0 buffers b.0

  -- the mapped pages
  pub maps_kept : (buffers : List (Option Buffer)) (b : BufId) → of_mapped (changed g buffers b) ≡ of_mapped buffers
  maps_kept buffers b = mapped_same buffers b.0

-- ---- the buffers of a job with operations

fold_same : {Y : Type 0} (see : List (Option Buffer) → Y) (job : JobId) (ops : List Op) → ((xs : List (Option Buffer)) (b : BufId) → see (with_use job ops xs b) ≡ see xs) →
    (bs : List BufId) (xs : List (Option Buffer)) → see (fold (with_use job ops) xs bs) ≡ see xs
fold_same see job ops h [] xs = refl
fold_same see job ops h (b ∷ bs) xs = fold_same see job ops h bs (with_use job ops xs b) ∙ h xs b

-- the frames in tables stay behind a job with operations
pub frames_armed : (job : JobId) (ops : List Op) (bs : List BufId) (buffers : List (Option Buffer)) → of_live frames_of 0 (fold (with_use job ops) buffers bs) ≡ of_live frames_of 0 buffers
frames_armed job ops bs buffers = fold_same (of_live frames_of 0) job ops (λ xs b. frames_kept (with_fence job (use_of ops b)) (fence_keeps job ops b) xs b) bs buffers

-- the slots do
pub slots_armed : (job : JobId) (ops : List Op) (bs : List BufId) (buffers : List (Option Buffer)) → of_live slots_of 0 (fold (with_use job ops) buffers bs) ≡ of_live slots_of 0 buffers
slots_armed job ops bs buffers = fold_same (of_live slots_of 0) job ops (λ xs b. slots_kept (with_fence job (use_of ops b)) (fence_keeps job ops b) xs b) bs buffers

-- the mapped pages do
pub maps_armed : (job : JobId) (ops : List Op) (bs : List BufId) (buffers : List (Option Buffer)) → of_mapped (fold (with_use job ops) buffers bs) ≡ of_mapped buffers
maps_armed job ops bs buffers = fold_same of_mapped job ops (λ xs b. maps_kept (with_fence job (use_of ops b)) (fence_keeps job ops b) xs b) bs buffers
