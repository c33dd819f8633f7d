-- Sets of jobs by buffer, where a job joins those of some buffers.
use Rattle.std.proofs.Common.{◌≡◌, ℕ, zero, suc, ◌+◌, ◌<◌, List, [], ◌∷◌, Option, Some, length, get_or, take, refl, sym, ◌∙◌, ap, ap₂, subst, length-set}
use Rattle.std.specs.Prelude.{fold, slice_get, slice_set, unwrap_or}
use Rattle.std.specs.Option.{ForSome}
use Rattle.std.proofs.lemmas.List.Sums.{fold_more}
use Rattle.ttm_base.specs.declared.BufId.{BufId}
use Rattle.ttm_base.specs.declared.JobId.{JobId}
use Rattle.ttm_base.specs.declared.Op.{Op}
use Rattle.ttm_base.specs.declared.Usage.{Usage}
use Rattle.fence_core.specs.declared.fence_set.Latest.{Latest}
use Rattle.fence_core.specs.Fences.{added, all_added, later, kept_of, only}
use Rattle.fence_core.proofs.SetLaws.{length-all_added}
use Rattle.journal_model.specs.rules.Waits.{use_of}
use Rattle.bo_table.specs.Seen.{Bos, fences_at, with_use}
use Rattle.room_jobs.specs.Uses.{AreWide, HaveContext, waited_use, with_uses, with_waits}

-- what holds of each set still does where one that was there becomes another one of which it holds
each_set : (P : List Latest → Type 0) (sets : List (List Latest)) (k : ℕ) (new : List Latest) → ((old : List Latest) → slice_get sets k ≡ Some old → P new) →
    ((i : ℕ) → ForSome (slice_get sets i) P) → (i : ℕ) → ForSome (slice_get (slice_set sets k new) i) P
each_set P [] k new n h i = h i
each_set P (s ∷ sets) zero new n h zero = λ x e. (let same : new ≡ x = cc in subst P same (n s refl))
each_set P (s ∷ sets) zero new n h (suc i) = h (suc i)
each_set P (s ∷ sets) (suc k) new n h zero = h zero
each_set P (s ∷ sets) (suc k) new n h (suc i) = each_set P sets k new n (λ j. h (suc j)) i

-- one more job of a set leaves its contexts
length_added : (set : List Latest) (job : JobId) (how : Usage) → length (added set job how) ≡ length set
length_added set job how = length-set set job.ctx (later (kept_of set job.ctx) (only how job.num))

-- a context that each set has is one of each set's after one more job
pub context_stays : (ctx : ℕ) (job : JobId) (how : Usage) (t : Bos) (b : BufId) → HaveContext ctx t.fences → HaveContext ctx (with_use job how t b).fences
context_stays ctx job how t b h = each_set (λ set. ctx < length set) t.fences b.0 (added (fences_at t.fences b) job how) new h
  where
    new : (old : List Latest) → slice_get t.fences b.0 ≡ Some old → ctx < length (added (fences_at t.fences b) job how)
    new old e =
        let at : fences_at t.fences b ≡ old = ap (λ (o : Option (List Latest)). unwrap_or o []) e in
        let l : length (added (fences_at t.fences b) job how) ≡ length old = length_added (fences_at t.fences b) job how ∙ ap length at in
        subst (λ m. ctx < m) (sym l) (h b.0 old e)

-- one more buffer of which a job waits for jobs
pub waits_more : (ops : List Op) (sets : List (List Latest)) (first : List Latest) (bs : List BufId) (i : ℕ) (d : BufId) → i < length bs → (contexts : ℕ) → AreWide contexts sets → (now : List Latest) →
    (now ≡ with_waits ops sets first (take i bs)) × (length now ≡ contexts) → (set : List Latest) → slice_get sets (get_or bs i d).0 ≡ Some set → (next : List Latest) → next ≡ all_added (waited_use ops (get_or bs i d)) now set →
    (next ≡ with_waits ops sets first (take (i + 1) bs)) × (length next ≡ contexts)
waits_more ops sets first bs i d l contexts wide now h set e next n =
    let at : fences_at sets (get_or bs i d) ≡ set = ap (λ (o : Option (List Latest)). unwrap_or o []) e in
    let long : length set ≡ contexts = wide (get_or bs i d).0 set e in (
      n ∙ ap₂ (λ s x. all_added (waited_use ops (get_or bs i d)) s x) h.0 (sym at) ∙ sym (fold_more (λ s b. all_added (waited_use ops b) s (fences_at sets b)) first bs i d l),
      ap length n ∙ length-all_added (waited_use ops (get_or bs i d)) now set (h.1 ∙ sym long) ∙ h.1,
    )

-- one more buffer whose jobs a job joins
pub uses_more : (job : JobId) (ops : List Op) (first : Bos) (bs : List BufId) (i : ℕ) (d : BufId) → i < length bs → (now : Bos) → (now ≡ with_uses job ops first (take i bs)) × HaveContext job.ctx now.fences →
    (next : Bos) → next ≡ with_use job (use_of ops (get_or bs i d)) now (get_or bs i d) → (next ≡ with_uses job ops first (take (i + 1) bs)) × HaveContext job.ctx next.fences
uses_more job ops first bs i d l now h next n = (
  n ∙ ap (λ u. with_use job (use_of ops (get_or bs i d)) u (get_or bs i d)) h.0 ∙ sym (fold_more (λ u b. with_use job (use_of ops b) u b) first bs i d l),
  subst (λ (x : Bos). HaveContext job.ctx x.fences) (sym n) (context_stays job.ctx job (use_of ops (get_or bs i d)) now (get_or bs i d) h.1),
)

-- all else of the table stays
pub uses_are : (job : JobId) (ops : List Op) (bs : List BufId) (t : Bos) → with_uses job ops t bs ≡ record t { fences = fold (λ sets b. slice_set sets b.0 (added (fences_at sets b) job (use_of ops b))) t.fences bs }
uses_are job ops [] t = refl
uses_are job ops (b ∷ bs) t = uses_are job ops bs (with_use job (use_of ops b) t b)
