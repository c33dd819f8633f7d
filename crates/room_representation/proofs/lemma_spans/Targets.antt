-- Entries on targets: spans that are taken for one, and given back.
use Rattle.std.proofs.Common.{◌≡◌, ℕ, ◌≤◌, Bool, true, false, List, [], ◌∷◌, Option, Some, None, length, refl, ◌∙◌, ap}
use Rattle.std.specs.Prelude.{option_map, unwrap_or, if◌then◌else◌}
use Rattle.ttm_base.specs.declared.Mem.{Mem}
use Rattle.ttm_base.specs.declared.Mem.TheVariants.{System, Tt, Vram}
use Rattle.ttm_base.specs.declared.Span.{Span}
use Rattle.ttm_base.specs.declared.BufId.{BufId}
use Rattle.ttm_base.specs.declared.JobId.{JobId}
use Rattle.ttm_base.specs.declared.Owner.{Owner}
use Rattle.ttm_base.specs.declared.Owner.TheVariants as owner
use Rattle.ttm_base.specs.declared.Usage.TheVariants as usage
use Rattle.ttm_base.specs.Reach.{same_mem}
use Rattle.resource_core.specs.Resources.{Resources}
use Rattle.journal_model.specs.declared.state.State.{State}
use Rattle.journal_model.specs.declared.state.Buffer.{Buffer}
use Rattle.journal_model.specs.rules.State.{live_in, buffer, changed, target_spans}
use Rattle.journal_model.specs.rules.Holds.{spans_in}
use Rattle.journal_model.specs.rules.Waits.{jobs_before_target}
use Rattle.journal_model.specs.rules.ApplyPages.{with_fence, with_spans, with_kernel_fences, after_take, after_untake}
use Rattle.room_representation.specs.lemma_spans.Owned.{owned, with_owner, HoldsAsIn}
use Rattle.room_representation.specs.lemma_spans.Calls.{held_by, given, taken, untaken}
use Rattle.room_representation.proofs.lemma_spans.Held.{told_as, held_representation, given_representation}
use Rattle.room_representation.proofs.lemma_spans.Changed.{told_changed, told_kept, target_owned}
use Rattle.room_representation.proofs.lemma_spans.Still.{kept_representation}

-- ---- what a change of a target does to spans

-- in another memory type nothing
pub target_apart : (mine mem : Mem) (o : Option (List Span)) (x : Buffer) → same_mem mem mine ≡ false → target_spans mine (with_spans mem o x) ≡ target_spans mine x
target_apart System System o x h = cc
target_apart Tt Tt o x h = cc
target_apart Vram Vram o x h = cc
target_apart System Tt o x h = refl
target_apart System Vram o x h = refl
target_apart Tt System o x h = refl
target_apart Tt Vram o x h = refl
target_apart Vram System o x h = refl
target_apart Vram Tt o x h = refl

-- in its own it is there
pub target_here : (mine mem : Mem) (o : Option (List Span)) (x : Buffer) → same_mem mem mine ≡ true → target_spans mine (with_spans mem o x) ≡ unwrap_or o []
target_here System System o x h = refl
target_here Tt Tt o x h = refl
target_here Vram Vram o x h = refl
target_here System Tt o x h = cc
target_here System Vram o x h = cc
target_here Tt System o x h = cc
target_here Tt Vram o x h = cc
target_here Vram System o x h = cc
target_here Vram Tt o x h = cc

own_kept : (mine mem : Mem) (o : Option (List Span)) (x : Buffer) → spans_in mine (with_spans mem o x) ≡ spans_in mine x
own_kept mine mem o x = refl

fenced_own : (mine : Mem) (jobs : List JobId) (x : Buffer) → spans_in mine (with_kernel_fences jobs x) ≡ spans_in mine x
fenced_own mine [] x = refl
fenced_own mine (j ∷ jobs) x = fenced_own mine jobs (with_fence j usage.Kernel x)

fenced_target : (mine : Mem) (jobs : List JobId) (x : Buffer) → target_spans mine (with_kernel_fences jobs x) ≡ target_spans mine x
fenced_target mine [] x = refl
fenced_target mine (j ∷ jobs) x = fenced_target mine jobs (with_fence j usage.Kernel x)

-- ---- by entry

module _ (size : ℕ) (mine mem : Mem) (s : State) (b : BufId) (r : Resources) (representation : HoldsAsIn size mine s r) where
  abbrev bs : List (Option Buffer)
  bs = s.core.buffers

  abbrev f : Owner → List Span
  f = owned mine bs s.core.ghosts

  -- spans are taken for a target: in their memory type the buffer has none yet
  pub take_spans : (t : ℕ) (spans : List Span) → live_in bs b ≡ Some (buffer s b) → (same_mem mem mine ≡ true → target_spans mine (buffer s b) ≡ []) → (same_mem mem mine ≡ true → 1 ≤ length spans) →
      HoldsAsIn size mine (after_take s t b mem spans) (taken mine mem b spans r)
  take_spans t spans live none some = by (same_mem mem mine) refl
    where
      jobs : List JobId
      jobs = jobs_before_target s.core mem

      g : Buffer → Buffer
      g x = with_kernel_fences (jobs_before_target s.core mem) (with_spans mem (Some spans) x)

      own : (x : Buffer) → spans_in mine (g x) ≡ spans_in mine x
      own x = fenced_own mine (jobs_before_target s.core mem) (with_spans mem (Some spans) x)

      waits : (x : Buffer) → target_spans mine (g x) ≡ target_spans mine (with_spans mem (Some spans) x)
      waits x = fenced_target mine (jobs_before_target s.core mem) (with_spans mem (Some spans) x)

      by : (q : Bool) → same_mem mem mine ≡ q → HoldsAsIn size mine (after_take s t b mem spans) (if q then held_by (owner.Target b) spans r else r)
      by true e =
          told_as size (with_owner f (owner.Target b) spans) (held_by (owner.Target b) spans r)
          (held_representation size f r representation (owner.Target b) spans (ap (λ o. unwrap_or (option_map (target_spans mine) o) []) live ∙ none e) (some e))
          (owned mine (changed g bs b) s.core.ghosts)
          (target_owned mine s.core.ghosts bs b (option_map g (live_in bs b)) spans (told_kept (spans_in mine) g bs b (λ x h. own x))
          (told_changed (target_spans mine) g bs b (buffer s b) live ∙ waits (buffer s b) ∙ target_here mine mem (Some spans) (buffer s b) e))
      by false e = kept_representation size mine s.core.ghosts r g bs b (λ x h. own x) (λ x h. waits x ∙ target_apart mine mem (Some spans) x e) representation

  -- they are given back
  pub untake_spans : live_in bs b ≡ Some (buffer s b) → HoldsAsIn size mine (after_untake s b mem) (untaken mine mem b r)
  untake_spans live = by (same_mem mem mine) refl
    where
      by : (q : Bool) → same_mem mem mine ≡ q → HoldsAsIn size mine (after_untake s b mem) (if q then given (owner.Target b) r else r)
      by true e =
          told_as size (with_owner f (owner.Target b) []) (given (owner.Target b) r) (given_representation size f r representation (owner.Target b))
          (owned mine (changed (with_spans mem None) bs b) s.core.ghosts)
          (target_owned mine s.core.ghosts bs b (option_map (with_spans mem None) (live_in bs b)) [] (told_kept (spans_in mine) (with_spans mem None) bs b (λ x h. refl))
          (told_changed (target_spans mine) (with_spans mem None) bs b (buffer s b) live ∙ target_here mine mem None (buffer s b) e))
      by false e = kept_representation size mine s.core.ghosts r (with_spans mem None) bs b (λ x h. refl) (λ x h. target_apart mine mem None x e) representation
