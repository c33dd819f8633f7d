-- Who holds spans in a manager, by buffer and ghost of the state, and which owners are fresh.
use Rattle.std.proofs.Common.{◌≡◌, ℕ, false, [], Some, None, ◌∙◌, ap}
use Rattle.std.specs.Prelude.{◌==◌, find, is_some, option_map, slice_get, unwrap_or}
use Rattle.ttm_base.specs.declared.Mem.{Mem}
use Rattle.ttm_base.specs.declared.BufId.{BufId}
use Rattle.ttm_base.specs.declared.Owner.TheVariants as owner
use Rattle.resource_core.specs.Resources.{Resources, holds, kept_by, some_spans}
use Rattle.journal_model.specs.declared.state.State.{State}
use Rattle.journal_model.specs.declared.state.Ghost.{Ghost}
use Rattle.journal_model.specs.rules.State.{live_in, buffer, target_spans}
use Rattle.journal_model.specs.rules.Holds.{spans_in, ghost_spans}
use Rattle.room_representation.specs.lemma_spans.Owned.{FirstOfNumber, HoldsAsIn}
use Rattle.room_representation.proofs.lemma_spans.Held.{holds_is, is_fresh}

module _ (size : ℕ) (mine : Mem) (s : State) (r : Resources) (representation : HoldsAsIn size mine s r) where
  module _ (b : BufId) (live : live_in s.core.buffers b ≡ Some (buffer s b)) where
    -- a live buffer's spans
    pub live_kept : kept_by (owner.Live b) r.held ≡ some_spans (spans_in mine (buffer s b))
    live_kept = representation.each (owner.Live b) ∙ ap (λ o. some_spans (unwrap_or (option_map (spans_in mine) o) [])) live

    -- it holds something where it has some
    pub live_holds : holds (owner.Live b) r.held ≡ is_some (some_spans (spans_in mine (buffer s b)))
    live_holds = holds_is size _ r representation (owner.Live b) ∙ ap (λ o. is_some (some_spans (unwrap_or (option_map (spans_in mine) o) []))) live

    -- where it has none it is fresh
    pub live_fresh : spans_in mine (buffer s b) ≡ [] → holds (owner.Live b) r.held ≡ false
    live_fresh none = live_holds ∙ ap (λ ss. is_some (some_spans ss)) none

    -- the spans that wait for it
    pub target_kept : kept_by (owner.Target b) r.held ≡ some_spans (target_spans mine (buffer s b))
    target_kept = representation.each (owner.Target b) ∙ ap (λ o. some_spans (unwrap_or (option_map (target_spans mine) o) [])) live

    -- its target holds something where some wait
    pub target_holds : holds (owner.Target b) r.held ≡ is_some (some_spans (target_spans mine (buffer s b)))
    target_holds = holds_is size _ r representation (owner.Target b) ∙ ap (λ o. is_some (some_spans (unwrap_or (option_map (target_spans mine) o) []))) live

    -- where none waits it is fresh
    pub target_fresh : target_spans mine (buffer s b) ≡ [] → holds (owner.Target b) r.held ≡ false
    target_fresh none = target_holds ∙ ap (λ ss. is_some (some_spans ss)) none

  -- a ghost's spans
  pub ghost_kept : FirstOfNumber s.core.ghosts → (i : ℕ) (g : Ghost) → slice_get s.core.ghosts i ≡ Some g → kept_by (owner.Ghost g.num) r.held ≡ some_spans (ghost_spans mine g)
  ghost_kept once i g at = representation.each (owner.Ghost g.num) ∙ ap (λ o. some_spans (unwrap_or (option_map (ghost_spans mine) o) [])) (once i g at)

  -- it holds something where it has some
  pub ghost_holds : FirstOfNumber s.core.ghosts → (i : ℕ) (g : Ghost) → slice_get s.core.ghosts i ≡ Some g → holds (owner.Ghost g.num) r.held ≡ is_some (some_spans (ghost_spans mine g))
  ghost_holds once i g at = holds_is size _ r representation (owner.Ghost g.num) ∙ ap (λ o. is_some (some_spans (unwrap_or (option_map (ghost_spans mine) o) []))) (once i g at)

  -- a ghost of a new number is fresh
  pub ghost_fresh : (g : ℕ) → find (λ h. h.num == g) s.core.ghosts ≡ None → holds (owner.Ghost g) r.held ≡ false
  ghost_fresh g new = is_fresh size _ r representation (owner.Ghost g) (ap (λ o. unwrap_or (option_map (ghost_spans mine) o) []) new)
