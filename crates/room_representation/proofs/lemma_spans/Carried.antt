-- Entries that carry a buffer to another place, and those that free it or what it left.
use Rattle.std.proofs.Common.{◌≡◌, ℕ, Bool, true, false, List, [], ◌∷◌, ◌++◌, Option, Some, None, refl, sym, ◌∙◌, ap}
use Rattle.std.specs.Prelude.{◌==◌, nat_eq, find, slice_set, option_map, unwrap_or, if◌then◌else◌}
use Rattle.std.proofs.lemmas.Bool.{eq-eqb}
use Rattle.ttm_base.specs.declared.Mem.{Mem}
use Rattle.ttm_base.specs.declared.Mem.TheVariants.{System, Tt, Vram}
use Rattle.ttm_base.specs.declared.Span.{Span}
use Rattle.ttm_base.specs.declared.BufId.{BufId}
use Rattle.ttm_base.specs.declared.JobId.{JobId}
use Rattle.ttm_base.specs.declared.Owner.{Owner}
use Rattle.ttm_base.specs.declared.Owner.TheVariants as owner
use Rattle.ttm_base.specs.Reach.{same_mem}
use Rattle.resource_core.specs.Resources.{Resources, same_owner, holds}
use Rattle.journal_model.specs.declared.script.Script.{Script}
use Rattle.journal_model.specs.declared.entry.Left.{Left}
use Rattle.journal_model.specs.declared.entry.Left.TheVariants as left
use Rattle.journal_model.specs.declared.state.State.{State}
use Rattle.journal_model.specs.declared.state.Buffer.{Buffer}
use Rattle.journal_model.specs.declared.state.Ghost.{Ghost}
use Rattle.journal_model.specs.rules.State.{live_in, buffer, changed, target_spans}
use Rattle.journal_model.specs.rules.Holds.{spans_in, ghost_spans}
use Rattle.journal_model.specs.rules.ApplyCommands.{after_free, ghost_of_freed}
use Rattle.journal_model.specs.rules.ApplyPages.{with_spans, bound, unbound, after_bind, after_unbind}
use Rattle.journal_model.specs.rules.ApplyMoves.{moved, ghost_of_moved, ghosts_left, after_move_job}
use Rattle.journal_model.specs.rules.ApplyJobs.{after_reap}
use Rattle.room_representation.specs.lemma_spans.Owned.{owned, with_owner, HoldsAs, HoldsAsIn}
use Rattle.room_representation.specs.lemma_spans.Calls.{given, passed_on, arrived, left_by, carried, freed}
use Rattle.room_representation.proofs.lemma_spans.Held.{told_as, is_fresh, given_representation, passed_representation}
use Rattle.room_representation.proofs.lemma_spans.Changed.{told_changed, told_killed, same_again, set_owned, live_owned, pushed_owned, filtered_owned}
use Rattle.room_representation.proofs.lemma_spans.Targets.{target_apart, target_here}

-- ---- the spans of a buffer by memory type

-- in another memory type than its own it has none
pub spans_apart : (mine : Mem) (x : Buffer) → same_mem x.mem mine ≡ false → spans_in mine x ≡ []
spans_apart mine x e = ap (λ q. if q then x.spans else []) e

-- a ghost has those of the buffer that left them
moved_spans : (mine : Mem) (x : Buffer) (job : JobId) (g : ℕ) → (mine ≡ System → ⊥) → ghost_spans mine (ghost_of_moved x job g) ≡ spans_in mine x
moved_spans System x job g out = absurd (out refl)
moved_spans Tt x job g out = refl
moved_spans Vram x job g out = refl

freed_spans : (mine : Mem) (s : State) (x : Buffer) (g : ℕ) → (mine ≡ System → ⊥) → ghost_spans mine (ghost_of_freed s.core x g) ≡ spans_in mine x
freed_spans System s x g out = absurd (out refl)
freed_spans Tt s x g out = refl
freed_spans Vram s x g out = refl

-- memory types that are one have one target
same_target : (mine mem : Mem) (x : Buffer) → same_mem mem mine ≡ true → target_spans mem x ≡ target_spans mine x
same_target System System x h = refl
same_target Tt Tt x h = refl
same_target Vram Vram x h = refl
same_target System Tt x h = cc
same_target System Vram x h = cc
same_target Tt System x h = cc
same_target Tt Vram x h = cc
same_target Vram System x h = cc
same_target Vram Tt x h = cc

-- ---- what the calls leave, told by owner

-- the buffer has what its target had
abbrev pub f_arrived : Bool → BufId → (Owner → List Span) → Owner → List Span
f_arrived true b f = with_owner (with_owner f (owner.Target b) []) (owner.Live b) (f (owner.Target b))
f_arrived false b f = f

-- it has nothing, and a ghost has what it had
abbrev pub f_left : Left → BufId → (Owner → List Span) → Owner → List Span
f_left left.Now b f = with_owner f (owner.Live b) []
f_left (left.Ghost g) b f = with_owner (with_owner f (owner.Live b) []) (owner.Ghost g) (f (owner.Live b))

-- a ghost that is left holds nothing yet
abbrev pub IsNew : Left → (Owner → List Span) → Type 0
IsNew left.Now f = Unit {0}
IsNew (left.Ghost g) f = f (owner.Ghost g) ≡ []

module _ (size : ℕ) (mine : Mem) (b : BufId) (f : Owner → List Span) (r : Resources) (representation : HoldsAs size f r) where
  -- the target's spans become the buffer's
  pub arrived_representation : (mem : Mem) → f (owner.Live b) ≡ [] → HoldsAs size (f_arrived (same_mem mem mine) b f) (arrived mine mem b r)
  arrived_representation mem none = by (same_mem mem mine)
    where
      by : (q : Bool) → HoldsAs size (f_arrived q b f) (if q then passed_on (owner.Target b) (owner.Live b) r else r)
      by true = passed_representation size f r representation (owner.Target b) (owner.Live b) none
      by false = representation

  -- the buffer's spans are free, or a ghost's
  pub left_representation : (l : Left) → IsNew l f → HoldsAs size (f_left l b f) (left_by b l r)
  left_representation left.Now new = given_representation size f r representation (owner.Live b)
  left_representation (left.Ghost g) new = passed_representation size f r representation (owner.Live b) (owner.Ghost g) new

-- then the buffer holds nothing
pub left_none : (l : Left) (b : BufId) (f : Owner → List Span) → f_left l b f (owner.Live b) ≡ []
left_none left.Now b f = ap (λ q. if q then [] else f (owner.Live b)) (eq-eqb b.0 b.0 refl)
left_none (left.Ghost g) b f = ap (λ q. if q then [] else f (owner.Live b)) (eq-eqb b.0 b.0 refl)

-- ---- and what the state tells

-- the buffer has what its target had, or nothing
abbrev f_carried : Bool → BufId → (Owner → List Span) → Owner → List Span
f_carried true b f = with_owner (with_owner f (owner.Live b) (f (owner.Target b))) (owner.Target b) []
f_carried false b f = with_owner f (owner.Live b) []

-- they agree: where the buffer had nothing
agree_arrived : (b : BufId) (f : Owner → List Span) (q : Bool) → f (owner.Live b) ≡ [] → (p : Owner) → f_carried q b f p ≡ f_arrived q b f p
agree_arrived b f true none (owner.Live d) = refl
agree_arrived b f true none (owner.Target d) = refl
agree_arrived b f true none (owner.Ghost n) = refl
agree_arrived b f false none p = ap (λ ss. if same_owner (owner.Live b) p then ss else f p) (sym none) ∙ same_again f (owner.Live b) p

-- where its spans are free
agree_now : (b : BufId) (f : Owner → List Span) (q : Bool) (p : Owner) → f_carried q b f p ≡ f_arrived q b (f_left left.Now b f) p
agree_now b f true (owner.Live d) = by (nat_eq b.0 d.0)
  where
    by : (w : Bool) → (if w then f (owner.Target b) else f (owner.Live d)) ≡ (if w then f (owner.Target b) else (if w then [] else f (owner.Live d)))
    by true = refl
    by false = refl
agree_now b f true (owner.Target d) = refl
agree_now b f true (owner.Ghost n) = refl
agree_now b f false p = refl

-- where a ghost has them
agree_ghost : (b : BufId) (f : Owner → List Span) (g : ℕ) (ss : List Span) → ss ≡ f (owner.Live b) → (q : Bool) (p : Owner) → with_owner (f_carried q b f) (owner.Ghost g) ss p ≡ f_arrived q b (f_left (left.Ghost g) b f) p
agree_ghost b f g ss same true (owner.Live d) = agree_now b f true (owner.Live d)
agree_ghost b f g ss same true (owner.Target d) = refl
agree_ghost b f g ss same true (owner.Ghost n) = ap (λ y. if nat_eq g n then y else f (owner.Ghost n)) same
agree_ghost b f g ss same false (owner.Live d) = refl
agree_ghost b f g ss same false (owner.Target d) = refl
agree_ghost b f g ss same false (owner.Ghost n) = ap (λ y. if nat_eq g n then y else f (owner.Ghost n)) same

-- a new ghost beside others whose holdings are told
ghost_beside : (f h : Owner → List Span) (g : ℕ) (ss : List Span) (p : Owner) → f p ≡ h p → with_owner f (owner.Ghost g) ss p ≡ with_owner h (owner.Ghost g) ss p
ghost_beside f h g ss p e = ap (λ y. if same_owner (owner.Ghost g) p then ss else y) e

-- ---- by entry

module _ (size : ℕ) (mine : Mem) (out : mine ≡ System → ⊥) (s : State) (r : Resources) (representation : HoldsAsIn size mine s r) where
  abbrev bs : List (Option Buffer)
  bs = s.core.buffers

  abbrev gs : List Ghost
  gs = s.core.ghosts

  abbrev f : Owner → List Span
  f = owned mine bs gs

  -- a reaped ghost holds nothing
  pub reap_spans : (g : ℕ) → HoldsAsIn size mine (after_reap s g) (given (owner.Ghost g) r)
  reap_spans g = told_as size (with_owner f (owner.Ghost g) []) (given (owner.Ghost g) r) (given_representation size f r representation (owner.Ghost g)) _ (filtered_owned mine bs gs g)

  module _ (b : BufId) (live : live_in bs b ≡ Some (buffer s b)) where
    abbrev x : Buffer
    x = buffer s b

    own_now : f (owner.Live b) ≡ spans_in mine x
    own_now = ap (λ o. unwrap_or (option_map (spans_in mine) o) []) live

    waits_now : f (owner.Target b) ≡ target_spans mine x
    waits_now = ap (λ o. unwrap_or (option_map (target_spans mine) o) []) live

    carried_owned : (g : Buffer → Buffer) (mem : Mem) → spans_in mine (g x) ≡ (if same_mem mem mine then target_spans mem x else []) →
        target_spans mine (g x) ≡ target_spans mine (with_spans mem None x) → (p : Owner) → owned mine (changed g bs b) gs p ≡ f_carried (same_mem mem mine) b f p
    carried_owned g mem own waits p = by (same_mem mem mine) refl
      where
        by : (q : Bool) → same_mem mem mine ≡ q → owned mine (changed g bs b) gs p ≡ f_carried q b f p
        by true e =
            set_owned mine gs bs b (option_map g (live_in bs b)) (f (owner.Target b)) []
            (told_changed (spans_in mine) g bs b x live ∙ own ∙ ap (λ q. if q then target_spans mem x else []) e ∙ same_target mine mem x e ∙ sym waits_now)
            (told_changed (target_spans mine) g bs b x live ∙ waits ∙ target_here mine mem None x e) p
        by false e =
            live_owned mine gs bs b (option_map g (live_in bs b)) []
            (told_changed (spans_in mine) g bs b x live ∙ own ∙ ap (λ q. if q then target_spans mem x else []) e)
            (told_changed (target_spans mine) g bs b x live ∙ waits ∙ target_apart mine mem None x e ∙ sym waits_now) p

    -- from SYSTEM to TT: the buffer has the spans of its target
    pub bind_spans : (script : Script) → spans_in mine x ≡ [] → HoldsAsIn size mine (after_bind script s b) (arrived mine Tt b r)
    bind_spans script none =
        told_as size (f_arrived (same_mem Tt mine) b f) (arrived mine Tt b r) (arrived_representation size mine b f r representation Tt (own_now ∙ none))
        (owned mine (changed bound bs b) gs) (λ p. carried_owned bound Tt refl refl p ∙ agree_arrived b f (same_mem Tt mine) (own_now ∙ none) p)

    -- from TT to SYSTEM: its spans are given back
    pub unbind_spans : (script : Script) → HoldsAsIn size mine (after_unbind script s b) (given (owner.Live b) r)
    unbind_spans script =
        told_as size (with_owner f (owner.Live b) []) (given (owner.Live b) r) (given_representation size f r representation (owner.Live b))
        (owned mine (changed unbound bs b) gs)
        (live_owned mine gs bs b (option_map unbound (live_in bs b)) []
        (told_changed (spans_in mine) unbound bs b x live ∙ own mine)
        (told_changed (target_spans mine) unbound bs b x live ∙ waits mine out ∙ sym waits_now))
      where
        own : (m : Mem) → spans_in m (unbound x) ≡ []
        own System = refl
        own Tt = refl
        own Vram = refl

        waits : (m : Mem) → (m ≡ System → ⊥) → target_spans m (unbound x) ≡ target_spans m x
        waits System o = absurd (o refl)
        waits Tt o = refl
        waits Vram o = refl

    -- a manager in which it has no spans stays as it was
    pub unbind_apart : (script : Script) → spans_in mine x ≡ [] → HoldsAsIn size mine (after_unbind script s b) r
    unbind_apart script none =
        told_as size f r representation (owned mine (changed unbound bs b) gs)
        (λ p.
        live_owned mine gs bs b (option_map unbound (live_in bs b)) (f (owner.Live b))
        (told_changed (spans_in mine) unbound bs b x live ∙ own mine ∙ sym (own_now ∙ none))
        (told_changed (target_spans mine) unbound bs b x live ∙ waits mine out ∙ sym waits_now) p
        ∙ same_again f (owner.Live b) p)
      where
        own : (m : Mem) → spans_in m (unbound x) ≡ []
        own System = refl
        own Tt = refl
        own Vram = refl

        waits : (m : Mem) → (m ≡ System → ⊥) → target_spans m (unbound x) ≡ target_spans m x
        waits System o = absurd (o refl)
        waits Tt o = refl
        waits Vram o = refl

    -- ---- moves

    -- a new ghost holds nothing yet, as `pass` asks
    pub new_ghost : (g : ℕ) → find (λ h. h.num == g) gs ≡ None → f (owner.Ghost g) ≡ []
    new_ghost g new = ap (λ o. unwrap_or (option_map (ghost_spans mine) o) []) new

    -- the number of a ghost that is left is new
    abbrev pub HasNew : Left → Type 0
    HasNew left.Now = Unit {0}
    HasNew (left.Ghost g) = find (λ h. h.num == g) gs ≡ None

    is_new : (l : Left) → HasNew l → IsNew l f
    is_new left.Now new = tt
    is_new (left.Ghost g) new = new_ghost g new

    moved_owned : (mem : Mem) (job : JobId) (l : Left) → HasNew l → (p : Owner) → owned mine (changed (moved mem job) bs b) (ghosts_left x job l gs) p ≡ f_arrived (same_mem mem mine) b (f_left l b f) p
    moved_owned mem job left.Now new p = carried_owned (moved mem job) mem refl refl p ∙ agree_now b f (same_mem mem mine) p
    moved_owned mem job (left.Ghost g) new p =
        pushed_owned mine (changed (moved mem job) bs b) gs (ghost_of_moved x job g) new p
        ∙ ghost_beside (owned mine (changed (moved mem job) bs b) gs) (f_carried (same_mem mem mine) b f) g (ghost_spans mine (ghost_of_moved x job g)) p (carried_owned (moved mem job) mem refl refl p)
        ∙ agree_ghost b f g (ghost_spans mine (ghost_of_moved x job g)) (moved_spans mine x job g out ∙ sym own_now) (same_mem mem mine) p

    -- what it had is free, or a ghost's, and it has the spans of its target
    pub move_spans : (script : Script) (mem : Mem) (job : JobId) (l : Left) → HasNew l → HoldsAsIn size mine (after_move_job script s b mem job l) (carried mine mem b l r)
    move_spans script mem job l new =
        told_as size (f_arrived (same_mem mem mine) b (f_left l b f)) (carried mine mem b l r)
        (arrived_representation size mine b (f_left l b f) (left_by b l r) (left_representation size mine b f r representation l (is_new l new)) mem (left_none l b f))
        (owned mine (changed (moved mem job) bs b) (ghosts_left x job l gs)) (moved_owned mem job l new)

    -- between the calls the buffer holds nothing, so that `pass` may give it its target's spans
    pub left_free : (l : Left) → HasNew l → holds (owner.Live b) (left_by b l r).held ≡ false
    left_free l new = is_fresh size (f_left l b f) (left_by b l r) (left_representation size mine b f r representation l (is_new l new)) (owner.Live b) (left_none l b f)

    -- ---- the end of a buffer

    -- a freed buffer has no target; a ghost's number is new
    pub free_spans : (t g : ℕ) → target_spans mine x ≡ [] → ((g == 0) ≡ false → find (λ h. h.num == g) gs ≡ None) → HoldsAsIn size mine (after_free s t b g) (freed b g r)
    free_spans t g none new = by (g == 0) refl
      where
        gone : (p : Owner) → owned mine (slice_set bs b.0 None) gs p ≡ with_owner f (owner.Live b) [] p
        gone = live_owned mine gs bs b None [] (told_killed (spans_in mine) bs b) (told_killed (target_spans mine) bs b ∙ sym (waits_now ∙ none))

        by : (q : Bool) → (g == 0) ≡ q →
            HoldsAs size (owned mine (slice_set bs b.0 None) (if q then gs else gs ++ ghost_of_freed s.core (buffer s b) g ∷ [])) (if q then given (owner.Live b) r else passed_on (owner.Live b) (owner.Ghost g) r)
        by true e = told_as size (with_owner f (owner.Live b) []) (given (owner.Live b) r) (given_representation size f r representation (owner.Live b)) (owned mine (slice_set bs b.0 None) gs) gone
        by false e =
            told_as size (f_left (left.Ghost g) b f) (passed_on (owner.Live b) (owner.Ghost g) r) (left_representation size mine b f r representation (left.Ghost g) (new_ghost g (new e)))
            (owned mine (slice_set bs b.0 None) (gs ++ ghost_of_freed s.core (buffer s b) g ∷ []))
            (λ p.
            pushed_owned mine (slice_set bs b.0 None) gs (ghost_of_freed s.core (buffer s b) g) (new e) p
            ∙ ghost_beside (owned mine (slice_set bs b.0 None) gs) (with_owner f (owner.Live b) []) g (ghost_spans mine (ghost_of_freed s.core (buffer s b) g)) p (gone p)
            ∙ ap (λ y. if same_owner (owner.Ghost g) p then y else with_owner f (owner.Live b) [] p) (freed_spans mine s (buffer s b) g out ∙ sym own_now))
