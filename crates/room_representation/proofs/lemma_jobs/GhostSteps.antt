-- Ghosts that come and go.
use Rattle.std.proofs.Common.{◌≡◌, ℕ, zero, suc, true, List, [], ◌∷◌, ◌++◌, Option, Some, None, Ok, Err, refl, sym, ◌∙◌, ap, ap₂, subst, arith, length}
use Rattle.std.specs.Prelude.{◌==◌, not, filter, drop, replicate, slice_get, if◌then◌else◌}
use Rattle.std.proofs.lemmas.Bool.{eq-eqb, ne_eqb}
use Rattle.ttm_base.specs.declared.JobId.{JobId}
use Rattle.ttm_base.specs.declared.Usage.{Usage}
use Rattle.fence_core.specs.Fences.{nothing_kept, added}
use Rattle.ttm_base.specs.declared.Actor.TheVariants as actor
use Rattle.ttm_base.specs.declared.Need.TheVariants as need
use Rattle.journal_model.specs.declared.script.Script.{Script}
use Rattle.journal_model.specs.declared.entry.Kind.TheVariants as kind
use Rattle.journal_model.specs.declared.state.State.{State}
use Rattle.journal_model.specs.rules.Next.{next}
use Rattle.journal_model.specs.rules.PageSteps.{unless_waiting}
use Rattle.journal_model.specs.rules.Search.{Step}
use Rattle.journal_model.specs.rules.Waits.{waited_for}
use Rattle.journal_model.specs.declared.state.Job.{Job}
use Rattle.journal_model.specs.declared.state.Ghost as state
use Rattle.room_representation.specs.declared.parts.Ghost.{Ghost}
use Rattle.room_representation.specs.Fences.{is_emitted, WaitsFor}
use Rattle.room_representation.specs.Ghosts.{IsGhost, AreGhosts}
use Rattle.room_representation.proofs.lemma_jobs.Sets.{waits_none, waits_one}

-- a ghost of the state and the one that stands for it
pub record IsFound (jobs : List Job) (last : List ℕ) (g : state.Ghost) (rs : List Ghost) (i : ℕ) : Type 0 where
  pub ghost : Ghost
  pub here : slice_get rs i ≡ Some ghost
  pub is : IsGhost jobs last g ghost

module _ (jobs : List Job) (last : List ℕ) where
  -- as many as in the state
  pub ghosts_length : (gs : List state.Ghost) (rs : List Ghost) → AreGhosts jobs last gs rs → length rs ≡ length gs
  ghosts_length [] [] h = refl
  ghosts_length [] (r ∷ rs) h = absurd h
  ghosts_length (g ∷ gs) [] h = absurd h
  ghosts_length (g ∷ gs) (r ∷ rs) h = ap suc (ghosts_length gs rs h.1)

  -- by place
  pub ghost_found : (gs : List state.Ghost) (rs : List Ghost) → AreGhosts jobs last gs rs → (i : ℕ) (g : state.Ghost) → slice_get gs i ≡ Some g → IsFound jobs last g rs i
  ghost_found [] rs h i g e = cc
  ghost_found (d ∷ gs) [] h i g e = absurd h
  ghost_found (d ∷ gs) (r ∷ rs) h zero g e = record { ghost = r; here = refl; is = subst (λ x. IsGhost jobs last x r) (let same : d ≡ g = cc in same) h.0 }
  ghost_found (d ∷ gs) (r ∷ rs) h (suc i) g e = let f = ghost_found gs rs h.1 i g e in record { ghost = f.ghost; here = f.here; is = f.is }

  -- one more at the end
  pub ghosts_push : (gs : List state.Ghost) (rs : List Ghost) → AreGhosts jobs last gs rs → (g : state.Ghost) (r : Ghost) → IsGhost jobs last g r → AreGhosts jobs last (gs ++ g ∷ []) (rs ++ r ∷ [])
  ghosts_push [] [] h g r is = (is, tt)
  ghosts_push [] (q ∷ rs) h g r is = absurd h
  ghosts_push (d ∷ gs) [] h g r is = absurd h
  ghosts_push (d ∷ gs) (q ∷ rs) h g r is = (h.0, ghosts_push gs rs h.1 g r is)

  -- the set of a moved buffer's ghost has the move's job alone
  pub waits_for_job : (job : JobId) (how : Usage) → is_emitted last job ≡ true → WaitsFor jobs last (job ∷ []) (added (replicate (length last) nothing_kept) job how)
  waits_for_job job how k = waits_one jobs last [] (replicate (length last) nothing_kept) (waits_none jobs last) job how k

  others_stay : (n : ℕ) (gs : List state.Ghost) → ((i : ℕ) (h : state.Ghost) → slice_get gs i ≡ Some h → h.num ≡ n → ⊥) → filter (λ h. not (h.num == n)) gs ≡ gs
  others_stay n [] d = refl
  others_stay n (h ∷ gs) d =
      ap₂ (λ q hs. if not q then h ∷ hs else hs) (ne_eqb h.num n (d 0 h refl)) (others_stay n gs (λ i x e. d (suc i) x e))

  -- the first one goes, as the only one of its number
  pub ghosts_reaped : (gs : List state.Ghost) (rs : List Ghost) → AreGhosts jobs last gs rs → (n : ℕ) (g : state.Ghost) → slice_get gs 0 ≡ Some g → g.num ≡ n →
      ((i k : ℕ) (x y : state.Ghost) → slice_get gs i ≡ Some x → slice_get gs k ≡ Some y → x.num ≡ y.num → i ≡ k) → AreGhosts jobs last (filter (λ h. not (h.num == n)) gs) (drop 1 rs)
  ghosts_reaped [] rs h n g e num distinct = cc
  ghosts_reaped (d ∷ gs) [] h n g e num distinct = absurd h
  ghosts_reaped (d ∷ gs) (r ∷ rs) h n g e num distinct =
      let same : d ≡ g = cc in
      let it : d.num ≡ n = ap (λ (x : state.Ghost). x.num) same ∙ num in
      let rest : filter (λ x. not (x.num == n)) gs ≡ gs =
      others_stay n gs (λ i x f m. (let no : suc i ≡ 0 = distinct (suc i) 0 x d f refl (m ∙ sym it) in absurd (omega (arith, no)))) in
      let all : filter (λ x. not (x.num == n)) (d ∷ gs) ≡ gs = ap (λ q. if not q then d ∷ filter (λ x. not (x.num == n)) gs else filter (λ x. not (x.num == n)) gs) (eq-eqb d.num n it) ∙ rest in
      subst (λ xs. AreGhosts jobs last xs rs) (sym all) h.1

-- ---- what a reaped ghost tells

-- it is the first one, and nothing is waited for
pub record IsReap (s : State) (n : ℕ) : Type 0 where
  pub ghost : state.Ghost
  pub first : slice_get s.core.ghosts 0 ≡ Some ghost
  pub num : ghost.num ≡ n
  pub free : waited_for s.core ghost.jobs ≡ None

-- as the reaper's step says
pub reap_of : (script : Script) (s : State) (n : ℕ) → next script s actor.Reaper ≡ Ok (kind.Reap n) → IsReap s n
reap_of script s n h = by (slice_get s.core.ghosts 0) refl h
  where
    by_wait : (g : state.Ghost) → slice_get s.core.ghosts 0 ≡ Some g → (o : Option JobId) → waited_for s.core g.jobs ≡ o → unless_waiting o (kind.Reap g.num) ≡ Ok (kind.Reap n) → IsReap s n
    by_wait g q None w h = record { ghost = g; first = q; num = cc; free = w }
    by_wait g q (Some i) w h = cc

    by : (o : Option state.Ghost) → slice_get s.core.ghosts 0 ≡ o → ◌≡◌ {A = Step} (elim o [ None ↦ Err need.NoGhost | Some g ↦ unless_waiting (waited_for s.core g.jobs) (kind.Reap g.num) ]) (Ok (kind.Reap n)) → IsReap s n
    by None q h = cc
    by (Some g) q h = by_wait g q (waited_for s.core g.jobs) refl h
