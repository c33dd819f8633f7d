-- Ghosts have distinct numbers, none above the last one drawn, and the move fence is a job of the move engine's context.
use Rattle.std.proofs.Common.{◌≡◌, ℕ, ◌+◌, ◌<◌, ◌≤◌, zero, suc, Bool, true, false, List, [], ◌∷◌, ◌++◌, Option, Some, refl, sym, subst, ◌∙◌, ap, arith, ⊎_elim}
use Rattle.std.specs.Prelude.{slice_get, filter, ◌==◌, if◌then◌else◌}
use Rattle.std.proofs.lemmas.Bool.Decides.{nat_tests}
use Rattle.ttm_base.specs.declared.JobId.{JobId}
use Rattle.ttm_base.specs.declared.Actor.TheVariants as actor
use Rattle.journal_model.specs.declared.script.Script.{Script}
use Rattle.journal_model.specs.declared.state.State.{State}
use Rattle.journal_model.specs.declared.state.Core.{Core}
use Rattle.journal_model.specs.declared.state.Ghost.{Ghost}
use Rattle.journal_model.specs.declared.entry.Kind.{Kind}
use Rattle.journal_model.specs.rules.Apply.{applied}
use Rattle.laws.proofs.law_state.Lists.{get_pushed}
use Rattle.laws.specs.lemma_bytes_told.Told.{Told, still, leaves, moves_up, moves_across, moves_down, evicts}
use Rattle.laws.proofs.lemma_bytes_told.Shapes.{still_core, still_ghosts}

-- none has the number of one before it
abbrev pub AreDistinct : List Ghost → Type 0
AreDistinct [] = Unit {0}
AreDistinct (g ∷ gs) = ((i : ℕ) (h : Ghost) → slice_get gs i ≡ Some h → h.num ≡ g.num → ⊥) × AreDistinct gs

pub record Numbered (ghosts : List Ghost) (last : ℕ) (mover : Option JobId) : Type 0 where
  pub below : (i : ℕ) (h : Ghost) → slice_get ghosts i ≡ Some h → h.num ≤ last
  pub distinct : AreDistinct ghosts
  pub ring : (i : JobId) → mover ≡ Some i → i.ctx ≡ 0

-- ---- one more, and some less

pushed_distinct : (gs : List Ghost) (g : Ghost) (last : ℕ) → ((i : ℕ) (h : Ghost) → slice_get gs i ≡ Some h → h.num ≤ last) → last < g.num → AreDistinct gs → AreDistinct (gs ++ g ∷ [])
pushed_distinct [] g last b l d = (λ i h e q. cc, tt)
pushed_distinct (x ∷ gs) g last b l d = (
  λ i h e q.
      ⊎_elim
      (λ r. d.0 i h r q)
      (λ r. let a = b 0 x refl in let same : h.num ≡ g.num = ap (λ (y : Ghost). y.num) r.1 in let z : x.num ≡ g.num = sym q ∙ same in absurd (omega (arith, a, l, z)))
      (get_pushed gs g h i e),
  pushed_distinct gs g last (λ i h e. b (suc i) h e) l d.1,
)

pub pushed : (gs : List Ghost) (g : Ghost) (last : ℕ) (mover : Option JobId) → g.num ≡ last + 1 → Numbered gs last mover → Numbered (gs ++ g ∷ []) (last + 1) mover
pushed gs g last mover e n = record {
  below = λ i h q.
      ⊎_elim
      (λ r. let a = n.below i h r in omega (arith, a))
      (λ r. let same : h.num ≡ g.num = ap (λ (y : Ghost). y.num) r.1 in omega (arith, same, e))
      (get_pushed gs g h i q);
  distinct = pushed_distinct gs g last n.below (omega (arith, e)) n.distinct;
  ring = n.ring;
}

get_filtered : (p : Ghost → Bool) (gs : List Ghost) (i : ℕ) (h : Ghost) → slice_get (filter p gs) i ≡ Some h → (j : ℕ) × (slice_get gs j ≡ Some h)
get_filtered p [] i h e = cc
get_filtered p (g ∷ gs) i h e = by (p g) (λ k. get_filtered p gs k h) i e
  where
    by : (q : Bool) → ((k : ℕ) → slice_get (filter p gs) k ≡ Some h → (j : ℕ) × (slice_get gs j ≡ Some h)) → (i : ℕ) → slice_get (if q then g ∷ filter p gs else filter p gs) i ≡ Some h → (j : ℕ) × (slice_get (g ∷ gs) j ≡ Some h)
    by true rest zero f = (0, f)
    by true rest (suc i) f = let r = rest i f in (suc r.0, r.1)
    by false rest i f = let r = rest i f in (suc r.0, r.1)

filtered_distinct : (p : Ghost → Bool) (gs : List Ghost) → AreDistinct gs → AreDistinct (filter p gs)
filtered_distinct p [] d = tt
filtered_distinct p (g ∷ gs) d = by (p g) (filtered_distinct p gs d.1)
  where
    by : (q : Bool) → AreDistinct (filter p gs) → AreDistinct (if q then g ∷ filter p gs else filter p gs)
    by true rest = (λ i h e k. let r = get_filtered p gs i h e in d.0 r.0 h r.1 k, rest)
    by false rest = rest

pub filtered : (p : Ghost → Bool) (gs : List Ghost) (last : ℕ) (mover : Option JobId) → Numbered gs last mover → Numbered (filter p gs) last mover
filtered p gs last mover n = record { below = λ i h e. let r = get_filtered p gs i h e in n.below r.0 h r.1; distinct = filtered_distinct p gs n.distinct; ring = n.ring }

-- the first ghost is the only one of its number
pub first_only : (gs : List Ghost) (g : Ghost) → slice_get gs 0 ≡ Some g → AreDistinct gs → (i : ℕ) (h : Ghost) → slice_get gs i ≡ Some h → h.num ≡ g.num → h ≡ g
first_only [] g e d i h f q = cc
first_only (x ∷ gs) g e d zero h f q = let a : x ≡ g = cc in let b : x ≡ h = cc in sym b ∙ a
first_only (x ∷ gs) g e d (suc i) h f q = let a : x ≡ g = cc in absurd (d.0 i h f (q ∙ ap (λ (y : Ghost). y.num) (sym a)))

-- ---- each entry of a thread

abbrev pub NumberedState : State → Type 0
NumberedState s = Numbered s.core.ghosts s.last_ghost s.core.move_fence

-- a number that is drawn isn't 0
pub not_zero : (n : ℕ) → ((n + 1) == 0) ≡ false
not_zero n = grind (arith, nat_tests)

freed_numbered : (gs : List Ghost) (g : Ghost) (last : ℕ) (mover : Option JobId) (q : Bool) → q ≡ false → g.num ≡ last + 1 → Numbered gs last mover → Numbered (if q then gs else gs ++ g ∷ []) (if q then last else last + 1) mover
freed_numbered gs g last mover false e k n = pushed gs g last mover k n
freed_numbered gs g last mover true e k n = cc

pub numbers_keep : (script : Script) (s : State) (t : ℕ) (k : Kind) → NumberedState s → Told script s t k → NumberedState (applied script s (actor.Thread t) k)
numbers_keep script s t k n (still q) =
    subst (λ (c : Core). Numbered c.ghosts (applied script s (actor.Thread t) k).last_ghost c.move_fence) (sym (still_core script s t k q))
    (subst (λ last. Numbered s.core.ghosts last s.core.move_fence) (sym (still_ghosts script s t k q)) n)
numbers_keep script s t k n (leaves {b} there) = freed_numbered s.core.ghosts _ s.last_ghost s.core.move_fence ((s.last_ghost + 1) == 0) (not_zero s.last_ghost) refl n
numbers_keep script s t k n (moves_up {b} there m t') = pushed s.core.ghosts _ s.last_ghost s.core.move_fence refl n
numbers_keep script s t k n (moves_across {b} there m t') = pushed s.core.ghosts _ s.last_ghost s.core.move_fence refl n
numbers_keep script s t k n (moves_down {b} there m t' f) = pushed s.core.ghosts _ s.last_ghost s.core.move_fence refl n
numbers_keep script s t k n (evicts {b} there m t' f) = record { below = n.below; distinct = n.distinct; ring = λ i e. ring_of i e }
  where
    ring_of : {j : ℕ} (i : JobId) → Some (record { ctx = 0; num = j }) ≡ Some i → i.ctx ≡ 0
    ring_of {j} i e = let same : (record { ctx = 0; num = j }) ≡ i = cc in ap (λ (x : JobId). x.ctx) (sym same)
numbers_keep script s t k n told = n
