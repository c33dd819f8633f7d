-- The parts of a memory manager in which nothing has been done.
use Rattle.std.proofs.Common.{◌≡◌, ℕ, zero, suc, true, List, [], ◌∷◌, None, refl, sym, ◌∙◌, ap, ap₂, length}
use Rattle.std.specs.Prelude.{map, replicate, slice_index_or}
use Rattle.std.specs.List.{list_all}
use Rattle.std.proofs.lemmas.List.{length-replicate}
use Rattle.fence_core.specs.Fences.{nothing_kept}
use Rattle.fence_core.specs.Histories.{set_of}
use Rattle.fence_core.specs.Timelines.{no_jobs}
use Rattle.copy_engine.specs.Pushes.{Pushed, ring_of}
use Rattle.laws.specs.law_state.GoodState.{last_number}
use Rattle.room_representation.specs.Fences.{fences_of, jobs_in, are_emitted, AreFences}
use Rattle.room_representation.specs.Lines.{IsTimeline}
use Rattle.room_representation.specs.RingJobs.{IsRing, AreRings}
use Rattle.room_representation.specs.MoveFences.{IsMoveFence}

at_alike : {X : Type 0} (n i : ℕ) (x : X) → slice_index_or (replicate n x) i x ≡ x
at_alike zero i x = refl
at_alike (suc n) zero x = refl
at_alike (suc n) (suc i) x = at_alike n i x

no_number : (n ctx : ℕ) → last_number (replicate n 0) ctx ≡ 0
no_number zero ctx = refl
no_number (suc n) zero = refl
no_number (suc n) (suc ctx) = no_number n ctx

-- no job was emitted
pub first_timeline : (n : ℕ) → IsTimeline [] (replicate n 0) (replicate n no_jobs)
first_timeline n =
    record {
      contexts = length-replicate n no_jobs ∙ sym (length-replicate n 0);
      each = λ ctx w. at_alike n ctx no_jobs ∙ ap (λ m. record { emitted = m; done = 0 }) (sym (no_number n ctx));
    }

-- each ring is empty
pub first_rings : (n : ℕ) → AreRings [] (replicate n 0) (replicate n [])
first_rings n =
    record {
      contexts = length-replicate n [] ∙ sym (length-replicate n 0);
      each = λ ctx w. empty (ring_of (replicate n []) ctx) (at_alike n ctx []);
    }
  where
    empty : (ps : List Pushed) → ps ≡ [] → IsRing [] (replicate n 0) [] ps
    empty [] e = tt
    empty (p ∷ ps) e = cc

dead_sets : {X : Type 0} (n : ℕ) (decls : List X) → map (λ d. replicate n nothing_kept) decls ≡ map (λ o. set_of (length {A = ℕ} (replicate n 0)) (fences_of o)) (map (λ d. None) decls)
dead_sets n [] = refl
dead_sets n (d ∷ decls) = ap₂ (λ m rest. replicate m nothing_kept ∷ rest) (sym (length-replicate n 0)) (dead_sets n decls)

dead_known : {X : Type 0} (n : ℕ) (decls : List X) → list_all (λ o. are_emitted (replicate n 0) (jobs_in (fences_of o))) (map (λ d. None) decls) ≡ true
dead_known n [] = refl
dead_known n (d ∷ decls) = dead_known n decls

-- all buffers are dead, and all sets empty
pub first_fences : {X : Type 0} (n : ℕ) (decls : List X) → AreFences (replicate n 0) (map (λ d. None) decls) (map (λ d. replicate n nothing_kept) decls)
first_fences n decls = record { sets_are = dead_sets n decls; known = dead_known n decls }

-- no job is the move fence
pub first_move : (last : List ℕ) → IsMoveFence last None None
first_move last = record { kept_is = refl; known = λ i e. cc }
