-- A manager of which nothing was taken yet.
use Rattle.std.proofs.Common.{◌≡◌, ℕ, zero, suc, List, [], ◌∷◌, Option, None, refl, sym, ap}
use Rattle.std.specs.Prelude.{map, option_map, option_and_then, slice_get, unwrap_or}
use Rattle.ttm_base.specs.declared.Mem.{Mem}
use Rattle.ttm_base.specs.declared.JobId.{JobId}
use Rattle.ttm_base.specs.declared.Owner.{Owner}
use Rattle.ttm_base.specs.declared.Owner.TheVariants as owner
use Rattle.ttm_base.specs.declared.Span.{Span}
use Rattle.journal_model.specs.declared.state.Buffer.{Buffer}
use Rattle.resource_core.specs.Resources.{some_spans}
use Rattle.room_representation.specs.lemma_spans.Owned.{owned, HoldsAsOwned}

all_dead : {X : Type 0} (g : Buffer → List Span) (decls : List X) (i : ℕ) → unwrap_or (option_map g (option_and_then (λ (x : Option Buffer). x) (slice_get (map (λ d. None) decls) i))) [] ≡ []
all_dead g [] i = refl
all_dead g (d ∷ decls) zero = refl
all_dead g (d ∷ decls) (suc i) = all_dead g decls i

-- all buffers are dead, and there is no ghost: nobody holds anything
pub first_spans : {X : Type 0} (size : ℕ) (mine : Mem) (decls : List X) (fence : Option JobId) → HoldsAsOwned size mine (map (λ d. None) decls) [] (record { size = size; held = []; move_fence = fence })
first_spans size mine decls fence = record { size_is = refl; owners = tt; each = λ o. at o }
  where
    none : (o : Owner) → owned mine (map (λ d. None) decls) [] o ≡ []
    none (owner.Live b) = all_dead _ decls b.0
    none (owner.Target b) = all_dead _ decls b.0
    none (owner.Ghost g) = refl

    at : (o : Owner) → ◌≡◌ {A = Option (List Span)} None (some_spans (owned mine (map (λ d. None) decls) [] o))
    at o = ap some_spans (sym (none o))
