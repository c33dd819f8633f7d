-- Steps of the loop along a page table that gives slots back.
use Rattle.std.proofs.Common.{◌≡◌, ℕ, suc, ◌+◌, Bool, List, Option, Some, None, take, refl, sym, ◌∙◌, ap, ap₂, arith}
use Rattle.std.specs.Prelude.{filter_map, slice_get}
use Rattle.ttm_base.specs.declared.Loc.{Loc}
use Rattle.ttm_base.specs.declared.Loc.TheVariants as loc
use Rattle.swap_store.specs.Slots.{SwapSlots}
use Rattle.journal_model.specs.rules.Places.{slot_of}
use Rattle.room_representation.specs.lemma_bytes.GivenBack.{given, given_back}
use Rattle.room_representation.proofs.lemma_bytes.Walks.{passed, table_given}

module _ (see : Loc → Option ℕ) (pool : List Bool) (places : List Loc) (i : ℕ) (l : Loc) (at : slice_get places i ≡ Some l) where
  -- the next place
  next_is : i + 1 ≡ suc i
  next_is = omega arith

  -- a page that has a number gives it back
  pub given_next : (old : List Bool) (k : ℕ) → see l ≡ Some k → old ≡ given_back pool (filter_map see (take i places)) → given old k ≡ given_back pool (filter_map see (take (i + 1) places))
  given_next old k h e = ap (λ p. given p k) e ∙ table_given see pool places i l k at h ∙ ap (λ m. given_back pool (filter_map see (take m places))) (sym next_is)

  -- a page that has none leaves all as it is
  pub passed_next : (old : List Bool) → see l ≡ None → old ≡ given_back pool (filter_map see (take i places)) → old ≡ given_back pool (filter_map see (take (i + 1) places))
  passed_next old h e = e ∙ ap (given_back pool) (sym (passed see places i l at h)) ∙ ap (λ m. given_back pool (filter_map see (take m places))) (sym next_is)

-- a page without a slot
pub no_slot : (l : Loc) → ((k : ℕ) → l ≡ loc.Slot k → ⊥) → slot_of l ≡ None
no_slot (loc.Frame f) h = refl
no_slot (loc.Slot k) h = absurd (h k refl)
no_slot loc.Zero h = refl

-- a swap store with the slots of a table's front given back
abbrev pub dropped : SwapSlots → List Loc → SwapSlots
dropped swap places = record { held = given_back swap.held (filter_map slot_of places); bytes = swap.bytes }

module _ (swap : SwapSlots) (places : List Loc) (i : ℕ) (l : Loc) (at : slice_get places i ≡ Some l) (old : SwapSlots) (is : old ≡ dropped swap (take i places)) where
  -- a page that has a slot gives it back
  pub dropped_next : (k : ℕ) → slot_of l ≡ Some k → record { held = given old.held k; bytes = old.bytes } ≡ dropped swap (take (i + 1) places)
  dropped_next k h =
      ap₂ (λ held bytes. let y : SwapSlots = record { held = held; bytes = bytes } in y)
      (given_next slot_of swap.held places i l at old.held k h (ap (λ (x : SwapSlots). x.held) is)) (ap (λ (x : SwapSlots). x.bytes) is)

  -- a page that has none leaves all as it is
  pub dropped_passed : slot_of l ≡ None → old ≡ dropped swap (take (i + 1) places)
  dropped_passed h =
      is ∙ ap (λ held. let y : SwapSlots = record { held = held; bytes = swap.bytes } in y) (passed_next slot_of swap.held places i l at (given_back swap.held (filter_map slot_of (take i places))) h refl)
