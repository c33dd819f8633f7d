-- The lowest free frame and slot: the first free number of the pool and of the swap store is that of the state.
use Rattle.std.proofs.Common.{◌≡◌, ℕ, zero, suc, ◌+◌, ◌<◌, Bool, true, false, not, List, Some, None, refl, sym, subst, ◌∙◌, ap, arith}
use Rattle.std.specs.Prelude.{find, position, slice_get, if◌then◌else◌}
use Rattle.ttm_base.specs.ListWords.{count_from}
use Rattle.ttm_base.specs.Pages.{PageBytes}
use Rattle.free_map.proofs.FoundLaws.{lowest_found}
use Rattle.journal_model.specs.declared.script.Script.{Script}
use Rattle.journal_model.specs.declared.state.Core.{Core}
use Rattle.journal_model.specs.rules.Holds.{free_frame, free_slot, has_number, held_frames, held_slots, lowest_free}
use Rattle.swap_store.specs.Slots.{SwapSlots}
use Rattle.room_representation.specs.Pages.{ArePooled, AreSlots, marks}
use Rattle.room_representation.proofs.lemma_bytes.Marks.{length-marks, mark_at}

-- the first number without a mark is the lowest that isn't held
pub lowest_mark : (held : List ℕ) (size : ℕ) → position not (marks held size) ≡ lowest_free held size
lowest_mark held size =
    lowest_found (marks held size) (has_number held) (λ n lt. mark_at (has_number held) size n (subst (λ m. n < m) (length-marks held size) lt))
    ∙ ap (λ m. find (λ n. not (has_number held n)) (count_from 1 m 0)) (length-marks held size)

-- the pool's first free frame
pub pool_first : (script : Script) (c : Core) (pool : List Bool) → ArePooled script.sizes.frames (held_frames c) pool → position not pool ≡ free_frame script c
pool_first script c pool representation = ap (position not) representation.held_are ∙ lowest_mark (held_frames c) script.sizes.frames

-- the swap store's first free slot
pub slot_first : (script : Script) (c : Core) (bytes : PageBytes) (swap : SwapSlots) → AreSlots script.sizes.swap (held_slots c) bytes swap → position not swap.held ≡ free_slot script c
slot_first script c bytes swap representation = ap (position not) representation.held_are ∙ lowest_mark (held_slots c) script.sizes.swap

-- ---- what the lowest free number is

module _ (held : List ℕ) where
  found_free : (n start k : ℕ) → find (λ m. not (has_number held m)) (count_from 1 n start) ≡ Some k → (has_number held k ≡ false) × (k < start + n)
  found_free zero start k e = cc
  found_free (suc n) start k e = by (has_number held start) refl e (found_free n (1 + start) k)
    where
      by : (q : Bool) → has_number held start ≡ q → (if not q then Some start else find (λ m. not (has_number held m)) (count_from 1 n (1 + start))) ≡ Some k
          → (find (λ m. not (has_number held m)) (count_from 1 n (1 + start)) ≡ Some k → (has_number held k ≡ false) × (k < 1 + start + n)) → (has_number held k ≡ false) × (k < start + suc n)
      by true h g rest = let r = rest g in let l = r.1 in (r.0, omega (arith, l))
      by false h g rest = let same : start ≡ k = cc in (ap (has_number held) (sym same) ∙ h, omega (arith, same))

  found_none : (n start k : ℕ) → find (λ m. not (has_number held m)) (count_from 1 n start) ≡ None → k < n → has_number held (start + k) ≡ true
  found_none zero start k e h = absurd (omega (arith, h))
  found_none (suc n) start k e h = by (has_number held start) refl e (found_none n (1 + start))
    where
      by : (q : Bool) → has_number held start ≡ q → (if not q then Some start else find (λ m. not (has_number held m)) (count_from 1 n (1 + start))) ≡ None
          → ((j : ℕ) → find (λ m. not (has_number held m)) (count_from 1 n (1 + start)) ≡ None → j < n → has_number held (1 + start + j) ≡ true) → has_number held (start + k) ≡ true
      by false q g rest = cc
      by true q g rest = at k h
        where
          at : (j : ℕ) → j < suc n → has_number held (start + j) ≡ true
          at zero l = ap (has_number held) (let e : start + 0 ≡ start = omega arith in e) ∙ q
          at (suc j) l = ap (has_number held) (let e : start + suc j ≡ 1 + start + j = omega arith in e) ∙ rest j g (omega (arith, l))

  all_held : (n start : ℕ) → ((k : ℕ) → k < start + n → has_number held k ≡ true) → find (λ m. not (has_number held m)) (count_from 1 n start) ≡ None
  all_held zero start h = refl
  all_held (suc n) start h =
      ap (λ q. if not q then Some start else find (λ m. not (has_number held m)) (count_from 1 n (1 + start))) (h start (omega arith))
      ∙ all_held n (1 + start) (λ k l. h k (omega (arith, l)))

  -- nobody holds it, and it is below the size
  pub lowest_is_unheld : (size k : ℕ) → lowest_free held size ≡ Some k → (has_number held k ≡ false) × (k < size)
  lowest_is_unheld size k e = let r = found_free size 0 k e in let l = r.1 in (r.0, omega (arith, l))

  -- where there is none, all are held
  pub none_free : (size k : ℕ) → lowest_free held size ≡ None → k < size → slice_get (marks held size) k ≡ Some true
  none_free size k e h =
      mark_at (has_number held) size k h ∙ ap (λ b. Some b) (ap (has_number held) (let z : k ≡ 0 + k = omega arith in z) ∙ found_none size 0 k e h)

  -- where all are held, there is none
  pub free_none : (size : ℕ) → ((k : ℕ) → k < size → has_number held k ≡ true) → lowest_free held size ≡ None
  free_none size h = all_held size 0 (λ k l. h k (omega (arith, l)))
