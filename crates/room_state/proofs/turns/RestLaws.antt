-- What is left of a walk, step by step.
use Rattle.std.proofs.Common.{◌≡◌, ℕ, suc, ◌+◌, ◌-◌, ◌*◌, ◌<◌, Bool, true, false, List, [], ◌∷◌, ◌++◌, Option, Some, None, IsSome, refl, sym, ◌∙◌, ap, arith, length, take, drop-cons}
use Rattle.std.specs.Prelude.{find, flat_map, is_some, slice_get, if◌then◌else◌}
use Rattle.std.specs.Option.{option_or}
use Rattle.std.proofs.lemmas.List.Folds.{find-append}
use Rattle.std.specs.List.{IsDistinct}
use Rattle.ttm_base.specs.declared.BufId.{BufId}
use Rattle.ttm_base.specs.declared.Mem.{Mem}
use Rattle.ttm_base.specs.declared.Mem.TheVariants.{System, Tt, Vram}
use Rattle.ttm_base.specs.Reach.{mem_number}
use Rattle.lru_bulk.specs.Lists.{Order, list_at, list_as, list_of, list_number, listing_of, behind}
use Rattle.lru_bulk.specs.Members.{same_buffer, times_in, IsListedFor, AreMembersListed}
use Rattle.room_state.specs.turns.Rests.{joined, left_from}
use Rattle.room_state.proofs.turns.ListLaws.{from_first, Walked, walked, of_first, of_behind, counted_on}

-- a list with one element more is longer
pub one_longer : {X : Type 0} (xs ys : List X) (x : X) → xs ≡ x ∷ ys → length ys < length xs
one_longer xs ys x h = let e = ap length h in omega (arith, e)

-- ---- lists one after the other

number_low : (mem : Mem) (prio : ℕ) → prio < 4 → list_number mem prio < 12
number_low System prio h = omega arith
number_low Tt prio h = omega arith
number_low Vram prio h = omega arith

module _ (p : BufId → Bool) (mem : Mem) (lists : List (List BufId)) (twelve : length lists ≡ 12) (prio : ℕ) (low : prio < 4) where
  -- the lists from that of a priority on
  joined_at : joined (4 - prio) (4 * mem_number mem + prio) lists ≡ list_at lists (list_number mem prio) ++ joined (4 - (prio + 1)) (4 * mem_number mem + (prio + 1)) lists
  joined_at =
      let here : list_number mem prio < length lists = omega (arith, number_low mem prio low, twelve) in
      let count : 4 - prio ≡ suc (4 - (prio + 1)) = omega arith in
      let first : 4 * mem_number mem + prio ≡ list_number mem prio = omega arith in
      let next : suc (list_number mem prio) ≡ 4 * mem_number mem + (prio + 1) = omega arith in
      ap (λ n. joined n (4 * mem_number mem + prio) lists) count
      ∙ ap (λ n. joined (suc (4 - (prio + 1))) n lists) first
      ∙ ap (λ ls. flat_map (λ (l : List BufId). l) (take (suc (4 - (prio + 1))) ls)) (drop-cons lists (list_number mem prio) [] here)
      ∙ ap (λ n. list_at lists (list_number mem prio) ++ joined (4 - (prio + 1)) n lists) next

  -- what is found on the list of the priority is the first
  pub found_here : (o : Option BufId) → o ≡ find p (list_at lists (list_number mem prio)) → is_some o ≡ true → o ≡ find p (joined (4 - prio) (4 * mem_number mem + prio) lists)
  found_here (Some b) e h =
      ap (λ q. option_or q (find p (joined (4 - (prio + 1)) (4 * mem_number mem + (prio + 1)) lists))) e
      ∙ sym (find-append p (list_at lists (list_number mem prio)) (joined (4 - (prio + 1)) (4 * mem_number mem + (prio + 1)) lists)) ∙ ap (find p) (sym joined_at)
  found_here None e h = cc

  -- where nothing is found there, the lists behind it are left
  pub found_behind : (o : Option BufId) → o ≡ find p (list_at lists (list_number mem prio)) → is_some o ≡ false
      → find p (joined (4 - (prio + 1)) (4 * mem_number mem + (prio + 1)) lists) ≡ find p (joined (4 - prio) (4 * mem_number mem + prio) lists)
  found_behind None e h =
      ap (λ q. option_or q (find p (joined (4 - (prio + 1)) (4 * mem_number mem + (prio + 1)) lists))) e
      ∙ sym (find-append p (list_at lists (list_number mem prio)) (joined (4 - (prio + 1)) (4 * mem_number mem + (prio + 1)) lists)) ∙ ap (find p) (sym joined_at)
  found_behind (Some b) e h = cc

-- ---- along a list

-- what the LRU says of its lists
pub record AreSound (o : Order) : Type 0 where
  pub listed : AreMembersListed o
  pub once : (b : BufId) → IsSome (listing_of o b) → times_in b (list_of o b) ≡ 1
  pub distinct : (i : ℕ) → IsDistinct same_buffer (list_at o.lists i)

-- the buffer at which a walk along list number `i` is, if there is one, stands on it
abbrev pub IsOn : Order → ℕ → Option BufId → Type 0
IsOn o i at = (b : BufId) → at ≡ Some b → IsListedFor o i b

module _ (o : Order) (i : ℕ) (sound : AreSound o) where
  pub first_left : (at : Option BufId) → at ≡ slice_get (list_at o.lists i) 0 → left_from at (list_at o.lists i) ≡ list_at o.lists i
  first_left at e = ap (λ q. left_from q (list_at o.lists i)) e ∙ from_first (list_at o.lists i)

  pub first_on : (at : Option BufId) → at ≡ slice_get (list_at o.lists i) 0 → IsOn o i at
  first_on at e = λ b q. of_first (IsListedFor o i) b (list_at o.lists i) (sound.listed i) (sym e ∙ q)

  module _ (b : BufId) (is : IsListedFor o i b) where
    pub next_asks : IsSome (listing_of o b)
    next_asks = rw is.listed refl

    own_list : list_of o b ≡ list_at o.lists i
    own_list = ap (list_as o) is.listed ∙ ap (list_at o.lists) is.number

    way : Walked b (list_at o.lists i)
    way =
        let one : times_in b (list_at o.lists i) ≡ 1 = sym (ap (times_in b) own_list) ∙ sound.once b next_asks in
        walked b (list_at o.lists i) (sound.distinct i) (counted_on b (list_at o.lists i) (omega (arith, one)))

    module _ (next : Option BufId) (goes : next ≡ behind b (list_of o b)) where
      -- the buffer at hand, and what is left from the one after it on
      pub next_left : left_from (Some b) (list_at o.lists i) ≡ b ∷ left_from next (list_at o.lists i)
      next_left = way.here ∙ ap (λ l. b ∷ l) (sym way.next ∙ ap (λ q. left_from q (list_at o.lists i)) (ap (behind b) (sym own_list) ∙ sym goes))

      pub next_on : IsOn o i next
      next_on = λ d q. of_behind (IsListedFor o i) b d (list_at o.lists i) (sound.listed i) (ap (behind b) (sym own_list) ∙ sym goes ∙ q)

-- ---- the first of what is left that passes a test

module _ {X : Type 0} (p : X → Bool) (left rest : List X) (x : X) (goes : left ≡ x ∷ rest) where
  pub find_here : p x ≡ true → find p left ≡ Some x
  find_here h = ap (find p) goes ∙ by (p x) h
    where
      by : (q : Bool) → q ≡ true → (if q then Some x else find p rest) ≡ Some x
      by true e = refl
      by false e = cc

  pub find_past : p x ≡ false → find p rest ≡ find p left
  find_past h = sym (ap (find p) goes ∙ by (p x) h)
    where
      by : (q : Bool) → q ≡ false → (if q then Some x else find p rest) ≡ find p rest
      by false e = refl
      by true e = cc
