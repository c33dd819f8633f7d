-- The starts of the blocks of an order, and the block that is split from the smallest.
use Rattle.std.proofs.Common.{◌≡◌, ℕ, zero, suc, ◌+◌, ◌-◌, ◌*◌, ◌/◌, ◌^◌, ◌<◌, ◌≤◌, Bool, true, false, List, [], ◌∷◌, ◌++◌, Option, Some, None, length, take, drop, get_or, refl, ap, sym, subst, ◌∙◌, arith}
use Rattle.std.specs.Prelude.{filter_map, option_map, option_to_list, is_some, ◌&&◌}
use Rattle.std.proofs.lemmas.Grind.{common_steps}
use Rattle.std.proofs.lemmas.Bool.Decides.{nat_tests}
use Rattle.std.proofs.lemmas.List.{append-nil, get_or-reverse}
use Rattle.std.proofs.lemmas.List.Elements.{filter_map-append}
use Rattle.ttm_base.specs.declared.Span.{Span}
use Rattle.ttm_base.specs.Reach.{is_inside}
use Rattle.ttm_base.specs.ListWords.{least_by, count_from}
use Rattle.ttm_base.specs.BuddyChoice.{Candidate, block_around, candidate_of, first_candidate, free_order, is_free_block, log2}
use Rattle.state_words.proofs.ListSteps.{filter_map_more}
use Rattle.rules_choice.specs.Least.{best_with, has_key, lesser_by}
use Rattle.ttm_base.specs.BlockStarts.{candidate_at, starts_of}
use Rattle.rules_choice.proofs.FitLaws.{least_by-push}
use Rattle.rules_choice.proofs.OrderLaws.{free_order_suc, free_order_ends}

length-count_from : (step n start : ℕ) → length (count_from step n start) ≡ n
length-count_from step zero start = refl
length-count_from step (suc n) start = let e = length-count_from step n (step + start) in grind (arith, common_steps)

get_or-count_from : (step n start i d : ℕ) → i < n → get_or (count_from step n start) i d ≡ start + i * step
get_or-count_from step zero start i d h = absurd (omega arith)
get_or-count_from step (suc n) start zero d h = grind (arith, common_steps)
get_or-count_from step (suc n) start (suc i) d h = let e = get_or-count_from step n (step + start) i d (omega arith) in grind (arith, common_steps)

filter_map-parts : {X Y : Type 0} (f : X → Option Y) (xs : List X) (n : ℕ) → filter_map f xs ≡ filter_map f (take n xs) ++ filter_map f (drop n xs)
filter_map-parts f xs n =
    let joined : xs ≡ take n xs ++ drop n xs = grind (arith, common_steps) in
    ap (filter_map f) joined ∙ filter_map-append f (take n xs) (drop n xs)

pub length-starts_of : (topdown : Bool) (k size : ℕ) → length (starts_of topdown k size) ≡ size / 2 ^ k
length-starts_of true k size = let e = length-count_from (2 ^ k) (size / 2 ^ k) 0 in grind (arith, common_steps, e)
length-starts_of false k size = length-count_from (2 ^ k) (size / 2 ^ k) 0

pub lowest_first : (k size i : ℕ) → i < size / 2 ^ k → get_or (starts_of false k size) i 0 ≡ i * 2 ^ k
lowest_first k size i h = let e = get_or-count_from (2 ^ k) (size / 2 ^ k) 0 i 0 h in grind (arith, e)

pub highest_first : (k size i : ℕ) → i < size / 2 ^ k → get_or (starts_of true k size) i 0 ≡ (size / 2 ^ k - 1 - i) * 2 ^ k
highest_first k size i h =
    let len = length-count_from (2 ^ k) (size / 2 ^ k) 0 in
    let within : i < length (count_from (2 ^ k) (size / 2 ^ k) 0) = omega (arith, len) in
    let back = get_or-reverse (count_from (2 ^ k) (size / 2 ^ k) 0) i 0 within in
    let at = get_or-count_from (2 ^ k) (size / 2 ^ k) 0 (size / 2 ^ k - 1 - i) 0 (omega arith) in
    grind (arith, len, back, at)

-- the least of what a test gives, with one element more
pub least_more : {X Y : Type 0} (f : X → Option Y) (key : Y → ℕ) (xs : List X) (i : ℕ) (d : X) → i < length xs
    → least_by key (filter_map f (take (i + 1) xs))
    ≡ elim (f (get_or xs i d)) [
      | None ↦ least_by key (filter_map f (take i xs))
      | Some y ↦ Some (lesser_by key (least_by key (filter_map f (take i xs))) y)
    ]
least_more {X} {Y} f key xs i d h = ap (least_by key) (filter_map_more f xs i d h) ∙ one (f (get_or xs i d)) where
  one : (found : Option Y)
      → least_by key (filter_map f (take i xs) ++ option_to_list found)
      ≡ elim found [
        | None ↦ least_by key (filter_map f (take i xs))
        | Some y ↦ Some (lesser_by key (least_by key (filter_map f (take i xs))) y)
      ]
  one None = ap (least_by key) (append-nil (filter_map f (take i xs)))
  one (Some y) = least_by-push key (filter_map f (take i xs)) y

-- a loop that keeps the least so far
pub best_more : {X Y Z : Type 0} (view : Z → Y) (f : X → Option Y) (key : Y → ℕ) (xs : List X) (i : ℕ) (d : X) (best new : Option Z) → i < length xs
    → option_map view best ≡ least_by key (filter_map f (take i xs)) → option_map view new ≡ best_with key (option_map view best) (f (get_or xs i d))
    → option_map view new ≡ least_by key (filter_map f (take (i + 1) xs))
best_more view f key xs i d best new h before here =
    here ∙ ap (λ b. best_with key b (f (get_or xs i d))) before ∙ sym (least_more f key xs i d h)

-- ---- nothing is less than the bottom

module _ {X Y : Type 0} (f : X → Option Y) (key : Y → ℕ) (bottom : ℕ) (above : (x : X) (y : Y) → f x ≡ Some y → bottom ≤ key y) where
  stays : (ys : List Y) (y z : Y) → least_by key ys ≡ Some y → key y ≡ bottom → bottom ≤ key z → least_by key (ys ++ z ∷ []) ≡ Some y
  stays ys y z e k l =
      let pushed = least_by-push key ys z in
      let lesser : lesser_by key (Some y) z ≡ y = grind (arith, nat_tests) in
      pushed ∙ ap (λ b. Some (lesser_by key b z)) e ∙ ap Some lesser

  stays_behind : (xs : List X) (ys : List Y) (y : Y) → least_by key ys ≡ Some y → key y ≡ bottom → least_by key (ys ++ filter_map f xs) ≡ Some y
  stays_behind [] ys y e k = ap (least_by key) (append-nil ys) ∙ e
  stays_behind (x ∷ xs) ys y e k = by (f x) refl (λ zs h. stays_behind xs zs y h k)
    where
      by : (found : Option Y) → f x ≡ found → ((zs : List Y) → least_by key zs ≡ Some y → least_by key (zs ++ filter_map f xs) ≡ Some y)
          → least_by key (ys ++ filter_map f (x ∷ xs)) ≡ Some y
      by None n rest =
          let same : filter_map f (x ∷ xs) ≡ filter_map f xs = grind (arith, common_steps) in
          ap (λ zs. least_by key (ys ++ zs)) same ∙ rest ys e
      by (Some z) n rest =
          let one : filter_map f (x ∷ xs) ≡ z ∷ filter_map f xs = grind (arith, common_steps) in
          let joined : ys ++ z ∷ filter_map f xs ≡ (ys ++ z ∷ []) ++ filter_map f xs = grind (arith, common_steps) in
          ap (λ zs. least_by key (ys ++ zs)) one ∙ ap (least_by key) joined ∙ rest (ys ++ z ∷ []) (stays ys y z e k (above x z n))

  -- so one at the bottom is the least of all
  pub least_early : (xs : List X) (n : ℕ) (found : Option Y) → found ≡ least_by key (filter_map f (take n xs)) → has_key key bottom found ≡ true → found ≡ least_by key (filter_map f xs)
  least_early xs n None e k = cc
  least_early xs n (Some y) e k =
      let at : key y ≡ bottom = grind (arith, nat_tests) in
      let joined : filter_map f xs ≡ filter_map f (take n xs) ++ filter_map f (drop n xs) = filter_map-parts f xs n in
      sym (ap (least_by key) joined ∙ stays_behind (drop n xs) (filter_map f (take n xs)) y (sym e) at)

-- no block is split from one of a lesser order
pub free_order_above : (is_free : ℕ → Bool) (size page k left : ℕ) → k ≤ free_order is_free size page k left
free_order_above is_free size page k zero = omega arith
free_order_above is_free size page k (suc left) = by (is_free_block is_free size (block_around (k + 1) page)) refl (free_order_above is_free size page (k + 1) left)
  where
    by : (free : Bool) → is_free_block is_free size (block_around (k + 1) page) ≡ free → k + 1 ≤ free_order is_free size page (k + 1) left
        → k ≤ free_order is_free size page k (suc left)
    by true e next =
        let same = free_order_suc is_free size page k left e in
        omega (arith, next, same)
    by false e next = let same = free_order_ends is_free size page k (suc left) e in omega (arith, same)

pub candidate_above : (is_free : ℕ → Bool) (size : ℕ) (range : Span) (k start : ℕ) (c : Candidate) → candidate_at is_free size range k start ≡ Some c → k ≤ c.whole
candidate_above is_free size range k start c e = by (is_inside range (block_around k start) && is_free_block is_free size (block_around k start)) refl
  where
    by : (there : Bool) → (is_inside range (block_around k start) && is_free_block is_free size (block_around k start)) ≡ there → k ≤ c.whole
    by true t =
        let above = free_order_above is_free size (block_around k start).start k (log2 size) in
        let one : candidate_of is_free size k (block_around k start) ≡ c = grind (arith, common_steps) in
        subst (λ (x : Candidate). k ≤ x.whole) one above
    by false t = absurd (grind (arith, common_steps))

-- an order that has a candidate
found_first : (o other : Option Candidate) → is_some o ≡ true → elim o [ Some c ↦ Some c | None ↦ other ] ≡ o
found_first None other h = cc
found_first (Some c) other h = refl

pub first_candidate_here : (at : ℕ → Option Candidate) (k : ℕ) → 0 < k → is_some (at (k - 1)) ≡ true → first_candidate at k ≡ at (k - 1)
first_candidate_here at zero some h = absurd (omega arith)
first_candidate_here at (suc k) some h = let e : suc k - 1 ≡ k = omega arith in rw e (found_first (at k) (first_candidate at k) (rw e at h))
