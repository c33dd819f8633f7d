-- Blocks by the largest free blocks around them.
use Rattle.std.proofs.Common.{◌≡◌, ℕ, zero, suc, ◌+◌, ◌-◌, ◌*◌, ◌/◌, ◌^◌, ◌<◌, ◌≤◌, ◌&&◌, inl, inr, Bool, true, false, Some, None, refl, ap, sym, ◌∙◌, subst, arith, if◌then◌else◌, mul-div_cancel}
use Rattle.std.proofs.lemmas.Bool.{and_parts, and_from, cases_lt, false_from_ne_true, both_ways}
use Rattle.ttm_base.specs.declared.Span.{Span}
use Rattle.ttm_base.specs.Reach.{is_inside}
use Rattle.ttm_base.specs.BuddyChoice.{Candidate, block_around, is_free_block, log2, free_order, candidate_of}
use Rattle.ttm_base.specs.BlockStarts.{candidate_at}
use Rattle.ttm_base.proofs.OrderLaws.{log2_from, log2_is_log}
use Rattle.block_tree.specs.Searching.{numbered}
use Rattle.block_tree.specs.Pieces.{IsWhole, IsPiece}
use Rattle.block_tree.proofs.Numbers.{some_pages, small_pow, block_pages, in_block}
use Rattle.block_tree.proofs.FreeLaws.{free_from, free_parts, smaller_free, order_up, order_ends, order_is, candidate_from, around_number}

-- ---- the largest free block around a page

-- a block that is larger than all pages isn't free
pub too_large : (f : ℕ → Bool) (size k p : ℕ) → size < 2 ^ k → is_free_block f size (block_around k p) ≡ false
too_large f size k p h = false_from_ne_true (is_free_block f size (block_around k p)) (λ t. let e = (free_parts f size k p t).end in omega (arith, h, e))

pub next_order : (f : ℕ → Bool) (size j p : ℕ) (t : Bool) → is_free_block f size (block_around (suc j) p) ≡ t → is_free_block f size (block_around (j + 1) p) ≡ t
next_order f size j p t h = let s : suc j ≡ j + 1 = omega arith in subst (λ m. is_free_block f size (block_around m p) ≡ t) s h

order_free : (f : ℕ → Bool) (size p k fuel : ℕ) → is_free_block f size (block_around k p) ≡ true → (k ≤ free_order f size p k fuel) × (is_free_block f size (block_around (free_order f size p k fuel) p) ≡ true)
order_free f size p k zero h = (omega arith, h)
order_free f size p k (suc fuel) h = by (is_free_block f size (block_around (k + 1) p)) refl (λ e. order_free f size p (k + 1) fuel e) where
  by : (t : Bool) → is_free_block f size (block_around (k + 1) p) ≡ t
      → (is_free_block f size (block_around (k + 1) p) ≡ true → (k + 1 ≤ free_order f size p (k + 1) fuel) × (is_free_block f size (block_around (free_order f size p (k + 1) fuel) p) ≡ true))
      → (k ≤ free_order f size p k (suc fuel)) × (is_free_block f size (block_around (free_order f size p k (suc fuel)) p) ≡ true)
  by true e up =
      let u = order_up f size p k fuel e in
      let l = (up e).0 in
      (omega (arith, u, l), subst (λ n. is_free_block f size (block_around n p) ≡ true) (sym u) (up e).1)
  by false e up =
      let u = order_ends f size p k (suc fuel) e in
      (omega (arith, u), subst (λ n. is_free_block f size (block_around n p) ≡ true) (sym u) h)

order_stops : (f : ℕ → Bool) (size p k fuel : ℕ) → size < 2 ^ (k + fuel + 1) → is_free_block f size (block_around (free_order f size p k fuel + 1) p) ≡ false
order_stops f size p k zero h = too_large f size (k + 1) p (let e : k + 0 + 1 ≡ k + 1 = omega arith in subst (λ n. size < 2 ^ n) e h)
order_stops f size p k (suc fuel) h =
    let s : k + suc fuel + 1 ≡ k + 1 + fuel + 1 = omega arith in
    by (is_free_block f size (block_around (k + 1) p)) refl (order_stops f size p (k + 1) fuel (subst (λ n. size < 2 ^ n) s h))
  where
    by : (t : Bool) → is_free_block f size (block_around (k + 1) p) ≡ t → is_free_block f size (block_around (free_order f size p (k + 1) fuel + 1) p) ≡ false
        → is_free_block f size (block_around (free_order f size p k (suc fuel) + 1) p) ≡ false
    by true e up = subst (λ n. is_free_block f size (block_around (n + 1) p) ≡ false) (sym (order_up f size p k fuel e)) up
    by false e up = subst (λ n. is_free_block f size (block_around (n + 1) p) ≡ false) (sym (order_ends f size p k (suc fuel) e)) e

-- the largest free block around a free block
pub record HasWhole (f : ℕ → Bool) (size k p j : ℕ) : Type 0 where
  pub order : k ≤ j
  pub whole : IsWhole f size j p

pub largest_from : (f : ℕ → Bool) (size k p : ℕ) → is_free_block f size (block_around k p) ≡ true → HasWhole f size k p (free_order f size p k (log2 size))
largest_from f size k p h =
    let e = (free_parts f size k p h).end in
    let s = some_pages k in
    let l = (log2_is_log size (omega (arith, e, s))).high in
    let m : 2 ^ suc (log2 size) ≤ 2 ^ (k + log2 size + 1) = small_pow (suc (log2 size)) (k + log2 size + 1) (omega arith) in
    let r = order_free f size p k (log2 size) h in
    record { order = r.0; whole = record { free = r.1; largest = order_stops f size p k (log2 size) (omega (arith, l, m)) } }

-- a block is free where its pages are
pub same_block : (f g : ℕ → Bool) (size k p : ℕ) → ((page : ℕ) → page < size → f page ≡ g page) → is_free_block f size (block_around k p) ≡ true → is_free_block g size (block_around k p) ≡ true
same_block f g size k p h t =
    let a = free_parts f size k p t in
    let e = a.end in
    free_from g size k p e (λ x i. let u = (block_pages x k (p / 2 ^ k) i).1 in sym (h x (omega (arith, u, e))) ∙ a.free x i)

-- there is one such order
pub one_whole : (f : ℕ → Bool) (size i j p : ℕ) → IsWhole f size i p → IsWhole f size j p → i ≡ j
one_whole f size i j p a b =
    elim (cases_lt i j) [
      | inl l ↦ absurd (both_ways (is_free_block f size (block_around (i + 1) p)) a.largest (smaller_free f size (i + 1) j p (omega (arith, l)) b.free))
      | inr l ↦ elim (cases_lt j i) [
        | inl m ↦ absurd (both_ways (is_free_block f size (block_around (j + 1) p)) b.largest (smaller_free f size (j + 1) i p (omega (arith, m)) a.free))
        | inr m ↦ omega (arith, l, m)
      ]
    ]

-- ---- blocks that would be split

pub piece_block : (f : ℕ → Bool) (size : ℕ) (range : Span) (k j i : ℕ) → IsPiece f size range k j i → is_free_block f size (block_around k (i * 2 ^ k)) ≡ true
piece_block f size range k j i h = smaller_free f size k j (i * 2 ^ k) h.order h.whole.free

pub piece_within : (f : ℕ → Bool) (size : ℕ) (range : Span) (k j i : ℕ) → IsPiece f size range k j i → i * 2 ^ k + 2 ^ k ≤ size
piece_within f size range k j i h =
    subst (λ n. n * 2 ^ k + 2 ^ k ≤ size) (mul-div_cancel i (some_pages k)) (free_parts f size k (i * 2 ^ k) (piece_block f size range k j i h)).end

pub piece_free : (f : ℕ → Bool) (size : ℕ) (range : Span) (k j i page : ℕ) → IsPiece f size range k j i → i * 2 ^ k ≤ page → page < i * 2 ^ k + 2 ^ k → f page ≡ true
piece_free f size range k j i page h l u =
    (free_parts f size k (i * 2 ^ k) (piece_block f size range k j i h)).free page (in_block page k i l u ∙ sym (mul-div_cancel i (some_pages k)))

-- a free block inside the range is one
pub piece_around : (f : ℕ → Bool) (size : ℕ) (range : Span) (k i : ℕ) → is_inside range (numbered k i) ≡ true → is_free_block f size (block_around k (i * 2 ^ k)) ≡ true
    → IsPiece f size range k (free_order f size (i * 2 ^ k) k (log2 size)) i
piece_around f size range k i inside h = let l = largest_from f size k (i * 2 ^ k) h in record { order = l.order; inside = inside; whole = l.whole }

-- ---- as candidates

kept_if : (t : Bool) (x c : Candidate) → (if t then Some x else None) ≡ Some c → (t ≡ true) × (x ≡ c)
kept_if true x c h = (refl, let e : x ≡ c = cc in e)
kept_if false x c h = absurd cc

pub candidate_piece : (f : ℕ → Bool) (size : ℕ) (range : Span) (k i : ℕ) (c : Candidate) → candidate_at f size range k (i * 2 ^ k) ≡ Some c → IsPiece f size range k c.whole i
candidate_piece f size range k i c h =
    let b : Span = numbered k i in
    let at = kept_if (is_inside range b && is_free_block f size b) (candidate_of f size k b) c
    (sym (ap (λ b. if is_inside range b && is_free_block f size b then Some (candidate_of f size k b) else None) (around_number k i)) ∙ h) in
    let p = and_parts (is_inside range b) (is_free_block f size b) at.0 in
    subst (λ (c : Candidate). IsPiece f size range k c.whole i) at.1
    (piece_around f size range k i p.0 (subst (λ c. is_free_block f size c ≡ true) (sym (around_number k i)) p.1))

pub piece_candidate : (f : ℕ → Bool) (size : ℕ) (range : Span) (k j i : ℕ) → IsPiece f size range k j i → candidate_at f size range k (i * 2 ^ k) ≡ Some (candidate_from k i j)
piece_candidate f size range k j i h =
    let b : Span = numbered k i in
    let free : is_free_block f size b ≡ true = subst (λ c. is_free_block f size c ≡ true) (around_number k i) (piece_block f size range k j i h) in
    let w = (free_parts f size j (i * 2 ^ k) h.whole.free).end in
    let small = log2_from size j (omega (arith, w)) in
    let large = h.order in
    let order : free_order f size (i * 2 ^ k) k (log2 size) ≡ j = order_is f size (i * 2 ^ k) j (j - k) k (log2 size) (omega (arith, large)) (omega (arith, small)) h.whole.free h.whole.largest in
    ap (λ b. if is_inside range b && is_free_block f size b then Some (candidate_of f size k b) else None) (around_number k i)
    ∙ ap (λ t. if t then Some (candidate_of f size k b) else None) (and_from (is_inside range b) (is_free_block f size b) h.inside free)
    ∙ ap (λ w. Some (let c : Candidate = record { block = b; whole = w } in c)) order
