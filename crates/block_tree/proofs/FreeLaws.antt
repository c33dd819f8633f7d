-- The free blocks of the choice.
use Rattle.std.proofs.Common.{◌≡◌, ℕ, zero, suc, ◌+◌, ◌-◌, ◌*◌, ◌/◌, ◌^◌, ◌<◌, ◌≤◌, inl, inr, Bool, true, false, refl, ap, sym, ◌∙◌, subst, arith, nat_le, mul-div_cancel}
use Rattle.std.specs.List.{list_all}
use Rattle.std.proofs.lemmas.Bool.{and_parts, and_from, leb-true, le-leb, cases_eq}
use Rattle.ttm_base.specs.declared.Span.{Span}
use Rattle.ttm_base.specs.ListWords.{count_from}
use Rattle.ttm_base.specs.BuddyChoice.{Candidate, block_around, is_free_block, free_order}
use Rattle.block_tree.specs.Searching.{numbered}
use Rattle.block_tree.proofs.Numbers.{some_pages, block_pages, block_end, in_block, same_at}

-- ---- tests of all pages

all_true : (test : ℕ → Bool) (n start : ℕ) → ((x : ℕ) → start ≤ x → x < start + n → test x ≡ true) → list_all test (count_from 1 n start) ≡ true
all_true test zero start h = refl
all_true test (suc n) start h = and_from (test start) (list_all test (count_from 1 n (1 + start))) (h start (omega arith) (omega arith)) (all_true test n (1 + start) (λ x l u. h x (omega arith) (omega arith)))

each_true : (test : ℕ → Bool) (n start : ℕ) → list_all test (count_from 1 n start) ≡ true → (x : ℕ) → start ≤ x → x < start + n → test x ≡ true
each_true test zero start h x l u = absurd (omega arith)
each_true test (suc n) start h x l u =
    let p = and_parts (test start) (list_all test (count_from 1 n (1 + start))) h in
    elim (cases_eq x start) [
      | inl e ↦ subst (λ y. test y ≡ true) (sym e) p.0
      | inr ne ↦ each_true test n (1 + start) p.1 x (omega arith) (omega arith)
    ]

pub free_from : (f : ℕ → Bool) (size k p : ℕ) → p / 2 ^ k * 2 ^ k + 2 ^ k ≤ size → ((x : ℕ) → x / 2 ^ k ≡ p / 2 ^ k → f x ≡ true) → is_free_block f size (block_around k p) ≡ true
free_from f size k p e h =
    let start : ℕ = p / 2 ^ k * 2 ^ k in
    and_from (nat_le (start + 2 ^ k) size) (list_all f (count_from 1 (start + 2 ^ k - start) start)) (le-leb (start + 2 ^ k) size e)
    (all_true f (start + 2 ^ k - start) start (λ x l u. h x (in_block x k (p / 2 ^ k) l (omega arith))))

pub record AreFree (f : ℕ → Bool) (size k p : ℕ) : Type 0 where
  pub end : p / 2 ^ k * 2 ^ k + 2 ^ k ≤ size
  pub free : (x : ℕ) → x / 2 ^ k ≡ p / 2 ^ k → f x ≡ true

pub free_parts : (f : ℕ → Bool) (size k p : ℕ) → is_free_block f size (block_around k p) ≡ true → AreFree f size k p
free_parts f size k p h =
    let start : ℕ = p / 2 ^ k * 2 ^ k in
    let a = and_parts (nat_le (start + 2 ^ k) size) (list_all f (count_from 1 (start + 2 ^ k - start) start)) h in
    record {
      end = leb-true (start + 2 ^ k) size a.0;
      free = λ x e. let b = block_pages x k (p / 2 ^ k) e in each_true f (start + 2 ^ k - start) start a.1 x b.0 (let u = b.1 in omega (arith, u));
    }

-- the blocks inside a free block are free
own_start : (p k : ℕ) → (p / 2 ^ k * 2 ^ k) / 2 ^ k ≡ p / 2 ^ k
own_start p k = mul-div_cancel (p / 2 ^ k) (some_pages k)

pub smaller_free : (f : ℕ → Bool) (size i j p : ℕ) → i ≤ j → is_free_block f size (block_around j p) ≡ true → is_free_block f size (block_around i p) ≡ true
smaller_free f size i j p h t =
    let a = free_parts f size j p t in
    let e = block_end (p / 2 ^ i) i j (p / 2 ^ j) h (same_at (p / 2 ^ i * 2 ^ i) p i j h (own_start p i)) in
    free_from f size i p (let z = a.end in omega (arith, e, z)) (λ x s. a.free x (same_at x p i j h s))

-- ---- the order of the largest free block around a page

pub order_up : (f : ℕ → Bool) (size p k fuel : ℕ) → is_free_block f size (block_around (k + 1) p) ≡ true → free_order f size p k (suc fuel) ≡ free_order f size p (k + 1) fuel
order_up f size p k fuel h = rw (h, free_order) refl

pub order_ends : (f : ℕ → Bool) (size p k fuel : ℕ) → is_free_block f size (block_around (k + 1) p) ≡ false → free_order f size p k fuel ≡ k
order_ends f size p k zero h = refl
order_ends f size p k (suc fuel) h = rw (h, free_order) refl

pub order_is : (f : ℕ → Bool) (size p j d k fuel : ℕ) → k + d ≡ j → d ≤ fuel → is_free_block f size (block_around j p) ≡ true → is_free_block f size (block_around (j + 1) p) ≡ false → free_order f size p k fuel ≡ j
order_is f size p j zero k fuel e l t n =
    let s : k ≡ j = omega arith in
    order_ends f size p k fuel (subst (λ m. is_free_block f size (block_around (m + 1) p) ≡ false) (sym s) n) ∙ s
order_is f size p j (suc d) k zero e l t n = absurd (omega arith)
order_is f size p j (suc d) k (suc fuel) e l t n =
    order_up f size p k fuel (smaller_free f size (k + 1) j p (omega arith) t) ∙ order_is f size p j d (k + 1) fuel (omega arith) (omega arith) t n

-- ---- candidates

abbrev pub candidate_from : ℕ → ℕ → ℕ → Candidate
candidate_from k i w = record { block = numbered k i; whole = w }

pub around_number : (k i : ℕ) → block_around k (i * 2 ^ k) ≡ numbered k i
around_number k i = ap (λ n. let s : Span = record { start = n * 2 ^ k; end = n * 2 ^ k + 2 ^ k } in s) (mul-div_cancel i (some_pages k))
