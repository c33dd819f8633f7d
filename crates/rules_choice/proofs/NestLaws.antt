-- The blocks inside a free block are free, so none of them is split from a smaller one.
use Rattle.std.proofs.Common.{◌≡◌, ℕ, zero, suc, ◌+◌, ◌-◌, ◌*◌, ◌/◌, ◌^◌, ◌<◌, ◌≤◌, inl, inr, Bool, true, false, Option, Some, None, refl, ap, sym, ◌∙◌, subst, arith, nat_le, pow-add, pow_pos, mul_comm, mul-div_cancel, mul-le-mul_right}
use Rattle.std.specs.Prelude.{◌&&◌}
use Rattle.std.specs.List.{list_all}
use Rattle.std.proofs.lemmas.Grind.{common_steps}
use Rattle.std.proofs.lemmas.Nat.{div-mul-add}
use Rattle.std.proofs.Math.Nat.{div-div-eq-div-mul, div-mul-le_self, lt-div-mul-add}
use Rattle.std.proofs.lemmas.Bool.{and_parts, and_from, leb-true, le-leb, cases_lt, cases_eq}
use Rattle.std.proofs.lemmas.Bool.Decides.{nat_tests}
use Rattle.ttm_base.specs.declared.Span.{Span}
use Rattle.ttm_base.specs.ListWords.{count_from}
use Rattle.ttm_base.specs.Reach.{is_inside}
use Rattle.ttm_base.specs.BuddyChoice.{Candidate, block_around, candidate_of, is_free_block, free_order, log2}
use Rattle.ttm_base.specs.BlockStarts.{candidate_at}
use Rattle.ttm_base.proofs.OrderLaws.{log2_from}
use Rattle.rules_choice.specs.Least.{best_with, lesser_by}
use Rattle.rules_choice.proofs.OrderLaws.{free_order_suc}
use Rattle.rules_choice.proofs.StartLaws.{candidate_above, free_order_above}

-- ---- the pages of a block

-- pages of one block are of one larger block
same_above : (x y j d : ℕ) → x / 2 ^ j ≡ y / 2 ^ j → x / 2 ^ (j + d) ≡ y / 2 ^ (j + d)
same_above x y j d e =
    let split : (p : ℕ) → p / 2 ^ (j + d) ≡ p / 2 ^ j / 2 ^ d = λ p. ap (λ n. p / n) (pow-add 2 j d) ∙ sym (div-div-eq-div-mul p (2 ^ j) (2 ^ d)) in
    split x ∙ ap (λ n. n / 2 ^ d) e ∙ sym (split y)

same_at : (x y j o : ℕ) → j ≤ o → x / 2 ^ j ≡ y / 2 ^ j → x / 2 ^ o ≡ y / 2 ^ o
same_at x y j o h e =
    let d : j + (o - j) ≡ o = omega arith in
    rw d at (same_above x y j (o - j) e)

pub block_pages : (p o q : ℕ) → p / 2 ^ o ≡ q → (q * 2 ^ o ≤ p) × (p < q * 2 ^ o + 2 ^ o)
block_pages p o q e =
    let l = div-mul-le_self p (2 ^ o) in
    let u = lt-div-mul-add {a = p} (pow_pos o) in
    let m = ap (λ x. x * 2 ^ o) e in
    (omega arith, omega arith)

pub in_block : (p o q : ℕ) → q * 2 ^ o ≤ p → p < q * 2 ^ o + 2 ^ o → p / 2 ^ o ≡ q
in_block p o q l u =
    let d : p ≡ q * 2 ^ o + (p - q * 2 ^ o) = omega arith in
    ap (λ n. n / 2 ^ o) d ∙ div-mul-add q (2 ^ o) (p - q * 2 ^ o) (omega arith)

-- a block that begins in a larger one ends there
block_end : (i k o q : ℕ) → k ≤ o → i * 2 ^ k / 2 ^ o ≡ q → i * 2 ^ k + 2 ^ k ≤ q * 2 ^ o + 2 ^ o
block_end i k o q h e =
    let d : k + (o - k) ≡ o = omega arith in
    let b = block_pages (i * 2 ^ k) o q e in
    let split : 2 ^ o ≡ 2 ^ (o - k) * 2 ^ k = sym (ap (λ n. 2 ^ n) d) ∙ pow-add 2 k (o - k) ∙ mul_comm (2 ^ k) (2 ^ (o - k)) in
    let whole : q * 2 ^ o + 2 ^ o ≡ ((q + 1) * 2 ^ (o - k)) * 2 ^ k = ap (λ n. q * n + n) split ∙ regroup q (2 ^ (o - k)) (2 ^ k) in
    let less : i * 2 ^ k < ((q + 1) * 2 ^ (o - k)) * 2 ^ k = omega (arith, b.1, whole) in
    let below : i < (q + 1) * 2 ^ (o - k) = lower i ((q + 1) * 2 ^ (o - k)) (2 ^ k) less in
    let next : (i + 1) * 2 ^ k ≤ ((q + 1) * 2 ^ (o - k)) * 2 ^ k = mul-le-mul_right (2 ^ k) (omega (arith, below)) in
    omega (arith, next, whole)
  where
    regroup : (q a b : ℕ) → q * (a * b) + a * b ≡ ((q + 1) * a) * b
    regroup q a b = omega arith

    lower : (a b n : ℕ) → a * n < b * n → a < b
    lower a b n h = elim (cases_lt a b) [ inl x ↦ x | inr x ↦ let m : b * n ≤ a * n = mul-le-mul_right n x in absurd (omega arith) ]

-- ---- the blocks inside a free block

pub all_true : (test : ℕ → Bool) (n start : ℕ) → ((x : ℕ) → start ≤ x → x < start + n → test x ≡ true) → list_all test (count_from 1 n start) ≡ true
all_true test zero start h = refl
all_true test (suc n) start h = and_from (test start) (list_all test (count_from 1 n (1 + start))) (h start (omega arith) (omega arith)) (all_true test n (1 + start) (λ x l u. h x (omega arith) (omega arith)))

pub each_true : (test : ℕ → Bool) (n start : ℕ) → list_all test (count_from 1 n start) ≡ true → (x : ℕ) → start ≤ x → x < start + n → test x ≡ true
each_true test zero start h x l u = absurd (omega arith)
each_true test (suc n) start h x l u =
    let p = and_parts (test start) (list_all test (count_from 1 n (1 + start))) h in
    elim (cases_eq x start) [
      | inl e ↦ subst (λ y. test y ≡ true) (sym e) p.0
      | inr ne ↦ each_true test n (1 + start) p.1 x (omega arith) (omega arith)
    ]

pub free_from : (f : ℕ → Bool) (size k p : ℕ) → p / 2 ^ k * 2 ^ k + 2 ^ k ≤ size → ((x : ℕ) → x / 2 ^ k ≡ p / 2 ^ k → f x ≡ true) → is_free_block f size (block_around k p) ≡ true
free_from f size k p e h =
    let start : ℕ = p / 2 ^ k * 2 ^ k in
    and_from (nat_le (start + 2 ^ k) size) (list_all f (count_from 1 (start + 2 ^ k - start) start)) (le-leb (start + 2 ^ k) size e)
    (all_true f (start + 2 ^ k - start) start (λ x l u. h x (in_block x k (p / 2 ^ k) l (omega arith))))

pub record AreFree (f : ℕ → Bool) (size k p : ℕ) : Type 0 where
  pub end : p / 2 ^ k * 2 ^ k + 2 ^ k ≤ size
  pub free : (x : ℕ) → x / 2 ^ k ≡ p / 2 ^ k → f x ≡ true

pub free_parts : (f : ℕ → Bool) (size k p : ℕ) → is_free_block f size (block_around k p) ≡ true → AreFree f size k p
free_parts f size k p h =
    let start : ℕ = p / 2 ^ k * 2 ^ k in
    let a = and_parts (nat_le (start + 2 ^ k) size) (list_all f (count_from 1 (start + 2 ^ k - start) start)) h in
    record {
      end = leb-true (start + 2 ^ k) size a.0;
      free = λ x e. let b = block_pages x k (p / 2 ^ k) e in each_true f (start + 2 ^ k - start) start a.1 x b.0 (let u = b.1 in omega (arith, u));
    }

own_start : (p k : ℕ) → (p / 2 ^ k * 2 ^ k) / 2 ^ k ≡ p / 2 ^ k
own_start p k = mul-div_cancel (p / 2 ^ k) (pow_pos k)

pub smaller_free : (f : ℕ → Bool) (size i j p : ℕ) → i ≤ j → is_free_block f size (block_around j p) ≡ true → is_free_block f size (block_around i p) ≡ true
smaller_free f size i j p h t =
    let a = free_parts f size j p t in
    let e = block_end (p / 2 ^ i) i j (p / 2 ^ j) h (same_at (p / 2 ^ i * 2 ^ i) p i j h (own_start p i)) in
    free_from f size i p (let z = a.end in omega (arith, e, z)) (λ x s. a.free x (same_at x p i j h s))

-- so they are split from no smaller one
reaches : (f : ℕ → Bool) (size page j k left : ℕ) → k ≤ j → j ≤ k + left → is_free_block f size (block_around j page) ≡ true → j ≤ free_order f size page k left
reaches f size page j k zero l u t = omega arith
reaches f size page j k (suc left) l u t = elim (cases_lt k j) [
  | inl less ↦
      let same = free_order_suc f size page k left (smaller_free f size (k + 1) j page (omega arith) t) in
      let next = reaches f size page j (k + 1) left (omega arith) (omega arith) t in
      omega (arith, same, next)
  | inr least ↦ let above = free_order_above f size page k (suc left) in omega (arith, above, least)
]

pub around_same : (p q j : ℕ) → p / 2 ^ j ≡ q / 2 ^ j → block_around j p ≡ block_around j q
around_same p q j e = ap (λ n. let s : Span = record { start = n * 2 ^ j; end = n * 2 ^ j + 2 ^ j } in s) e

-- what a candidate is split from
whole_of : (f : ℕ → Bool) (size : ℕ) (range : Span) (k start : ℕ) (c : Candidate) → candidate_at f size range k start ≡ Some c
    → c.whole ≡ free_order f size (block_around k start).start k (log2 size)
whole_of f size range k start c e = by (is_inside range (block_around k start) && is_free_block f size (block_around k start)) refl
  where
    by : (there : Bool) → (is_inside range (block_around k start) && is_free_block f size (block_around k start)) ≡ there
        → c.whole ≡ free_order f size (block_around k start).start k (log2 size)
    by true t =
        let one : candidate_of f size k (block_around k start) ≡ c = grind (arith, common_steps) in
        ap (λ (x : Candidate). x.whole) (sym one)
    by false t = absurd (grind (arith, common_steps))

no_less : (f : ℕ → Bool) (size : ℕ) (range : Span) (k start w : ℕ) (c : Candidate) → is_free_block f size (block_around w start) ≡ true
    → candidate_at f size range k start ≡ Some c → w ≤ c.whole
no_less f size range k start w c t e = elim (cases_lt w k) [
  | inl less ↦ let above = candidate_above f size range k start c e in omega (arith, above)
  | inr more ↦
      let page : ℕ = start / 2 ^ k * 2 ^ k in
      let free : is_free_block f size (block_around w page) ≡ true = ap (is_free_block f size) (around_same page start w (same_at page start k w more (own_start start k))) ∙ t in
      let parts = free_parts f size w start t in
      let bound : w ≤ log2 size = log2_from size w (let z = parts.end in omega (arith, z)) in
      let reached : w ≤ free_order f size page k (log2 size) = reaches f size page w k (log2 size) more (omega (arith, bound)) free in
      subst (λ n. w ≤ n) (sym (whole_of f size range k start c e)) reached
]

-- the least so far stays where a block of its order is free
pub best_stays : (f : ℕ → Bool) (size : ℕ) (range : Span) (k start : ℕ) (least : Candidate) → is_free_block f size (block_around least.whole start) ≡ true
    → Some least ≡ best_with (λ c. c.whole) (Some least) (candidate_at f size range k start)
best_stays f size range k start least t = by (candidate_at f size range k start) refl
  where
    by : (found : Option Candidate) → candidate_at f size range k start ≡ found → Some least ≡ best_with (λ c. c.whole) (Some least) found
    by None e = refl
    by (Some c) e =
        let more = no_less f size range k start least.whole c t e in
        let stays : least ≡ lesser_by (λ c. c.whole) (Some least) c = grind (arith, nat_tests, more) in
        ap Some stays
