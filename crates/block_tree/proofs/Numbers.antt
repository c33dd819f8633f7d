-- Blocks by number: a page p is in the block p / 2 ^ o of order o.
use Rattle.std.proofs.Common.{◌≡◌, ℕ, suc, ◌+◌, ◌-◌, ◌*◌, ◌/◌, ◌^◌, ◌<◌, ◌≤◌, ◌⊎◌, inl, inr, ap, sym, ◌∙◌, arith, pow-suc, pow-add, pow_pos, pow_mono, eqb, false, mul_comm, mul_assoc, mul-le-mul_right}
use Rattle.std.proofs.lemmas.Nat.{div-mul-add}
use Rattle.std.proofs.Math.Nat.{div-div-eq-div-mul, div-mul-le_self, lt-div-mul-add}
use Rattle.std.specs.Int.{bit_at}
use Rattle.std.proofs.lemmas.Nat.Bits.{bit_at-lt}
use Rattle.std.proofs.lemmas.Bool.{ne_eqb, cases_lt}

pub some_pages : (o : ℕ) → 0 < 2 ^ o
some_pages o = pow_pos o

pub pow_not_zero : (o : ℕ) → eqb (2 ^ o) 0 ≡ false
pow_not_zero o = let h = some_pages o in ne_eqb (2 ^ o) 0 (λ e. omega arith)

pub pow_next : (o : ℕ) → 2 ^ suc o ≡ 2 ^ o + 2 ^ o
pow_next o = let e = pow-suc 2 o in omega arith

-- the block of the next order
pub div_next : (p o : ℕ) → p / 2 ^ suc o ≡ p / 2 ^ o / 2
div_next p o = let e = pow-suc 2 o in let d = div-div-eq-div-mul p (2 ^ o) 2 in ap (λ n. p / n) e ∙ sym d

-- pages of one block are of one larger block
pub same_above : (x y j d : ℕ) → x / 2 ^ j ≡ y / 2 ^ j → x / 2 ^ (j + d) ≡ y / 2 ^ (j + d)
same_above x y j d e =
    let split : (p : ℕ) → p / 2 ^ (j + d) ≡ p / 2 ^ j / 2 ^ d = λ p. ap (λ n. p / n) (pow-add 2 j d) ∙ sym (div-div-eq-div-mul p (2 ^ j) (2 ^ d)) in
    split x ∙ ap (λ n. n / 2 ^ d) e ∙ sym (split y)

pub same_at : (x y j o : ℕ) → j ≤ o → x / 2 ^ j ≡ y / 2 ^ j → x / 2 ^ o ≡ y / 2 ^ o
same_at x y j o h e =
    let d : j + (o - j) ≡ o = omega arith in
    rw d at (same_above x y j (o - j) e)

-- the pages of the lower and of the upper half
pub low_page : (p o q : ℕ) → p / 2 ^ o ≡ 2 * q → (bit_at p o ≡ 0) × (p / 2 ^ suc o ≡ q)
low_page p o q e = let d = div_next p o in (omega arith, omega arith)

pub high_page : (p o q : ℕ) → p / 2 ^ o ≡ 2 * q + 1 → (bit_at p o ≡ 1) × (p / 2 ^ suc o ≡ q)
high_page p o q e = let d = div_next p o in (omega arith, omega arith)

pub page_half : (p o q : ℕ) → p / 2 ^ suc o ≡ q → ((bit_at p o ≡ 0) × (p / 2 ^ o ≡ 2 * q)) ⊎ ((bit_at p o ≡ 1) × (p / 2 ^ o ≡ 2 * q + 1))
page_half p o q e =
    let d = div_next p o in
    let l = bit_at-lt p o in
    elim (cases_lt (bit_at p o) 1) [ inl h ↦ inl (omega arith, omega arith) | inr h ↦ inr (omega arith, omega arith) ]

pub small_pow : (o n : ℕ) → o ≤ n → 2 ^ o ≤ 2 ^ n
small_pow o n h = pow_mono h

-- the halves of a block that ends by n end by n
pub low_number : (q k n : ℕ) → q * 2 ^ suc k + 2 ^ suc k ≤ n → 2 * q * 2 ^ k + 2 ^ k ≤ n
low_number q k n h = let p = pow_next k in let m = ap (λ x. q * x) p in omega arith

pub high_number : (q k n : ℕ) → q * 2 ^ suc k + 2 ^ suc k ≤ n → (2 * q + 1) * 2 ^ k + 2 ^ k ≤ n
high_number q k n h = let p = pow_next k in let m = ap (λ x. q * x) p in omega arith

-- the pages of a block
pub block_pages : (p o q : ℕ) → p / 2 ^ o ≡ q → (q * 2 ^ o ≤ p) × (p < q * 2 ^ o + 2 ^ o)
block_pages p o q e =
    let l = div-mul-le_self p (2 ^ o) in
    let u = lt-div-mul-add {a = p} (some_pages o) in
    let m = ap (λ x. x * 2 ^ o) e in
    (omega arith, omega arith)

-- ---- blocks of a smaller order

pub small_order : (k o : ℕ) → 2 ^ k ≤ 2 ^ o → k ≤ o
small_order k o h = elim (cases_lt o k) [
  | inl less ↦ let m : 2 ^ suc o ≤ 2 ^ k = small_pow (suc o) k (omega arith) in let p = pow_next o in let s = some_pages o in absurd (omega arith)
  | inr k ↦ k
]

-- a block that begins in a larger one ends there
pub block_end : (i k o q : ℕ) → k ≤ o → i * 2 ^ k / 2 ^ o ≡ q → i * 2 ^ k + 2 ^ k ≤ q * 2 ^ o + 2 ^ o
block_end i k o q h e =
    let d : k + (o - k) ≡ o = omega arith in
    let b = block_pages (i * 2 ^ k) o q e in
    let split : 2 ^ o ≡ 2 ^ (o - k) * 2 ^ k = sym (ap (λ n. 2 ^ n) d) ∙ pow-add 2 k (o - k) ∙ mul_comm (2 ^ k) (2 ^ (o - k)) in
    let whole : q * 2 ^ o + 2 ^ o ≡ ((q + 1) * 2 ^ (o - k)) * 2 ^ k = ap (λ n. q * n + n) split ∙ regroup q (2 ^ (o - k)) (2 ^ k) in
    let less : i * 2 ^ k < ((q + 1) * 2 ^ (o - k)) * 2 ^ k = omega (arith, b.1, whole) in
    let below : i < (q + 1) * 2 ^ (o - k) = lower i ((q + 1) * 2 ^ (o - k)) (2 ^ k) less in
    let next : (i + 1) * 2 ^ k ≤ ((q + 1) * 2 ^ (o - k)) * 2 ^ k = mul-le-mul_right (2 ^ k) (omega (arith, below)) in
    omega (arith, next, whole)
  where
    regroup : (q a b : ℕ) → q * (a * b) + a * b ≡ ((q + 1) * a) * b
    regroup q a b = omega arith

    lower : (a b n : ℕ) → a * n < b * n → a < b
    lower a b n h = elim (cases_lt a b) [ inl x ↦ x | inr x ↦ let m : b * n ≤ a * n = mul-le-mul_right n x in absurd (omega arith) ]

-- the first and the last multiple between two pages
pub from_up : (a i k : ℕ) → (a + 2 ^ k - 1) / 2 ^ k ≤ i → a ≤ i * 2 ^ k
from_up a i k h =
    let s = some_pages k in
    let u = lt-div-mul-add {a = a + 2 ^ k - 1} s in
    let m : (a + 2 ^ k - 1) / 2 ^ k * 2 ^ k ≤ i * 2 ^ k = mul-le-mul_right (2 ^ k) h in
    omega arith

pub up_from : (a i k : ℕ) → a ≤ i * 2 ^ k → (a + 2 ^ k - 1) / 2 ^ k ≤ i
up_from a i k h =
    let s = some_pages k in
    elim (cases_lt i ((a + 2 ^ k - 1) / 2 ^ k)) [
      | inr x ↦ x
      | inl x ↦
          let m : (i + 1) * 2 ^ k ≤ (a + 2 ^ k - 1) / 2 ^ k * 2 ^ k = mul-le-mul_right (2 ^ k) (omega arith) in
          let l = div-mul-le_self (a + 2 ^ k - 1) (2 ^ k) in
          absurd (omega arith)
    ]

pub from_down : (z i k : ℕ) → i < z / 2 ^ k → i * 2 ^ k + 2 ^ k ≤ z
from_down z i k h =
    let m : (i + 1) * 2 ^ k ≤ z / 2 ^ k * 2 ^ k = mul-le-mul_right (2 ^ k) (omega arith) in
    let l = div-mul-le_self z (2 ^ k) in
    omega arith

pub down_from : (z i k : ℕ) → i * 2 ^ k + 2 ^ k ≤ z → i < z / 2 ^ k
down_from z i k h =
    let s = some_pages k in
    elim (cases_lt i (z / 2 ^ k)) [
      | inl x ↦ x
      | inr x ↦
          let u = lt-div-mul-add {a = z} s in
          let m : z / 2 ^ k * 2 ^ k ≤ i * 2 ^ k = mul-le-mul_right (2 ^ k) x in
          absurd (omega arith)
    ]

-- a page between the ends of a block is in it
pub in_block : (p o q : ℕ) → q * 2 ^ o ≤ p → p < q * 2 ^ o + 2 ^ o → p / 2 ^ o ≡ q
in_block p o q l u =
    let d : p ≡ q * 2 ^ o + (p - q * 2 ^ o) = omega arith in
    ap (λ n. n / 2 ^ o) d ∙ div-mul-add q (2 ^ o) (p - q * 2 ^ o) (omega arith)

-- a multiple of a larger block's size
pub as_smaller : (n j k : ℕ) → k ≤ j → n * 2 ^ j ≡ (n * 2 ^ (j - k)) * 2 ^ k
as_smaller n j k h =
    let d : k + (j - k) ≡ j = omega arith in
    let split : 2 ^ j ≡ 2 ^ (j - k) * 2 ^ k = sym (ap (λ m. 2 ^ m) d) ∙ pow-add 2 k (j - k) ∙ mul_comm (2 ^ k) (2 ^ (j - k)) in
    ap (λ m. n * m) split ∙ sym (mul_assoc n (2 ^ (j - k)) (2 ^ k))

pub less_number : (i m k : ℕ) → i * 2 ^ k ≤ m * 2 ^ k → i ≤ m
less_number i m k h =
    let s = some_pages k in
    elim (cases_lt m i) [
      | inr x ↦ x
      | inl x ↦ let n : (m + 1) * 2 ^ k ≤ i * 2 ^ k = mul-le-mul_right (2 ^ k) (omega (arith, x)) in absurd (omega (arith, n, s))
    ]

-- a block has no more blocks of a smaller order than pages
pub fewer_blocks : (q o k : ℕ) → k ≤ o → q * 2 ^ (o - k) + 2 ^ (o - k) ≤ q * 2 ^ o + 2 ^ o
fewer_blocks q o k h =
    let n : ℕ = q * 2 ^ (o - k) + 2 ^ (o - k) in
    let s = as_smaller q o k h in
    let t = as_smaller 1 o k h in
    let m : 1 * n ≤ 2 ^ k * n = mul-le-mul_right n (some_pages k) in
    omega (arith, s, t, m)

pub less_by_block : (i m k o q : ℕ) → i * 2 ^ k / 2 ^ o ≡ 2 * q → m * 2 ^ k / 2 ^ o ≡ 2 * q + 1 → i ≤ m
less_by_block i m k o q a b =
    elim (cases_lt m i) [
      | inr x ↦ x
      | inl x ↦
          let l = (block_pages (i * 2 ^ k) o (2 * q) a).1 in
          let u = (block_pages (m * 2 ^ k) o (2 * q + 1) b).0 in
          let n : m * 2 ^ k ≤ i * 2 ^ k = mul-le-mul_right (2 ^ k) (omega arith) in
          absurd (omega arith)
    ]

-- the number of the larger block in which a block begins
pub number_in : (i k o : ℕ) → k ≤ o → i / 2 ^ (o - k) ≡ i * 2 ^ k / 2 ^ o
number_in i k o h =
    let d : k + (o - k) ≡ o = omega arith in
    let s = some_pages k in
    let own : i * 2 ^ k / 2 ^ k ≡ i = in_block (i * 2 ^ k) k i (omega arith) (omega (arith, s)) in
    let split : 2 ^ o ≡ 2 ^ k * 2 ^ (o - k) = sym (ap (λ n. 2 ^ n) d) ∙ pow-add 2 k (o - k) in
    sym (ap (λ n. i * 2 ^ k / n) split ∙ sym (div-div-eq-div-mul (i * 2 ^ k) (2 ^ k) (2 ^ (o - k))) ∙ ap (λ n. n / 2 ^ (o - k)) own)
