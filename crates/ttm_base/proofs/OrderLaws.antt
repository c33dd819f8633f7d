-- Orders by pages: powers of two at most, and at least, a number.
use Rattle.std.proofs.Common.{◌≡◌, ℕ, zero, suc, ◌+◌, ◌-◌, ◌*◌, ◌/◌, ◌^◌, ◌<◌, ◌≤◌, inl, inr, true, false, ap, sym, ◌∙◌, subst, arith, pow-suc, pow_pos, pow_mono}
use Rattle.std.specs.Prelude.{if◌then◌else◌}
use Rattle.std.proofs.lemmas.Bool.{cases_lt, le-leb, lt-leb}
use Rattle.ttm_base.specs.BuddyChoice.{halvings, log2, order_of}

-- n is between a power of two and the next
pub record IsLog (n k : ℕ) : Type 0 where
  pub low : 2 ^ k ≤ n
  pub high : n < 2 ^ suc k

log_of_half : (n k : ℕ) → IsLog (n / 2) k → IsLog n (suc k)
log_of_half n k h =
    let l = h.low in
    let u = h.high in
    let p = pow-suc 2 k in
    let q = pow-suc 2 (suc k) in
    record { low = omega (arith, l, p); high = omega (arith, u, q) }

halvings_is : (bound n : ℕ) → 0 < n → n ≤ bound → IsLog n (halvings bound n)
halvings_is zero n some h = absurd (omega (arith, some, h))
halvings_is (suc bound) n some h =
    elim (cases_lt 1 n) [
      | inr one ↦
          let e : 0 ≡ halvings (suc bound) n = sym (ap (λ t. elim t [ true ↦ 0 | false ↦ suc (halvings bound (n / 2)) ]) (le-leb n 1 one)) in
          subst (IsLog n) e (record { low = omega (arith, some); high = omega (arith, one) })
      | inl more ↦
          let e : suc (halvings bound (n / 2)) ≡ halvings (suc bound) n = sym (ap (λ t. elim t [ true ↦ 0 | false ↦ suc (halvings bound (n / 2)) ]) (lt-leb n 1 more)) in
          subst (IsLog n) e (log_of_half n (halvings bound (n / 2)) (halvings_is bound (n / 2) (omega (arith, more)) (omega (arith, more, h))))
    ]

pub log2_is_log : (n : ℕ) → 0 < n → IsLog n (log2 n)
log2_is_log n some = halvings_is n n some (omega arith)

-- a power of two that is at most n
pub log2_from : (n k : ℕ) → 2 ^ k ≤ n → k ≤ log2 n
log2_from n k h =
    let s = pow_pos k in
    let u = (log2_is_log n (omega (arith, s, h))).high in
    elim (cases_lt (log2 n) k) [
      | inr l ↦ l
      | inl l ↦ let m : 2 ^ suc (log2 n) ≤ 2 ^ k = pow_mono (omega (arith, l)) in absurd (omega (arith, m, u, h))
    ]

-- a power of two that is more than n
pub log2_below : (n k : ℕ) → 0 < n → n < 2 ^ k → log2 n < k
log2_below n k some h =
    let l = (log2_is_log n some).low in
    elim (cases_lt (log2 n) k) [
      | inl less ↦ less
      | inr more ↦ let m : 2 ^ k ≤ 2 ^ log2 n = pow_mono more in absurd (omega (arith, m, l, h))
    ]

pub log2_is : (n k : ℕ) → 2 ^ k ≤ n → n < 2 * 2 ^ k → k ≡ log2 n
log2_is n k l u =
    let s = pow_pos k in
    let p = pow-suc 2 k in
    let a = log2_from n k l in
    let b = log2_below n (suc k) (omega (arith, s, l)) (omega (arith, p, u)) in
    omega (arith, a, b)

pub log2_fits : (n : ℕ) → 0 < n → 2 ^ log2 n ≤ n
log2_fits n some = (log2_is_log n some).low

-- ---- the order of a block for so many pages

pub order_of_one : (pages : ℕ) → pages ≤ 1 → 0 ≡ order_of pages
order_of_one pages h = sym (ap (λ t. if t then 0 else log2 (pages - 1) + 1) (le-leb pages 1 h))

pub order_of_more : (pages : ℕ) → 1 < pages → log2 (pages - 1) + 1 ≡ order_of pages
order_of_more pages h = sym (ap (λ t. if t then 0 else log2 (pages - 1) + 1) (lt-leb pages 1 h))

-- a block of that order has so many pages
pub order_suffices : (pages : ℕ) → pages ≤ 2 ^ order_of pages
order_suffices pages =
    elim (cases_lt 1 pages) [
      | inr one ↦ subst (λ k. pages ≤ 2 ^ k) (order_of_one pages one) (omega (arith, one))
      | inl more ↦
          let u = (log2_is_log (pages - 1) (omega (arith, more))).high in
          let e : suc (log2 (pages - 1)) ≡ log2 (pages - 1) + 1 = omega arith in
          subst (λ k. pages ≤ 2 ^ k) (e ∙ order_of_more pages more) (omega (arith, more, u))
    ]

-- no smaller one has
pub order_least : (pages k : ℕ) → pages ≤ 2 ^ k → order_of pages ≤ k
order_least pages k h =
    elim (cases_lt 1 pages) [
      | inr one ↦ let e = order_of_one pages one in omega (arith, e)
      | inl more ↦
          let e = order_of_more pages more in
          let l = log2_below (pages - 1) k (omega (arith, more)) (omega (arith, more, h)) in
          omega (arith, e, l)
    ]
