-- Spans that are marked block by block, and the first and the last block inside a range.
use Rattle.std.proofs.Common.{◌≡◌, ℕ, zero, suc, ◌+◌, ◌-◌, ◌*◌, ◌/◌, ◌%◌, ◌^◌, ◌<◌, ◌≤◌, min, max, inl, inr, Bool, true, false, ◌&&◌, nat_lt, nat_le, refl, ap, sym, ◌∙◌, arith, mul-le-mul_right, w32, if◌then◌else◌}
use Rattle.std.specs.Int.{bit_at, trailing_zeros}
use Rattle.std.proofs.lemmas.Bool.{and_from, and_right, le-leb, lt-leb, lt-ltb, le-ltb, cases_lt, cases_eq}
use Rattle.std.proofs.lemmas.Nat.Bits.{bit_at-trailing_zeros}
use Rattle.std.proofs.Math.Nat.{div-mul-le_self, lt-div-mul-add, mul-le-mul_left}
use Rattle.ttm_base.specs.declared.Span.{Span}
use Rattle.ttm_base.specs.Holes.{has_page}
use Rattle.ttm_base.specs.BuddyChoice.{log2}
use Rattle.ttm_base.proofs.OrderLaws.{log2_fits}
use Rattle.block_tree.specs.declared.request.Request.{Request}
use Rattle.block_tree.specs.Masks.{is_marked}
use Rattle.block_tree.specs.Searching.{numbered}
use Rattle.block_tree.specs.Holding.{CanTake, ArePieces}
use Rattle.block_tree.proofs.Numbers.{some_pages, small_pow, pow_next, div_next, block_pages, from_down, down_from}
use Rattle.block_tree.proofs.SearchLaws.{inside_parts, inside_from}

-- ---- a span that is marked block by block

-- the pages from s up to e
abbrev pub span : ℕ → ℕ → Span
span s e = record { start = s; end = e }

page_in : (s e p : ℕ) → s ≤ p → p < e → has_page p (span s e) ≡ true
page_in s e p l u = and_from (nat_le s p) (nat_lt p e) (le-leb s p l) (lt-ltb p e u)

page_below : (s e p : ℕ) → p < s → has_page p (span s e) ≡ false
page_below s e p l = ap (λ t. t && nat_lt p e) (lt-leb s p l)

page_above : (s e p : ℕ) → e ≤ p → has_page p (span s e) ≡ false
page_above s e p u = and_right (nat_le s p) (nat_lt p e) (le-ltb p e u)

is_in : (s e p : ℕ) (free x : Bool) → has_page p (span s e) ≡ true → is_marked (span s e) free x p ≡ free
is_in s e p free x h = ap (λ t. if t then free else x) h

is_out : (s e p : ℕ) (free x : Bool) → has_page p (span s e) ≡ false → is_marked (span s e) free x p ≡ x
is_out s e p free x h = ap (λ t. if t then free else x) h

marked_parts : (s t e p : ℕ) (free x : Bool) → s ≤ t → t ≤ e → is_marked (span t e) free (is_marked (span s t) free x p) p ≡ is_marked (span s e) free x p
marked_parts s t e p free x l u =
    elim (cases_lt p s) [
      | inl a ↦ is_out t e p free (is_marked (span s t) free x p) (page_below t e p (omega (arith, a, l))) ∙ is_out s t p free x (page_below s t p a) ∙ sym (is_out s e p free x (page_below s e p a))
      | inr a ↦ elim (cases_lt p t) [
        | inl b ↦ is_out t e p free (is_marked (span s t) free x p) (page_below t e p b) ∙ is_in s t p free x (page_in s t p a b) ∙ sym (is_in s e p free x (page_in s e p a (omega (arith, b, u))))
        | inr b ↦ elim (cases_lt p e) [
          | inl d ↦ is_in t e p free (is_marked (span s t) free x p) (page_in t e p b d) ∙ sym (is_in s e p free x (page_in s e p a d))
          | inr d ↦ is_out t e p free (is_marked (span s t) free x p) (page_above t e p d) ∙ is_out s t p free x (page_above s t p b) ∙ sym (is_out s e p free x (page_above s e p d))
        ]
      ]
    ]

pub marked_more : (s t k n p : ℕ) (free x : Bool) → s ≤ t → n * 2 ^ k ≡ t → is_marked (numbered k n) free (is_marked (span s t) free x p) p ≡ is_marked (span s (t + 2 ^ k)) free x p
marked_more s t k n p free x l e =
    ap (λ b. is_marked (span b (b + 2 ^ k)) free (is_marked (span s t) free x p) p) e ∙ marked_parts s t (t + 2 ^ k) p free x l (omega arith)

pub marked_none : (s p : ℕ) (free x : Bool) → is_marked (span s s) free x p ≡ x
marked_none s p free x = elim (cases_lt p s) [ inl a ↦ is_out s s p free x (page_below s s p a) | inr a ↦ is_out s s p free x (page_above s s p a) ]

pub marked_all : (s t e p : ℕ) (free x : Bool) → s ≤ t → t ≤ max s e → e ≤ t → is_marked (span s t) free x p ≡ is_marked (span s e) free x p
marked_all s t e p free x l u d =
    elim (cases_lt e s) [
      | inr a ↦ let same : t ≡ e = omega (arith, a, u, d) in ap (λ z. is_marked (span s z) free x p) same
      | inl a ↦
          let same : t ≡ s = omega (arith, a, u, l) in
          ap (λ z. is_marked (span s z) free x p) same ∙ marked_none s p free x
          ∙ sym (elim (cases_lt p s) [ inl b ↦ is_out s e p free x (page_below s e p b) | inr b ↦ is_out s e p free x (page_above s e p (omega (arith, a, b))) ])
    ]

-- the pages after those that were given back are held as before
pub still_held : (s t e k n p : ℕ) (now old : Bool) → s ≤ t → n * 2 ^ k ≡ t → t + 2 ^ k ≤ e → now ≡ is_marked (span s t) true old p → (has_page p (span s e) ≡ true → old ≡ false) → p / 2 ^ k ≡ n → now ≡ false
still_held s t e k n p now old l start end m held i =
    let b = block_pages p k n i in
    let low = b.0 in
    let high = b.1 in
    m ∙ is_out s t p true old (page_above s t p (omega (arith, low, start))) ∙ held (page_in s e p (omega (arith, l, low, start)) (omega (arith, high, start, end)))

-- the first pages, of pages that were held
pub marked_first : (n p : ℕ) (x : Bool) → x ≡ false → is_marked (span 0 n) true x p ≡ nat_lt p n
marked_first n p x h = elim (cases_lt p n) [
  | inl a ↦ is_in 0 n p true x (page_in 0 n p (omega arith) a) ∙ sym (lt-ltb p n a)
  | inr a ↦ is_out 0 n p true x (page_above 0 n p a) ∙ h ∙ sym (le-ltb p n a)
]

-- ---- the largest block that begins at a page

whole_by_bits : (n k : ℕ) → ((i : ℕ) → i < k → bit_at n i ≡ 0) → n / 2 ^ k * 2 ^ k ≡ n
whole_by_bits n zero h = omega arith
whole_by_bits n (suc k) h =
    let e = whole_by_bits n k (λ i l. h i (omega arith)) in
    let b : n / 2 ^ k % 2 ≡ 0 = h k (omega arith) in
    let d = div_next n k in
    let p = pow_next k in
    let twice : n / 2 ^ k ≡ n / 2 ^ suc k + n / 2 ^ suc k = omega (arith, b, d) in
    let m : n / 2 ^ suc k * 2 ^ suc k ≡ n / 2 ^ suc k * (2 ^ k + 2 ^ k) = ap (λ x. n / 2 ^ suc k * x) p in
    let t : n / 2 ^ k * 2 ^ k ≡ (n / 2 ^ suc k + n / 2 ^ suc k) * 2 ^ k = ap (λ x. x * 2 ^ k) twice in
    omega (arith, e, m, t)

pub whole_start : (start low k : ℕ) → start < 2 ^ 32 → low ≡ trailing_zeros w32 start → k ≤ low → start / 2 ^ k * 2 ^ k ≡ start
whole_start start low k small e l =
    elim (cases_eq start 0) [
      | inl z ↦ ap (λ n. n / 2 ^ k * 2 ^ k) z ∙ (let q : 0 / 2 ^ k * 2 ^ k ≡ 0 = let s = some_pages k in let d = div-mul-le_self 0 (2 ^ k) in omega (arith, d) in q) ∙ sym z
      | inr nz ↦
          let t = bit_at-trailing_zeros w32 start (omega (arith, nz)) small in
          whole_by_bits start k (λ i h. t.2 i (omega (arith, h, l, e)))
    ]

pub log_fits : (n lg k : ℕ) → 0 < n → lg ≡ log2 n → k ≤ lg → 2 ^ k ≤ n
log_fits n lg k some e l =
    let f = log2_fits n some in
    let m : 2 ^ k ≤ 2 ^ log2 n = small_pow k (log2 n) (omega (arith, e, l)) in
    omega (arith, f, m)

-- ---- the blocks inside a range

-- first is the first multiple of len, by its number, from a start on
pub record IsCeil (start len first : ℕ) : Type 0 where
  pub low : start ≤ first * len
  pub least : (i : ℕ) → start ≤ i * len → first ≤ i

pub ceil_same : (start len floor : ℕ) → 0 < len → floor ≡ start / len → floor * len ≡ start → IsCeil start len floor
ceil_same start len floor s e h =
    record {
      low = omega (arith, h);
      least = λ i l. elim (cases_lt i floor) [
        | inr x ↦ x
        | inl x ↦ let m : (i + 1) * len ≤ floor * len = mul-le-mul_right len (omega (arith, x)) in absurd (omega (arith, m, h, l, s))
      ];
    }

pub ceil_next : (start len floor : ℕ) → 0 < len → floor ≡ start / len → (floor * len ≡ start → ⊥) → IsCeil start len (floor + 1)
ceil_next start len floor s e h =
    let a = div-mul-le_self start len in
    let b = lt-div-mul-add {a = start} s in
    let m : floor * len ≡ start / len * len = ap (λ x. x * len) e in
    record {
      low = omega (arith, b, m);
      least = λ i l. elim (cases_lt floor i) [
        | inl x ↦ omega (arith, x)
        | inr x ↦ let n : i * len ≤ floor * len = mul-le-mul_right len x in absurd (omega (arith, n, m, a, l, h))
      ];
    }

module _ (r : Request) (size first end len : ℕ) (long : len ≡ 2 ^ r.order) (ceil : IsCeil r.range.start len first) (is : end ≡ min r.range.end size / len) where
  within : (i : ℕ) → i < end → i * 2 ^ r.order + 2 ^ r.order ≤ min r.range.end size
  within i l = from_down (min r.range.end size) i r.order (let e : end ≡ min r.range.end size / 2 ^ r.order = is ∙ ap (λ n. min r.range.end size / n) long in omega (arith, e, l))

  bounds : (i : ℕ) → CanTake r size i → (first ≤ i) × (i < end)
  bounds i c =
      let p = inside_parts r.range (numbered r.order i) c.inside in
      let z = c.end in
      let e : end ≡ min r.range.end size / 2 ^ r.order = is ∙ ap (λ n. min r.range.end size / n) long in
      let d = down_from (min r.range.end size) i r.order (omega (arith, z, p.1)) in
      let m : i * len ≡ i * 2 ^ r.order = ap (λ n. i * n) long in
      (ceil.least i (omega (arith, m, p.0)), omega (arith, e, d))

  pub pieces_are : first < end → ArePieces r size (record { order = r.order; first = first; last = end - 1 })
  pieces_are l =
      record {
        order = refl;
        some = omega (arith, l);
        last = let w = within (end - 1) (omega (arith, l)) in omega (arith, w);
        inside = λ i a b.
            let w = within i (omega (arith, b, l)) in
            let m : first * len ≤ i * len = mul-le-mul_right len a in
            let n : i * len ≡ i * 2 ^ r.order = ap (λ n. i * n) long in
            let c = ceil.low in
            inside_from r.range (numbered r.order i) (omega (arith, m, n, c)) (omega (arith, w));
        all = λ i c. let b = bounds i c in (b.0, let u = b.1 in omega (arith, u));
      }

  pub pieces_none : end ≤ first → (i : ℕ) → CanTake r size i → ⊥
  pieces_none l i c = let b = bounds i c in let x = b.0 in let y = b.1 in omega (arith, x, y, l)

-- the numbers of the wanted blocks in a free block fit
pub group_small : (n k j len : ℕ) → j ≤ k → len ≡ 2 ^ (k - j) → n * 2 ^ k + 2 ^ k ≤ 2 ^ 31 → n * len + len ≤ 2 ^ 31
group_small n k j len l e h =
    let p : 2 ^ (k - j) ≤ 2 ^ k = small_pow (k - j) k (omega arith) in
    let q : len ≤ 2 ^ k = omega (arith, p, e) in
    let m : n * len ≤ n * 2 ^ k = mul-le-mul_left n q in
    omega (arith, m, q, h)
