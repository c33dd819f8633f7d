-- Blocks that are split, given back and cleared, by the pages that are free.
use Rattle.std.proofs.Common.{◌≡◌, ℕ, zero, suc, ◌+◌, ◌-◌, ◌*◌, ◌/◌, ◌%◌, ◌^◌, ◌<◌, ◌≤◌, inl, inr, Bool, true, false, List, [], ◌∷◌, length, get_or, refl, ap, sym, ◌∙◌, subst, arith, mul-le-mul_right, if◌then◌else◌}
use Rattle.std.proofs.lemmas.Bool.{cases_lt, cases_eq, both_ways, false_from_ne_true}
use Rattle.std.proofs.Math.Nat.{div-mul-le_self}
use Rattle.ttm_base.specs.BuddyChoice.{block_around, is_free_block, free_order, log2}
use Rattle.block_tree.specs.declared.block.Block.{Block}
use Rattle.block_tree.specs.declared.request.Pieces.{Pieces}
use Rattle.block_tree.specs.FreeSet.{beside, is_free}
use Rattle.block_tree.specs.Masks.{is_marked}
use Rattle.block_tree.specs.Searching.{numbered}
use Rattle.block_tree.specs.Holding.{IsFree, IsHolder, IsAround}
use Rattle.block_tree.proofs.Numbers.{some_pages, pow_next, div_next, block_pages, block_end, in_block, same_at, as_smaller}
use Rattle.block_tree.proofs.FreeLaws.{free_from, free_parts}
use Rattle.block_tree.proofs.PieceLaws.{largest_from}
use Rattle.block_tree.proofs.SetLaws.{own_block, marked_in, marked_out}
use Rattle.block_tree.proofs.HolderLaws.{div_mono, whole_number}

-- a block by equal numbers
pub at_block : (P : ℕ → ℕ → Type 0) (j m k n : ℕ) → j ≡ k → m ≡ n → P k n → P j m
at_block P j m k n e g h = subst (λ j. P j m) (sym e) (subst (λ m. P k m) (sym g) h)

-- ---- the two halves of a block

-- the block above
div_more : (p k : ℕ) → p / 2 ^ (k + 1) ≡ p / 2 ^ k / 2
div_more p k = let s : k + 1 ≡ suc k = omega arith in ap (λ n. p / 2 ^ n) s ∙ div_next p k

other_half : (p k n : ℕ) → p / 2 ^ (k + 1) ≡ n / 2 → (p / 2 ^ k ≡ n → ⊥) → p / 2 ^ k ≡ beside n
other_half p k n e ne = let d = div_more p k in elim (cases_eq (p / 2 ^ k) n) [ inl x ↦ absurd (ne x) | inr x ↦ omega (arith, d, e, x) ]

of_half : (p k n : ℕ) → p / 2 ^ k ≡ n → p / 2 ^ (k + 1) ≡ n / 2
of_half p k n e = div_more p k ∙ ap (λ m. m / 2) e

of_other : (p k n : ℕ) → p / 2 ^ k ≡ beside n → p / 2 ^ (k + 1) ≡ n / 2
of_other p k n e = div_more p k ∙ ap (λ m. m / 2) e ∙ (let h : (n + 1 - 2 * (n % 2)) / 2 ≡ n / 2 = omega arith in h)

not_both : (p k n : ℕ) → p / 2 ^ k ≡ n → p / 2 ^ k ≡ beside n → ⊥
not_both p k n a b = omega (arith, a, b)

pub beside_twice : (n : ℕ) → beside (beside n) ≡ n
beside_twice n = omega arith

pub above_end : (k n size : ℕ) → n * 2 ^ k + 2 ^ k ≤ size → beside n * 2 ^ k + 2 ^ k ≤ size → n / 2 * 2 ^ (k + 1) + 2 ^ (k + 1) ≤ size
above_end k n size a b =
    let s : k + 1 ≡ suc k = omega arith in
    let p : 2 ^ (k + 1) ≡ 2 ^ k + 2 ^ k = ap (λ m. 2 ^ m) s ∙ pow_next k in
    let h : n / 2 * 2 ^ (k + 1) ≡ n / 2 * 2 ^ k + n / 2 * 2 ^ k = ap (λ m. n / 2 * m) p ∙ (let e : n / 2 * (2 ^ k + 2 ^ k) ≡ n / 2 * 2 ^ k + n / 2 * 2 ^ k = omega arith in e) in
    elim (cases_eq (n % 2) 0) [
      | inl e ↦
          let o : beside n ≡ n / 2 + n / 2 + 1 = omega (arith, e) in
          let m : beside n * 2 ^ k ≡ (n / 2 + n / 2 + 1) * 2 ^ k = ap (λ x. x * 2 ^ k) o in
          omega (arith, m, b, p, h)
      | inr e ↦
          let o : n ≡ n / 2 + n / 2 + 1 = omega (arith, e) in
          let m : n * 2 ^ k ≡ (n / 2 + n / 2 + 1) * 2 ^ k = ap (λ x. x * 2 ^ k) o in
          omega (arith, m, a, p, h)
    ]

-- ---- a block that is split from block m of order w: block i of order k

-- of the block that has it, of order o, all pages but those of block i are given back
pub record IsSplitting (old now : ℕ → Bool) (w m k i o n : ℕ) : Type 0 where
  pub low : k ≤ o
  pub high : o ≤ w
  pub number : n ≡ i * 2 ^ k / 2 ^ o
  pub inner : (p : ℕ) → p / 2 ^ o ≡ n → now p ≡ is_marked (numbered k i) false (old p) p
  pub rest : (p : ℕ) → p / 2 ^ w ≡ m → (p / 2 ^ o ≡ n → ⊥) → now p ≡ false
  pub outer : (p : ℕ) → (p / 2 ^ w ≡ m → ⊥) → now p ≡ old p

-- a page of block i
in_above : (k i o p : ℕ) → k ≤ o → p / 2 ^ k ≡ i → p / 2 ^ o ≡ i * 2 ^ k / 2 ^ o
in_above k i o p l e = same_at p (i * 2 ^ k) k o l (e ∙ sym (own_block k i))

pub split_start : (old now : ℕ → Bool) (w m k i : ℕ) → k ≤ w → m ≡ i * 2 ^ k / 2 ^ w → ((p : ℕ) → now p ≡ is_marked (numbered w m) false (old p) p) → IsSplitting old now w m k i k i
split_start old now w m k i l e h =
    record {
      low = omega arith;
      high = l;
      number = sym (own_block k i);
      inner = λ p x. h p ∙ marked_in w m p false (old p) (in_above k i w p l x ∙ sym e) ∙ sym (marked_in k i p false (old p) x);
      rest = λ p x y. h p ∙ marked_in w m p false (old p) x;
      outer = λ p x. h p ∙ marked_out w m p false (old p) x;
    }

module _ (old now : ℕ → Bool) (w m k i o n : ℕ) (e : m ≡ i * 2 ^ k / 2 ^ w) (s : IsSplitting old now w m k i o n) where
  pub split_end : (o < w → ⊥) → (p : ℕ) → now p ≡ is_marked (numbered k i) false (old p) p
  split_end done p =
      let same : o ≡ w = let a = s.high in elim (cases_lt o w) [ inl x ↦ absurd (done x) | inr x ↦ omega (arith, x, a) ] in
      let l : k ≤ w = let a = s.low in omega (arith, a, same) in
      let number : n ≡ m = s.number ∙ ap (λ j. i * 2 ^ k / 2 ^ j) same ∙ sym e in
      elim (cases_eq (p / 2 ^ w) m) [
        | inl x ↦ s.inner p (ap (λ j. p / 2 ^ j) same ∙ x ∙ sym number)
        | inr x ↦ s.outer p x ∙ sym (marked_out k i p false (old p) (λ y. x (in_above k i w p l y ∙ sym e)))
      ]

  -- the block above is inside the whole
  above_in : (p : ℕ) → o < w → p / 2 ^ (o + 1) ≡ n / 2 → p / 2 ^ w ≡ m
  above_in p l h =
      let x : p / 2 ^ (o + 1) ≡ i * 2 ^ k / 2 ^ (o + 1) = h ∙ ap (λ j. j / 2) s.number ∙ sym (div_more (i * 2 ^ k) o) in
      same_at p (i * 2 ^ k) (o + 1) w (omega (arith, l)) x ∙ sym e

  pub split_step : (next : ℕ → Bool) → o < w → ((p : ℕ) → p / 2 ^ w ≡ m → old p ≡ true) → ((p : ℕ) → next p ≡ is_marked (numbered o (beside n)) true (now p) p) → IsSplitting old next w m k i (o + 1) (n / 2)
  split_step next l whole h =
      record {
        low = let a = s.low in omega (arith, a);
        high = omega (arith, l);
        number = ap (λ j. j / 2) s.number ∙ sym (div_more (i * 2 ^ k) o);
        inner = λ p x. elim (cases_eq (p / 2 ^ o) n) [
          | inl y ↦ h p ∙ marked_out o (beside n) p true (now p) (not_both p o n y) ∙ s.inner p y
          | inr y ↦
              let z = other_half p o n x y in
              h p ∙ marked_in o (beside n) p true (now p) z ∙ sym (whole p (above_in p l x)) ∙ sym (marked_out k i p false (old p) (λ u. y (in_above k i o p s.low u ∙ sym s.number)))
        ];
        rest = λ p x y.
            h p ∙ marked_out o (beside n) p true (now p) (λ z. y (of_other p o n z)) ∙ s.rest p x (λ z. y (of_half p o n z));
        outer = λ p x. h p ∙ marked_out o (beside n) p true (now p) (λ z. x (above_in p l (of_other p o n z))) ∙ s.outer p x;
      }

  -- the half beside the block can be put into the set
  pub beside_in : o < w → beside n * 2 ^ o / 2 ^ w ≡ m
  beside_in l = above_in (beside n * 2 ^ o) l (of_other (beside n * 2 ^ o) o n (own_block o (beside n)))

  pub beside_end : (size : ℕ) → o < w → m * 2 ^ w + 2 ^ w ≤ size → beside n * 2 ^ o + 2 ^ o ≤ size
  beside_end size l h = let b = block_end (beside n) o w m (omega (arith, l)) (beside_in l) in omega (arith, b, h)

  pub beside_held : o < w → (p : ℕ) → p / 2 ^ o ≡ beside n → now p ≡ false
  beside_held l p h = s.rest p (above_in p l (of_other p o n h)) (λ x. not_both p o n x h)

  pub beside_alone : (size : ℕ) → IsFree now size o (beside (beside n)) → ⊥
  beside_alone size h =
      let b : beside (beside n) ≡ n = beside_twice n in
      let f : IsFree now size o n = subst (IsFree now size o) b h in
      let start : i * 2 ^ k / 2 ^ o ≡ n = sym s.number in
      let a = (free_parts now size o (n * 2 ^ o) f.free).free (i * 2 ^ k) (start ∙ sym (own_block o n)) in
      both_ways (now (i * 2 ^ k)) (s.inner (i * 2 ^ k) start ∙ marked_in k i (i * 2 ^ k) false (old (i * 2 ^ k)) (own_block k i)) a

-- ---- a held block that is given back: block i of order k

-- block n of order o is held, and all will be given back once it is
pub record IsGiving (old now : ℕ → Bool) (k i o n : ℕ) : Type 0 where
  pub held : (p : ℕ) → p / 2 ^ o ≡ n → now p ≡ false
  pub same : (p : ℕ) → is_marked (numbered o n) true (now p) p ≡ is_marked (numbered k i) true (old p) p

pub give_step : (old now next : ℕ → Bool) (size k i o n : ℕ) → IsGiving old now k i o n → IsFree now size o (beside n) → ((p : ℕ) → next p ≡ is_marked (numbered o (beside n)) false (now p) p) → IsGiving old next k i (o + 1) (n / 2)
give_step old now next size k i o n g f h =
    record {
      held = λ p x. elim (cases_eq (p / 2 ^ o) n) [
        | inl y ↦ h p ∙ marked_out o (beside n) p false (now p) (not_both p o n y) ∙ g.held p y
        | inr y ↦ h p ∙ marked_in o (beside n) p false (now p) (other_half p o n x y)
      ];
      same = λ p. elim (cases_eq (p / 2 ^ o) n) [
        | inl y ↦ marked_in (o + 1) (n / 2) p true (next p) (of_half p o n y) ∙ sym (marked_in o n p true (now p) y) ∙ g.same p
        | inr y ↦ elim (cases_eq (p / 2 ^ o) (beside n)) [
          | inl z ↦
              marked_in (o + 1) (n / 2) p true (next p) (of_other p o n z)
              ∙ sym ((free_parts now size o (beside n * 2 ^ o) f.free).free p (z ∙ sym (own_block o (beside n))))
              ∙ sym (marked_out o n p true (now p) y) ∙ g.same p
          | inr z ↦
              marked_out (o + 1) (n / 2) p true (next p) (λ x. z (other_half p o n x y))
              ∙ h p ∙ marked_out o (beside n) p false (now p) z ∙ sym (marked_out o n p true (now p) y) ∙ g.same p
        ]
      ];
    }

pub free_end : (f : ℕ → Bool) (size k n : ℕ) → IsFree f size k n → n * 2 ^ k + 2 ^ k ≤ size
free_end f size k n h = subst (λ q. q * 2 ^ k + 2 ^ k ≤ size) (own_block k n) (free_parts f size k (n * 2 ^ k) h.free).end

pub free_pages : (f : ℕ → Bool) (size k n p : ℕ) → IsFree f size k n → p / 2 ^ k ≡ n → f p ≡ true
free_pages f size k n p h e = (free_parts f size k (n * 2 ^ k) h.free).free p (e ∙ sym (own_block k n))

-- ---- a block that is cleared: block n of order k

pub record IsClearing (old now : ℕ → Bool) (k n : ℕ) : Type 0 where
  pub outer : (p : ℕ) → (p / 2 ^ k ≡ n → ⊥) → now p ≡ old p
  pub inner : (p : ℕ) → p / 2 ^ k ≡ n → now p ≡ true → old p ≡ true

module _ (old now : ℕ → Bool) (size k n : ℕ) (pages : Pieces) (order : pages.order ≡ 0) (first : pages.first ≡ n * 2 ^ k) (last : pages.last ≡ n * 2 ^ k + 2 ^ k - 1) where
  last_in : pages.last / 2 ^ k ≡ n
  last_in = let s = some_pages k in in_block pages.last k n (omega (arith, last, s)) (omega (arith, last, s))

  -- the bounds of a free block that has a page
  low_of : (w m : ℕ) → IsHolder now size pages w m → n * 2 ^ k / 2 ^ w ≤ m
  low_of w m h =
      let z : w - pages.order ≡ w = omega (arith, order) in
      let e : pages.first / 2 ^ (w - pages.order) ≡ n * 2 ^ k / 2 ^ w = ap (λ j. pages.first / 2 ^ j) z ∙ ap (λ x. x / 2 ^ w) first in
      let l = h.low in
      omega (arith, e, l)

  high_of : (w m : ℕ) → IsHolder now size pages w m → m ≤ pages.last / 2 ^ w
  high_of w m h =
      let z : w - pages.order ≡ w = omega (arith, order) in
      let e : pages.last / 2 ^ (w - pages.order) ≡ pages.last / 2 ^ w = ap (λ j. pages.last / 2 ^ j) z in
      let l = h.high in
      omega (arith, e, l)

  -- it isn't around the block
  not_around : (w m : ℕ) → IsClearing old now k n → n * 2 ^ k + 2 ^ k ≤ size → is_free_block old size (block_around k (n * 2 ^ k)) ≡ false → IsHolder now size pages w m → k ≤ w → ⊥
  not_around w m c end held h l =
      let a = low_of w m h in
      let b = high_of w m h in
      let same : pages.last / 2 ^ w ≡ n * 2 ^ k / 2 ^ w = same_at pages.last (n * 2 ^ k) k w l (last_in ∙ sym (own_block k n)) in
      let e : n * 2 ^ k / 2 ^ w ≡ m = omega (arith, a, b, same) in
      let f : is_free_block old size (block_around k (n * 2 ^ k)) ≡ true = free_from old size k (n * 2 ^ k) (subst (λ q. q * 2 ^ k + 2 ^ k ≤ size) (sym (own_block k n)) end) (λ x i.
      let here : x / 2 ^ k ≡ n = i ∙ own_block k n in
      c.inner x here (free_pages now size w m x h.free (same_at x (n * 2 ^ k) k w l i ∙ e))) in
      both_ways (is_free_block old size (block_around k (n * 2 ^ k))) held f

  -- but inside it
  is_inside : (w m : ℕ) → IsHolder now size pages w m → w < k → m * 2 ^ w / 2 ^ k ≡ n
  is_inside w m h l =
      let a = low_of w m h in
      let b = high_of w m h in
      let s = as_smaller n k w (omega (arith, l)) in
      let own : n * 2 ^ k / 2 ^ w ≡ n * 2 ^ (k - w) = ap (λ x. x / 2 ^ w) s ∙ own_block w (n * 2 ^ (k - w)) in
      let x : n * 2 ^ (k - w) * 2 ^ w ≤ m * 2 ^ w = mul-le-mul_right (2 ^ w) (omega (arith, a, own)) in
      let y : m * 2 ^ w ≤ pages.last / 2 ^ w * 2 ^ w = mul-le-mul_right (2 ^ w) b in
      let z = div-mul-le_self pages.last (2 ^ w) in
      let t = some_pages k in
      in_block (m * 2 ^ w) k n (omega (arith, s, x)) (omega (arith, y, z, last, t))

  pub clear_step : (next : ℕ → Bool) (w m : ℕ) → IsClearing old now k n → n * 2 ^ k + 2 ^ k ≤ size → is_free_block old size (block_around k (n * 2 ^ k)) ≡ false → IsHolder now size pages w m
      → ((p : ℕ) → next p ≡ is_marked (numbered w m) false (now p) p) → IsClearing old next k n
  clear_step next w m c end held h e =
      let l : w < k = elim (cases_lt w k) [ inl x ↦ x | inr x ↦ absurd (not_around w m c end held h x) ] in
      let inside : (p : ℕ) → p / 2 ^ w ≡ m → p / 2 ^ k ≡ n = λ p x. same_at p (m * 2 ^ w) w k (omega (arith, l)) (x ∙ sym (own_block w m)) ∙ is_inside w m h l in
      record {
        outer = λ p x. e p ∙ marked_out w m p false (now p) (λ y. x (inside p y)) ∙ c.outer p x;
        inner = λ p x y. elim (cases_eq (p / 2 ^ w) m) [
          | inl z ↦ absurd (both_ways (next p) (e p ∙ marked_in w m p false (now p) z) y)
          | inr z ↦ c.inner p x (sym (marked_out w m p false (now p) z) ∙ sym (e p) ∙ y)
        ];
      }

  pub clear_end : IsClearing old now k n → ((p : ℕ) → now p ≡ true → p < size) → ((j i : ℕ) → IsHolder now size pages j i → ⊥) → (p : ℕ) → now p ≡ is_marked (numbered k n) false (old p) p
  clear_end c below none p =
      elim (cases_eq (p / 2 ^ k) n) [
        | inr x ↦ c.outer p x ∙ sym (marked_out k n p false (old p) x)
        | inl x ↦
            false_from_ne_true (now p) (λ t.
            let u = below p t in
            let one : p / 2 ^ 0 * 2 ^ 0 + 2 ^ 0 ≤ size = omega (arith, u) in
            let f : is_free_block now size (block_around 0 p) ≡ true = free_from now size 0 p one (λ y i. let s : y ≡ p = omega (arith, i) in ap now s ∙ t) in
            let h = largest_from now size 0 p f in
            let j : ℕ = free_order now size p 0 (log2 size) in
            let z : j - pages.order ≡ j = omega (arith, order) in
            let b = block_pages p k n x in
            let s = some_pages j in
            let lo : pages.first / 2 ^ j ≤ p / 2 ^ j = div_mono pages.first p (2 ^ j) (let q = b.0 in omega (arith, first, q)) s in
            let hi : p / 2 ^ j ≤ pages.last / 2 ^ j = div_mono p pages.last (2 ^ j) (let q = b.1 in omega (arith, last, q)) s in
            none j (p / 2 ^ j) (record {
              order = omega (arith, order);
              low = subst (λ i. pages.first / 2 ^ i ≤ p / 2 ^ j) (sym z) lo;
              high = subst (λ i. p / 2 ^ j ≤ pages.last / 2 ^ i) (sym z) hi;
              free = whole_number now size j p (p / 2 ^ j) refl h.whole;
            })) ∙ sym (marked_in k n p false (old p) x)
      ]

-- ---- how many pages are free

abbrev pub count_free : List Bool → ℕ
count_free [] = 0
count_free (b ∷ bs) = (if b then 1 else 0) + count_free bs

no_more : (xs ys : List Bool) → length ys ≡ length xs → ((p : ℕ) → get_or ys p false ≡ true → get_or xs p false ≡ true) → count_free ys ≤ count_free xs
no_more [] [] e h = omega arith
no_more [] (y ∷ ys) e h = absurd (omega (arith, e))
no_more (x ∷ xs) [] e h = absurd (omega (arith, e))
no_more (x ∷ xs) (y ∷ ys) e h =
    let rest = no_more xs ys (omega (arith, e)) (λ p t. h (suc p) t) in
    let head : (if y then 1 else 0) ≤ (if x then 1 else 0) = by y x (h 0) in
    omega (arith, rest, head)
  where
    by : (y x : Bool) → (y ≡ true → x ≡ true) → (if y then 1 else 0) ≤ (if x then 1 else 0)
    by true true h = omega arith
    by true false h = let z = h refl in absurd cc
    by false true h = omega arith
    by false false h = omega arith

pub fewer_free : (xs ys : List Bool) (i : ℕ) → length ys ≡ length xs → ((p : ℕ) → get_or ys p false ≡ true → get_or xs p false ≡ true) → get_or xs i false ≡ true → get_or ys i false ≡ false → count_free ys < count_free xs
fewer_free [] [] i e h a b = absurd cc
fewer_free [] (y ∷ ys) i e h a b = absurd (omega (arith, e))
fewer_free (x ∷ xs) [] i e h a b = absurd (omega (arith, e))
fewer_free (x ∷ xs) (y ∷ ys) zero e h a b =
    let rest = no_more xs ys (omega (arith, e)) (λ p t. h (suc p) t) in
    let head : ◌≡◌ {A = ℕ} (if y then 1 else 0) 0 = ap (λ t. if t then 1 else 0) b in
    let top : ◌≡◌ {A = ℕ} (if x then 1 else 0) 1 = ap (λ t. if t then 1 else 0) a in
    omega (arith, rest, head, top)
fewer_free (x ∷ xs) (y ∷ ys) (suc i) e h a b =
    let rest = fewer_free xs ys i (omega (arith, e)) (λ p t. h (suc p) t) a b in
    let head : (if y then 1 else 0) ≤ (if x then 1 else 0) = by y x (h 0) in
    omega (arith, rest, head)
  where
    by : (y x : Bool) → (y ≡ true → x ≡ true) → (if y then 1 else 0) ≤ (if x then 1 else 0)
    by true true h = omega arith
    by true false h = let z = h refl in absurd cc
    by false true h = omega arith
    by false false h = omega arith

-- fewer once a free block is taken out
pub clear_fewer : (xs ys : List Bool) (k n : ℕ) → IsFree (is_free xs) (length xs) k n → length ys ≡ length xs → ((p : ℕ) → is_free ys p ≡ is_marked (numbered k n) false (is_free xs p) p) → count_free ys < count_free xs
clear_fewer xs ys k n f e h =
    fewer_free xs ys (n * 2 ^ k) e
    (λ p t. elim (cases_eq (p / 2 ^ k) n) [
      | inl x ↦ absurd (both_ways (is_free ys p) (h p ∙ marked_in k n p false (is_free xs p) x) t)
      | inr x ↦ sym (marked_out k n p false (is_free xs p) x) ∙ sym (h p) ∙ t
    ])
    (free_pages (is_free xs) (length xs) k n (n * 2 ^ k) f (own_block k n))
    (h (n * 2 ^ k) ∙ marked_in k n (n * 2 ^ k) false (is_free xs (n * 2 ^ k)) (own_block k n))

-- ---- a block that is marked

-- a block inside a free one is free as it is
pub around_marked : (f : ℕ → Bool) (size k n : ℕ) (b : Block) → IsAround f size k n b → (p : ℕ) → f p ≡ is_marked (numbered k n) true (f p) p
around_marked f size k n b a p =
    elim (cases_eq (p / 2 ^ k) n) [
      | inl x ↦ free_pages f size b.order b.number p a.free (in_above k n b.order p a.order x ∙ sym a.number) ∙ sym (marked_in k n p true (f p) x)
      | inr x ↦ sym (marked_out k n p true (f p) x)
    ]

pub marked_again : (k n p : ℕ) (x : Bool) → is_marked (numbered k n) true (is_marked (numbered k n) false x p) p ≡ is_marked (numbered k n) true x p
marked_again k n p x =
    elim (cases_eq (p / 2 ^ k) n) [
      | inl i ↦ marked_in k n p true (is_marked (numbered k n) false x p) i ∙ sym (marked_in k n p true x i)
      | inr i ↦ marked_out k n p true (is_marked (numbered k n) false x p) i ∙ marked_out k n p false x i ∙ sym (marked_out k n p true x i)
    ]

pub marked_held : (k n p : ℕ) (x : Bool) → p / 2 ^ k ≡ n → is_marked (numbered k n) false x p ≡ false
marked_held k n p x e = marked_in k n p false x e
