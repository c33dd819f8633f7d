-- The largest free blocks as a set, and the pages that they have.
use Rattle.std.proofs.Common.{◌≡◌, ℕ, zero, suc, ◌+◌, ◌*◌, ◌/◌, ◌^◌, ◌≤◌, ◌⊎◌, inl, inr, Bool, true, false, refl, ap, sym, ◌∙◌, subst, arith, mul-div_cancel, if◌then◌else◌}
use Rattle.std.proofs.lemmas.Bool.{and_parts, and_from, leb-true, le-leb, ltb-true, lt-ltb, cases_lt, cases_eq, false_from_ne_true, both_ways}
use Rattle.ttm_base.specs.Holes.{has_page}
use Rattle.ttm_base.specs.BuddyChoice.{block_around, is_free_block}
use Rattle.block_tree.specs.FreeSet.{beside, AreApart}
use Rattle.block_tree.specs.Masks.{is_marked}
use Rattle.block_tree.specs.Searching.{numbered}
use Rattle.block_tree.specs.Pieces.{IsWhole}
use Rattle.block_tree.proofs.Numbers.{some_pages, pow_next, div_next, block_pages, in_block, same_at}
use Rattle.block_tree.proofs.FreeLaws.{free_from, free_parts}
use Rattle.block_tree.proofs.PieceLaws.{next_order, one_whole}

-- ---- pages of a block, and others

pub bool_cases : (t : Bool) → (t ≡ true) ⊎ (t ≡ false)
bool_cases true = inl refl
bool_cases false = inr refl

pub has_from : (k n p : ℕ) → p / 2 ^ k ≡ n → has_page p (numbered k n) ≡ true
has_from k n p e = let b = block_pages p k n e in and_from _ _ (le-leb (n * 2 ^ k) p b.0) (lt-ltb p (n * 2 ^ k + 2 ^ k) b.1)

pub has_is : (k n p : ℕ) → has_page p (numbered k n) ≡ true → p / 2 ^ k ≡ n
has_is k n p h = let a = and_parts _ _ h in in_block p k n (leb-true (n * 2 ^ k) p a.0) (ltb-true p (n * 2 ^ k + 2 ^ k) a.1)

pub has_not : (k n p : ℕ) → (p / 2 ^ k ≡ n → ⊥) → has_page p (numbered k n) ≡ false
has_not k n p h = false_from_ne_true (has_page p (numbered k n)) (λ t. h (has_is k n p t))

pub marked_in : (k n p : ℕ) (free before : Bool) → p / 2 ^ k ≡ n → is_marked (numbered k n) free before p ≡ free
marked_in k n p free before e = ap (λ t. if t then free else before) (has_from k n p e)

pub marked_out : (k n p : ℕ) (free before : Bool) → (p / 2 ^ k ≡ n → ⊥) → is_marked (numbered k n) free before p ≡ before
marked_out k n p free before h = ap (λ t. if t then free else before) (has_not k n p h)

-- the block that has a page
pub own_block : (k n : ℕ) → n * 2 ^ k / 2 ^ k ≡ n
own_block k n = mul-div_cancel n (some_pages k)

-- ---- what a set of blocks tells of the pages

-- a block of the set has the page
pub record HasBlock (has : ℕ → ℕ → Bool) (p : ℕ) : Type 0 where
  pub order : ℕ
  pub is : has order (p / 2 ^ order) ≡ true

-- the pages that are free are those of the blocks
pub record Tells (size : ℕ) (has : ℕ → ℕ → Bool) (f : ℕ → Bool) : Type 0 where
  pub blocks : AreApart size has
  pub free : (p k : ℕ) → has k (p / 2 ^ k) ≡ true → f p ≡ true
  pub found : (p : ℕ) → f p ≡ true → HasBlock has p

-- a block of the set, of no smaller order, has the block
pub record IsAround (has : ℕ → ℕ → Bool) (k n : ℕ) : Type 0 where
  pub order : ℕ
  pub above : k ≤ order
  pub is : has order (n * 2 ^ k / 2 ^ order) ≡ true

-- both tell of the same pages
pub tell_same : (size : ℕ) (has : ℕ → ℕ → Bool) (f g : ℕ → Bool) (p : ℕ) → Tells size has f → Tells size has g → f p ≡ g p
tell_same size has f g p a b =
    elim (bool_cases (f p)) [
      | inl t ↦ let x = a.found p t in t ∙ sym (b.free p x.order x.is)
      | inr t ↦ t ∙ sym (false_from_ne_true (g p) (λ u. let x = b.found p u in both_ways (f p) t (a.free p x.order x.is)))
    ]

-- the halves of a block
half_start : (k n : ℕ) → (2 * n) * 2 ^ k ≡ n * 2 ^ suc k
half_start k n = let p = pow_next k in let m = ap (λ x. n * x) p in omega arith

high_start : (k n o : ℕ) → suc k ≤ o → (2 * n + 1) * 2 ^ k / 2 ^ o ≡ n * 2 ^ suc k / 2 ^ o
high_start k n o h =
    let p = pow_next k in
    let s = some_pages k in
    let m = ap (λ x. n * x) p in
    let e : (2 * n + 1) * 2 ^ k / 2 ^ suc k ≡ n = in_block ((2 * n + 1) * 2 ^ k) (suc k) n (omega arith) (omega arith) in
    same_at ((2 * n + 1) * 2 ^ k) (n * 2 ^ suc k) (suc k) o h (e ∙ sym (own_block (suc k) n))

module _ (size : ℕ) (has : ℕ → ℕ → Bool) (f : ℕ → Bool) (t : Tells size has f) where
  -- a block whose pages are all free is one of the set or inside one
  pub all_free : (k n : ℕ) → ((x : ℕ) → x / 2 ^ k ≡ n → f x ≡ true) → IsAround has k n
  all_free zero n h =
      let one : n * 2 ^ 0 ≡ n = omega arith in
      let x = t.found (n * 2 ^ 0) (h (n * 2 ^ 0) (own_block 0 n)) in
      record { order = x.order; above = omega arith; is = x.is }
  all_free (suc k) n h =
      let low = all_free k (2 * n) (λ x e. h x (let d = div_next x k in omega arith)) in
      let high = all_free k (2 * n + 1) (λ x e. h x (let d = div_next x k in omega arith)) in
      elim (cases_lt k low.order) [
        | inl l ↦ record { order = low.order; above = omega (arith, l); is = subst (λ p. has low.order (p / 2 ^ low.order) ≡ true) (half_start k n) low.is }
        | inr l ↦ elim (cases_lt k high.order) [
          | inl m ↦ record { order = high.order; above = omega (arith, m); is = subst (λ q. has high.order q ≡ true) (high_start k n high.order (omega (arith, m))) high.is }
          | inr m ↦
              let el : low.order ≡ k = let a = low.above in omega (arith, l, a) in
              let eh : high.order ≡ k = let a = high.above in omega (arith, m, a) in
              let a : has k (2 * n) ≡ true = subst (λ q. has k q ≡ true) (own_block k (2 * n)) (subst (λ o. has o ((2 * n) * 2 ^ k / 2 ^ o) ≡ true) el low.is) in
              let b : has k (2 * n + 1) ≡ true = subst (λ q. has k q ≡ true) (own_block k (2 * n + 1)) (subst (λ o. has o ((2 * n + 1) * 2 ^ k / 2 ^ o) ≡ true) eh high.is) in
              absurd (t.blocks.parted k n a b)
        ]
      ]

  -- the same, of the block of an order that has a page
  free_around : (k p : ℕ) → is_free_block f size (block_around k p) ≡ true → IsAround has k (p / 2 ^ k)
  free_around k p h = all_free k (p / 2 ^ k) (free_parts f size k p h).free

  start_in : (k p o : ℕ) → k ≤ o → p / 2 ^ k * 2 ^ k / 2 ^ o ≡ p / 2 ^ o
  start_in k p o h = same_at (p / 2 ^ k * 2 ^ k) p k o h (own_block k (p / 2 ^ k))

  -- the blocks of the set are the largest around their pages
  pub whole_of : (j p : ℕ) → has j (p / 2 ^ j) ≡ true → IsWhole f size j p
  whole_of j p h =
      record {
        free = free_from f size j p (t.blocks.within j (p / 2 ^ j) h) (λ x e. t.free x j (subst (λ q. has j q ≡ true) (sym e) h));
        largest = next_order f size j p false (false_from_ne_true (is_free_block f size (block_around (suc j) p)) (λ u.
            let a = free_around (suc j) p u in
            let w : has a.order (p / 2 ^ a.order) ≡ true = subst (λ q. has a.order q ≡ true) (start_in (suc j) p a.order a.above) a.is in
            let e = t.blocks.alone p j a.order h w in
            let z = a.above in
            omega (arith, e, z)));
      }

  pub is_whole : (j n : ℕ) → has j n ≡ true → IsWhole f size j (n * 2 ^ j)
  is_whole j n h = whole_of j (n * 2 ^ j) (subst (λ q. has j q ≡ true) (sym (own_block j n)) h)

  -- a free block has one of the set around it
  pub around_free : (k p : ℕ) → is_free_block f size (block_around k p) ≡ true → IsAround has k (p / 2 ^ k)
  around_free k p h = free_around k p h

  pub block_of : (j p : ℕ) → IsWhole f size j p → has j (p / 2 ^ j) ≡ true
  block_of j p w =
      let a = free_around j p w.free in
      let h : has a.order (p / 2 ^ a.order) ≡ true = subst (λ q. has a.order q ≡ true) (start_in j p a.order a.above) a.is in
      let e = one_whole f size a.order j p (whole_of a.order p h) w in
      subst (λ o. has o (p / 2 ^ o) ≡ true) e h

  pub of_whole : (j n : ℕ) → IsWhole f size j (n * 2 ^ j) → has j n ≡ true
  of_whole j n w = subst (λ q. has j q ≡ true) (own_block j n) (block_of j (n * 2 ^ j) w)

-- ---- a block that is put into the set, or taken out

-- v tells whether block n of order k is in the set from now on
pub record IsSetAt (has new : ℕ → ℕ → Bool) (k n : ℕ) (v : Bool) : Type 0 where
  pub same : new k n ≡ v
  pub other : (j m : ℕ) → (j ≡ k → m ≡ n → ⊥) → new j m ≡ has j m

-- it is the block, or another
pub is_block : (j m k n : ℕ) → ((j ≡ k) × (m ≡ n)) ⊎ (j ≡ k → m ≡ n → ⊥)
is_block j m k n =
    elim (cases_eq j k) [
      | inr x ↦ inr (λ a b. x a)
      | inl x ↦ elim (cases_eq m n) [
        | inr y ↦ inr (λ a b. y b)
        | inl y ↦ inl (x, y)
      ]
    ]

module _ (size : ℕ) (has new : ℕ → ℕ → Bool) (f : ℕ → Bool) (k n : ℕ) (t : Tells size has f) where
  -- no block that is in the set now is another than before
  taken_before : (s : IsSetAt has new k n false) (j m : ℕ) → new j m ≡ true → (has j m ≡ true) × (j ≡ k → m ≡ n → ⊥)
  taken_before s j m h =
      elim (is_block j m k n) [
        | inr x ↦ (sym (s.other j m x) ∙ h, x)
        | inl x ↦ absurd (both_ways (new j m) (subst (λ j. new j m ≡ false) (sym x.0) (subst (λ m. new k m ≡ false) (sym x.1) s.same)) h)
      ]

  pub taken_out : IsSetAt has new k n false → has k n ≡ true → Tells size new (λ p. is_marked (numbered k n) false (f p) p)
  taken_out s is =
      record {
        blocks = record {
          within = λ j m h. t.blocks.within j m (taken_before s j m h).0;
          alone = λ p j i a b. t.blocks.alone p j i (taken_before s j (p / 2 ^ j) a).0 (taken_before s i (p / 2 ^ i) b).0;
          parted = λ j m a b. t.blocks.parted j m (taken_before s j (2 * m) a).0 (taken_before s j (2 * m + 1) b).0;
        };
        free = λ p j h.
            let b = taken_before s j (p / 2 ^ j) h in
            marked_out k n p false (f p) (λ e.
            let i = t.blocks.alone p j k b.0 (subst (λ q. has k q ≡ true) (sym e) is) in
            b.1 i (subst (λ o. p / 2 ^ o ≡ n) (sym i) e)) ∙ t.free p j b.0;
        found = λ p h. elim (cases_eq (p / 2 ^ k) n) [
          | inl e ↦ absurd (both_ways (is_marked (numbered k n) false (f p) p) (marked_in k n p false (f p) e) h)
          | inr e ↦
              let x = t.found p (sym (marked_out k n p false (f p) e) ∙ h) in
              record { order = x.order; is = s.other x.order (p / 2 ^ x.order) (λ a b. e (subst (λ o. p / 2 ^ o ≡ n) a b)) ∙ x.is }
        ];
      }

  given_before : (s : IsSetAt has new k n true) (j m : ℕ) → new j m ≡ true → ((j ≡ k) × (m ≡ n)) ⊎ (has j m ≡ true)
  given_before s j m h =
      elim (is_block j m k n) [
        | inr x ↦ inr (sym (s.other j m x) ∙ h)
        | inl x ↦ inl x
      ]

  -- block n has no page of a block that was in the set
  apart_from : ((p : ℕ) → p / 2 ^ k ≡ n → f p ≡ false) → (p j : ℕ) → p / 2 ^ k ≡ n → has j (p / 2 ^ j) ≡ true → ⊥
  apart_from held p j e h = both_ways (f p) (held p e) (t.free p j h)

  here : (i p : ℕ) → (i ≡ k) × (p / 2 ^ i ≡ n) → p / 2 ^ k ≡ n
  here i p x = subst (λ o. p / 2 ^ o ≡ n) x.0 x.1

  pub put_in : IsSetAt has new k n true → n * 2 ^ k + 2 ^ k ≤ size → ((p : ℕ) → p / 2 ^ k ≡ n → f p ≡ false) → (has k (beside n) ≡ true → ⊥) → Tells size new (λ p. is_marked (numbered k n) true (f p) p)
  put_in s end held alone =
      record {
        blocks = record {
          within = λ j m h. elim (given_before s j m h) [
            | inl x ↦ subst (λ j. m * 2 ^ j + 2 ^ j ≤ size) (sym x.0) (subst (λ m. m * 2 ^ k + 2 ^ k ≤ size) (sym x.1) end)
            | inr x ↦ t.blocks.within j m x
          ];
          alone = λ p j i a b. elim (given_before s j (p / 2 ^ j) a) [
            | inl x ↦ elim (given_before s i (p / 2 ^ i) b) [
              | inl y ↦ x.0 ∙ sym y.0
              | inr y ↦ absurd (apart_from held p i (here j p x) y)
            ]
            | inr x ↦ elim (given_before s i (p / 2 ^ i) b) [
              | inl y ↦ absurd (apart_from held p j (here i p y) x)
              | inr y ↦ t.blocks.alone p j i x y
            ]
          ];
          parted = λ j m a b. elim (given_before s j (2 * m) a) [
            | inl x ↦ elim (given_before s j (2 * m + 1) b) [
              | inl y ↦ let e = x.1 in let g = y.1 in omega (arith, e, g)
              | inr y ↦
                  let e : 2 * m + 1 ≡ beside n = let z = x.1 in omega (arith, z) in
                  alone (subst (λ q. has k q ≡ true) e (subst (λ o. has o (2 * m + 1) ≡ true) x.0 y))
            ]
            | inr x ↦ elim (given_before s j (2 * m + 1) b) [
              | inl y ↦
                  let e : 2 * m ≡ beside n = let z = y.1 in omega (arith, z) in
                  alone (subst (λ q. has k q ≡ true) e (subst (λ o. has o (2 * m) ≡ true) y.0 x))
              | inr y ↦ t.blocks.parted j m x y
            ]
          ];
        };
        free = λ p j h. elim (given_before s j (p / 2 ^ j) h) [
          | inl x ↦ marked_in k n p true (f p) (here j p x)
          | inr x ↦ ap (λ b. is_marked (numbered k n) true b p) (t.free p j x) ∙ either (has_page p (numbered k n))
        ];
        found = λ p h. elim (cases_eq (p / 2 ^ k) n) [
          | inl e ↦ record { order = k; is = subst (λ q. new k q ≡ true) (sym e) s.same }
          | inr e ↦
              let x = t.found p (sym (marked_out k n p true (f p) e) ∙ h) in
              record { order = x.order; is = s.other x.order (p / 2 ^ x.order) (λ a b. e (subst (λ o. p / 2 ^ o ≡ n) a b)) ∙ x.is }
        ];
      }
    where
      either : (b : Bool) → (if b then true else true) ≡ true
      either true = refl
      either false = refl
