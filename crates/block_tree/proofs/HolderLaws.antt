-- Wanted blocks, and the free blocks that have them.
use Rattle.std.proofs.Common.{◌≡◌, ℕ, ◌+◌, ◌-◌, ◌*◌, ◌/◌, ◌^◌, ◌<◌, ◌≤◌, min, max, inl, inr, Bool, true, false, Option, None, refl, ap, sym, ◌∙◌, subst, arith, mul-div_cancel, mul-le-mul_right, if◌then◌else◌}
use Rattle.std.proofs.lemmas.Bool.{cases_lt, cases_eq}
use Rattle.std.proofs.lemmas.Nat.{div-mul-add}
use Rattle.std.proofs.Math.Nat.{div-mul-le_self, lt-div-mul-add}
use Rattle.ttm_base.specs.declared.Span.{Span}
use Rattle.ttm_base.specs.BuddyChoice.{block_around, is_free_block}
use Rattle.block_tree.specs.declared.block.Block.{Block}
use Rattle.block_tree.specs.declared.request.Request.{Request}
use Rattle.block_tree.specs.declared.request.Pieces.{Pieces}
use Rattle.block_tree.specs.Searching.{numbered, IsAhead}
use Rattle.block_tree.specs.Pieces.{IsWhole, IsPiece, IsLeastWhole, LeastWholeOf, IsFirstPiece, FirstPieceOf}
use Rattle.block_tree.specs.Holding.{ArePieces, PiecesOf, IsFree, IsHolder, IsFirstFree, IsLastFree, IsLowest, LowestOf, IsFirstHolder, FirstHolderOf, IsAround, IsFound, IsChosen}
use Rattle.block_tree.proofs.Numbers.{some_pages, same_at, number_in, as_smaller}
use Rattle.block_tree.proofs.PieceLaws.{piece_within}

-- ---- the blocks inside a range

pub div_mono : (a b n : ℕ) → a ≤ b → 0 < n → a / n ≤ b / n
div_mono a b n h s = elim (cases_lt (b / n) (a / n)) [
  | inr x ↦ x
  | inl x ↦
      let m : (b / n + 1) * n ≤ a / n * n = mul-le-mul_right n (omega arith) in
      let l : a / n * n ≤ a = let d = div_le a n in d in
      let u : b < (b / n + 1) * n = lt_next b n s in
      absurd (omega arith)
] where
  div_le : (a n : ℕ) → a / n * n ≤ a
  div_le a n = div-mul-le_self a n

  lt_next : (b n : ℕ) → 0 < n → b < (b / n + 1) * n
  lt_next b n s = let u = lt-div-mul-add {a = b} s in omega arith

-- a block of the same pages
around_same : (f : ℕ → Bool) (size k y x : ℕ) (t : Bool) → y / 2 ^ k ≡ x / 2 ^ k → is_free_block f size (block_around k x) ≡ t → is_free_block f size (block_around k y) ≡ t
around_same f size k y x t e h = ap (λ q. let s : Span = record { start = q * 2 ^ k; end = q * 2 ^ k + 2 ^ k } in is_free_block f size s) e ∙ h

-- the block that has a page, by its number
pub whole_number : (f : ℕ → Bool) (size w x n : ℕ) → n ≡ x / 2 ^ w → IsWhole f size w x → IsFree f size w n
whole_number f size w x n e h =
    let b : (k : ℕ) → w ≤ k → n * 2 ^ w / 2 ^ k ≡ x / 2 ^ k = λ k l. same_at (n * 2 ^ w) x w k l (mul-div_cancel n (some_pages w) ∙ e) in
    record {
      free = around_same f size w (n * 2 ^ w) x true (b w (omega arith)) h.free;
      largest = around_same f size (w + 1) (n * 2 ^ w) x false (b (w + 1) (omega arith)) h.largest;
    }

pub number_whole : (f : ℕ → Bool) (size w x n : ℕ) → n ≡ x / 2 ^ w → IsFree f size w n → IsWhole f size w x
number_whole f size w x n e h =
    let b : (k : ℕ) → w ≤ k → x / 2 ^ k ≡ n * 2 ^ w / 2 ^ k = λ k l. same_at x (n * 2 ^ w) w k l (sym (mul-div_cancel n (some_pages w) ∙ e)) in
    record {
      free = around_same f size w x (n * 2 ^ w) true (b w (omega arith)) h.free;
      largest = around_same f size (w + 1) x (n * 2 ^ w) false (b (w + 1) (omega arith)) h.largest;
    }

-- ---- a wanted block that would be split from a free block

module _ (f : ℕ → Bool) (size : ℕ) (r : Request) (p : Pieces) (ps : ArePieces r size p) where
  -- the free block that has block i
  pub piece_holder : (w i : ℕ) → IsPiece f size r.range r.order w i → IsHolder f size p w (i / 2 ^ (w - p.order))
  piece_holder w i h =
      let e = ps.order in
      let o : p.order ≤ w = let x = h.order in omega (arith, e, x) in
      let in_all = ps.all i (record { inside = h.inside; end = piece_within f size r.range r.order w i h }) in
      let s = some_pages (w - p.order) in
      let n : i / 2 ^ (w - p.order) ≡ i * 2 ^ r.order / 2 ^ w = number_in i p.order w o ∙ ap (λ k. i * 2 ^ k / 2 ^ w) e in
      record {
        order = o;
        low = div_mono p.first i (2 ^ (w - p.order)) in_all.0 s;
        high = div_mono i p.last (2 ^ (w - p.order)) in_all.1 s;
        free = whole_number f size w (i * 2 ^ r.order) (i / 2 ^ (w - p.order)) n h.whole;
      }

  -- block i between the first and the last, in a free block
  pub holder_piece : (w m i : ℕ) → IsHolder f size p w m → p.first ≤ i → i ≤ p.last → i / 2 ^ (w - p.order) ≡ m → IsPiece f size r.range r.order w i
  holder_piece w m i h l u e =
      let eo = ps.order in
      let o = h.order in
      let n : m ≡ i * 2 ^ r.order / 2 ^ w = sym e ∙ number_in i p.order w o ∙ ap (λ k. i * 2 ^ k / 2 ^ w) eo in
      record {
        order = omega (arith, eo, o);
        inside = ps.inside i l u;
        whole = number_whole f size w (i * 2 ^ r.order) m n h.free;
      }

  -- ---- the first wanted block in a free block

  -- the quotient of a number between two multiples
  in_group : (i m q : ℕ) → 0 < q → m * q ≤ i → i < m * q + q → i / q ≡ m
  in_group i m q s l u =
      let d : i ≡ m * q + (i - m * q) = omega arith in
      ap (λ n. n / q) d ∙ div-mul-add m q (i - m * q) (omega arith)

  group_low : (i m q : ℕ) → 0 < q → i / q ≡ m → (m * q ≤ i) × (i < m * q + q)
  group_low i m q s e =
      let l = div-mul-le_self i q in
      let u = lt-div-mul-add {a = i} s in
      let x = ap (λ x. x * q) e in
      (omega arith, omega arith)

  -- a number of a group that isn't below the first, nor above the last
  low_group : (m q : ℕ) → 0 < q → p.first / q ≤ m → p.first < m * q + q
  low_group m q s l = let g = group_low p.first (p.first / q) q s refl in let x : p.first / q * q ≤ m * q = mul-le-mul_right q l in let u = g.1 in omega (arith, u, x)

  high_group : (m q : ℕ) → 0 < q → m ≤ p.last / q → m * q ≤ p.last
  high_group m q s l = let g = group_low p.last (p.last / q) q s refl in let x : m * q ≤ p.last / q * q = mul-le-mul_right q l in let u = g.0 in omega (arith, u, x)

  -- the piece that is the first in a free block
  abbrev pub first_number : Bool → ℕ → ℕ → ℕ
  first_number t m q = if t then min p.last (m * q + q - 1) else max p.first (m * q)

  pub record IsFirstIn (t : Bool) (m q i : ℕ) : Type 0 where
    pub low : p.first ≤ i
    pub high : i ≤ p.last
    pub group : i / q ≡ m

  first_is_in : (t : Bool) (m q : ℕ) → 0 < q → p.first / q ≤ m → m ≤ p.last / q → IsFirstIn t m q (first_number t m q)
  first_is_in true m q s l u =
      let a = low_group m q s l in
      let b = high_group m q s u in
      let c = ps.some in
      record { low = omega (arith, a, c, s); high = omega arith; group = in_group (min p.last (m * q + q - 1)) m q s (omega (arith, b, s)) (omega (arith, s)) }
  first_is_in false m q s l u =
      let a = low_group m q s l in
      let b = high_group m q s u in
      let c = ps.some in
      record { low = omega arith; high = omega (arith, b, c); group = in_group (max p.first (m * q)) m q s (omega arith) (omega (arith, a, s)) }

  -- of the groups from the first on, the first number that is wanted
  ahead_of : (t : Bool) (m q i : ℕ) → 0 < q → p.first ≤ i → i ≤ p.last → IsAhead t m (i / q) → IsAhead t (first_number t m q) i
  ahead_of true m q i s l u a =
      let g = group_low i (i / q) q s refl in
      let x : i / q * q ≤ m * q = mul-le-mul_right q a in
      let y = g.1 in
      omega (arith, x, y, u, s)
  ahead_of false m q i s l u a =
      let g = group_low i (i / q) q s refl in
      let x : m * q ≤ i / q * q = mul-le-mul_right q a in
      let y = g.0 in
      omega (arith, x, y, l)

  pub first_in_holder : (w m n : ℕ) → IsHolder f size p w m → ((i : ℕ) → IsHolder f size p w i → IsAhead r.topdown m i) → n ≡ first_number r.topdown m (2 ^ (w - p.order)) → IsFirstPiece f size r.range r.topdown r.order w (numbered r.order n)
  first_in_holder w m n h first e =
      let s = some_pages (w - p.order) in
      let at = first_is_in r.topdown m (2 ^ (w - p.order)) s h.low h.high in
      record {
        number = n;
        block = refl;
        is = subst (IsPiece f size r.range r.order w) (sym e) (holder_piece w m (first_number r.topdown m (2 ^ (w - p.order))) h at.low at.high at.group);
        first = λ i x.
            let c = ps.all i (record { inside = x.inside; end = piece_within f size r.range r.order w i x }) in
            subst (λ n. IsAhead r.topdown n i) (sym e) (ahead_of r.topdown m (2 ^ (w - p.order)) i s c.0 c.1 (first (i / 2 ^ (w - p.order)) (piece_holder w i x)));
      }

  -- the free block has it
  pub holder_around : (w m n : ℕ) (b : Block) → IsHolder f size p w m → n ≡ first_number r.topdown m (2 ^ (w - p.order)) → b.order ≡ w → b.number ≡ m → IsAround f size p.order n b
  holder_around w m n b h e eo em =
      let s = some_pages (w - p.order) in
      let at = first_is_in r.topdown m (2 ^ (w - p.order)) s h.low h.high in
      let o = h.order in
      let g : m ≡ n * 2 ^ p.order / 2 ^ w = sym at.group ∙ ap (λ n. n / 2 ^ (w - p.order)) (sym e) ∙ number_in n p.order w o in
      record {
        order = omega (arith, o, eo);
        number = em ∙ g ∙ ap (λ j. n * 2 ^ p.order / 2 ^ j) (sym eo);
        free = subst (λ j. IsFree f size j b.number) (sym eo) (subst (λ i. IsFree f size w i) (sym em) h.free);
      }

  -- ---- what is found

  pub lowest_least : (b : Block) → IsLowest f size p b → IsLeastWhole f size r.range r.order b.order
  lowest_least b l =
      let h = l.is in
      let s = some_pages (b.order - p.order) in
      let at = first_is_in false b.number (2 ^ (b.order - p.order)) s h.low h.high in
      record {
        bound = λ i w x. (l.least w (i / 2 ^ (w - p.order)) (piece_holder w i x)).0;
        number = first_number false b.number (2 ^ (b.order - p.order));
        is = holder_piece b.order b.number (first_number false b.number (2 ^ (b.order - p.order))) h at.low at.high at.group;
      }

  pub no_lowest : LowestOf f size p None → LeastWholeOf f size r.range r.order None
  no_lowest n = λ i w x. n w (i / 2 ^ (w - p.order)) (piece_holder w i x)

  pub no_first : (w : ℕ) → FirstHolderOf f size p r.topdown w None → FirstPieceOf f size r.range r.topdown r.order w None
  no_first w n = λ i x. n (i / 2 ^ (w - p.order)) (piece_holder w i x)

-- no wanted block is inside the range
pub no_pieces_least : (f : ℕ → Bool) (size : ℕ) (r : Request) → PiecesOf r size None → LeastWholeOf f size r.range r.order None
no_pieces_least f size r n = λ i w x. n i (record { inside = x.inside; end = piece_within f size r.range r.order w i x })

pub no_pieces_first : (f : ℕ → Bool) (size : ℕ) (r : Request) (w : ℕ) → PiecesOf r size None → FirstPieceOf f size r.range r.topdown r.order w None
no_pieces_first f size r w n = λ i x. n i (record { inside = x.inside; end = piece_within f size r.range r.order w i x })

-- ---- the free blocks that have a wanted block, in their order

-- the block in which the first wanted one begins
pub group_start : (x k o : ℕ) → k ≤ o → x / 2 ^ (o - k) * 2 ^ o ≤ x * 2 ^ k
group_start x k o h =
    let s = as_smaller (x / 2 ^ (o - k)) o k h in
    let m : x / 2 ^ (o - k) * 2 ^ (o - k) * 2 ^ k ≤ x * 2 ^ k = mul-le-mul_right (2 ^ k) (div-mul-le_self x (2 ^ (o - k))) in
    omega (arith, s, m)

module _ (f : ℕ → Bool) (size : ℕ) (p : Pieces) where
  -- none is of an order below o
  abbrev pub NoneBelow : ℕ → Type 0
  NoneBelow o = (j i : ℕ) → IsHolder f size p j i → o ≤ j

  from_low : (o n j i : ℕ) → n ≡ p.first / 2 ^ (o - p.order) → IsHolder f size p j i → o ≡ j → n ≤ i
  from_low o n j i e h s = let l = h.low in let x : p.first / 2 ^ (o - p.order) ≡ p.first / 2 ^ (j - p.order) = ap (λ q. p.first / 2 ^ (q - p.order)) s in omega (arith, e, l, x)

  to_high : (o n j i : ℕ) → n ≡ p.last / 2 ^ (o - p.order) → IsHolder f size p j i → o ≡ j → i ≤ n
  to_high o n j i e h s = let l = h.high in let x : p.last / 2 ^ (o - p.order) ≡ p.last / 2 ^ (j - p.order) = ap (λ q. p.last / 2 ^ (q - p.order)) s in omega (arith, e, l, x)

  pub lowest_none : (o n : ℕ) → n ≡ p.first / 2 ^ (o - p.order) → NoneBelow o → ((j i : ℕ) → o ≤ j → (o ≡ j → n ≤ i) → IsFree f size j i → ⊥) → (j i : ℕ) → IsHolder f size p j i → ⊥
  lowest_none o n e below none j i h = none j i (below j i h) (from_low o n j i e h) h.free

  first_bound : (o n : ℕ) (b : Block) → n ≡ p.first / 2 ^ (o - p.order) → NoneBelow o → IsFirstFree f size o n b → (j i : ℕ) → IsHolder f size p j i → (b.order ≤ j) × (b.order ≡ j → b.number ≤ i)
  first_bound o n b e below first j i h = first.first j i (below j i h) (from_low o n j i e h) h.free

  pub lowest_skip : (o n : ℕ) (b : Block) → n ≡ p.first / 2 ^ (o - p.order) → NoneBelow o → IsFirstFree f size o n b → NoneBelow b.order
  lowest_skip o n b e below first j i h = (first_bound o n b e below first j i h).0

  pub lowest_next : (o n : ℕ) (b : Block) → n ≡ p.first / 2 ^ (o - p.order) → NoneBelow o → IsFirstFree f size o n b → p.last / 2 ^ (b.order - p.order) < b.number → NoneBelow (b.order + 1)
  lowest_next o n b e below first past j i h =
      let x = first_bound o n b e below first j i h in
      let l = x.0 in
      elim (cases_eq b.order j) [
        | inr ne ↦ omega (arith, l, ne)
        | inl s ↦ let y = x.1 s in let z = to_high b.order (p.last / 2 ^ (b.order - p.order)) j i refl h s in absurd (omega (arith, y, z, past))
      ]

  pub lowest_is : (o n : ℕ) (b : Block) → n ≡ p.first / 2 ^ (o - p.order) → p.order ≤ o → NoneBelow o → IsFirstFree f size o n b → b.number ≤ p.last / 2 ^ (b.order - p.order) → p.first / 2 ^ (b.order - p.order) ≤ b.number → IsLowest f size p b
  lowest_is o n b e at below first high low =
      record {
        is = record { order = let x = first.order in omega (arith, x, at); low = low; high = high; free = first.free };
        least = first_bound o n b e below first;
      }

  pub order_grows : (o n : ℕ) (b : Block) → n ≡ p.first / 2 ^ (o - p.order) → IsFirstFree f size o n b → b.number < p.first / 2 ^ (b.order - p.order) → o < b.order
  order_grows o n b e first below =
      let l = first.order in
      elim (cases_eq o b.order) [
        | inr ne ↦ omega (arith, l, ne)
        | inl s ↦
            let y = first.number s in
            let x : p.first / 2 ^ (o - p.order) ≡ p.first / 2 ^ (b.order - p.order) = ap (λ q. p.first / 2 ^ (q - p.order)) s in
            absurd (omega (arith, y, x, e, below))
      ]

  -- ---- those of one order

  pub low_none : (k n : ℕ) → n ≡ p.first / 2 ^ (k - p.order) → ((j i : ℕ) → k ≤ j → (k ≡ j → n ≤ i) → IsFree f size j i → ⊥) → (i : ℕ) → IsHolder f size p k i → ⊥
  low_none k n e none i h = none k i (omega arith) (from_low k n k i e h) h.free

  pub low_is : (k n m : ℕ) (b : Block) → n ≡ p.first / 2 ^ (k - p.order) → m ≡ p.last / 2 ^ (k - p.order) → p.order ≤ k → IsFirstFree f size k n b → b.order ≡ k → b.number ≤ m → IsFirstHolder f size p false k b
  low_is k n m b e g at first s u =
      record {
        order = s;
        is = record { order = at; low = let x = first.number (sym s) in omega (arith, x, e); high = omega (arith, u, g); free = subst (λ o. IsFree f size o b.number) s first.free };
        first = λ i h. (first.first k i (omega arith) (from_low k n k i e h) h.free).1 s;
      }

  pub low_past : (k n m : ℕ) (b : Block) → n ≡ p.first / 2 ^ (k - p.order) → m ≡ p.last / 2 ^ (k - p.order) → IsFirstFree f size k n b → (b.order ≡ k → b.number ≤ m → ⊥) → (i : ℕ) → IsHolder f size p k i → ⊥
  low_past k n m b e g first not i h =
      let x = first.first k i (omega arith) (from_low k n k i e h) h.free in
      let l = first.order in
      let a = x.0 in
      let s : b.order ≡ k = omega (arith, l, a) in
      let y = x.1 s in
      let z = to_high k m k i g h refl in
      not s (omega (arith, y, z))

  pub high_none : (k m : ℕ) → m ≡ p.last / 2 ^ (k - p.order) → ((i : ℕ) → i ≤ m → IsFree f size k i → ⊥) → (i : ℕ) → IsHolder f size p k i → ⊥
  high_none k m g none i h = none i (to_high k m k i g h refl) h.free

  pub high_is : (k n m : ℕ) (b : Block) → n ≡ p.first / 2 ^ (k - p.order) → m ≡ p.last / 2 ^ (k - p.order) → p.order ≤ k → IsLastFree f size k m b → n ≤ b.number → IsFirstHolder f size p true k b
  high_is k n m b e g at last l =
      record {
        order = last.order;
        is = record { order = at; low = omega (arith, l, e); high = let x = last.number in omega (arith, x, g); free = subst (λ o. IsFree f size o b.number) last.order last.free };
        first = λ i h. last.last i (to_high k m k i g h refl) h.free;
      }

  pub high_past : (k n m : ℕ) (b : Block) → n ≡ p.first / 2 ^ (k - p.order) → m ≡ p.last / 2 ^ (k - p.order) → IsLastFree f size k m b → b.number < n → (i : ℕ) → IsHolder f size p k i → ⊥
  high_past k n m b e g last below i h =
      let y = last.last i (to_high k m k i g h refl) h.free in
      let z = from_low k n k i e h refl in
      omega (arith, y, z, below)

-- ---- what is found

pub first_topdown : (f : ℕ → Bool) (size : ℕ) (p : Pieces) (k : ℕ) (t d : Bool) (found : Option Block) → t ≡ d → FirstHolderOf f size p d k found → FirstHolderOf f size p t k found
first_topdown f size p k t d found e h = subst (λ t. FirstHolderOf f size p t k found) (sym e) h

pub lowest_first : (f : ℕ → Bool) (size : ℕ) (p : Pieces) (b : Block) → IsLowest f size p b → IsFirstHolder f size p false b.order b
lowest_first f size p b l = record { order = refl; is = l.is; first = λ i h. (l.least b.order i h).1 refl }

pub found_is : (f : ℕ → Bool) (size : ℕ) (r : Request) (p : Pieces) (ps : ArePieces r size p) (k : ℕ) (free piece : Block) → IsFirstHolder f size p r.topdown k free → piece.order ≡ p.order
    → piece.number ≡ (if r.topdown then min p.last (free.number * 2 ^ (free.order - p.order) + 2 ^ (free.order - p.order) - 1) else max p.first (free.number * 2 ^ (free.order - p.order)))
    → IsFound f size r k (record { free = free; piece = piece })
found_is f size r p ps k free piece h po e =
    let q : 2 ^ (free.order - p.order) ≡ 2 ^ (k - p.order) = ap (λ o. 2 ^ (o - p.order)) h.order in
    let n : piece.number ≡ (if r.topdown then min p.last (free.number * 2 ^ (k - p.order) + 2 ^ (k - p.order) - 1) else max p.first (free.number * 2 ^ (k - p.order))) =
    e ∙ ap (λ q. if r.topdown then min p.last (free.number * q + q - 1) else max p.first (free.number * q)) q in
    record {
      order = h.order;
      piece = po ∙ ps.order;
      first = first_in_holder f size r p ps k free.number piece.number h.is h.first n;
      around = subst (λ o. IsAround f size o piece.number free) (sym po) (holder_around f size r p ps k free.number piece.number free h.is n h.order refl);
    }

pub chosen_is : (f : ℕ → Bool) (size : ℕ) (r : Request) (p : Pieces) (ps : ArePieces r size p) (lowest free piece : Block) → IsLowest f size p lowest → IsFirstHolder f size p r.topdown lowest.order free → piece.order ≡ p.order
    → piece.number ≡ (if r.topdown then min p.last (free.number * 2 ^ (free.order - p.order) + 2 ^ (free.order - p.order) - 1) else max p.first (free.number * 2 ^ (free.order - p.order)))
    → IsChosen f size r (record { free = free; piece = piece })
chosen_is f size r p ps lowest free piece l h po e =
    record {
      least = subst (IsLeastWhole f size r.range r.order) (sym h.order) (lowest_least f size r p ps lowest l);
      is = found_is f size r p ps free.order free piece (subst (λ k. IsFirstHolder f size p r.topdown k free) (sym h.order) h) po e;
    }
