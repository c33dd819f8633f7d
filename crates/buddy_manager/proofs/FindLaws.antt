-- What is left of free pages while largest free blocks that were found stay unmarked.
use Rattle.std.proofs.Common.{◌≡◌, ℕ, suc, ◌+◌, ◌-◌, ◌*◌, ◌/◌, ◌%◌, ◌^◌, ◌<◌, ◌≤◌, ◌&&◌, inl, inr, Bool, true, false, List, Some, None, length, set, replicate, option_map, refl, ap, sym, ◌∙◌, subst, arith, not, nat_eq, nat_le, mul-div_cancel, mul-le-mul_right}
use Rattle.std.proofs.lemmas.List.{get_or-set_same, get_or-set_other, get_or-replicate, length-set, length-replicate}
use Rattle.std.proofs.lemmas.Bool.{and_parts, and_from, eqb-true, leb-true, le-leb, cases_lt, cases_eq, false_from_ne_true, both_ways}
use Rattle.std.proofs.Math.Nat.{div-add-mod}
use Rattle.ttm_base.specs.declared.Span.{Span}
use Rattle.ttm_base.specs.Holes.{has_page}
use Rattle.ttm_base.specs.Reach.{is_inside}
use Rattle.ttm_base.specs.BuddyChoice.{block_around, is_free_block, candidate}
use Rattle.block_tree.specs.Searching.{numbered, IsAhead}
use Rattle.block_tree.specs.Pieces.{IsWhole, IsPiece, IsFirstPiece}
use Rattle.block_tree.proofs.Numbers.{some_pages, small_pow, div_next, block_pages, block_end, in_block, same_at, as_smaller, less_number}
use Rattle.block_tree.proofs.FreeLaws.{free_from, free_parts, smaller_free, around_number}
use Rattle.block_tree.proofs.PieceLaws.{one_whole, piece_block, piece_within, piece_free, piece_around}
use Rattle.block_tree.proofs.ChoiceLaws.{candidate_none, candidate_found}
use Rattle.buddy_manager.specs.Taking.{less, CanTake}
use Rattle.buddy_manager.specs.Finding.{IsPart, IsLeft, IsSource, IsAt, HasNoBlock, IsEven, IsBeside, behind, rest_of}
use Rattle.buddy_manager.proofs.HeldLaws.{has_parts, has_from}

-- ---- words

pub inside_parts : (s b : Span) → is_inside s b ≡ true → (s.start ≤ b.start) × (b.end ≤ s.end)
inside_parts s b h = let p = and_parts (nat_le s.start b.start) (nat_le b.end s.end) h in (leb-true s.start b.start p.0, leb-true b.end s.end p.1)

pub inside_from : (s b : Span) → s.start ≤ b.start → b.end ≤ s.end → is_inside s b ≡ true
inside_from s b l u = and_from (nat_le s.start b.start) (nat_le b.end s.end) (le-leb s.start b.start l) (le-leb b.end s.end u)

pub less_parts : (g : ℕ → Bool) (b : Span) (page : ℕ) → less g b page ≡ true → (g page ≡ true) × (has_page page b ≡ false)
less_parts g b page h = two (g page) (has_page page b) h where
  two : (x y : Bool) → (x && not y) ≡ true → (x ≡ true) × (y ≡ false)
  two true true h = absurd cc
  two true false h = (refl, refl)
  two false y h = absurd cc

less_from : (g : ℕ → Bool) (b : Span) (page : ℕ) → g page ≡ true → has_page page b ≡ false → less g b page ≡ true
less_from g b page h n = and_from (g page) (not (has_page page b)) h (ap not n)

in_number : (x k i : ℕ) → has_page x (numbered k i) ≡ true → x / 2 ^ k ≡ i
in_number x k i h = let p = has_parts x (numbered k i) h in in_block x k i p.0 p.1

not_number : (x k i : ℕ) → (x / 2 ^ k ≡ i → ⊥) → has_page x (numbered k i) ≡ false
not_number x k i n = false_from_ne_true (has_page x (numbered k i)) (λ t. n (in_number x k i t))

pub has_number : (x k i : ℕ) → x / 2 ^ k ≡ i → has_page x (numbered k i) ≡ true
has_number x k i e = let p = block_pages x k i e in has_from x (numbered k i) p.0 p.1

pub own_number : (k i : ℕ) → i * 2 ^ k / 2 ^ k ≡ i
own_number k i = mul-div_cancel i (some_pages k)

less_times : (a b n : ℕ) → a ≤ b → a * n ≤ b * n
less_times a b n h = mul-le-mul_right n h

around_same : (p q j : ℕ) → p / 2 ^ j ≡ q / 2 ^ j → block_around j p ≡ block_around j q
around_same p q j e = ap (λ n. let s : Span = record { start = n * 2 ^ j; end = n * 2 ^ j + 2 ^ j } in s) e

-- ---- blocks of fewer pages

pub sub_block : (g f : ℕ → Bool) (size k p : ℕ) → ((page : ℕ) → page < size → g page ≡ true → f page ≡ true) → is_free_block g size (block_around k p) ≡ true → is_free_block f size (block_around k p) ≡ true
sub_block g f size k p h t =
    let a = free_parts g size k p t in
    let e = a.end in
    free_from f size k p e (λ x i. let u = (block_pages x k (p / 2 ^ k) i).1 in h x (omega (arith, u, e)) (a.free x i))

pub whole_same : (f : ℕ → Bool) (size j p q : ℕ) → p / 2 ^ j ≡ q / 2 ^ j → IsWhole f size j p → IsWhole f size j q
whole_same f size j p q e w =
    record {
      free = subst (λ b. is_free_block f size b ≡ true) (around_same p q j e) w.free;
      largest = subst (λ b. is_free_block f size b ≡ false) (around_same p q (j + 1) (same_at p q j (j + 1) (omega arith) e)) w.largest;
    }

pub own_page : (f : ℕ → Bool) (size j p : ℕ) → is_free_block f size (block_around j p) ≡ true → f p ≡ true
own_page f size j p t = (free_parts f size j p t).free p refl

whole_from : (g f : ℕ → Bool) (size j p : ℕ) → IsPart g f size → IsWhole g size j p → IsWhole f size j p
whole_from g f size j p h w =
    record {
      free = sub_block g f size j p h.sub w.free;
      largest = false_from_ne_true (is_free_block f size (block_around (j + 1) p)) (λ t. both_ways (is_free_block g size (block_around (j + 1) p)) w.largest (h.whole p (j + 1) (own_page g size j p w.free) t));
    }

whole_in : (g f : ℕ → Bool) (size j p : ℕ) → IsPart g f size → g p ≡ true → IsWhole f size j p → IsWhole g size j p
whole_in g f size j p h own w =
    record {
      free = h.whole p j own w.free;
      largest = false_from_ne_true (is_free_block g size (block_around (j + 1) p)) (λ t. both_ways (is_free_block f size (block_around (j + 1) p)) w.largest (sub_block g f size (j + 1) p h.sub t));
    }

pub piece_from : (g f : ℕ → Bool) (size : ℕ) (range : Span) (k j i : ℕ) → IsPart g f size → IsPiece g size range k j i → IsPiece f size range k j i
piece_from g f size range k j i h x = record { order = x.order; inside = x.inside; whole = whole_from g f size j (i * 2 ^ k) h x.whole }

pub piece_in : (g f : ℕ → Bool) (size : ℕ) (range : Span) (k j i : ℕ) → IsPart g f size → g (i * 2 ^ k) ≡ true → IsPiece f size range k j i → IsPiece g size range k j i
piece_in g f size range k j i h own x = record { order = x.order; inside = x.inside; whole = whole_in g f size j (i * 2 ^ k) h own x.whole }

pub piece_page : (g : ℕ → Bool) (size : ℕ) (range : Span) (k j i : ℕ) → IsPiece g size range k j i → g (i * 2 ^ k) ≡ true
piece_page g size range k j i x = own_page g size j (i * 2 ^ k) x.whole.free

pub within_from : (f : ℕ → Bool) (size : ℕ) (range rest : Span) (k j i : ℕ) → range.start ≤ rest.start → rest.end ≤ range.end → IsPiece f size rest k j i → IsPiece f size range k j i
within_from f size range rest k j i s e x =
    let p = inside_parts rest (numbered k i) x.inside in
    record { order = x.order; inside = inside_from range (numbered k i) (let l = p.0 in omega (arith, s, l)) (let u = p.1 in omega (arith, e, u)); whole = x.whole }

-- ---- where the next block is

-- the next block is the candidate
pub next_choice : (g f : ℕ → Bool) (size : ℕ) (range : Span) (topdown : Bool) (k : ℕ) (source : Span) (j : ℕ) (b : Span) → IsSource g f size range k source j → IsFirstPiece f size source topdown k j b
    → option_map (λ c. c.block) (candidate g size range topdown k) ≡ Some b
next_choice g f size range topdown k source j b s first =
    ap (option_map (λ c. c.block)) (candidate_found g size range topdown k j first.number s.bound (s.back first.number first.is) (λ m x. first.first m (s.ahead m x))) ∙ ap Some (sym first.block)

pub first_len : (f : ℕ → Bool) (size : ℕ) (source : Span) (topdown : Bool) (k j : ℕ) (b : Span) → IsFirstPiece f size source topdown k j b → b.end ≡ b.start + 2 ^ k
first_len f size source topdown k j b h =
    let e = ap (λ (b : Span). b.end) h.block in
    let s = ap (λ (b : Span). b.start) h.block in
    omega (arith, e, s)

pub piece_taken : (g : ℕ → Bool) (size : ℕ) (range : Span) (k j n : ℕ) → IsPiece g size range k j n → CanTake g size (numbered k n)
piece_taken g size range k j n x =
    let p = some_pages k in
    record {
      some = omega (arith, p);
      within = piece_within g size range k j n x;
      free = λ page t. let h = has_parts page (numbered k n) t in piece_free g size range k j n page x h.0 h.1;
    }

-- ---- a largest free block that stays unmarked

-- a free block that has a page of a largest free block is part of it
in_whole : (f : ℕ → Bool) (size k n x j : ℕ) → IsWhole f size k (n * 2 ^ k) → x / 2 ^ k ≡ n → is_free_block f size (block_around j x) ≡ true → j ≤ k
in_whole f size k n x j w e t =
    elim (cases_lt k j) [
      | inr l ↦ l
      | inl l ↦
          let at : IsWhole f size k x = whole_same f size k (n * 2 ^ k) x (own_number k n ∙ sym e) w in
          absurd (both_ways (is_free_block f size (block_around (k + 1) x)) at.largest (smaller_free f size (k + 1) j x (omega (arith, l)) t))
    ]

part_unmarked : (g f : ℕ → Bool) (size k n : ℕ) → IsPart g f size → IsWhole f size k (n * 2 ^ k) → IsPart (less g (numbered k n)) f size
part_unmarked g f size k n h w =
    record {
      sub = λ page l t. h.sub page l (less_parts g (numbered k n) page t).0;
      whole = λ page j t b.
          let p = less_parts g (numbered k n) page t in
          let a = free_parts g size j page (h.whole page j p.0 b) in
          free_from (less g (numbered k n)) size j page a.end (λ x e.
          less_from g (numbered k n) x (a.free x e)
          (not_number x k n (λ i.
          let l = in_whole f size k n x j w i (subst (λ c. is_free_block f size c ≡ true) (sym (around_same x page j e)) b) in
          both_ways (has_page page (numbered k n)) p.1 (has_number page k n (sym (same_at x page j k l e) ∙ i)))));
    }

-- a block that is split from a largest free block of another order isn't in it
apart : (f : ℕ → Bool) (size k n : ℕ) (range : Span) (k' j i : ℕ) → IsWhole f size k (n * 2 ^ k) → IsPiece f size range k' j i → (j ≡ k → ⊥) → has_page (i * 2 ^ k') (numbered k n) ≡ false
apart f size k n range k' j i w x d =
    not_number (i * 2 ^ k') k n (λ e. d (one_whole f size j k (i * 2 ^ k') x.whole (whole_same f size k (n * 2 ^ k) (i * 2 ^ k') (own_number k n ∙ sym e) w)))

-- the free block of a block is one itself
whole_piece : (f : ℕ → Bool) (size : ℕ) (source : Span) (k p : ℕ) → IsWhole f size k p → source.start ≤ p / 2 ^ k * 2 ^ k → p / 2 ^ k * 2 ^ k + 2 ^ k ≤ source.end → IsPiece f size source k k (p / 2 ^ k)
whole_piece f size source k p w s e =
    record { order = omega arith; inside = inside_from source (numbered k (p / 2 ^ k)) s e; whole = whole_same f size k p (p / 2 ^ k * 2 ^ k) (sym (own_number k (p / 2 ^ k))) w }

-- what isn't the first is after it
behind_first : (f : ℕ → Bool) (size : ℕ) (topdown : Bool) (source : Span) (k n k' i : ℕ) → IsEven topdown source size k → IsPiece f size source k k n → ((m : ℕ) → IsPiece f size source k k m → IsAhead topdown n m)
    → IsPiece f size source k' k i → has_page (i * 2 ^ k') (numbered k n) ≡ false → is_inside (behind topdown source (numbered k n)) (numbered k' i) ≡ true
behind_first f size false source k n k' i even is first x out =
    let p : ℕ = i * 2 ^ k' in
    let q : ℕ = p / 2 ^ k in
    let b = block_pages p k q refl in
    let o = inside_parts source (numbered k' i) x.inside in
    let own = inside_parts source (numbered k n) is.inside in
    let s = even p o.0 in
    elim (cases_lt n q) [
      | inl l ↦
          let m : (n + 1) * 2 ^ k ≤ q * 2 ^ k = less_times (n + 1) q (2 ^ k) (omega (arith, l)) in
          inside_from (behind false source (numbered k n)) (numbered k' i) (let t = b.0 in omega (arith, m, t)) o.1
      | inr l ↦
          let m : q * 2 ^ k ≤ n * 2 ^ k = less_times q n (2 ^ k) l in
          let e : q * 2 ^ k + 2 ^ k ≤ source.end = let u = own.1 in omega (arith, m, u) in
          let a : n ≤ q = first q (whole_piece f size source k p x.whole s e) in
          absurd (both_ways (has_page p (numbered k n)) out (has_number p k n (omega (arith, a, l))))
    ]
behind_first f size true source k n k' i even is first x out =
    let p : ℕ = i * 2 ^ k' in
    let q : ℕ = p / 2 ^ k in
    let b = block_pages p k q refl in
    let o = inside_parts source (numbered k' i) x.inside in
    let own = inside_parts source (numbered k n) is.inside in
    let z = (free_parts f size k p x.whole.free).end in
    let some = some_pages k' in
    let e = even p (let u = o.1 in omega (arith, u, some)) z in
    elim (cases_lt q n) [
      | inl l ↦
          let m : (q + 1) * 2 ^ k ≤ n * 2 ^ k = less_times (q + 1) n (2 ^ k) (omega (arith, l)) in
          let u : i * 2 ^ k' + 2 ^ k' ≤ q * 2 ^ k + 2 ^ k = block_end i k' k q x.order refl in
          inside_from (behind true source (numbered k n)) (numbered k' i) o.0 (omega (arith, m, u))
      | inr l ↦
          let m : n * 2 ^ k ≤ q * 2 ^ k = less_times n q (2 ^ k) l in
          let s : source.start ≤ q * 2 ^ k = let t = own.0 in omega (arith, m, t) in
          let a : q ≤ n = first q (whole_piece f size source k p x.whole s e) in
          absurd (both_ways (has_page p (numbered k n)) out (has_number p k n (omega (arith, a, l))))
    ]

out_behind : (topdown : Bool) (source : Span) (k n k' i : ℕ) → is_inside (behind topdown source (numbered k n)) (numbered k' i) ≡ true → has_page (i * 2 ^ k') (numbered k n) ≡ false
out_behind false source k n k' i h =
    let o = inside_parts (behind false source (numbered k n)) (numbered k' i) h in
    false_from_ne_true (has_page (i * 2 ^ k') (numbered k n)) (λ t. let p = has_parts (i * 2 ^ k') (numbered k n) t in let l = o.0 in let u = p.1 in omega (arith, l, u))
out_behind true source k n k' i h =
    let o = inside_parts (behind true source (numbered k n)) (numbered k' i) h in
    let s = some_pages k' in
    false_from_ne_true (has_page (i * 2 ^ k') (numbered k n)) (λ t. let p = has_parts (i * 2 ^ k') (numbered k n) t in let l = o.1 in let u = p.0 in omega (arith, l, u, s))

-- it is within the range that it is of
record IsWithin (range rest : Span) : Type 0 where
  start : range.start ≤ rest.start
  end : rest.end ≤ range.end

behind_within : (topdown : Bool) (source : Span) (k n : ℕ) → is_inside source (numbered k n) ≡ true → IsWithin source (behind topdown source (numbered k n))
behind_within false source k n h = let o = inside_parts source (numbered k n) h in let l = o.0 in record { start = omega (arith, l); end = omega arith }
behind_within true source k n h = let o = inside_parts source (numbered k n) h in let u = o.1 in record { start = omega arith; end = omega (arith, u) }

-- a block is in the first of the free blocks of an order, if it is the first that is split from one
first_of_whole : (f : ℕ → Bool) (size : ℕ) (source : Span) (topdown : Bool) (k w n m : ℕ) → IsPiece f size source k w n → ((i : ℕ) → IsPiece f size source k w i → IsAhead topdown n i) → IsPiece f size source w w m → IsAhead topdown (n * 2 ^ k / 2 ^ w) m
first_of_whole f size source topdown k w n m is first x = by topdown (first i piece) where
  i : ℕ
  i = m * 2 ^ (w - k)

  same : m * 2 ^ w ≡ i * 2 ^ k
  same = as_smaller m w k is.order

  piece : IsPiece f size source k w i
  piece =
      let o = inside_parts source (numbered w m) x.inside in
      let p = small_pow k w is.order in
      record {
        order = is.order;
        inside = inside_from source (numbered k i) (let l = o.0 in let e = same in omega (arith, e, l)) (let u = o.1 in let e = same in omega (arith, e, u, p));
        whole = subst (λ page. IsWhole f size w page) same x.whole;
      }

  by : (t : Bool) → IsAhead t n i → IsAhead t (n * 2 ^ k / 2 ^ w) m
  by false l =
      let t : n * 2 ^ k ≤ i * 2 ^ k = less_times n i (2 ^ k) l in
      let b = (block_pages (n * 2 ^ k) w (n * 2 ^ k / 2 ^ w) refl).0 in
      less_number (n * 2 ^ k / 2 ^ w) m w (let e = same in omega (arith, t, b, e))
  by true l =
      let t : i * 2 ^ k ≤ n * 2 ^ k = less_times i n (2 ^ k) l in
      let b = (block_pages (n * 2 ^ k) w (n * 2 ^ k / 2 ^ w) refl).1 in
      elim (cases_lt (n * 2 ^ k / 2 ^ w) m) [
        | inl u ↦
            let v : (n * 2 ^ k / 2 ^ w + 1) * 2 ^ w ≤ m * 2 ^ w = less_times (n * 2 ^ k / 2 ^ w + 1) m (2 ^ w) (omega (arith, u)) in
            let e = same in
            absurd (omega (arith, v, t, b, e))
        | inr u ↦ u
      ]

-- the rest of an order, once that of one was replaced
rest_same : (rests : List Span) (k : ℕ) (x : Span) → k < length rests → rest_of (set rests k x) k ≡ x
rest_same rests k x l = get_or-set_same rests k x (record { start = 0; end = 0 }) l

rest_other : (rests : List Span) (k j : ℕ) (x : Span) → (j ≡ k → ⊥) → rest_of (set rests k x) j ≡ rest_of rests j
rest_other rests k j x d = get_or-set_other rests k j x (record { start = 0; end = 0 }) d

-- a free block was found, or one that is split from it
pub left_found : (h f : ℕ → Bool) (size : ℕ) (range : Span) (rests : List Span) (topdown : Bool) (k w n : ℕ) → IsLeft h f size range rests → w < 32 → IsEven topdown (rest_of rests w) size w → is_inside (rest_of rests w) (numbered w (n * 2 ^ k / 2 ^ w)) ≡ true
    → IsPiece f size (rest_of rests w) k w n → ((i : ℕ) → IsPiece f size (rest_of rests w) k w i → IsAhead topdown n i)
    → IsLeft (less h (numbered w (n * 2 ^ k / 2 ^ w))) f size range (set rests w (behind topdown (rest_of rests w) (numbered w (n * 2 ^ k / 2 ^ w))))
left_found h f size range rests topdown k w n left small even inside is first =
    record {
      part = part_unmarked h f size w m left.part whole;
      count = length-set rests w (behind topdown source (numbered w m)) ∙ left.count;
      at = λ v l. elim (cases_eq v w) [
        | inl e ↦ subst (λ v. IsAt (less h (numbered w m)) f size range (rest_of (set rests w rest) v) v) (sym e) (subst (λ r. IsAt (less h (numbered w m)) f size range r w) (sym (rest_same rests w rest (let c = left.count in omega (arith, c, small)))) here)
        | inr d ↦ subst (λ r. IsAt (less h (numbered w m)) f size range r v) (sym (rest_other rests w v rest d)) (there v l d)
      ];
    }
  where
    source : Span
    source = rest_of rests w

    m : ℕ
    m = n * 2 ^ k / 2 ^ w

    rest : Span
    rest = behind topdown source (numbered w m)

    whole : IsWhole f size w (m * 2 ^ w)
    whole = whole_same f size w (n * 2 ^ k) (m * 2 ^ w) (sym (own_number w m)) is.whole

    itself : IsPiece f size source w w m
    itself = record { order = omega arith; inside = inside; whole = whole }

    here : IsAt (less h (numbered w m)) f size range rest w
    here =
        let at = left.at w small in
        let in_source = behind_within topdown source w m inside in
        record {
          ahead = λ k' i x t.
              let p = less_parts h (numbered w m) (i * 2 ^ k') t in
              let y = at.ahead k' i x p.0 in
              record { order = y.order; inside = behind_first f size topdown source w m k' i even itself (λ q z. first_of_whole f size source topdown k w n q is first z) y p.1; whole = y.whole };
          own = λ k' i x.
              let y = within_from f size source rest k' w i in_source.start in_source.end x in
              less_from h (numbered w m) (i * 2 ^ k') (at.own k' i y) (out_behind topdown source w m k' i x.inside);
          start = let a = in_source.start in let c = at.start in omega (arith, a, c);
          end = let a = in_source.end in let c = at.end in omega (arith, a, c);
        }

    there : (v : ℕ) → v < 32 → (v ≡ w → ⊥) → IsAt (less h (numbered w m)) f size range (rest_of rests v) v
    there v l d =
        let at = left.at v l in
        record {
          ahead = λ k' i x t. at.ahead k' i x (less_parts h (numbered w m) (i * 2 ^ k') t).0;
          own = λ k' i x. less_from h (numbered w m) (i * 2 ^ k') (at.own k' i x) (apart f size w m (rest_of rests v) k' v i whole x d);
          start = at.start;
          end = at.end;
        }

-- ---- a block that is no longer left, in a largest free block

module _ (g : ℕ → Bool) (size w m k n : ℕ) (whole : IsWhole g size w (m * 2 ^ w)) (order : k ≤ w) (at : n * 2 ^ k / 2 ^ w ≡ m) where
  in_around : (x : ℕ) → x / 2 ^ k ≡ n → x / 2 ^ w ≡ m
  in_around x e = same_at x (n * 2 ^ k) k w order (e ∙ sym (own_number k n)) ∙ at

  -- another free block has no page of it
  out_of : (p j x : ℕ) → (p / 2 ^ w ≡ m → ⊥) → is_free_block g size (block_around j p) ≡ true → x / 2 ^ j ≡ p / 2 ^ j → has_page x (numbered k n) ≡ false
  out_of p j x d t e =
      not_number x k n (λ i.
      let y = in_around x i in
      let l = in_whole g size w m x j whole y (subst (λ c. is_free_block g size c ≡ true) (sym (around_same x p j e)) t) in
      d (sym (same_at x p j w l e) ∙ y))

  stays : (p j : ℕ) → (p / 2 ^ w ≡ m → ⊥) → is_free_block g size (block_around j p) ≡ true → is_free_block (less g (numbered k n)) size (block_around j p) ≡ true
  stays p j d t =
      let a = free_parts g size j p t in
      free_from (less g (numbered k n)) size j p a.end (λ x e. less_from g (numbered k n) x (a.free x e) (out_of p j x d t e))

  was : (p j : ℕ) → is_free_block (less g (numbered k n)) size (block_around j p) ≡ true → is_free_block g size (block_around j p) ≡ true
  was p j t = sub_block (less g (numbered k n)) g size j p (λ page l u. (less_parts g (numbered k n) page u).0) t

  pub piece_stays : (r : Span) (k' j i : ℕ) → (i * 2 ^ k' / 2 ^ w ≡ m → ⊥) → IsPiece g size r k' j i → IsPiece (less g (numbered k n)) size r k' j i
  piece_stays r k' j i d x =
      let p : ℕ = i * 2 ^ k' in
      record {
        order = x.order;
        inside = x.inside;
        whole = record {
          free = stays p j d x.whole.free;
          largest = false_from_ne_true (is_free_block (less g (numbered k n)) size (block_around (j + 1) p)) (λ t. both_ways (is_free_block g size (block_around (j + 1) p)) x.whole.largest (was p (j + 1) t));
        };
      }

  pub piece_was : (r : Span) (k' j i : ℕ) → (i * 2 ^ k' / 2 ^ w ≡ m → ⊥) → IsPiece (less g (numbered k n)) size r k' j i → IsPiece g size r k' j i
  piece_was r k' j i d x =
      let p : ℕ = i * 2 ^ k' in
      record {
        order = x.order;
        inside = x.inside;
        whole = record {
          free = was p j x.whole.free;
          largest = false_from_ne_true (is_free_block g size (block_around (j + 1) p)) (λ t. both_ways (is_free_block (less g (numbered k n)) size (block_around (j + 1) p)) x.whole.largest (stays p (j + 1) d t));
        };
      }

  -- ---- and the half beside it

  module _ (less_order : k < w) (c : ℕ) (beside : IsBeside n c) where
    half_of_page : (x : ℕ) → x / 2 ^ (k + 1) ≡ x / 2 ^ k / 2
    half_of_page x = let e : k + 1 ≡ suc k = omega arith in ap (λ o. x / 2 ^ o) e ∙ div_next x k

    half_in : c * 2 ^ k / 2 ^ w ≡ m
    half_in =
        same_at (c * 2 ^ k) (n * 2 ^ k) (k + 1) w (omega arith)
        (half_of_page (c * 2 ^ k) ∙ ap (λ x. x / 2) (own_number k c) ∙ beside.half ∙ sym (ap (λ x. x / 2) (own_number k n)) ∙ sym (half_of_page (n * 2 ^ k))) ∙ at

    pub half_around : (x : ℕ) → x / 2 ^ k ≡ c → x / 2 ^ w ≡ m
    half_around x e = same_at x (c * 2 ^ k) k w order (e ∙ sym (own_number k c)) ∙ half_in

    page_free : (x : ℕ) → x / 2 ^ w ≡ m → g x ≡ true
    page_free x e = (free_parts g size w (m * 2 ^ w) whole.free).free x (e ∙ sym (own_number w m))

    whole_at : (x : ℕ) → x / 2 ^ w ≡ m → is_free_block g size (block_around w x) ≡ true
    whole_at x e = subst (λ b. is_free_block g size b ≡ true) (sym (around_same x (m * 2 ^ w) w (e ∙ sym (own_number w m)))) whole.free

    pub half_whole : IsWhole (less g (numbered k n)) size k (c * 2 ^ k)
    half_whole =
        record {
          free = free_from (less g (numbered k n)) size k (c * 2 ^ k) (free_parts g size k (c * 2 ^ k) (smaller_free g size k w (c * 2 ^ k) order (whole_at (c * 2 ^ k) half_in))).end
              (λ x e.
              let i : x / 2 ^ k ≡ c = e ∙ own_number k c in
              less_from g (numbered k n) x (page_free x (half_around x i)) (not_number x k n (λ o. beside.other (sym i ∙ o))));
          largest = false_from_ne_true (is_free_block (less g (numbered k n)) size (block_around (k + 1) (c * 2 ^ k))) (λ t.
              let own = (free_parts (less g (numbered k n)) size (k + 1) (c * 2 ^ k) t).free (n * 2 ^ k)
              (half_of_page (n * 2 ^ k) ∙ ap (λ x. x / 2) (own_number k n) ∙ sym beside.half ∙ sym (ap (λ x. x / 2) (own_number k c)) ∙ sym (half_of_page (c * 2 ^ k))) in
              both_ways (has_page (n * 2 ^ k) (numbered k n)) (less_parts g (numbered k n) (n * 2 ^ k) own).1 (has_number (n * 2 ^ k) k n (own_number k n)));
        }

    -- a block in the free block that was split, of no greater order, is in the half
    pub half_only : (r : Span) (k' v i : ℕ) → i * 2 ^ k' / 2 ^ w ≡ m → v ≤ k → IsPiece (less g (numbered k n)) size r k' v i → (v ≡ k) × (i * 2 ^ k' / 2 ^ k ≡ c)
    half_only r k' v i e l x =
        elim (cases_eq (p / 2 ^ k / 2) (n / 2)) [
          | inl s ↦
              let is : p / 2 ^ k ≡ c = two (p / 2 ^ k) s (λ o. both_ways (has_page p (numbered k n)) (less_parts g (numbered k n) p own).1 (has_number p k n o)) in
              elim (cases_eq v k) [
                | inl d ↦ (d, is)
                | inr d ↦
                    let free : is_free_block (less g (numbered k n)) size (block_around k p) ≡ true = subst (λ b. is_free_block (less g (numbered k n)) size b ≡ true) (sym (around_same p (c * 2 ^ k) k (is ∙ sym (own_number k c)))) half_whole.free in
                    absurd (both_ways (is_free_block (less g (numbered k n)) size (block_around (v + 1) p)) x.whole.largest (smaller_free (less g (numbered k n)) size (v + 1) k p (omega (arith, l, d)) free))
              ]
          | inr d ↦
              let a = free_parts g size (k + 1) p (smaller_free g size (k + 1) w p (omega arith) (whole_at p e)) in
              let free : is_free_block (less g (numbered k n)) size (block_around (k + 1) p) ≡ true
              = free_from (less g (numbered k n)) size (k + 1) p a.end (λ y o.
              less_from g (numbered k n) y (a.free y o)
              (not_number y k n (λ z. d (sym (half_of_page p) ∙ sym o ∙ half_of_page y ∙ ap (λ q. q / 2) z)))) in
              absurd (both_ways (is_free_block (less g (numbered k n)) size (block_around (v + 1) p)) x.whole.largest (smaller_free (less g (numbered k n)) size (v + 1) (k + 1) p (omega (arith, l)) free))
        ]
      where
        p : ℕ
        p = i * 2 ^ k'

        own : less g (numbered k n) p ≡ true
        own = own_page (less g (numbered k n)) size v p x.whole.free

        only_two : (q n c : ℕ) → q / 2 ≡ n / 2 → c / 2 ≡ n / 2 → (q ≡ n → ⊥) → (c ≡ n → ⊥) → (q ≡ c → ⊥) → ⊥
        only_two q n c a b d e f = omega (arith, a, b, d, e, f)

        two : (q : ℕ) → q / 2 ≡ n / 2 → (q ≡ n → ⊥) → q ≡ c
        two q s o = let h = beside.half in let d = beside.other in elim (cases_eq q c) [ inl e ↦ e | inr f ↦ absurd (only_two q n c s h o d f) ]

    -- the half is inside what the free block is inside of
    pub half_inside : (r : Span) → is_inside r (numbered w m) ≡ true → is_inside r (numbered k c) ≡ true
    half_inside r h =
        let o = inside_parts r (numbered w m) h in
        let l = (block_pages (c * 2 ^ k) w m half_in).0 in
        let u = block_end c k w m order half_in in
        inside_from r (numbered k c) (let s = o.0 in omega (arith, s, l)) (let e = o.1 in omega (arith, e, u))

-- ---- where nothing stays unmarked

pub left_all : (g f : ℕ → Bool) (size : ℕ) (range : Span) (rests : List Span) → rests ≡ replicate 32 range → ((page : ℕ) → page < size → g page ≡ f page) → IsLeft g f size range rests
left_all g f size range rests all same =
    subst (IsLeft g f size range) (sym all)
    (record {
      part = record {
        sub = λ page l t. sym (same page l) ∙ t;
        whole = λ page j t b.
            let a = free_parts f size j page b in
            let e = a.end in
            free_from g size j page e (λ x i. let u = (block_pages x j (page / 2 ^ j) i).1 in same x (omega (arith, u, e)) ∙ a.free x i);
      };
      count = length-replicate 32 range;
      at = λ k l. subst (λ r. IsAt g f size range r k) (sym (get_or-replicate 32 k range (record { start = 0; end = 0 }) l)) (record { ahead = λ k' i x t. x; own = λ k' i x. page_of range k' k i x; start = omega arith; end = omega arith });
    })
  where
    page_of : (r : Span) (k j i : ℕ) → IsPiece f size r k j i → g (i * 2 ^ k) ≡ true
    page_of r k j i x = let e = piece_within f size r k j i x in let s = some_pages k in same (i * 2 ^ k) (omega (arith, e, s)) ∙ own_page f size j (i * 2 ^ k) x.whole.free

-- ---- orders without blocks

as_around : (g : ℕ → Bool) (size k i : ℕ) → is_free_block g size (numbered k i) ≡ true → is_free_block g size (block_around k (i * 2 ^ k)) ≡ true
as_around g size k i t = subst (λ c. is_free_block g size c ≡ true) (sym (around_number k i)) t

from_around : (g : ℕ → Bool) (size k i : ℕ) → is_free_block g size (block_around k (i * 2 ^ k)) ≡ true → is_free_block g size (numbered k i) ≡ true
from_around g size k i t = subst (λ c. is_free_block g size c ≡ true) (around_number k i) t

sub_less : (g : ℕ → Bool) (b : Span) (size page : ℕ) → page < size → less g b page ≡ true → g page ≡ true
sub_less g b size page l t = (less_parts g b page t).0

pub no_block_less : (g : ℕ → Bool) (b : Span) (size : ℕ) (range : Span) (k : ℕ) → HasNoBlock g size range k → HasNoBlock (less g b) size range k
no_block_less g b size range k none i inside =
    false_from_ne_true (is_free_block (less g b) size (numbered k i)) (λ t.
    both_ways (is_free_block g size (numbered k i)) (none i inside) (from_around g size k i (sub_block (less g b) g size k (i * 2 ^ k) (sub_less g b size) (as_around (less g b) size k i t))))

pub no_candidate_in : (g : ℕ → Bool) (size : ℕ) (range : Span) (topdown : Bool) (k : ℕ) → HasNoBlock g size range k → candidate g size range topdown k ≡ None
no_candidate_in g size range topdown k none =
    candidate_none g size range topdown k (λ i w x. both_ways (is_free_block g size (numbered k i)) (none i x.inside) (from_around g size k i (piece_block g size range k w i x)))

-- where no block would be split from a free block, none is free
pub no_block : (g : ℕ → Bool) (size : ℕ) (range : Span) (k : ℕ) → ((i w : ℕ) → IsPiece g size range k w i → ⊥) → HasNoBlock g size range k
no_block g size range k none i inside = false_from_ne_true (is_free_block g size (numbered k i)) (λ t. none i _ (piece_around g size range k i inside (as_around g size k i t)))

-- ---- ends of a range that are multiples

multiple_below : (a p k : ℕ) → a % 2 ^ k ≡ 0 → a ≤ p → a ≤ p / 2 ^ k * 2 ^ k
multiple_below a p k z l =
    let own = div-add-mod a (2 ^ k) in
    let b = (block_pages p k (p / 2 ^ k) refl).1 in
    elim (cases_lt (p / 2 ^ k) (a / 2 ^ k)) [
      | inl s ↦ let m : (p / 2 ^ k + 1) * 2 ^ k ≤ a / 2 ^ k * 2 ^ k = mul-le-mul_right (2 ^ k) (omega (arith, s)) in absurd (omega (arith, own, z, m, l, b))
      | inr s ↦ let m : a / 2 ^ k * 2 ^ k ≤ p / 2 ^ k * 2 ^ k = mul-le-mul_right (2 ^ k) s in omega (arith, own, z, m)
    ]

pub even_start : (range : Span) (size k len : ℕ) → len ≡ 2 ^ k → nat_eq (range.start % len) 0 ≡ true → IsEven false range size k
even_start range size k len e h page l = multiple_below range.start page k (subst (λ n. range.start % n ≡ 0) e (eqb-true (range.start % len) 0 h)) l

pub even_end : (range : Span) (size k len : ℕ) → len ≡ 2 ^ k → nat_eq (range.end % len) 0 ≡ true → IsEven true range size k
even_end range size k len e h page u z =
    let zero : range.end % 2 ^ k ≡ 0 = subst (λ n. range.end % n ≡ 0) e (eqb-true (range.end % len) 0 h) in
    let own = div-add-mod range.end (2 ^ k) in
    let b = block_pages page k (page / 2 ^ k) refl in
    elim (cases_lt (page / 2 ^ k) (range.end / 2 ^ k)) [
      | inl l ↦
          let m : (page / 2 ^ k + 1) * 2 ^ k ≤ range.end / 2 ^ k * 2 ^ k = mul-le-mul_right (2 ^ k) (omega (arith, l)) in
          omega (arith, m, own, zero)
      | inr l ↦
          let m : range.end / 2 ^ k * 2 ^ k ≤ page / 2 ^ k * 2 ^ k = mul-le-mul_right (2 ^ k) l in
          let s = b.0 in
          absurd (omega (arith, m, own, zero, s, u))
    ]
