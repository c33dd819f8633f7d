-- What is known of the pages that are left once a block was found.
use Rattle.std.proofs.Common.{◌≡◌, ℕ, ◌+◌, ◌-◌, ◌*◌, ◌/◌, ◌%◌, ◌^◌, ◌<◌, ◌≤◌, ◌⊎◌, inl, inr, Bool, true, false, List, Option, Some, None, suc, set, replicate, option_map, refl, ap, sym, ◌∙◌, subst, arith}
use Rattle.std.specs.Option.{IfSome}
use Rattle.std.proofs.lemmas.List.{get_or-replicate}
use Rattle.std.proofs.lemmas.Bool.{cases_lt, cases_eq, both_ways}
use Rattle.ttm_base.specs.declared.Span.{Span}
use Rattle.ttm_base.specs.Holes.{has_page}
use Rattle.ttm_base.specs.Reach.{is_inside}
use Rattle.ttm_base.specs.BuddyChoice.{block_around, candidate}
use Rattle.block_tree.specs.declared.request.Request.{Request}
use Rattle.block_tree.specs.Searching.{numbered, IsAhead, IsFit}
use Rattle.block_tree.specs.Pieces.{IsPiece, IsLeastWhole, LeastWholeOf, IsFirstPiece, FirstPieceOf}
use Rattle.block_tree.proofs.Numbers.{some_pages, small_pow, pow_next, div_next, same_at, in_block, block_pages, block_end}
use Rattle.block_tree.proofs.FreeLaws.{free_parts, smaller_free}
use Rattle.block_tree.proofs.SearchLaws.{fit_lowest, fit_highest}
use Rattle.block_tree.proofs.PieceLaws.{one_whole}
use Rattle.block_tree.proofs.ChoiceLaws.{candidate_found}
use Rattle.buddy_manager.specs.declared.unmarked.Half.{Half}
use Rattle.buddy_manager.specs.declared.unmarked.Origin.{Origin}
use Rattle.buddy_manager.specs.declared.unmarked.Origin.TheVariants.{Free, Spare}
use Rattle.buddy_manager.specs.declared.unmarked.Found.{Found}
use Rattle.buddy_manager.specs.declared.find.Looked.{Looked}
use Rattle.buddy_manager.specs.declared.find.Looked.TheVariants.{Block, Nowhere, Unknown}
use Rattle.buddy_manager.specs.Taking.{less, CanTake}
use Rattle.buddy_manager.specs.Finding.{IsLeft, IsSource, IsEven, IsBeside, IsBelow, IsBeyond, IsHalf, HalfOf, IsKnown, IsFirstIn, IsFoundFree, IsFoundHalf, IsFoundBy, IsFound, HasNumbers, HasRoom, IsLooked, IsLookedFree, behind, rest_of}
use Rattle.buddy_manager.proofs.FindLaws.{inside_parts, inside_from, less_parts, has_number, own_number, own_page, whole_same, piece_from, piece_in, piece_page, within_from, first_len, next_choice, piece_taken, left_found, left_all, piece_stays, piece_was, half_around, half_whole, half_only, half_inside}

below_less : (u w : ℕ) (half : Option Half) → u < w → IsBelow w half → IsBelow u half
below_less u w None l b = tt
below_less u w (Some h) l b = omega (arith, l, b)

-- ---- where the next block is

-- the free blocks of an order that is bounded from below tell it
pub source_left : (h f : ℕ → Bool) (size : ℕ) (range : Span) (rests : List Span) (k w : ℕ) → IsLeft h f size range rests → w < 32 → ((i u : ℕ) → IsPiece h size range k u i → w ≤ u) → IsSource h f size range k (rest_of rests w) w
source_left h f size range rests k w left small bound =
    let at = left.at w small in
    record {
      bound = bound;
      ahead = λ i x. at.ahead k i (piece_from h f size range k w i left.part x) (piece_page h size range k w i x);
      back = λ i x. piece_in h f size range k w i left.part (at.own k i x) (within_from f size range (rest_of rests w) k w i at.start at.end x);
    }

-- where nothing that was found is unmarked
pub found_fresh : (f : ℕ → Bool) (size : ℕ) (range : Span) (topdown : Bool) (k : ℕ) (rests : List Span) (w : ℕ) (b : Span) → rests ≡ replicate 32 range → w < 32 → IsLeastWhole f size range k w → IsFirstPiece f size range topdown k w b
    → IsFoundFree f size range topdown k rests None w b
found_fresh f size range topdown k rests w b all small least first =
    record {
      source = λ h left. source_left h f size range rests k w left small (λ i u x. least.bound i u (piece_from h f size range k u i left.part x));
      first = subst (λ r. IsFirstPiece f size r topdown k w b) (sym (ap (λ rs. rest_of rs w) all ∙ get_or-replicate 32 w range (record { start = 0; end = 0 }) small)) first;
      small = small;
      below = tt;
    }

pub found_left : (f : ℕ → Bool) (size : ℕ) (range : Span) (topdown : Bool) (k : ℕ) (rests : List Span) (half : Option Half) (w : ℕ) (b : Span) → w < 32 → IsBelow w half → ((h : ℕ → Bool) → IsLeft h f size range rests → (i u : ℕ) → IsPiece h size range k u i → w ≤ u)
    → IsFirstPiece f size (rest_of rests w) topdown k w b → IsFoundFree f size range topdown k rests half w b
found_left f size range topdown k rests half w b small below bound first =
    record {
      source = λ h left. source_left h f size range rests k w left small (bound h left);
      first = first;
      small = small;
      below = below;
    }

-- a free block has a block of an order inside a range, if none of that order lies across its ends
raised : (f : ℕ → Bool) (size : ℕ) (range : Span) (k from u i : ℕ) → (from ≡ k) ⊎ (IsEven false range size from × IsEven true range size from) → from ≤ u → IsPiece f size range k u i → IsPiece f size range from u (i * 2 ^ k / 2 ^ from)
raised f size range k from u i ends l x =
    record {
      order = l;
      inside = elim ends [
        | inl e ↦ subst (λ o. is_inside range (numbered o (i * 2 ^ k / 2 ^ o)) ≡ true) (sym e) (subst (λ n. is_inside range (numbered k n) ≡ true) (sym (own_number k i)) x.inside)
        | inr even ↦
            let p : ℕ = i * 2 ^ k in
            let o = inside_parts range (numbered k i) x.inside in
            let some = some_pages k in
            let z = (free_parts f size from p (smaller_free f size from u p l x.whole.free)).end in
            inside_from range (numbered from (p / 2 ^ from)) (even.0 p o.0) (even.1 p (let e = o.1 in omega (arith, e, some)) z)
      ];
      whole = let q : ℕ = i * 2 ^ k / 2 ^ from in whole_same f size u (i * 2 ^ k) (q * 2 ^ from) (same_at (i * 2 ^ k) (q * 2 ^ from) from u l (sym (own_number from q))) x.whole;
    }

module _ (f : ℕ → Bool) (size : ℕ) (range : Span) (rests : List Span) (k from : ℕ) (ends : (from ≡ k) ⊎ (IsEven false range size from × IsEven true range size from))
    (bound : (h : ℕ → Bool) → IsLeft h f size range rests → (i u : ℕ) → IsPiece h size range k u i → from ≤ u) where
  -- the least order of those that are left is no less
  pub bound_whole : (w : ℕ) → IsLeastWhole f size range from w → (h : ℕ → Bool) → IsLeft h f size range rests → (i u : ℕ) → IsPiece h size range k u i → w ≤ u
  bound_whole w least h left i u x = least.bound (i * 2 ^ k / 2 ^ from) u (raised f size range k from u i ends (bound h left i u x) (piece_from h f size range k u i left.part x))

  pub bound_nowhere : (half : Option Half) → LeastWholeOf f size range from None → (h : ℕ → Bool) → IsLeft h f size range rests → (i u : ℕ) → IsPiece h size range k u i → IsBeyond u half
  bound_nowhere half none h left i u x = absurd (none (i * 2 ^ k / 2 ^ from) u (raised f size range k from u i ends (bound h left i u x) (piece_from h f size range k u i left.part x)))

  pub bound_beyond : (half : Option Half) (w : ℕ) → IsBeyond w half → IsLeastWhole f size range from w → (h : ℕ → Bool) → IsLeft h f size range rests → (i u : ℕ) → IsPiece h size range k u i → IsBeyond u half
  bound_beyond half w beyond least h left i u x = more half beyond (bound_whole w least h left i u x) where
    more : (o : Option Half) → IsBeyond w o → w ≤ u → IsBeyond u o
    more None b l = b
    more (Some o) b l = omega (arith, b, l)

  -- of this order none is left
  pub bound_next : (topdown : Bool) (w : ℕ) → w < 32 → IsLeastWhole f size range from w → FirstPieceOf f size (rest_of rests w) topdown k w None → (h : ℕ → Bool) → IsLeft h f size range rests → (i u : ℕ) → IsPiece h size range k u i → w + 1 ≤ u
  bound_next topdown w small least none h left i u x =
      let l = bound_whole w least h left i u x in
      elim (cases_eq u w) [
        | inl e ↦
            let y : IsPiece h size range k w i = subst (λ u. IsPiece h size range k u i) e x in
            absurd (none i ((left.at w small).ahead k i (piece_from h f size range k w i left.part y) (piece_page h size range k w i y)))
        | inr d ↦ omega (arith, l, d)
      ]

-- no free block has more pages than there are
pub whole_small : (f : ℕ → Bool) (size : ℕ) (range : Span) (k w i : ℕ) → IsPiece f size range k w i → size < 2 ^ 31 → w ≤ 30
whole_small f size range k w i x l =
    elim (cases_lt 30 w) [
      | inl u ↦
          let e = (free_parts f size w (i * 2 ^ k) x.whole.free).end in
          let p : 2 ^ 31 ≤ 2 ^ w = small_pow 31 w (omega (arith, u)) in
          absurd (omega (arith, e, p, l))
      | inr u ↦ u
    ]

pub order_small : (k start end : ℕ) → end ≡ start + 2 ^ k → end < 2 ^ 31 → k ≤ 30
order_small k start end e l =
    elim (cases_lt 30 k) [
      | inl u ↦ let p : 2 ^ 31 ≤ 2 ^ k = small_pow 31 k (omega (arith, u)) in absurd (omega (arith, e, p, l))
      | inr u ↦ u
    ]

-- ---- numbers

-- the request of blocks of order k in block q of order o
abbrev pub in_half : Bool → ℕ → ℕ → ℕ → Request
in_half t o q k = record { order = k; range = record { start = q * 2 ^ o; end = q * 2 ^ o + 2 ^ o }; topdown = t }

pub first_of_fit : (t : Bool) (o q k n : ℕ) → k ≤ o → IsFit (in_half t o q k) o q n → (m : ℕ) → m * 2 ^ k / 2 ^ o ≡ q → IsAhead t n m
first_of_fit t o q k n l fit m e =
    let b = (block_pages (m * 2 ^ k) o q e).0 in
    fit.first m e (inside_from (record { start = q * 2 ^ o; end = q * 2 ^ o + 2 ^ o }) (numbered k m) b (block_end m k o q l e))

pub beside_fits : (x k : ℕ) → x < 2 ^ 31 → k ≤ 30 → x / 2 ^ k % 2 ≡ 0 → (x / 2 ^ k + 1) * 2 ^ k + 2 ^ k ≤ 2 ^ 31
beside_fits x k l s e =
    let h : ℕ = x / 2 ^ suc k in
    let d : h ≡ x / 2 ^ k / 2 = div_next x k in
    let a = (block_pages x (suc k) h refl).0 in
    let p = some_pages 31 in
    let z : h * 2 ^ suc k / 2 ^ 31 ≡ 0 = in_block (h * 2 ^ suc k) 31 0 (omega arith) (omega (arith, a, l)) in
    let b = block_end h (suc k) 31 0 (omega (arith, s)) z in
    let n = ap (λ p. h * p) (pow_next k) in
    let m = pow_next k in
    let two : x / 2 ^ k ≡ h + h = omega (arith, d, e) in
    subst (λ q. (q + 1) * 2 ^ k + 2 ^ k ≤ 2 ^ 31) (sym two) (omega (arith, b, n, m))

-- ---- the next block is the candidate

source_known : (g f : ℕ → Bool) (size : ℕ) (range : Span) (rests : List Span) (half : Option Half) (k w : ℕ) (kn : IsKnown g f size range rests half) → IsSource kn.under f size range k (rest_of rests w) w → IsBelow w half → IsSource g f size range k (rest_of rests w) w
source_known g f size range rests half k w kn s below =
    record {
      bound = λ i u x. elim (cases_lt u w) [
        | inl l ↦ s.bound i u (kn.down k u i x (below_less u w half l below))
        | inr l ↦ l
      ];
      ahead = λ i x. s.ahead i (kn.down k w i x below);
      back = λ i x. kn.up k w i (s.back i x);
    }

-- a block in a half is one that would be split from it
half_piece : (g h : ℕ → Bool) (size : ℕ) (range : Span) (half : Half) (k n : ℕ) → IsHalf g h size range half → k ≤ half.order → n * 2 ^ k / 2 ^ half.order ≡ half.number → IsPiece g size range k half.order n
half_piece g h size range half k n is order within =
    let o = inside_parts range (numbered half.order half.number) is.inside in
    let l = (block_pages (n * 2 ^ k) half.order half.number within).0 in
    let u = block_end n k half.order half.number order within in
    record {
      order = order;
      inside = inside_from range (numbered k n) (let s = o.0 in omega (arith, s, l)) (let e = o.1 in omega (arith, e, u));
      whole = whole_same g size half.order (half.number * 2 ^ half.order) (n * 2 ^ k) (own_number half.order half.number ∙ sym within) is.whole;
    }

pub found_choice : (g f : ℕ → Bool) (size : ℕ) (range : Span) (topdown : Bool) (k : ℕ) (rests : List Span) (half : Option Half) (origin : Origin) (b : Span) → IsKnown g f size range rests half → IsFoundBy f size range topdown k rests half origin b
    → option_map (λ c. c.block) (candidate g size range topdown k) ≡ Some b
found_choice g f size range topdown k rests half (Free w) b kn x = next_choice g f size range topdown k (rest_of rests w) w b (source_known g f size range rests half k w kn (x.source kn.under kn.left) x.below) x.first
found_choice g f size range topdown k rests half (Spare of) b before x =
    let kn : IsKnown g f size range rests (Some of) = subst (IsKnown g f size range rests) x.is before in
    let l = x.order in
    let n : ℕ = x.first.number in
    ap (option_map (λ c. c.block))
    (candidate_found g size range topdown k of.order n
    (λ i w y. elim (cases_lt w of.order) [
      | inl u ↦ let m = x.beyond kn.under kn.left i w (kn.down k w i y u) in omega (arith, u, m)
      | inr u ↦ u
    ])
    (half_piece g kn.under size range of k n kn.spare (omega (arith, l)) x.first.within)
    (λ m y. elim (kn.spare.other k m y) [
      | inl z ↦ let o = x.beyond kn.under kn.left m of.order z in absurd (omega (arith, o))
      | inr e ↦ x.first.first m e
    ]))
    ∙ ap Some (sym x.first.is)

pub found_taken : (g f : ℕ → Bool) (size : ℕ) (range : Span) (topdown : Bool) (k : ℕ) (rests : List Span) (half : Option Half) (origin : Origin) (b : Span) → IsKnown g f size range rests half → IsFoundBy f size range topdown k rests half origin b → CanTake g size b
found_taken g f size range topdown k rests half (Free w) b kn x =
    let s = source_known g f size range rests half k w kn (x.source kn.under kn.left) x.below in
    subst (CanTake g size) (sym x.first.block) (piece_taken g size range k w x.first.number (s.back x.first.number x.first.is))
found_taken g f size range topdown k rests half (Spare of) b before x =
    let kn : IsKnown g f size range rests (Some of) = subst (IsKnown g f size range rests) x.is before in
    let l = x.order in
    subst (CanTake g size) (sym x.first.is) (piece_taken g size range k of.order x.first.number (half_piece g kn.under size range of k x.first.number kn.spare (omega (arith, l)) x.first.within))

-- ---- a block of a free block

-- a block of which pages are left isn't in one that was taken
not_taken : (g : ℕ → Bool) (size w m : ℕ) (r : Span) (k v i : ℕ) → IsPiece (less g (numbered w m)) size r k v i → i * 2 ^ k / 2 ^ w ≡ m → ⊥
not_taken g size w m r k v i x e =
    let p : ℕ = i * 2 ^ k in
    both_ways (has_page p (numbered w m)) (less_parts g (numbered w m) p (own_page (less g (numbered w m)) size v p x.whole.free)).1 (has_number p w m e)

module _ (g f : ℕ → Bool) (size : ℕ) (range : Span) (rests : List Span) (half : Option Half) (topdown : Bool) (k w n : ℕ) (kn : IsKnown g f size range rests half) (small : w < 32) (below : IsBelow w half)
    (even : IsEven topdown (rest_of rests w) size w) (inside : is_inside (rest_of rests w) (numbered w (n * 2 ^ k / 2 ^ w)) ≡ true) (is : IsPiece f size (rest_of rests w) k w n)
    (first : (i : ℕ) → IsPiece f size (rest_of rests w) k w i → IsAhead topdown n i) where
  abbrev m : ℕ
  m = n * 2 ^ k / 2 ^ w

  abbrev taken : Span
  taken = numbered w m

  abbrev after : List Span
  after = set rests w (behind topdown (rest_of rests w) taken)

  of_f : IsPiece f size (rest_of rests w) w w m
  of_f = record { order = omega arith; inside = inside; whole = whole_same f size w (n * 2 ^ k) (m * 2 ^ w) (sym (own_number w m)) is.whole }

  in_range : is_inside range taken ≡ true
  in_range =
      let at = kn.left.at w small in
      let o = inside_parts (rest_of rests w) taken inside in
      let s = at.start in
      let e = at.end in
      inside_from range taken (let l = o.0 in omega (arith, s, l)) (let u = o.1 in omega (arith, e, u))

  of_under : IsPiece kn.under size range w w m
  of_under = piece_in kn.under f size range w w m kn.left.part ((kn.left.at w small).own w m of_f) (record { order = omega arith; inside = in_range; whole = of_f.whole })

  of_left : IsPiece g size range w w m
  of_left = kn.up w w m of_under

  under_stays : (k' v i : ℕ) → (i * 2 ^ k' / 2 ^ w ≡ m → ⊥) → IsPiece kn.under size range k' v i → IsPiece (less kn.under taken) size range k' v i
  under_stays k' v i d x = piece_stays kn.under size w m w m of_under.whole (omega arith) (own_number w m) range k' v i d x

  under_was : (k' v i : ℕ) → (i * 2 ^ k' / 2 ^ w ≡ m → ⊥) → IsPiece (less kn.under taken) size range k' v i → IsPiece kn.under size range k' v i
  under_was k' v i d x = piece_was kn.under size w m w m of_under.whole (omega arith) (own_number w m) range k' v i d x

  left_after : IsLeft (less kn.under taken) f size range after
  left_after = left_found kn.under f size range rests topdown k w n kn.left small even inside is first

  -- it is whole
  half_after : (o : Option Half) → IsBelow w o → HalfOf g kn.under size range o → HalfOf (less g taken) (less kn.under taken) size range o
  half_after None b h = tt
  half_after (Some o) b h =
      let here : IsPiece g size range o.order o.order o.number = half_piece g kn.under size range o o.order o.number h (omega arith) (own_number o.order o.number) in
      record {
        whole = (piece_stays g size w m w m of_left.whole (omega arith) (own_number w m) range o.order o.order o.number (λ e.
            let s = one_whole g size w o.order (o.number * 2 ^ o.order) (whole_same g size w (m * 2 ^ w) (o.number * 2 ^ o.order) (own_number w m ∙ sym e) of_left.whole) h.whole in
            omega (arith, s, b)) here).whole;
        inside = h.inside;
        apart = λ page t. h.apart page (less_parts kn.under taken page t).0;
        other = λ k' i x.
            let d = not_taken g size w m range k' o.order i x in
            elim (h.other k' i (piece_was g size w m w m of_left.whole (omega arith) (own_number w m) range k' o.order i d x)) [
              | inl y ↦ inl (under_stays k' o.order i d y)
              | inr e ↦ inr e
            ];
      }

  known_whole : IsKnown (less g taken) f size range after half
  known_whole =
      record {
        under = less kn.under taken;
        left = left_after;
        up = λ k' v i x.
            let d = not_taken kn.under size w m range k' v i x in
            piece_stays g size w m w m of_left.whole (omega arith) (own_number w m) range k' v i d (kn.up k' v i (under_was k' v i d x));
        down = λ k' v i x b.
            let d = not_taken g size w m range k' v i x in
            under_stays k' v i d (kn.down k' v i (piece_was g size w m w m of_left.whole (omega arith) (own_number w m) range k' v i d x) b);
        spare = half_after half below kn.spare;
      }

  -- it is split
  known_split : (c : ℕ) → k < w → IsBeside n c → IsKnown (less g (numbered k n)) f size range after (Some (let h : Half = record { order = k; number = c } in h))
  known_split c l beside =
      record {
        under = less kn.under taken;
        left = left_after;
        up = λ k' v i x.
            let d = not_taken kn.under size w m range k' v i x in
            piece_stays g size w m k n of_left.whole (omega (arith, l)) refl range k' v i d (kn.up k' v i (under_was k' v i d x));
        down = λ k' v i x b. elim (cases_eq (i * 2 ^ k' / 2 ^ w) m) [
          | inl e ↦ let s = (half_only g size w m k n of_left.whole (omega (arith, l)) refl l c beside range k' v i e (omega (arith, b)) x).0 in absurd (omega (arith, s, b))
          | inr d ↦ under_stays k' v i d (kn.down k' v i (piece_was g size w m k n of_left.whole (omega (arith, l)) refl range k' v i d x) (below_less v w half (omega (arith, b, l)) below))
        ];
        spare = record {
          whole = half_whole g size w m k n of_left.whole (omega (arith, l)) refl l c beside;
          inside = half_inside g size w m k n of_left.whole (omega (arith, l)) refl l c beside range in_range;
          apart = λ page t e. both_ways (has_page page taken) (less_parts kn.under taken page t).1 (has_number page w m (half_around g size w m k n of_left.whole (omega (arith, l)) refl l c beside page e));
          other = λ k' i x. elim (cases_eq (i * 2 ^ k' / 2 ^ w) m) [
            | inl e ↦ inr (half_only g size w m k n of_left.whole (omega (arith, l)) refl l c beside range k' k i e (omega arith) x).1
            | inr d ↦ inl (under_stays k' k i d (kn.down k' k i (piece_was g size w m k n of_left.whole (omega (arith, l)) refl range k' k i d x) (below_less k w half l below)))
          ];
        };
      }

-- the half is split
known_half : (g f : ℕ → Bool) (size : ℕ) (range : Span) (rests : List Span) (of : Half) (k n c : ℕ) → IsKnown g f size range rests (Some of) → k < of.order → n * 2 ^ k / 2 ^ of.order ≡ of.number → IsBeside n c
    → IsKnown (less g (numbered k n)) f size range rests (Some (let h : Half = record { order = k; number = c } in h))
known_half g f size range rests of k n c kn l within beside =
    record {
      under = kn.under;
      left = kn.left;
      up = λ k' v i x. piece_stays g size of.order of.number k n kn.spare.whole (omega (arith, l)) within range k' v i (λ e. kn.spare.apart (i * 2 ^ k') (own_page kn.under size v (i * 2 ^ k') x.whole.free) e) (kn.up k' v i x);
      down = λ k' v i x b. elim (cases_eq (i * 2 ^ k' / 2 ^ of.order) of.number) [
        | inl e ↦ let s = (half_only g size of.order of.number k n kn.spare.whole (omega (arith, l)) within l c beside range k' v i e (omega (arith, b)) x).0 in absurd (omega (arith, s, b))
        | inr d ↦ kn.down k' v i (piece_was g size of.order of.number k n kn.spare.whole (omega (arith, l)) within range k' v i d x) (omega (arith, b, l))
      ];
      spare = record {
        whole = half_whole g size of.order of.number k n kn.spare.whole (omega (arith, l)) within l c beside;
        inside = half_inside g size of.order of.number k n kn.spare.whole (omega (arith, l)) within l c beside range kn.spare.inside;
        apart = λ page t e. kn.spare.apart page t (half_around g size of.order of.number k n kn.spare.whole (omega (arith, l)) within l c beside page e);
        other = λ k' i x. elim (cases_eq (i * 2 ^ k' / 2 ^ of.order) of.number) [
          | inl e ↦ inr (half_only g size of.order of.number k n kn.spare.whole (omega (arith, l)) within l c beside range k' k i e (omega arith) x).1
          | inr d ↦ inl (kn.down k' k i (piece_was g size of.order of.number k n kn.spare.whole (omega (arith, l)) within range k' k i d x) l)
        ];
      };
    }

-- ---- as it is noted

module _ (g f : ℕ → Bool) (size : ℕ) (range : Span) (rests : List Span) (half : Option Half) (topdown : Bool) (k w : ℕ) (b : Span) (kn : IsKnown g f size range rests half) (x : IsFoundFree f size range topdown k rests half w b)
    (even : IsEven topdown (rest_of rests w) size w) (inside : is_inside (rest_of rests w) (block_around w b.start) ≡ true) where
  inside_at : is_inside (rest_of rests w) (numbered w (x.first.number * 2 ^ k / 2 ^ w)) ≡ true
  inside_at = subst (λ (b : Span). is_inside (rest_of rests w) (block_around w b.start) ≡ true) x.first.block inside

  pub noted_whole : k ≡ w → IsKnown (less g b) f size range (set rests w (behind topdown (rest_of rests w) (block_around w b.start))) half
  noted_whole e =
      let n : ℕ = x.first.number in
      let same : numbered w (n * 2 ^ k / 2 ^ w) ≡ numbered k n = subst (λ k. numbered w (n * 2 ^ k / 2 ^ w) ≡ numbered k n) (sym e) (ap (numbered w) (own_number w n)) in
      subst (λ (b : Span). IsKnown (less g b) f size range (set rests w (behind topdown (rest_of rests w) (block_around w b.start))) half) (sym x.first.block)
      (subst (λ c. IsKnown (less g c) f size range (set rests w (behind topdown (rest_of rests w) (numbered w (n * 2 ^ k / 2 ^ w)))) half) same
      (known_whole g f size range rests half topdown k w n kn x.small x.below even inside_at x.first.is x.first.first))

  pub noted_split : (h : Half) → k < w → h.order ≡ k → IsBeside (b.start / 2 ^ k) h.number → IsKnown (less g b) f size range (set rests w (behind topdown (rest_of rests w) (block_around w b.start))) (Some h)
  noted_split h l e beside =
      let n : ℕ = x.first.number in
      let at : IsBeside n h.number = subst (λ q. IsBeside q h.number) (own_number k n) (subst (λ (b : Span). IsBeside (b.start / 2 ^ k) h.number) x.first.block beside) in
      subst (λ (b : Span). IsKnown (less g b) f size range (set rests w (behind topdown (rest_of rests w) (block_around w b.start))) (Some h)) (sym x.first.block)
      (subst (λ k'. IsKnown (less g (numbered k n)) f size range (set rests w (behind topdown (rest_of rests w) (numbered w (n * 2 ^ k / 2 ^ w)))) (Some (let h : Half = record { order = k'; number = h.number } in h))) (sym e)
      (known_split g f size range rests half topdown k w n kn x.small x.below even inside_at x.first.is x.first.first h.number l at))

pub noted_half : (g f : ℕ → Bool) (size : ℕ) (range : Span) (topdown : Bool) (rests : List Span) (half : Option Half) (of h : Half) (k : ℕ) (b : Span) → IsKnown g f size range rests half → IsFoundHalf f size range topdown k rests half of b
    → h.order ≡ k → IsBeside (b.start / 2 ^ k) h.number → IsKnown (less g b) f size range rests (Some h)
noted_half g f size range topdown rests half of h k b before x e beside =
    let kn : IsKnown g f size range rests (Some of) = subst (IsKnown g f size range rests) x.is before in
    let n : ℕ = x.first.number in
    let at : IsBeside n h.number = subst (λ q. IsBeside q h.number) (own_number k n) (subst (λ (b : Span). IsBeside (b.start / 2 ^ k) h.number) x.first.is beside) in
    subst (λ b. IsKnown (less g b) f size range rests (Some h)) (sym x.first.is)
    (subst (λ k'. IsKnown (less g (numbered k n)) f size range rests (Some (let h : Half = record { order = k'; number = h.number } in h))) (sym e)
    (known_half g f size range rests of k n h.number kn x.order x.first.within at))

-- all blocks that were found are marked
pub known_all : (g f : ℕ → Bool) (size : ℕ) (range : Span) (rests : List Span) (half : Option Half) → rests ≡ replicate 32 range → half ≡ None → ((page : ℕ) → page < size → g page ≡ f page) → IsKnown g f size range rests half
known_all g f size range rests half all none same =
    subst (IsKnown g f size range rests) (sym none)
    (record {
      under = g;
      left = left_all g f size range rests all same;
      up = λ k w i x. x;
      down = λ k w i x b. x;
      spare = tt;
    })

-- ---- what a look tells

pub looked_found : (f : ℕ → Bool) (size : ℕ) (range : Span) (topdown : Bool) (k : ℕ) (rests : List Span) (half : Option Half) (w : ℕ) (b : Span) (r : Looked) → ((found : Found) → r ≡ Block found → IsBelow w half × (found ≡ record { block = b; origin = Free w })) → (r ≡ Nowhere → ⊥)
    → (IsBelow w half → IsFoundFree f size range topdown k rests half w b) → HasRoom k (record { block = b; origin = Free w }) → IsLookedFree f size range topdown k rests half r
looked_found f size range topdown k rests half w b (Block found) below none is room =
    let p = below found refl in
    subst (λ (found : Found). IsFound f size range topdown k rests half found × HasRoom k found) (sym p.1) (is p.0, room)
looked_found f size range topdown k rests half w b Nowhere below none is room = absurd (none refl)
looked_found f size range topdown k rests half w b Unknown below none is room = tt

pub free_room : (f : ℕ → Bool) (size : ℕ) (source : Span) (topdown : Bool) (k w : ℕ) (b : Span) → IsFirstPiece f size source topdown k w b → b.end < 2 ^ 31 → w < 32 → HasRoom k (record { block = b; origin = Free w })
free_room f size source topdown k w b first l small =
    let len = first_len f size source topdown k w b first in
    record { order = order_small k b.start b.end len l; start = omega (arith, len, l); len = len; whole = small }

pub looked_free : (f : ℕ → Bool) (size : ℕ) (range : Span) (topdown : Bool) (k : ℕ) (rests : List Span) (half : Option Half) (r : Looked) → (r ≡ Nowhere → ⊥) → IsLookedFree f size range topdown k rests half r → IsLooked f size range topdown k rests half r
looked_free f size range topdown k rests half (Block found) n x = x
looked_free f size range topdown k rests half Nowhere n x = absurd (n refl)
looked_free f size range topdown k rests half Unknown n x = tt

-- nothing is left where no half is
pub looked_nowhere : (f : ℕ → Bool) (size : ℕ) (range : Span) (k : ℕ) (rests : List Span) (half : Option Half) → half ≡ None → ((h : ℕ → Bool) → IsLeft h f size range rests → (i w : ℕ) → IsPiece h size range k w i → IsBeyond w half)
    → (g : ℕ → Bool) → IsKnown g f size range rests half → (i w : ℕ) → IsPiece g size range k w i → ⊥
looked_nowhere f size range k rests half none beyond g kn i w x =
    subst (IsBeyond w) none (beyond kn.under kn.left i w (kn.down k w i x (subst (IsBelow w) (sym none) tt)))

pub none_fresh : (f : ℕ → Bool) (size : ℕ) (range : Span) (k : ℕ) (rests : List Span) (half : Option Half) → half ≡ None → ((i w : ℕ) → IsPiece f size range k w i → ⊥)
    → (g : ℕ → Bool) → IsKnown g f size range rests half → (i w : ℕ) → IsPiece g size range k w i → ⊥
none_fresh f size range k rests half none empty g kn i w x = empty i w (piece_from kn.under f size range k w i kn.left.part (kn.down k w i x (subst (IsBelow w) (sym none) tt)))

pub found_half : (f : ℕ → Bool) (size : ℕ) (range : Span) (topdown : Bool) (k : ℕ) (rests : List Span) (half : Option Half) (of : Half) (b : Span) → half ≡ Some of → k < of.order → HasNumbers half
    → ((h : ℕ → Bool) → IsLeft h f size range rests → (i w : ℕ) → IsPiece h size range k w i → IsBeyond w half) → IsFirstIn of topdown k b → IsFoundHalf f size range topdown k rests half of b × HasRoom k (record { block = b; origin = Spare of })
found_half f size range topdown k rests half of b is order numbers beyond first =
    let s : HasNumbers (Some of) = subst HasNumbers is numbers in
    let n : ℕ = first.number in
    let e = ap (λ (b : Span). b.end) first.is in
    let a = ap (λ (b : Span). b.start) first.is in
    let o = s.0 in
    let z = s.1 in
    let u = block_end n k of.order of.number (omega (arith, order)) first.within in
    let p = some_pages k in (
      record { is = is; order = order; beyond = λ h left i w x. subst (IsBeyond w) is (beyond h left i w x); first = first },
      record { order = omega (arith, order, o); start = omega (arith, a, u, z, p); len = omega (arith, a, e); whole = tt },
    )

pub fresh_found : (f : ℕ → Bool) (size : ℕ) (range : Span) (topdown : Bool) (k : ℕ) (rests : List Span) (half : Option Half) (r : Option Found) → rests ≡ replicate 32 range → half ≡ None
    → IfSome r (λ found. (rests : List Span) → rests ≡ replicate 32 range → IsFound f size range topdown k rests None found) → IfSome r (IsFound f size range topdown k rests half)
fresh_found f size range topdown k rests half None all none is = tt
fresh_found f size range topdown k rests half (Some found) all none is = subst (λ h. IsFound f size range topdown k rests h found) (sym none) (is rests all)

-- ---- the first number in a half

pub lowest_in : (o q k : ℕ) → k ≤ o → IsFit (in_half false o q k) o q (q * 2 ^ (o - k))
lowest_in o q k l = fit_lowest (in_half false o q k) o q l (omega arith) (omega arith) refl

pub highest_in : (o q k n : ℕ) → k ≤ o → n + 1 ≡ (q + 1) * 2 ^ (o - k) → IsFit (in_half true o q k) o q n
highest_in o q k n l e = fit_highest (in_half true o q k) o q n l (omega arith) (omega arith) refl e
