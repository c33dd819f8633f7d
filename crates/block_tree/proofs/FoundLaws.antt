-- The first piece of the least order is the candidate of the choice.
use Rattle.std.proofs.Common.{◌≡◌, ℕ, suc, ◌+◌, ◌*◌, ◌^◌, ◌<◌, ◌≤◌, Bool, true, Option, Some, None, option_map, ap, sym, ◌∙◌, subst, arith, nat_lt, nat_le}
use Rattle.std.specs.Option.{IfSome}
use Rattle.std.proofs.lemmas.Bool.{and_parts, ltb-true, leb-true, false_from_ne_true, both_ways}
use Rattle.ttm_base.specs.declared.Span.{Span}
use Rattle.ttm_base.specs.Holes.{has_page}
use Rattle.ttm_base.specs.BuddyChoice.{Candidate, block_around, is_free_block, candidate}
use Rattle.block_tree.specs.declared.request.Request.{Request}
use Rattle.block_tree.specs.declared.request.Found.{Found}
use Rattle.block_tree.specs.Searching.{numbered}
use Rattle.block_tree.specs.Holding.{IsFound}
use Rattle.block_tree.specs.Pieces.{IsWhole, IsPiece, IsLeastWhole, LeastWholeOf, IsFirstPiece, FirstPieceOf}
use Rattle.block_tree.proofs.Numbers.{some_pages, small_pow, pow_next}
use Rattle.block_tree.proofs.PieceLaws.{piece_within, piece_free, same_block}
use Rattle.block_tree.proofs.ChoiceLaws.{candidate_none, candidate_found}

-- no block of an order above all is free
pub none_above : (o size k : ℕ) (range : Span) (f : ℕ → Bool) → size ≤ 2 ^ o → o < k → LeastWholeOf f size range k None
none_above o size k range f fits h = λ i w x.
    let p = pow_next o in
    let s = some_pages o in
    let m : 2 ^ suc o ≤ 2 ^ k = small_pow (suc o) k (omega (arith, h)) in
    let e = piece_within f size range k w i x in
    omega (arith, fits, p, s, m, e)

-- ---- the candidate

abbrev pub block_of : Candidate → Span
block_of c = c.block

-- both tests tell the same of the pages below the size
tests_whole : (f g : ℕ → Bool) (size j p : ℕ) → ((page : ℕ) → page < size → f page ≡ g page) → IsWhole f size j p → IsWhole g size j p
tests_whole f g size j p h w =
    record {
      free = same_block f g size j p h w.free;
      largest = false_from_ne_true (is_free_block g size (block_around (j + 1) p)) (λ t. both_ways (is_free_block f size (block_around (j + 1) p)) w.largest (same_block g f size (j + 1) p (λ page l. sym (h page l)) t));
    }

pub tests_piece : (f g : ℕ → Bool) (size : ℕ) (range : Span) (k j i : ℕ) → ((page : ℕ) → page < size → f page ≡ g page) → IsPiece f size range k j i → IsPiece g size range k j i
tests_piece f g size range k j i h p = record { order = p.order; inside = p.inside; whole = tests_whole f g size j (i * 2 ^ k) h p.whole }

pub no_piece_chosen : (test f : ℕ → Bool) (size : ℕ) (range : Span) (topdown : Bool) (k : ℕ) → ((page : ℕ) → page < size → test page ≡ f page) → LeastWholeOf f size range k None → option_map block_of (candidate test size range topdown k) ≡ None
no_piece_chosen test f size range topdown k h none = ap (option_map block_of) (candidate_none test size range topdown k (λ i w x. none i w (tests_piece test f size range k w i h x)))

pub piece_chosen : (test f : ℕ → Bool) (size : ℕ) (range : Span) (topdown : Bool) (k j : ℕ) (b : Span) → ((page : ℕ) → page < size → test page ≡ f page) → IsLeastWhole f size range k j → IsFirstPiece f size range topdown k j b
    → option_map block_of (candidate test size range topdown k) ≡ Some b
piece_chosen test f size range topdown k j b h least first =
    ap (option_map block_of)
    (candidate_found test size range topdown k j first.number (λ m w x. least.bound m w (tests_piece test f size range k w m h x)) (tests_piece f test size range k j first.number (λ page l. sym (h page l)) first.is)
    (λ m x. first.first m (tests_piece test f size range k j m h x)))
    ∙ ap Some (sym first.block)

pub first_chosen : (test f : ℕ → Bool) (size : ℕ) (range : Span) (topdown : Bool) (k j : ℕ) (found : Option Span) → ((page : ℕ) → page < size → test page ≡ f page) → IsLeastWhole f size range k j → FirstPieceOf f size range topdown k j found
    → option_map block_of (candidate test size range topdown k) ≡ found
first_chosen test f size range topdown k j None h least first = absurd (first least.number least.is)
first_chosen test f size range topdown k j (Some b) h least first = piece_chosen test f size range topdown k j b h least first

-- its last page is below the size
pub first_within : (f : ℕ → Bool) (size : ℕ) (range : Span) (topdown : Bool) (k j : ℕ) (b : Span) → IsFirstPiece f size range topdown k j b → b.end ≤ size
first_within f size range topdown k j b h =
    let w = piece_within f size range k j h.number h.is in
    let e = ap (λ (b : Span). b.end) h.block in
    omega (arith, w, e)

pub first_free : (f : ℕ → Bool) (size : ℕ) (range : Span) (topdown : Bool) (k j : ℕ) (found : Option Span) → FirstPieceOf f size range topdown k j found → IfSome found (λ block. (page : ℕ) → has_page page block ≡ true → f page ≡ true)
first_free f size range topdown k j None h = tt
first_free f size range topdown k j (Some b) h = λ page t.
    let e = ap (λ (b : Span). b.end) h.block in
    let s = ap (λ (b : Span). b.start) h.block in
    let p = and_parts (nat_le b.start page) (nat_lt page b.end) t in
    let l = leb-true b.start page p.0 in
    let u = ltb-true page b.end p.1 in
    piece_free f size range k j h.number page h.is (omega (arith, s, l)) (omega (arith, e, u))

-- ---- what is found, as a span

pub found_within : (f : ℕ → Bool) (size : ℕ) (r : Request) (k : ℕ) (found : Found) → IsFound f size r k found → found.piece.number * 2 ^ found.piece.order + 2 ^ found.piece.order ≤ size
found_within f size r k found h =
    subst (λ o. found.piece.number * 2 ^ o + 2 ^ o ≤ size) (sym h.piece) (first_within f size r.range r.topdown r.order k (numbered r.order found.piece.number) h.first)

pub found_first : (f : ℕ → Bool) (size : ℕ) (r : Request) (k : ℕ) (found : Found) (b : Span) → IsFound f size r k found → b ≡ numbered found.piece.order found.piece.number → IsFirstPiece f size r.range r.topdown r.order k b
found_first f size r k found b h e = subst (IsFirstPiece f size r.range r.topdown r.order k) (sym (e ∙ ap (λ o. numbered o found.piece.number) h.piece)) h.first

-- its pages
pub found_end : (f : ℕ → Bool) (size : ℕ) (r : Request) (k : ℕ) (found : Found) (b : Span) → IsFound f size r k found → b ≡ numbered found.piece.order found.piece.number → b.end ≤ size
found_end f size r k found b h e = first_within f size r.range r.topdown r.order k b (found_first f size r k found b h e)

pub found_len : (r : Request) (found : Found) (b : Span) → found.piece.order ≡ r.order → b ≡ numbered found.piece.order found.piece.number → b.end ≡ b.start + 2 ^ r.order
found_len r found b p e =
    let s = ap (λ (b : Span). b.start) e in
    let t = ap (λ (b : Span). b.end) e in
    let q : 2 ^ found.piece.order ≡ 2 ^ r.order = ap (λ o. 2 ^ o) p in
    omega (arith, s, t, q)

pub some_not_none : (b : Span) (o : Option Span) → o ≡ Some b → o ≡ None → ⊥
some_not_none b o e n = cc
