-- Spans that are held one after the other, and let go again where memory runs out.
use Rattle.std.proofs.Common.{◌≡◌, ℕ, zero, suc, ◌+◌, ◌<◌, ◌≤◌, Bool, true, false, List, [], ◌∷◌, ◌++◌, length, get_or, take, refl, ap, sym, ◌∙◌, subst, arith, if◌then◌else◌}
use Rattle.std.proofs.lemmas.List.{take_more}
use Rattle.std.proofs.lemmas.Bool.{both_ways, false_from_ne_true}
use Rattle.ttm_base.specs.declared.Span.{Span}
use Rattle.ttm_base.specs.Holes.{is_free_beside}
use Rattle.buddy_manager.specs.Held.{with_block, with_blocks, without_all, same_span, AllBy, IsApart, AreHeld}
use Rattle.buddy_manager.specs.Taking.{less, AreTaken}
use Rattle.buddy_manager.proofs.ManagedLaws.{blocks_kept}
use Rattle.resource_core.specs.Tied.{total, at_span, HaveSame}
use Rattle.resource_core.proofs.TotalLaws.{total_with_all, held_by_total, same_is, same_self}
use Rattle.resource_core.proofs.TieLaws.{IsPutBack, put_back}
use Rattle.range_manager.specs.Held.{with_span}
use Rattle.resource_core.proofs.RangeLaws.{from_held, with_taken}

pub with_blocks_more : (bs : List Span) (b : Span) (hs : List Span) → with_blocks (bs ++ b ∷ []) hs ≡ with_block b (with_blocks bs hs)
with_blocks_more [] b hs = refl
with_blocks_more (x ∷ bs) b hs = with_blocks_more bs b (with_block x hs)

pub taken_at : (f : ℕ → Bool) (n : ℕ) (bs : List Span) (i : ℕ) (d : Span) → AreTaken f n bs → i < length bs → (get_or bs i d).start < (get_or bs i d).end
taken_at f n [] i d a l = absurd (omega arith)
taken_at f n (b ∷ bs) zero d a l = (a.0).some
taken_at f n (b ∷ bs) (suc i) d a l = taken_at (less f b) n bs i d a.1 (omega arith)

pub taken_first : (f : ℕ → Bool) (n : ℕ) (bs : List Span) (i : ℕ) → AreTaken f n bs → AreTaken f n (take i bs)
taken_first f n [] zero a = tt
taken_first f n [] (suc i) a = tt
taken_first f n (b ∷ bs) zero a = tt
taken_first f n (b ∷ bs) (suc i) a = (a.0, taken_first (less f b) n bs i a.1)

-- ---- spans in order are told by their weights

own_weight : (x : Span) → at_span x x ≡ 1
own_weight x = ap (λ t. if t then 1 else 0) (same_self x)

other_span : (x y : Span) → same_span x y ≡ false → same_span y x ≡ false
other_span x y h = false_from_ne_true (same_span y x) (λ t. both_ways (same_span x y) h (ap (same_span x) (same_is y x t) ∙ same_self x))

-- a span of one list that isn't the first of the other begins after it
behind_first : (x y : Span) (xs ys : List Span) → IsApart (y ∷ ys) → HaveSame (x ∷ xs) (y ∷ ys) → same_span x y ≡ false → y.end ≤ x.start
behind_first x y xs ys b h e =
    let own = own_weight x in
    let all = h (at_span x) in
    let none : at_span x y ≡ 0 = ap (λ t. if t then 1 else 0) e in
    from_held y.end x ys b.1 (held_by_total x ys (omega (arith, own, all, none)))

pub same_apart : (xs ys : List Span) → IsApart xs → IsApart ys → HaveSame xs ys → xs ≡ ys
same_apart [] [] a b h = refl
same_apart [] (y ∷ ys) a b h = absurd (let own = own_weight y in let all = h (at_span y) in omega (arith, own, all))
same_apart (x ∷ xs) [] a b h = absurd (let own = own_weight x in let all = h (at_span x) in omega (arith, own, all))
same_apart (x ∷ xs) (y ∷ ys) a b h = by (same_span x y) refl (same_apart xs ys a.2 b.2) where
  by : (t : Bool) → same_span x y ≡ t → (HaveSame xs ys → xs ≡ ys) → x ∷ xs ≡ y ∷ ys
  by true e rest =
      let s = same_is x y e in
      ap (λ zs. x ∷ zs) (rest (λ w. let all = h w in let one = ap w s in let z : total w xs ≡ total w ys = omega (arith, all, one) in z)) ∙ ap (λ z. z ∷ ys) s
  by false e rest =
      let later = behind_first x y xs ys b h e in
      let before = behind_first y x ys xs a (λ w. sym (h w)) (other_span x y e) in
      let x_some = a.0 in
      let y_some = b.0 in
      absurd (omega (arith, later, before, x_some, y_some))

-- ---- what was held is let go again

module _ (n : ℕ) (bs hs : List Span) (t : AreTaken (is_free_beside hs) n bs) (apart : IsApart hs) (within : AllBy n hs) where
  pub apart_held : IsApart (with_blocks bs hs)
  apart_held = (blocks_kept (is_free_beside hs) n bs hs t (λ page e. e) apart within).apart

  undo : IsPutBack n bs (with_blocks bs hs) (λ w. total w hs)
  undo =
      let k = blocks_kept (is_free_beside hs) n bs hs t (λ page e. e) apart within in
      put_back n bs (with_blocks bs hs) (λ w. total w hs) k.apart k.by (λ w. total_with_all w bs hs)

  pub are_held : AreHeld bs (with_blocks bs hs)
  are_held = undo.held

  pub undone : without_all bs (with_blocks bs hs) ≡ hs
  undone = same_apart (without_all bs (with_blocks bs hs)) hs undo.apart apart undo.same

-- ---- of spans that are held one after the other, after the first i

module _ (n : ℕ) (bs hs : List Span) (i : ℕ) (now : List Span) (t : AreTaken (is_free_beside hs) n bs) (h : now ≡ with_blocks (take i bs) hs) where
  pub held_next : (d : Span) (after : List Span) → i < length bs → after ≡ with_span (get_or bs i d) now → after ≡ with_blocks (take (i + 1) bs) hs
  held_next d after l e =
      e ∙ with_taken (get_or bs i d) now (taken_at (is_free_beside hs) n bs i d t l) ∙ ap (with_block (get_or bs i d)) h
      ∙ sym (with_blocks_more (take i bs) (get_or bs i d) hs) ∙ sym (ap (λ xs. with_blocks xs hs) (take_more bs i d l))

  pub first_apart : IsApart hs → AllBy n hs → IsApart now
  first_apart a b = subst IsApart (sym h) (apart_held n (take i bs) hs (taken_first (is_free_beside hs) n bs i t) a b)

  pub first_held : (part : List Span) → part ≡ take i bs → IsApart hs → AllBy n hs → AreHeld part now
  first_held part p a b = subst (λ xs. AreHeld xs now) (sym p) (subst (AreHeld (take i bs)) (sym h) (are_held n (take i bs) hs (taken_first (is_free_beside hs) n bs i t) a b))

  pub first_undone : (part after : List Span) → part ≡ take i bs → after ≡ without_all part now → IsApart hs → AllBy n hs → after ≡ hs
  first_undone part after p e a b =
      e ∙ ap (λ xs. without_all xs now) p ∙ ap (without_all (take i bs)) h ∙ undone n (take i bs) hs (taken_first (is_free_beside hs) n bs i t) a b
