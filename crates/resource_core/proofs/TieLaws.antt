-- The spans that a span manager holds stay those of the owners.
use Rattle.std.proofs.Common.{◌≡◌, ℕ, ◌+◌, ◌≤◌, Bool, true, false, List, [], ◌∷◌, ◌++◌, Option, length, refl, ap, sym, ◌∙◌, subst, arith, if◌then◌else◌}
use Rattle.std.proofs.lemmas.List.Elements.{All-nil}
use Rattle.ttm_base.specs.declared.Span.{Span}
use Rattle.ttm_base.specs.declared.JobId.{JobId}
use Rattle.ttm_base.specs.declared.Owner.{Owner}
use Rattle.ttm_base.specs.declared.Place.{Place}
use Rattle.ttm_base.specs.Holes.{is_free_beside}
use Rattle.buddy_manager.specs.Held.{with_blocks, without, without_all, is_held, AllBy, IsApart, AreHeld}
use Rattle.buddy_manager.specs.Taking.{AreTaken}
use Rattle.buddy_manager.proofs.HeldLaws.{apart_without, all_by_without}
use Rattle.buddy_manager.proofs.ManagedLaws.{blocks_kept}
use Rattle.resource_core.specs.declared.holding.Holding.{Holding}
use Rattle.resource_core.specs.Resources.{Resources, holds, all_spans, is_free, renamed, AreDistinct, HaveSpans}
use Rattle.resource_core.specs.Tied.{total, at_span, HaveSame, IsTied}
use Rattle.resource_core.proofs.TotalLaws.{total_with_all, total_without, held_by_total, same_self, same_free}
use Rattle.resource_core.proofs.OwnerLaws.{distinct_added, distinct_renamed}
use Rattle.resource_core.proofs.HoldingLaws.{total_added, renamed_spans, spans_added, spans_renamed}

pub tied_new : (size most : ℕ) → size ≤ most → IsTied size most [] []
tied_new size most h = record { small = h; apart = tt; within = tt; same = λ w. refl; owners = tt; some = All-nil (λ (h : Holding). 1 ≤ length h.spans) }

-- both lists have the same free pages, so that a choice is the same
pub choice_same : (choice : (ℕ → Bool) → ℕ → ℕ → ℕ → Place → Option (List Span)) (size : ℕ) (hs : List Span) (held : List Holding) (fence : Option JobId) (r : Resources)
    (pages align : ℕ) (place : Place) → HaveSame hs (all_spans held) → (let a : Resources = record { size = size; held = held; move_fence = fence } in a ≡ r)
    → choice (is_free_beside hs) size pages align place ≡ choice (is_free r.held) r.size pages align place
choice_same choice size hs held fence r pages align place same view =
    ap (λ f. choice f size pages align place) (same_free hs (all_spans held) same) ∙ ap (λ (r : Resources). choice (is_free r.held) r.size pages align place) view

-- pages that no owner has are free in the spans that are held
pub taken_of : (size : ℕ) (hs : List Span) (held : List Holding) (fence : Option JobId) (r : Resources) (out : List Span) → HaveSame hs (all_spans held)
    → (let a : Resources = record { size = size; held = held; move_fence = fence } in a ≡ r) → AreTaken (is_free r.held) r.size out → AreTaken (is_free_beside hs) size out
taken_of size hs held fence r out same view t =
    subst (λ f. AreTaken f size out) (sym (same_free hs (all_spans held) same)) (subst (λ (r : Resources). AreTaken (is_free r.held) r.size out) (sym view) t)

pub free_of : (size : ℕ) (hs : List Span) (held : List Holding) (fence : Option JobId) (r : Resources) (out : List Span) → HaveSame hs (all_spans held)
    → (let a : Resources = record { size = size; held = held; move_fence = fence } in a ≡ r) → AreTaken (is_free_beside hs) size out → AreTaken (is_free r.held) r.size out
free_of size hs held fence r out same view t =
    subst (λ (r : Resources). AreTaken (is_free r.held) r.size out) view (subst (λ f. AreTaken f size out) (same_free hs (all_spans held) same) t)

pub tied_is : (size now most : ℕ) (hs hsnow : List Span) (held heldnow : List Holding) → now ≡ size → hsnow ≡ hs → heldnow ≡ held → IsTied size most hs held → IsTied now most hsnow heldnow
tied_is size now most hs hsnow held heldnow a b c t =
    subst (λ n. IsTied n most hsnow heldnow) (sym a) (subst (λ s. IsTied size most s heldnow) (sym b) (subst (IsTied size most hs) (sym c) t))

-- ---- spans that are put back

pub record IsPutBack (size : ℕ) (bs hs : List Span) (rest : (Span → ℕ) → ℕ) : Type 0 where
  pub held : AreHeld bs hs
  pub apart : IsApart (without_all bs hs)
  pub within : AllBy size (without_all bs hs)
  pub same : (w : Span → ℕ) → total w (without_all bs hs) ≡ rest w

pub put_back : (size : ℕ) (bs hs : List Span) (rest : (Span → ℕ) → ℕ) → IsApart hs → AllBy size hs → ((w : Span → ℕ) → total w hs ≡ total w bs + rest w) → IsPutBack size bs hs rest
put_back size [] hs rest a b h = record { held = tt; apart = a; within = b; same = λ w. let e = h w in let r : total w hs ≡ rest w = omega (arith, e) in r }
put_back size (x ∷ bs) hs rest a b h =
    let one : at_span x x ≡ 1 = ap (λ t. if t then 1 else 0) (same_self x) in
    let all = h (at_span x) in
    let here : is_held x hs ≡ true = held_by_total x hs (omega (arith, one, all)) in
    let r = put_back size bs (without x hs) rest (apart_without x hs a) (all_by_without size x hs b) (λ w.
    let t = total_without w x hs a here in
    let e = h w in
    let z : total w (without x hs) ≡ total w bs + rest w = omega (arith, t, e) in z) in
    record { held = (here, r.held); apart = r.apart; within = r.within; same = r.same }

-- ---- spans that are taken

module _ (size most : ℕ) (hs : List Span) (held : List Holding) (t : IsTied size most hs held) where
  pub tied_taken : (o : Owner) (out : List Span) → AreTaken (is_free_beside hs) size out → 1 ≤ length out → holds o held ≡ false
      → IsTied size most (with_blocks out hs) (held ++ record { owner = o; spans = out } ∷ [])
  tied_taken o out a l n =
      let k = blocks_kept (is_free_beside hs) size out hs a (λ page e. e) t.apart t.within in
      record {
        small = t.small;
        apart = k.apart;
        within = k.by;
        same = λ w. total_with_all w out hs ∙ ap (λ n. total w out + n) (t.same w) ∙ sym (total_added w held o out);
        owners = distinct_added held o out t.owners n;
        some = spans_added held o out t.some l;
      }

  pub apart_taken : (out : List Span) → AreTaken (is_free_beside hs) size out → IsApart (with_blocks out hs)
  apart_taken out a = (blocks_kept (is_free_beside hs) size out hs a (λ page e. e) t.apart t.within).apart

  -- spans that were taken are put back
  pub taken_back : (out : List Span) → AreTaken (is_free_beside hs) size out → IsPutBack size out (with_blocks out hs) (λ w. total w (all_spans held))
  taken_back out a =
      let k = blocks_kept (is_free_beside hs) size out hs a (λ page e. e) t.apart t.within in
      put_back size out (with_blocks out hs) (λ w. total w (all_spans held)) k.apart k.by (λ w. total_with_all w out hs ∙ ap (λ n. total w out + n) (t.same w))

  pub tied_again : (out : List Span) → AreTaken (is_free_beside hs) size out → IsTied size most (without_all out (with_blocks out hs)) held
  tied_again out a =
      let r = taken_back out a in
      record { small = t.small; apart = r.apart; within = r.within; same = r.same; owners = t.owners; some = t.some }

  pub tied_renamed : (from to : Owner) → holds to held ≡ false → IsTied size most hs (renamed from to held)
  tied_renamed from to n =
      record {
        small = t.small;
        apart = t.apart;
        within = t.within;
        same = λ w. t.same w ∙ sym (ap (total w) (renamed_spans from to held));
        owners = distinct_renamed from to held t.owners n;
        some = spans_renamed from to held t.some;
      }

  pub given_back : (bs : List Span) (rest : List Holding) → ((w : Span → ℕ) → total w (all_spans held) ≡ total w bs + total w (all_spans rest)) → IsPutBack size bs hs (λ w. total w (all_spans rest))
  given_back bs rest h = put_back size bs hs (λ w. total w (all_spans rest)) t.apart t.within (λ w. t.same w ∙ h w)

  pub tied_given : (bs : List Span) (rest : List Holding) → ((w : Span → ℕ) → total w (all_spans held) ≡ total w bs + total w (all_spans rest)) → AreDistinct rest
      → HaveSpans rest → IsTied size most (without_all bs hs) rest
  tied_given bs rest h d k =
      let r = given_back bs rest h in
      record { small = t.small; apart = r.apart; within = r.within; same = r.same; owners = d; some = k }
