-- What stands on a list is listed for it, and stands there once.
use Rattle.std.proofs.Common.{◌≡◌, ℕ, zero, suc, ◌<◌, true, false, List, [], ◌∷◌, ◌++◌, length, map, Option, Some, None, IsSome, refl, sym, ap, subst, ◌∙◌, inl, inr, arith}
use Rattle.std.specs.Prelude.{◌==◌, filter}
use Rattle.std.specs.List.{All, AllByRecursion, IsDistinct}
use Rattle.std.proofs.lemmas.Bool.{cases_lt}
use Rattle.std.proofs.lemmas.Bool.Decides.{nat_tests}
use Rattle.std.proofs.lemmas.List.{get_or_past}
use Rattle.std.proofs.lemmas.List.Sums.{length-filter}
use Rattle.ttm_base.specs.declared.BufId.{BufId}
use Rattle.lru_bulk.specs.declared.nodes.Listing.{Listing}
use Rattle.lru_bulk.specs.declared.nodes.Spot.TheVariants.{End, Of}
use Rattle.lru_bulk.specs.declared.rings.Rings.{Rings}
use Rattle.lru_bulk.specs.Rings.{Each}
use Rattle.lru_bulk.specs.Lists.{list_as, list_at, list_of, listing_of, number_of}
use Rattle.lru_bulk.specs.Members.{same_buffer, times_in, IsListedFor, AreMembersListed, IsOnNone}
use Rattle.lru_bulk.specs.Sound.{next_at, prev_at, listings_of, lists_of, order_of, IsAt, IsWhole}
use Rattle.lru_bulk.proofs.Paths.{each_map, NotIn, Distinct}
use Rattle.lru_bulk.proofs.Walks.{ring_distinct}
use Rattle.lru_bulk.proofs.Blocks.{filter_none}
use Rattle.lru_bulk.proofs.OwnBlock.{Unlike}
use Rattle.lru_bulk.proofs.GroupLaws.{unlike_id}
use Rattle.lru_bulk.proofs.LeaveLaws.{place_cut, place_distinct}
use Rattle.lru_bulk.proofs.Neighbors.{unlike_front, unlike_back}
use Rattle.lru_bulk.proofs.WholeLaws.{some_of}

all_of : {X : Type 0} (P : X → Type 0) (l : List X) → Each P l → All P l
all_of P [] h k d lt = absurd (omega arith)
all_of P (x ∷ l) h zero d lt = h.0
all_of P (x ∷ l) h (suc k) d lt = all_of P l h.1 k d (omega arith)

-- what holds of each of the twelve and of an empty list holds of each
on_each : (r : Rings) (P : List BufId → Type 0) (i : ℕ) → IsWhole r None → (i < 12 → P (list_at (lists_of r) i)) → P [] → P (list_at (lists_of r) i)
on_each r P i h here none =
    elim (cases_lt i 12) [
      | inl lt ↦ here lt
      | inr le ↦ let count = h.count in subst P (sym (get_or_past (lists_of r) i [] (omega arith))) none
    ]

pub members_listed : (r : Rings) → IsWhole r None → AreMembersListed (order_of r)
members_listed r h = λ i.
    all_of (IsListedFor (order_of r) i) (list_at (lists_of r) i)
    (on_each r (Each (IsListedFor (order_of r) i)) i h
    (λ lt. each_map (IsAt (listings_of r) None i) (IsListedFor (order_of r) i) (λ b at. record { listing = at.listing; listed = at.listed; number = at.number }) (list_at (lists_of r) i) (h.homes i lt))
    tt)

-- one alone of those that are it
only_here : (b : BufId) (x y : List BufId) → Unlike b x → Unlike b y → filter (same_buffer b) (x ++ b ∷ y) ≡ b ∷ []
only_here b [] y ux uy =
    let e : (b.0 == b.0) ≡ true = grind (arith, nat_tests) in
    rw e (ap (λ (l : List BufId). b ∷ l) (filter_none (same_buffer b) y uy))
only_here b (c ∷ x) y ux uy = rw ux.0 (only_here b x y ux.1 uy)

pub stands_once : (r : Rings) (b : BufId) → IsWhole r None → IsSome (listing_of (order_of r) b) → times_in b (list_of (order_of r) b) ≡ 1
stands_once r b h listed =
    let some = some_of (listing_of (order_of r) b) listed in
    let x = some.0 in
    let cut = place_cut r (lists_of r) b x h some.1 in
    let d = place_distinct r (lists_of r) b x h some.1 in
    let uf = unlike_front (End (number_of x)) cut.front b cut.back d in
    let ub = unlike_back (End (number_of x)) cut.front b cut.back d in
    ap (λ (o : Option Listing). times_in b (list_as (order_of r) o)) some.1
    ∙ ap (times_in b) cut.split
    ∙ sym (length-filter (same_buffer b) (cut.front ++ b ∷ cut.back))
    ∙ ap length (only_here b cut.front cut.back uf ub)

-- nothing stands twice
apart : (b : BufId) (l : List BufId) → NotIn (Of b) (map Of l) → AllByRecursion (λ c. same_buffer b c ≡ false) l
apart b [] h = tt
apart b (c ∷ l) h = (unlike_id b c (λ e. h.0 (ap Of (sym e))), apart b l h.1)

distinct_of : (l : List BufId) → Distinct (map Of l) → IsDistinct same_buffer l
unfolding IsDistinct
distinct_of [] d = tt
distinct_of (b ∷ l) d = (apart b l d.0, distinct_of l d.1)

no_twice : IsDistinct same_buffer []
unfolding IsDistinct
no_twice = tt

pub stand_apart : (r : Rings) (i : ℕ) → IsWhole r None → IsDistinct same_buffer (list_at (lists_of r) i)
stand_apart r i h =
    on_each r (IsDistinct same_buffer) i h
    (λ lt. distinct_of (list_at (lists_of r) i) (ring_distinct (next_at r) (prev_at r) i (list_at (lists_of r) i) (h.rings i lt)).1)
    no_twice

-- what isn't listed stands nowhere
unlisted_unlike : (r : Rings) (i : ℕ) (b : BufId) → listing_of (order_of r) b ≡ None → (c : BufId) → IsAt (listings_of r) None i c → same_buffer b c ≡ false
unlisted_unlike r i b none c at = unlike_id b c (λ e.
    let f : None ≡ Some at.listing = sym none ∙ ap (listing_of (order_of r)) e ∙ at.listed in
    cc)

pub unlisted_nowhere : (r : Rings) (b : BufId) → IsWhole r None → listing_of (order_of r) b ≡ None → IsOnNone (order_of r) b
unlisted_nowhere r b h none = λ i.
    on_each r (λ l. times_in b l ≡ 0) i h
    (λ lt.
    let l = list_at (lists_of r) i in
    sym (length-filter (same_buffer b) l)
    ∙ ap length (filter_none (same_buffer b) l (each_map (IsAt (listings_of r) None i) (λ c. same_buffer b c ≡ false) (unlisted_unlike r i b none) l (h.homes i lt))))
    refl

pub nowhere_unlisted : (r : Rings) (b : BufId) → IsWhole r None → IsOnNone (order_of r) b → listing_of (order_of r) b ≡ None
nowhere_unlisted r b h none = by (listing_of (order_of r) b) refl
  where
    by : (o : Option Listing) → listing_of (order_of r) b ≡ o → o ≡ None
    by None e = refl
    by (Some x) e =
        let once : times_in b (list_of (order_of r) b) ≡ 1 = stands_once r b h (subst IsSome (sym e) refl) in
        let here : times_in b (list_of (order_of r) b) ≡ 0 = ap (λ (o : Option Listing). times_in b (list_as (order_of r) o)) e ∙ none (number_of x) in
        absurd (let f : 1 ≡ 0 = sym once ∙ here in cc)
