-- The order after several steps, and what stands first, after another and side by side.
use Rattle.std.proofs.Common.{◌≡◌, ℕ, zero, suc, ◌+◌, ◌*◌, ◌<◌, true, List, [], ◌∷◌, ◌++◌, length, get_or, set, map, replicate, Option, Some, None, IsSome, refl, sym, ap, subst, ◌∙◌, arith}
use Rattle.std.specs.Prelude.{slice_get, ◌==◌}
use Rattle.std.proofs.lemmas.Bool.Decides.{nat_tests}
use Rattle.std.proofs.lemmas.List.{length-replicate, set-set, get_or-set_same, get_or_past}
use Rattle.ttm_base.specs.declared.BufId.{BufId}
use Rattle.ttm_base.specs.declared.Mem.{Mem}
use Rattle.lru_bulk.specs.declared.nodes.Listing.{Listing}
use Rattle.lru_bulk.specs.declared.nodes.Node.{Node}
use Rattle.lru_bulk.specs.declared.nodes.Links.{Links}
use Rattle.lru_bulk.specs.declared.nodes.Spot.{Spot}
use Rattle.lru_bulk.specs.declared.nodes.Spot.TheVariants.{End, Of}
use Rattle.lru_bulk.specs.declared.rings.Range.{Range}
use Rattle.lru_bulk.specs.declared.rings.Rings.{Rings}
use Rattle.lru_bulk.specs.Rings.{Each, Path}
use Rattle.lru_bulk.specs.Lists.{Order, StandTogether, list_at, list_of, list_as, listing_in, listing_of, number_of, is_member, taken_off, put_on, added, removed, touched, touched_as, relisted, relisted_as, bulk_moved, members_last, behind, nothing_listed}
use Rattle.lru_bulk.specs.Sound.{next_at, prev_at, listings_of, lists_of, order_of, buffer_in, range_at, AreClosed, IsAt, IsBlock, IsSound, IsWhole}
use Rattle.lru_bulk.proofs.ListingLaws.{listing_in_node}
use Rattle.lru_bulk.proofs.Blocks.{filter_all, filter_none}
use Rattle.lru_bulk.proofs.OwnBlock.{Unlike}
use Rattle.lru_bulk.proofs.Paths.{path_split}
use Rattle.lru_bulk.proofs.LeaveLaws.{place_cut, place_ring, place_distinct}
use Rattle.lru_bulk.proofs.Neighbors.{unlike_front}
use Rattle.lru_bulk.proofs.WholeLaws.{some_of}

pub order_eq : (r : Rings) (o : Order) → lists_of r ≡ o.lists → listings_of r ≡ o.listings → r.groups ≡ o.groups → order_of r ≡ o
order_eq r o l k g = λ i. record { lists = l i; listings = k i; groups = g i }

-- listed and placed
pub added_is : (r r1 r2 : Rings) (b : BufId) (x : Listing) → b.0 < length (listings_of r) → lists_of r1 ≡ lists_of r → listings_of r1 ≡ set (listings_of r) b.0 (Some x) → r1.groups ≡ r.groups
    → ((y : Listing) → listing_in (listings_of r1) b ≡ Some y → lists_of r2 ≡ put_on (listings_of r1) (lists_of r1) b (number_of y)) → listings_of r2 ≡ listings_of r1 → r2.groups ≡ r1.groups
    → order_of r2 ≡ added (order_of r) b x
added_is r r1 r2 b x lt lists1 listings1 groups1 lists2 listings2 groups2 =
    let at : listing_in (listings_of r1) b ≡ Some x = ap (λ (l : List (Option Listing)). listing_in l b) listings1 ∙ get_or-set_same (listings_of r) b.0 (Some x) None lt in
    order_eq r2 (added (order_of r) b x)
    (lists2 x at ∙ ap (λ (l : List (List BufId)). put_on (listings_of r1) l b (number_of x)) lists1
    ∙ ap (λ (l : List (Option Listing)). put_on l (lists_of r) b (number_of x)) listings1)
    (listings2 ∙ listings1) (groups2 ∙ groups1)

pub removed_is : (r r1 r2 : Rings) (b : BufId) → lists_of r1 ≡ taken_off (lists_of r) b → listings_of r1 ≡ listings_of r → r1.groups ≡ r.groups
    → lists_of r2 ≡ lists_of r1 → listings_of r2 ≡ set (listings_of r1) b.0 None → r2.groups ≡ r1.groups → order_of r2 ≡ removed (order_of r) b
removed_is r r1 r2 b lists1 listings1 groups1 lists2 listings2 groups2 =
    order_eq r2 (removed (order_of r) b) (lists2 ∙ lists1) (listings2 ∙ ap (λ (l : List (Option Listing)). set l b.0 None) listings1) (groups2 ∙ groups1)

pub touched_is : (r r1 r2 : Rings) (b : BufId) → IsSome (listing_of (order_of r) b) → lists_of r1 ≡ taken_off (lists_of r) b → listings_of r1 ≡ listings_of r → r1.groups ≡ r.groups
    → ((y : Listing) → listing_in (listings_of r1) b ≡ Some y → lists_of r2 ≡ put_on (listings_of r1) (lists_of r1) b (number_of y)) → listings_of r2 ≡ listings_of r1 → r2.groups ≡ r1.groups
    → order_of r2 ≡ touched (order_of r) b
touched_is r r1 r2 b listed lists1 listings1 groups1 lists2 listings2 groups2 =
    let some = some_of (listing_of (order_of r) b) listed in
    let x = some.0 in
    let at : listing_in (listings_of r1) b ≡ Some x = ap (λ (l : List (Option Listing)). listing_in l b) listings1 ∙ some.1 in
    order_eq r2 (touched_as (order_of r) b (Some x))
    (lists2 x at ∙ ap (λ (l : List (List BufId)). put_on (listings_of r1) l b (number_of x)) lists1
    ∙ ap (λ (l : List (Option Listing)). put_on l (taken_off (lists_of r) b) b (number_of x)) listings1)
    (listings2 ∙ listings1) (groups2 ∙ groups1)
    ∙ ap (touched_as (order_of r) b) (sym some.1)

within : (l : List (Option Listing)) (i : ℕ) (x : Listing) → get_or l i None ≡ Some x → i < length l
within l i x h = grind (arith, get_or_past)

pub relisted_is : (r r1 r2 r3 : Rings) (b : BufId) (mem : Mem) → IsSome (listing_of (order_of r) b)
    → lists_of r1 ≡ taken_off (lists_of r) b → listings_of r1 ≡ listings_of r → r1.groups ≡ r.groups
    → lists_of r2 ≡ lists_of r1 → ((x : Listing) → listing_in (listings_of r1) b ≡ Some x → listings_of r2 ≡ set (listings_of r1) b.0 (Some (record x { mem = mem }))) → r2.groups ≡ r1.groups
    → ((y : Listing) → listing_in (listings_of r2) b ≡ Some y → lists_of r3 ≡ put_on (listings_of r2) (lists_of r2) b (number_of y)) → listings_of r3 ≡ listings_of r2 → r3.groups ≡ r2.groups
    → order_of r3 ≡ relisted (order_of r) b mem
relisted_is r r1 r2 r3 b mem listed lists1 listings1 groups1 lists2 listings2 groups2 lists3 listings3 groups3 =
    let some = some_of (listing_of (order_of r) b) listed in
    let x = some.0 in
    let y : Listing = record x { mem = mem } in
    let at1 : listing_in (listings_of r1) b ≡ Some x = ap (λ (l : List (Option Listing)). listing_in l b) listings1 ∙ some.1 in
    let is2 : listings_of r2 ≡ set (set (listings_of r) b.0 None) b.0 (Some y) =
    listings2 x at1 ∙ ap (λ (l : List (Option Listing)). set l b.0 (Some y)) listings1 ∙ sym (set-set (listings_of r) b.0 None (Some y)) in
    let lt : b.0 < length (listings_of r1) = within (listings_of r1) b.0 x at1 in
    let at2 : listing_in (listings_of r2) b ≡ Some y = ap (λ (l : List (Option Listing)). listing_in l b) (listings2 x at1) ∙ get_or-set_same (listings_of r1) b.0 (Some y) None lt in
    order_eq r3 (relisted_as (order_of r) b mem (Some x))
    (lists3 y at2 ∙ ap (λ (l : List (List BufId)). put_on (listings_of r2) l b (number_of y)) (lists2 ∙ lists1)
    ∙ ap (λ (l : List (Option Listing)). put_on l (taken_off (lists_of r) b) b (number_of y)) is2)
    (listings3 ∙ is2) (groups3 ∙ groups2 ∙ groups1)
    ∙ ap (relisted_as (order_of r) b mem) (sym some.1)

pub bulk_is : (r r1 : Rings) (g : ℕ) → lists_of r1 ≡ map (members_last (is_member (listings_of r) g)) (lists_of r) → listings_of r1 ≡ listings_of r → r1.groups ≡ r.groups
    → order_of r1 ≡ bulk_moved (order_of r) g
bulk_is r r1 g lists listings groups = order_eq r1 (bulk_moved (order_of r) g) lists listings groups

-- the first of a list
first_of : (n p : Spot → Spot) (i : ℕ) (l : List BufId) → Path n p (End i) (map Of l) (End i) → buffer_in (n (End i)) ≡ slice_get l 0
first_of n p i [] h = ap buffer_in h.0
first_of n p i (c ∷ l) h = ap buffer_in h.0

pub first_is : (r : Rings) (i : ℕ) → IsWhole r None → i < 12 → buffer_in (next_at r (End i)) ≡ slice_get (list_at (lists_of r) i) 0
first_is r i h lt = first_of (next_at r) (prev_at r) i (list_at (lists_of r) i) (h.rings i lt)

-- the one after another
behind_cut : (b : BufId) (front back : List BufId) → Unlike b front → behind b (front ++ b ∷ back) ≡ slice_get back 0
behind_cut b [] back u = let e : (b.0 == b.0) ≡ true = grind (arith, nat_tests) in rw e refl
behind_cut b (c ∷ front) back u = rw u.0 (behind_cut b front back u.1)

behind_of : (n p : Spot → Spot) (i : ℕ) (b : BufId) (l : List BufId) → Path n p (Of b) (map Of l) (End i) → buffer_in (n (Of b)) ≡ slice_get l 0
behind_of n p i b [] h = ap buffer_in h.0
behind_of n p i b (c ∷ l) h = ap buffer_in h.0

pub next_is : (r : Rings) (b : BufId) → IsWhole r None → IsSome (listing_of (order_of r) b) → buffer_in (next_at r (Of b)) ≡ behind b (list_of (order_of r) b)
next_is r b h listed =
    let some = some_of (listing_of (order_of r) b) listed in
    let x = some.0 in
    let cut = place_cut r (lists_of r) b x h some.1 in
    let two = path_split (next_at r) (prev_at r) (End (number_of x)) (map Of cut.front) (Of b) (map Of cut.back) (End (number_of x)) (place_ring r (lists_of r) b x h some.1) in
    let u = unlike_front (End (number_of x)) cut.front b cut.back (place_distinct r (lists_of r) b x h some.1) in
    behind_of (next_at r) (prev_at r) (number_of x) b cut.back two.1
    ∙ sym (ap (λ (o : Option Listing). behind b (list_as (order_of r) o)) some.1 ∙ ap (behind b) cut.split ∙ behind_cut b cut.front cut.back u)

-- side by side
pub stands_together : (r : Rings) (i g : ℕ) → IsWhole r None → i < 12 → g < r.groups → StandTogether (is_member (listings_of r) g) (list_at (lists_of r) i)
stands_together r i g h li lg =
    let block = h.blocks i g li lg in
    record {
      before = block.before;
      inside = block.inside;
      after = block.after;
      split = block.split;
      none_before = filter_none (is_member (listings_of r) g) block.before block.none_before;
      all_inside = filter_all (is_member (listings_of r) g) block.inside block.all_inside;
      none_after = filter_none (is_member (listings_of r) g) block.after block.none_after;
    }

-- nothing is listed at first
none_at : {X : Type 0} (n i : ℕ) → get_or {A = Option X} (replicate n None) i None ≡ None
none_at zero i = refl
none_at (suc n) zero = refl
none_at (suc n) (suc i) = none_at n i

empty_at : (n i : ℕ) → get_or {A = List BufId} (replicate n []) i [] ≡ []
empty_at zero i = refl
empty_at (suc n) zero = refl
empty_at (suc n) (suc i) = empty_at n i

no_listings : (n : ℕ) → map listing_in_node (replicate n None) ≡ replicate n None
no_listings zero = refl
no_listings (suc n) = ap (λ (l : List (Option Listing)). None ∷ l) (no_listings n)

pub new_sound : (r : Rings) (buffers : ℕ) → AreClosed 12 r.ends → r.nodes ≡ replicate buffers None → r.ranges ≡ replicate (12 * r.groups) None → IsSound r None (replicate 12 [])
new_sound r buffers closed nodes ranges =
    let none_listed : (b : BufId) → listing_in (listings_of r) b ≡ None =
    λ b. ap (λ (l : List (Option Node)). listing_in (map listing_in_node l) b) nodes ∙ ap (λ (l : List (Option Listing)). listing_in l b) (no_listings buffers) ∙ none_at buffers b.0 in
    record {
      ends = closed.count_is;
      count = refl;
      room = ap length ranges ∙ length-replicate (12 * r.groups) None;
      rings = λ i lt. subst (λ l. Path (next_at r) (prev_at r) (End i) (map Of l) (End i)) (sym (empty_at 12 i))
          (ap (λ (l : Links). l.next) (closed.closed i lt), ap (λ (l : Links). l.prev) (closed.closed i lt));
      homes = λ i lt. subst (Each (IsAt (listings_of r) None i)) (sym (empty_at 12 i)) tt;
      listed = λ b x found out. absurd (let e : None ≡ Some x = sym (none_listed b) ∙ found in cc);
      prios = λ b x found. absurd (let e : None ≡ Some x = sym (none_listed b) ∙ found in cc);
      groups = λ b x found. absurd (let e : None ≡ Some x = sym (none_listed b) ∙ found in cc);
      blocks = λ i g li lg.
          let none : range_at r.ranges g i ≡ None = ap (λ (l : List (Option Range)). range_at l g i) ranges ∙ none_at (12 * r.groups) (g * 12 + i) in
          subst (λ l. IsBlock (is_member (listings_of r) g) l (range_at r.ranges g i)) (sym (empty_at 12 i))
          (record { before = []; inside = []; after = []; split = refl; none_before = tt; all_inside = tt; none_after = tt; range_is = none });
    }

pub new_order : (r : Rings) (buffers groups : ℕ) → lists_of r ≡ replicate 12 [] → r.nodes ≡ replicate buffers None → r.groups ≡ groups → order_of r ≡ nothing_listed buffers groups
new_order r buffers groups lists nodes g =
    order_eq r (nothing_listed buffers groups) lists (ap (λ (l : List (Option Node)). map listing_in_node l) nodes ∙ no_listings buffers) g
