-- The steps of the code, each from the rings before to the rings after.
use Rattle.std.proofs.Common.{◌≡◌, ◌≢◌, ℕ, ◌+◌, ◌*◌, ◌<◌, true, false, List, [], ◌++◌, length, get_or, set, map, take, drop, Option, Some, None, IsSome, refl, sym, ap, subst, ◌∙◌, arith}
use Rattle.std.proofs.lemmas.List.{length-map, get_or_default, get_or_past, get_or-set_same}
use Rattle.std.proofs.lemmas.List.Edits.{map_over_more}
use Rattle.ttm_base.specs.declared.BufId.{BufId}
use Rattle.ttm_base.specs.declared.Mem.{Mem}
use Rattle.lru_bulk.specs.declared.nodes.Listing.{Listing}
use Rattle.lru_bulk.specs.declared.nodes.Node.{Node}
use Rattle.lru_bulk.specs.declared.nodes.Links.{Links}
use Rattle.lru_bulk.specs.declared.nodes.Spot.{Spot}
use Rattle.lru_bulk.specs.declared.nodes.Spot.TheVariants.{End, Of}
use Rattle.lru_bulk.specs.declared.rings.Range.{Range}
use Rattle.lru_bulk.specs.declared.rings.Rings.{Rings}
use Rattle.lru_bulk.specs.Relinks.{IsSpot, SameRest, Tied}
use Rattle.lru_bulk.specs.Lists.{IsGroup, list_at, listing_in, number_of, is_member, members_last, taken_off, put_on}
use Rattle.lru_bulk.specs.Sound.{next_at, prev_at, links_at, node_links, listings_of, lists_of, buffer_of, range_at, range_for, ranges_left, ranges_joined, spot_before, IsSound, IsWhole}
use Rattle.lru_bulk.proofs.ListingLaws.{listing_in_node, listings_at, listings_set}
use Rattle.lru_bulk.proofs.GroupLaws.{number_below}
use Rattle.lru_bulk.proofs.SoundLaws.{AtSpot, lists_are, whole}
use Rattle.lru_bulk.proofs.LeaveLaws.{before_at, behind_at, leave_sound}
use Rattle.lru_bulk.proofs.JoinLaws.{spot_at, behind_spot_at, join_sound}
use Rattle.lru_bulk.proofs.SpliceLaws.{first_spot_at, last_spot_at, before_first_at, tail_at, behind_at as behind_range_at, splice_sound, splice_nothing, splice_nobody}
use Rattle.lru_bulk.proofs.NodeChange.{with_node, changed_sound}

pub some_of : {X : Type 0} (o : Option X) → IsSome o → (x : X) × (o ≡ Some x)
some_of None h = absurd (let e : false ≡ true = h in cc)
some_of (Some x) h = (x, refl)

pub same_trans : (a b c : Rings) → SameRest a b → SameRest b c → SameRest a c
same_trans a b c h k = record {
  ends = k.ends ∙ h.ends;
  listings = k.listings ∙ h.listings;
  ranges = k.ranges ∙ h.ranges;
  groups = k.groups ∙ h.groups;
}

-- what is on a ring is a spot, and stays one
pub spot_of_at : (r : Rings) (out : Option BufId) (lists : List (List BufId)) (i : ℕ) (s : Spot) → IsSound r out lists → i < 12 → AtSpot (listings_of r) out i s → IsSpot r s
spot_of_at r out lists i (End j) h lt at = let ends = h.ends in omega arith
spot_of_at r out lists i (Of b) h lt at = subst IsSome (sym at.listed) refl

pub spot_kept : (r r1 : Rings) (s : Spot) → SameRest r r1 → IsSpot r s → IsSpot r1 s
spot_kept r r1 (End i) rest h = let ends = rest.ends in omega arith
spot_kept r r1 (Of b) rest h = subst (λ l. IsSome (listing_in l b)) (sym rest.listings) h

pub listing_of_node : (r : Rings) (b : BufId) (node : Node) → get_or r.nodes b.0 None ≡ Some node → listing_in (listings_of r) b ≡ Some node.listing
listing_of_node r b node h = listings_at r.nodes b.0 ∙ ap listing_in_node h

pub node_of_listing : (r : Rings) (b : BufId) → IsSome (listing_in (listings_of r) b) → IsSome (get_or r.nodes b.0 None)
node_of_listing r b h = go (get_or r.nodes b.0 None) (subst IsSome (listings_at r.nodes b.0) h)
  where
    go : (o : Option Node) → IsSome (listing_in_node o) → IsSome o
    go None k = k
    go (Some n) k = refl

pub no_node : (r : Rings) (b : BufId) → listing_in (listings_of r) b ≡ None → get_or r.nodes b.0 None ≡ None
no_node r b h = go (get_or r.nodes b.0 None) (sym (listings_at r.nodes b.0) ∙ h)
  where
    go : (o : Option Node) → listing_in_node o ≡ None → o ≡ None
    go None k = refl
    go (Some n) k = cc

-- leaving
pub record LeaveReady (r : Rings) (node : Node) : Type 0 where
  pub prev : IsSpot r node.links.prev
  pub next : IsSpot r node.links.next
  pub prio : node.listing.prio < 4
  pub group : IsGroup r.groups node.listing.group
  pub room : length r.ranges ≡ 12 * r.groups

pub leave_ready : (r : Rings) (b : BufId) (node : Node) → IsWhole r None → get_or r.nodes b.0 None ≡ Some node → LeaveReady r node
leave_ready r b node h found =
    let x = node.listing in
    let at = listing_of_node r b node found in
    let links : links_at r (Of b) ≡ node.links = ap node_links found in
    let below = number_below x (h.prios b x at) in
    record {
      prev = subst (λ (l : Links). IsSpot r l.prev) links (spot_of_at r None (lists_of r) (number_of x) (prev_at r (Of b)) h below (before_at r (lists_of r) b x h at));
      next = subst (λ (l : Links). IsSpot r l.next) links (spot_of_at r None (lists_of r) (number_of x) (next_at r (Of b)) h below (behind_at r (lists_of r) b x h at));
      prio = h.prios b x at;
      group = h.groups b x at;
      room = h.room;
    }

pub leave_whole : (r r1 r2 : Rings) (b : BufId) (node : Node) → IsWhole r None → get_or r.nodes b.0 None ≡ Some node
    → Tied (next_at r) (prev_at r) (next_at r1) (prev_at r1) node.links.prev node.links.next → SameRest r r1
    → r2 ≡ record r1 { ranges = ranges_left r1.ranges node.listing.group (number_of node.listing) b (buffer_of node.links.prev b) (buffer_of node.links.next b) }
    → IsSound r2 (Some b) (taken_off (lists_of r) b)
leave_whole r r1 r2 b node h found t rest is =
    let x = node.listing in
    let at = listing_of_node r b node found in
    let links : node.links ≡ links_at r (Of b) = sym (ap node_links found) in
    let t' = subst (λ (l : Links). Tied (next_at r) (prev_at r) (next_at r1) (prev_at r1) l.prev l.next) links t in
    let ranges : ranges_left r1.ranges x.group (number_of x) b (buffer_of node.links.prev b) (buffer_of node.links.next b)
    ≡ ranges_left r.ranges x.group (number_of x) b (buffer_of (prev_at r (Of b)) b) (buffer_of (next_at r (Of b)) b) =
    ap (λ (l : Links). ranges_left r1.ranges x.group (number_of x) b (buffer_of l.prev b) (buffer_of l.next b)) links
    ∙ ap (λ (q : List (Option Range)). ranges_left q x.group (number_of x) b (buffer_of (prev_at r (Of b)) b) (buffer_of (next_at r (Of b)) b)) rest.ranges in
    subst (λ q. IsSound q (Some b) (taken_off (lists_of r) b)) (sym is) (leave_sound r r1 _ (lists_of r) b x h at t' rest ranges)

-- joining
pub record JoinReady (r : Rings) (b : BufId) (x : Listing) : Type 0 where
  pub ends : length r.ends ≡ 12
  pub room : length r.ranges ≡ 12 * r.groups
  pub prio : x.prio < 4
  pub below : number_of x < 12
  pub group : IsGroup r.groups x.group
  pub left : IsSpot r (spot_before r (range_for r.ranges x.group (number_of x)) (number_of x))
  pub right : IsSpot r (next_at r (spot_before r (range_for r.ranges x.group (number_of x)) (number_of x)))
  pub own : IsSpot r (Of b)

pub join_ready : (r : Rings) (b : BufId) (node : Node) → IsWhole r (Some b) → get_or r.nodes b.0 None ≡ Some node → JoinReady r b node.listing
join_ready r b node h found =
    let x = node.listing in
    let at = listing_of_node r b node found in
    let range = range_for r.ranges x.group (number_of x) in
    let below = number_below x (h.prios b x at) in
    record {
      ends = h.ends;
      room = h.room;
      prio = h.prios b x at;
      below = below;
      group = h.groups b x at;
      left = spot_of_at r (Some b) (lists_of r) (number_of x) (spot_before r range (number_of x)) h below (spot_at r (lists_of r) b x h at x.group range refl refl);
      right = spot_of_at r (Some b) (lists_of r) (number_of x) (next_at r (spot_before r range (number_of x))) h below (behind_spot_at r (lists_of r) b x h at x.group range refl refl);
      own = subst IsSome (sym at) refl;
    }

pub join_whole : (r r1 r2 r3 : Rings) (b : BufId) (node : Node) (left right : Spot) → IsWhole r (Some b) → get_or r.nodes b.0 None ≡ Some node
    → left ≡ spot_before r (range_for r.ranges node.listing.group (number_of node.listing)) (number_of node.listing) → right ≡ next_at r left
    → Tied (next_at r) (prev_at r) (next_at r1) (prev_at r1) left (Of b) → SameRest r r1
    → Tied (next_at r1) (prev_at r1) (next_at r2) (prev_at r2) (Of b) right → SameRest r1 r2
    → r3 ≡ record r2 { ranges = ranges_joined r2.ranges node.listing.group (number_of node.listing) b }
    → IsSound r3 None (put_on (listings_of r) (lists_of r) b (number_of node.listing))
join_whole r r1 r2 r3 b node left right h found left_is right_is one rest1 two rest2 is =
    let x = node.listing in
    let at = listing_of_node r b node found in
    let range = range_for r.ranges x.group (number_of x) in
    let rest = same_trans r r1 r2 rest1 rest2 in
    let one' = subst (λ s. Tied (next_at r) (prev_at r) (next_at r1) (prev_at r1) s (Of b)) left_is one in
    let two' = subst (λ s. Tied (next_at r1) (prev_at r1) (next_at r2) (prev_at r2) (Of b) s) (right_is ∙ ap (next_at r) left_is) two in
    let ranges : ranges_joined r2.ranges x.group (number_of x) b ≡ ranges_joined r.ranges x.group (number_of x) b =
    ap (λ (q : List (Option Range)). ranges_joined q x.group (number_of x) b) rest.ranges in
    subst (λ q. IsSound q None (put_on (listings_of r) (lists_of r) b (number_of x))) (sym is)
    (join_sound r r1 r2 _ (lists_of r) b x range h at refl one' two' rest ranges)

-- a bulk move of one list
pub record SpliceReady (r : Rings) (i : ℕ) (range : Range) : Type 0 where
  pub first : IsSpot r (Of range.first)
  pub last : IsSpot r (Of range.last)
  pub list_end : IsSpot r (End i)
  pub left : IsSpot r (prev_at r (Of range.first))
  pub right : IsSpot r (next_at r (Of range.last))
  pub tail : IsSpot r (prev_at r (End i))

pub splice_ready : (r : Rings) (g i : ℕ) (range : Range) → IsWhole r None → g < r.groups → i < 12 → range_at r.ranges g i ≡ Some range → SpliceReady r i range
splice_ready r g i range h lg li at =
    let spot : (s : Spot) → AtSpot (listings_of r) None i s → IsSpot r s = λ s k. spot_of_at r None (lists_of r) i s h li k in
    record {
      first = spot (Of range.first) (first_spot_at r (lists_of r) g i range h lg li at);
      last = spot (Of range.last) (last_spot_at r (lists_of r) g i range h lg li at);
      list_end = spot (End i) refl;
      left = spot (prev_at r (Of range.first)) (before_first_at r (lists_of r) g i range h lg li at);
      right = spot (next_at r (Of range.last)) (behind_range_at r (lists_of r) g i range h lg li at);
      tail = spot (prev_at r (End i)) (tail_at r (lists_of r) g i range h lg li at);
    }

pub splice_whole : (r r1 r2 r3 : Rings) (g i : ℕ) (range : Range) (right left tail : Spot) → IsWhole r None → g < r.groups → i < 12 → range_at r.ranges g i ≡ Some range
    → right ≡ next_at r (Of range.last) → left ≡ prev_at r (Of range.first) → tail ≡ prev_at r (End i) → right ≢ End i
    → Tied (next_at r) (prev_at r) (next_at r1) (prev_at r1) left right → SameRest r r1
    → Tied (next_at r1) (prev_at r1) (next_at r2) (prev_at r2) tail (Of range.first) → SameRest r1 r2
    → Tied (next_at r2) (prev_at r2) (next_at r3) (prev_at r3) (Of range.last) (End i) → SameRest r2 r3
    → IsSound r3 None (set (lists_of r) i (members_last (is_member (listings_of r) g) (list_at (lists_of r) i)))
splice_whole r r1 r2 r3 g i range right left tail h lg li at right_is left_is tail_is further one rest1 two rest2 three rest3 =
    let one' = subst (λ s. Tied (next_at r) (prev_at r) (next_at r1) (prev_at r1) s (next_at r (Of range.last))) left_is
    (subst (λ s. Tied (next_at r) (prev_at r) (next_at r1) (prev_at r1) left s) right_is one) in
    let two' = subst (λ s. Tied (next_at r1) (prev_at r1) (next_at r2) (prev_at r2) s (Of range.first)) tail_is two in
    splice_sound r r1 r2 r3 (lists_of r) g i range h lg li at (λ e. further (right_is ∙ e)) one' two' three
    (same_trans r r2 r3 (same_trans r r1 r2 rest1 rest2) rest3)

-- from lists that the rings show to the lists that the links lead through
pub record Shown (r : Rings) (out : Option BufId) (lists : List (List BufId)) : Type 0 where
  pub sound : IsWhole r out
  pub lists_is : lists_of r ≡ lists

pub shown : (r : Rings) (out : Option BufId) (lists : List (List BufId)) → IsSound r out lists → Shown r out lists
shown r out lists h = record { sound = whole r out lists h; lists_is = lists_are r out lists h }

-- nodes of a buffer that stands on no list
node_within : (r : Rings) (b : BufId) (node : Node) → get_or r.nodes b.0 None ≡ Some node → b.0 < length r.nodes
node_within r b node h = grind (arith, get_or_past)

not_none : (c : BufId) → Some c ≢ None
not_none c e = cc

pub put_whole : (r : Rings) (b : BufId) (node : Node) → IsWhole r None → b.0 < length r.nodes → listing_in (listings_of r) b ≡ None
    → node.listing.prio < 4 → IsGroup r.groups node.listing.group → IsSound (with_node r b (Some node)) (Some b) (lists_of r)
put_whole r b node h lt absent prio group =
    changed_sound r b (Some node) (lists_of r) None (Some b) h lt
    (λ i c at e. let f : None ≡ Some at.listing = sym absent ∙ ap (listing_in (listings_of r)) (sym e) ∙ at.listed in cc)
    (λ c ne. not_none c) (λ c ne e. ne (let f : c ≡ b = cc in f))
    (λ x e. let f : node.listing ≡ x = cc in (refl, subst (λ (y : Listing). y.prio < 4) f prio, subst (λ (y : Listing). IsGroup r.groups y.group) f group))

pub take_whole : (r : Rings) (b : BufId) (node : Node) → IsWhole r (Some b) → get_or r.nodes b.0 None ≡ Some node → IsSound (with_node r b None) None (lists_of r)
take_whole r b node h found =
    changed_sound r b None (lists_of r) (Some b) None h (node_within r b node found)
    (λ i c at e. at.there (ap (λ (k : BufId). Some k) e))
    (λ c ne e. ne (let f : c ≡ b = cc in f)) (λ c ne. not_none c)
    (λ x e. absurd (let f : None ≡ Some x = e in cc))

pub set_mem_whole : (r : Rings) (b : BufId) (node : Node) (mem : Mem) → IsWhole r (Some b) → get_or r.nodes b.0 None ≡ Some node
    → IsSound (with_node r b (Some (record node { listing = record (node.listing) { mem = mem } }))) (Some b) (lists_of r)
set_mem_whole r b node mem h found =
    let at = listing_of_node r b node found in
    let new = record (node.listing) { mem = mem } in
    changed_sound r b (Some (record node { listing = new })) (lists_of r) (Some b) (Some b) h (node_within r b node found)
    (λ i c k e. k.there (ap (λ (m : BufId). Some m) e))
    (λ c ne e. ne (let f : c ≡ b = cc in f)) (λ c ne e. ne (let f : c ≡ b = cc in f))
    (λ x e. let f : new ≡ x = cc in (refl, subst (λ (y : Listing). y.prio < 4) f (h.prios b node.listing at), subst (λ (y : Listing). IsGroup r.groups y.group) f (h.groups b node.listing at)))

-- one more list of all
pub spliced_more : (f : List BufId → List BufId) (lists now : List (List BufId)) (i : ℕ) → length lists ≡ 12 → length now ≡ 12 → i < 12
    → now ≡ map f (take i lists) ++ drop i lists → set now i (f (list_at now i)) ≡ map f (take (i + 1) lists) ++ drop (i + 1) lists
spliced_more f lists now i count count' lt is =
    let in_lists : i < length lists = omega arith in
    let in_now : i < length now = omega arith in
    map_over_more f lists now i (list_at now i) in_lists is (get_or_default now i [] (list_at now i) in_now)

-- where the range stands at the end already
pub splice_ended : (r : Rings) (g i j : ℕ) (range : Range) → IsWhole r None → g < r.groups → i < 12 → range_at r.ranges g i ≡ Some range → next_at r (Of range.last) ≡ End j
    → lists_of r ≡ set (lists_of r) i (members_last (is_member (listings_of r) g) (list_at (lists_of r) i))
splice_ended r g i j range h lg li at ends =
    let k : j ≡ i = subst (AtSpot (listings_of r) None i) ends (behind_range_at r (lists_of r) g i range h lg li at) in
    sym (splice_nothing r (lists_of r) g i range h lg li at (ends ∙ ap End k))

pub splice_absent : (r : Rings) (g i : ℕ) → IsWhole r None → g < r.groups → i < 12 → range_at r.ranges g i ≡ None
    → lists_of r ≡ set (lists_of r) i (members_last (is_member (listings_of r) g) (list_at (lists_of r) i))
splice_absent r g i h lg li at = sym (splice_nobody r (lists_of r) g i h lg li at)

-- a listed buffer is listed after its listing was set
pub set_is_listed : (r : Rings) (listings : List (Option Listing)) (b : BufId) (x : Listing) → b.0 < length listings → listings_of r ≡ set listings b.0 (Some x) → IsSome (listing_in (listings_of r) b)
set_is_listed r listings b x lt is =
    let at : listing_in (listings_of r) b ≡ Some x = ap (λ (l : List (Option Listing)). listing_in l b) is ∙ get_or-set_same listings b.0 (Some x) None lt in
    subst IsSome (sym at) refl

pub nodes_within : (r : Rings) (b : BufId) → b.0 < length (listings_of r) → b.0 < length r.nodes
nodes_within r b h = let len = length-map r.nodes listing_in_node in omega arith

-- listings after a node was set
pub listings_after : (r : Rings) (b : BufId) (nodes : List (Option Node)) (slot : Option Node) → nodes ≡ set r.nodes b.0 slot
    → map listing_in_node nodes ≡ set (listings_of r) b.0 (listing_in_node slot)
listings_after r b nodes slot is = ap (map listing_in_node) is ∙ listings_set r.nodes b.0 slot

pub relisted_listed : (r r1 : Rings) (b : BufId) (mem : Mem) → IsSome (listing_in (listings_of r) b)
    → ((x : Listing) → listing_in (listings_of r) b ≡ Some x → listings_of r1 ≡ set (listings_of r) b.0 (Some (record x { mem = mem }))) → IsSome (listing_in (listings_of r1) b)
relisted_listed r r1 b mem listed is =
    let some = some_of (listing_in (listings_of r) b) listed in
    let lt : b.0 < length (listings_of r) = in_list (listings_of r) b.0 some.0 some.1 in
    set_is_listed r1 (listings_of r) b (record (some.0) { mem = mem }) lt (is some.0 some.1)
  where
    in_list : (l : List (Option Listing)) (i : ℕ) (x : Listing) → get_or l i None ≡ Some x → i < length l
    in_list l i x h = grind (arith, get_or_past)
