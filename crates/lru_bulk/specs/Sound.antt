-- How the links, the nodes and the ranges of groups show the lists. No public clause cites this module.
use Rattle.std.specs.Prelude.{◌≡◌, ◌≢◌, ℕ, zero, suc, ◌+◌, ◌*◌, ◌<◌, Bool, true, false, List, [], ◌∷◌, ◌++◌, Option, Some, None, ◌==◌, map, option_map, length, slice_index_or, slice_set, if◌then◌else◌}
use Rattle.std.specs.List.{list_any}
use Rattle.ttm_base.specs.declared.BufId.{BufId}
use Rattle.lru_bulk.specs.declared.nodes.Listing.{Listing}
use Rattle.lru_bulk.specs.declared.nodes.Spot.{Spot}
use Rattle.lru_bulk.specs.declared.nodes.Spot.TheVariants.{End, Of}
use Rattle.lru_bulk.specs.declared.nodes.Links.{Links}
use Rattle.lru_bulk.specs.declared.nodes.Node.{Node}
use Rattle.lru_bulk.specs.declared.rings.Range.{Range}
use Rattle.lru_bulk.specs.declared.rings.Rings.{Rings}
use Rattle.lru_bulk.specs.Rings.{Each, Path}
use Rattle.lru_bulk.specs.Lists.{Order, list_at, number_of, listing_in, is_member, IsGroup}

-- the links of a spot that isn't there
abbrev pub loose : Links
loose = record { next = End 0; prev = End 0 }

abbrev pub node_links : Option Node → Links
node_links None = loose
node_links (Some node) = node.links

abbrev pub links_at : Rings → Spot → Links
links_at r (End i) = slice_index_or r.ends i loose
links_at r (Of b) = node_links (slice_index_or r.nodes b.0 None)

abbrev pub next_at : Rings → Spot → Spot
next_at r s = (links_at r s).next

abbrev pub prev_at : Rings → Spot → Spot
prev_at r s = (links_at r s).prev

abbrev pub listings_of : Rings → List (Option Listing)
listings_of r = map (option_map (λ n. n.listing)) r.nodes

-- the buffers from a spot on, up to a number of them
abbrev pub walk : (Spot → Spot) → ℕ → Spot → List BufId
walk next zero s = []
walk next (suc k) (End i) = []
walk next (suc k) (Of b) = b ∷ walk next k (next (Of b))

-- the buffers of a list
unfoldable pub chain_of : Rings → ℕ → List BufId
chain_of r i = walk (next_at r) (length r.nodes) (next_at r (End i))

-- the twelve lists
unfoldable pub lists_of : Rings → List (List BufId)
lists_of r = map (chain_of r) (0 ∷ 1 ∷ 2 ∷ 3 ∷ 4 ∷ 5 ∷ 6 ∷ 7 ∷ 8 ∷ 9 ∷ 10 ∷ 11 ∷ [])

abbrev pub order_of : Rings → Order
order_of r = record { lists = lists_of r; listings = listings_of r; groups = r.groups }

-- the first and the last of a range
abbrev pub last_from : BufId → List BufId → BufId
last_from b [] = b
last_from b (c ∷ cs) = last_from c cs

abbrev pub range_of : List BufId → Option Range
range_of [] = None
range_of (b ∷ cs) = Some (record { first = b; last = last_from b cs })

-- the elements that pass are side by side, and this is their range
pub record IsBlock (test : BufId → Bool) (l : List BufId) (range : Option Range) : Type 0 where
  pub before : List BufId
  pub inside : List BufId
  pub after : List BufId
  pub split : l ≡ before ++ (inside ++ after)
  pub none_before : Each (λ b. test b ≡ false) before
  pub all_inside : Each (λ b. test b ≡ true) inside
  pub none_after : Each (λ b. test b ≡ false) after
  pub range_is : range ≡ range_of inside

-- whether the buffer is in the list
abbrev pub has : BufId → List BufId → Bool
has b l = list_any (λ c. b.0 == c.0) l

-- the buffer is listed on list i, and isn't the one that is on no list
pub record IsAt (listings : List (Option Listing)) (out : Option BufId) (i : ℕ) (b : BufId) : Type 0 where
  pub listing : Listing
  pub listed : listing_in listings b ≡ Some listing
  pub number : number_of listing ≡ i
  pub there : Some b ≢ out

-- the range of a group in a list
abbrev pub range_at : List (Option Range) → ℕ → ℕ → Option Range
range_at ranges g i = slice_index_or ranges (g * 12 + i) None

-- the range of a group after b, which was between p and s, has left it
abbrev pub narrowed : Range → BufId → BufId → BufId → Option Range
narrowed r b p s =
    if b.0 == r.first.0
    then (if b.0 == r.last.0 then None else Some (record r { first = s }))
    else (if b.0 == r.last.0 then Some (record r { last = p }) else Some r)

-- the range of a group after b has joined it
abbrev pub widened : Option Range → BufId → Range
widened None b = record { first = b; last = b }
widened (Some r) b = record r { last = b }

abbrev pub narrowed_in : Option Range → BufId → BufId → BufId → Option Range
narrowed_in None b p s = None
narrowed_in (Some r) b p s = narrowed r b p s

-- the ranges after b has left list i
abbrev pub ranges_left : List (Option Range) → Option ℕ → ℕ → BufId → BufId → BufId → List (Option Range)
ranges_left ranges None i b p s = ranges
ranges_left ranges (Some g) i b p s = slice_set ranges (g * 12 + i) (narrowed_in (range_at ranges g i) b p s)

-- the ranges after b has joined list i
abbrev pub ranges_joined : List (Option Range) → Option ℕ → ℕ → BufId → List (Option Range)
ranges_joined ranges None i b = ranges
ranges_joined ranges (Some g) i b = slice_set ranges (g * 12 + i) (Some (widened (range_at ranges g i) b))

-- the range of a buffer's group in list i
abbrev pub range_for : List (Option Range) → Option ℕ → ℕ → Option Range
range_for ranges None i = None
range_for ranges (Some g) i = range_at ranges g i

-- the spot after which the next member of the group is put
abbrev pub spot_before : Rings → Option Range → ℕ → Spot
spot_before r None i = prev_at r (End i)
spot_before r (Some range) i = Of range.last

-- the buffer of a spot, or b at the end of a list
abbrev pub buffer_of : Spot → BufId → BufId
buffer_of (End i) b = b
buffer_of (Of c) b = c

-- the buffer of a spot, or None at the end of a list
abbrev pub buffer_in : Spot → Option BufId
buffer_in (End i) = None
buffer_in (Of c) = Some c

-- ends that are linked to themselves
pub record AreClosed (count : ℕ) (ends : List Links) : Type 0 where
  pub count_is : length ends ≡ count
  pub closed : (i : ℕ) → i < count → slice_index_or ends i loose ≡ record { next = End i; prev = End i }

-- the first of the buffers, or b where there are none
abbrev pub first_from : BufId → List BufId → BufId
first_from b [] = b
first_from b (c ∷ cs) = c

-- the links and the ranges show these lists. One buffer may have a node and be on no list
pub record IsSound (r : Rings) (out : Option BufId) (lists : List (List BufId)) : Type 0 where
  pub ends : length r.ends ≡ 12
  pub count : length lists ≡ 12
  pub room : length r.ranges ≡ 12 * r.groups
  pub rings : (i : ℕ) → i < 12 → Path (next_at r) (prev_at r) (End i) (map Of (list_at lists i)) (End i)
  pub homes : (i : ℕ) → i < 12 → Each (IsAt (listings_of r) out i) (list_at lists i)
  pub listed : (b : BufId) (x : Listing) → listing_in (listings_of r) b ≡ Some x → Some b ≢ out → has b (list_at lists (number_of x)) ≡ true
  pub prios : (b : BufId) (x : Listing) → listing_in (listings_of r) b ≡ Some x → x.prio < 4
  pub groups : (b : BufId) (x : Listing) → listing_in (listings_of r) b ≡ Some x → IsGroup r.groups x.group
  pub blocks : (i g : ℕ) → i < 12 → g < r.groups → IsBlock (is_member (listings_of r) g) (list_at lists i) (range_at r.ranges g i)

-- the links and the ranges show the lists through which the links lead
abbrev pub IsWhole : Rings → Option BufId → Type 0
IsWhole r out = IsSound r out (lists_of r)
