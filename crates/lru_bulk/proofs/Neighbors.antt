-- The neighbors of a spot in a ring, as buffers and as spots.
use Rattle.std.proofs.Common.{◌≡◌, ◌≢◌, ℕ, false, List, [], ◌∷◌, ◌++◌, map, Option, Some, sym, ap, subst, ◌∙◌}
use Rattle.std.specs.Prelude.{◌==◌}
use Rattle.std.proofs.lemmas.List.{map-append}
use Rattle.ttm_base.specs.declared.BufId.{BufId}
use Rattle.lru_bulk.specs.declared.nodes.Listing.{Listing}
use Rattle.lru_bulk.specs.declared.nodes.Spot.{Spot}
use Rattle.lru_bulk.specs.declared.nodes.Spot.TheVariants.{End, Of}
use Rattle.lru_bulk.specs.Rings.{Each, Path}
use Rattle.lru_bulk.specs.Lists.{number_of, listing_in}
use Rattle.lru_bulk.specs.Sound.{buffer_of, first_from, last_from, IsAt}
use Rattle.lru_bulk.proofs.Paths.{NotIn, Distinct, Apart, distinct_apart, distinct_right}
use Rattle.lru_bulk.proofs.GroupLaws.{unlike_id}
use Rattle.lru_bulk.proofs.OwnBlock.{Unlike}

pub map_cut : (x : List BufId) (b : BufId) (y : List BufId) → map Of (x ++ b ∷ y) ≡ map Of x ++ Of b ∷ map Of y
map_cut x b y = map-append Of x (b ∷ y)

module _ (n p : Spot → Spot) where
  -- the one before the target
  last_leads : (a : Spot) (c : BufId) (x : List BufId) (k : Spot) → Path n p a (map Of (c ∷ x)) k → p k ≡ Of (last_from c x)
  last_leads a c [] k h = h.2.1
  last_leads a c (d ∷ x) k h = last_leads (Of c) d x k h.2

  pub before_is : (i : ℕ) (x : List BufId) (b : BufId) → Path n p (End i) (map Of x) (Of b) → buffer_of (p (Of b)) b ≡ last_from b x
  before_is i [] b h = ap (λ (s : Spot). buffer_of s b) h.1
  before_is i (c ∷ x) b h = ap (λ (s : Spot). buffer_of s b) (last_leads (End i) c x (Of b) h)

  pub behind_is : (i : ℕ) (b : BufId) (y : List BufId) → Path n p (Of b) (map Of y) (End i) → buffer_of (n (Of b)) b ≡ first_from b y
  behind_is i b [] h = ap (λ (s : Spot). buffer_of s b) h.0
  behind_is i b (c ∷ y) h = ap (λ (s : Spot). buffer_of s b) h.0

  -- a range's last leads on, and is led back to
  pub last_of_range : (f : BufId) (rest : List BufId) (k : Spot) → Path n p (Of f) (map Of rest) k → p k ≡ Of (last_from f rest)
  last_of_range f [] k h = h.1
  last_of_range f (c ∷ rest) k h = last_leads (Of f) c rest k h

  -- what holds of all but the source holds of the one after the source
  pub at_target : (P : Spot → Type 0) (a : Spot) (x : List Spot) (z : Spot) → Path n p a x z → Each P x → P z → P (n a)
  at_target P a [] z h e l = subst P (sym h.0) l
  at_target P a (k ∷ x) z h e l = subst P (sym h.0) e.0

unlike_map : (b : BufId) (l : List BufId) → NotIn (Of b) (map Of l) → Unlike b l
unlike_map b [] h = tt
unlike_map b (c ∷ l) h = (unlike_id b c (λ e. h.0 (ap Of (sym e))), unlike_map b l h.1)

unlike_apart : (b : BufId) (l : List BufId) (m : List Spot) → Apart (map Of l) (Of b ∷ m) → Unlike b l
unlike_apart b [] m h = tt
unlike_apart b (c ∷ l) m h = (unlike_id b c (λ e. h.0.0 (ap Of e)), unlike_apart b l m h.1)

-- all others of a ring are unlike b
pub unlike_front : (z : Spot) (x : List BufId) (b : BufId) (y : List BufId) → Distinct (z ∷ (map Of x ++ Of b ∷ map Of y)) → Unlike b x
unlike_front z x b y d = unlike_apart b x (map Of y) (distinct_apart (map Of x) (Of b ∷ map Of y) d.1)

pub unlike_back : (z : Spot) (x : List BufId) (b : BufId) (y : List BufId) → Distinct (z ∷ (map Of x ++ Of b ∷ map Of y)) → Unlike b y
unlike_back z x b y d = unlike_map b y (distinct_right (map Of x) (Of b ∷ map Of y) d.1).0

-- no buffer of another list is b
pub unlike_other : (listings : List (Option Listing)) (out : Option BufId) (j : ℕ) (b : BufId) (x : Listing) → listing_in listings b ≡ Some x → number_of x ≢ j
    → (c : BufId) → IsAt listings out j c → (b.0 == c.0) ≡ false
unlike_other listings out j b x h ne c at = unlike_id b c (λ e.
    let f : Some x ≡ Some at.listing = sym h ∙ ap (listing_in listings) e ∙ at.listed in
    let g : x ≡ at.listing = cc in
    ne (ap number_of g ∙ at.number))

-- the buffer that stands on none is on no list
pub out_not_in : (listings : List (Option Listing)) (j : ℕ) (b : BufId) → (c : BufId) → IsAt listings (Some b) j c → (b.0 == c.0) ≡ false
out_not_in listings j b c at = unlike_id b c (λ e. at.there (ap (λ (x : BufId). Some x) (sym e)))
