-- After a buffer has joined its list the links and the ranges show the lists with it in its place.
use Rattle.std.proofs.Common.{◌≡◌, ◌≢◌, ℕ, ◌+◌, ◌*◌, ◌<◌, Bool, true, false, ◌||◌, List, [], ◌∷◌, ◌++◌, length, set, map, Option, Some, None, refl, sym, ap, subst, ◌∙◌, inl, inr, arith}
use Rattle.std.specs.Prelude.{◌==◌}
use Rattle.std.proofs.lemmas.Bool.{cases_eq}
use Rattle.std.proofs.lemmas.Bool.Decides.{nat_tests}
use Rattle.std.proofs.lemmas.List.{length-set, map-append}
use Rattle.std.proofs.lemmas.List.Folds.{list_any-append}
use Rattle.ttm_base.specs.declared.BufId.{BufId}
use Rattle.lru_bulk.specs.declared.nodes.Listing.{Listing}
use Rattle.lru_bulk.specs.declared.nodes.Spot.{Spot}
use Rattle.lru_bulk.specs.declared.nodes.Spot.TheVariants.{End, Of}
use Rattle.lru_bulk.specs.declared.rings.Range.{Range}
use Rattle.lru_bulk.specs.declared.rings.Rings.{Rings}
use Rattle.lru_bulk.specs.Rings.{Each, Path}
use Rattle.lru_bulk.specs.Relinks.{SameRest, Tied}
use Rattle.lru_bulk.specs.Lists.{IsGroup, list_at, listing_in, number_of, is_member, is_mate, placed_in, put_on}
use Rattle.lru_bulk.specs.Sound.{next_at, prev_at, listings_of, spot_before, has, range_at, range_for, ranges_joined, widened, IsBlock, IsAt, IsSound}
use Rattle.lru_bulk.proofs.Paths.{each_map, each_append, each_left, each_right, NotIn, Distinct, path_split, at_source, source_leads}
use Rattle.lru_bulk.proofs.RingMoves.{Between, between_from_ties, ring_and_last, ring_behind}
use Rattle.lru_bulk.proofs.Walks.{ring_distinct}
use Rattle.lru_bulk.proofs.Blocks.{block_append, block_behind}
use Rattle.lru_bulk.proofs.OwnBlock.{placed_last, block_joined_last, block_joined_behind, JoinedBehind}
use Rattle.lru_bulk.proofs.GroupLaws.{number_below, group_is, member_of_own, member_of_other, member_of_none, member_of_one, mates_are, no_mates, range_set_same, range_set_group, joined_other_list, length-ranges_joined}
use Rattle.lru_bulk.proofs.Neighbors.{map_cut, at_target}
use Rattle.lru_bulk.proofs.SoundLaws.{AtSpot, ring_at, spots_apart, out_apart, other_ring, list_same, list_other}

-- what comes of a list that b joins
pub record Joined (listings : List (Option Listing)) (ranges : List (Option Range)) (groups : ℕ) (n p : Spot → Spot) (i : ℕ) (b : BufId) (l new : List BufId) : Type 0 where
  pub placed : placed_in (is_mate listings b) b l ≡ new
  pub ring : Path n p (End i) (map Of new) (End i)
  pub homes : Each (IsAt listings None i) new
  pub kept : (c : BufId) → has c l ≡ true → has c new ≡ true
  pub there : has b new ≡ true
  pub blocks : (g : ℕ) → g < groups → IsBlock (is_member listings g) new (range_at ranges g i)

or_true : (x : Bool) → (x || true) ≡ true
or_true true = refl
or_true false = refl

or_left : (x y : Bool) → x ≡ true → (x || y) ≡ true
or_left x y h = rw h refl

or_right : (x y : Bool) → y ≡ true → (x || y) ≡ true
or_right x y h = rw h (or_true x)

pub has-append : (c : BufId) (l m : List BufId) → has c (l ++ m) ≡ (has c l || has c m)
has-append c l m = list_any-append (λ d. c.0 == d.0) l m

has_itself : (b : BufId) (m : List BufId) → has b (b ∷ m) ≡ true
has_itself b m = let e : (b.0 == b.0) ≡ true = grind (arith, nat_tests) in rw e refl

has_in : (b : BufId) (l m : List BufId) → has b (l ++ b ∷ m) ≡ true
has_in b l m = has-append b l (b ∷ m) ∙ or_right (has b l) (has b (b ∷ m)) (has_itself b m)

-- one more in the midst
deeper : (a v u z : Bool) → (a || (v || z)) ≡ true → (a || (v || (u || z))) ≡ true
deeper true v u z k = refl
deeper false true u z k = refl
deeper false false true z k = refl
deeper false false false z k = k

has_through : (c d : BufId) (l : List BufId) (w : BufId) (m : List BufId) → has c (l ++ w ∷ m) ≡ true → has c (l ++ w ∷ d ∷ m) ≡ true
has_through c d l w m k = has-append c l (w ∷ d ∷ m) ∙ deeper (has c l) (c.0 == w.0) (c.0 == d.0) (has c m) (sym (has-append c l (w ∷ m)) ∙ k)

has_through_b : (d : BufId) (l : List BufId) (w : BufId) (m : List BufId) → has d (l ++ w ∷ d ∷ m) ≡ true
has_through_b d l w m = has-append d l (w ∷ d ∷ m) ∙ or_right (has d l) (has d (w ∷ d ∷ m)) (or_right (d.0 == w.0) (has d (d ∷ m)) (has_itself d m))

has_last : (c b : BufId) (l : List BufId) → has c l ≡ true → has c (l ++ b ∷ []) ≡ true
has_last c b l h = has-append c l (b ∷ []) ∙ or_left (has c l) (has c (b ∷ [])) h

at_none : (listings : List (Option Listing)) (out : Option BufId) (i : ℕ) (c : BufId) → IsAt listings out i c → IsAt listings None i c
at_none listings out i c h = record { listing = h.listing; listed = h.listed; number = h.number; there = λ e. let f : Some c ≡ None = e in cc }

module _ (r : Rings) (lists : List (List BufId)) (b : BufId) (x : Listing) (h : IsSound r (Some b) lists) (found : listing_in (listings_of r) b ≡ Some x) where
  join_below : number_of x < 12
  join_below = number_below x (h.prios b x found)

  join_ring : Path (next_at r) (prev_at r) (End (number_of x)) (map Of (list_at lists (number_of x))) (End (number_of x))
  join_ring = h.rings (number_of x) join_below

  join_distinct : Distinct (End (number_of x) ∷ map Of (list_at lists (number_of x)))
  join_distinct = ring_distinct (next_at r) (prev_at r) (number_of x) (list_at lists (number_of x)) join_ring

  join_at : Each (AtSpot (listings_of r) (Some b) (number_of x)) (End (number_of x) ∷ map Of (list_at lists (number_of x)))
  join_at = ring_at (listings_of r) (Some b) (number_of x) (list_at lists (number_of x)) (h.homes (number_of x) join_below)

  join_out : NotIn (Of b) (End (number_of x) ∷ map Of (list_at lists (number_of x)))
  join_out = each_map (AtSpot (listings_of r) (Some b) (number_of x)) (λ s. s ≢ Of b) (out_apart (listings_of r) b (number_of x)) (End (number_of x) ∷ map Of (list_at lists (number_of x))) join_at

  own_home : IsAt (listings_of r) None (number_of x) b
  own_home = record { listing = x; listed = found; number = refl; there = λ e. let f : Some b ≡ None = e in cc }

  join_homes : Each (IsAt (listings_of r) None (number_of x)) (list_at lists (number_of x))
  join_homes = each_map (IsAt (listings_of r) (Some b) (number_of x)) (IsAt (listings_of r) None (number_of x)) (at_none (listings_of r) (Some b) (number_of x)) (list_at lists (number_of x)) (h.homes (number_of x) join_below)

  -- the spots beside the place are of the ring
  pub last_at : AtSpot (listings_of r) (Some b) (number_of x) (prev_at r (End (number_of x)))
  last_at = at_source (next_at r) (prev_at r) (AtSpot (listings_of r) (Some b) (number_of x)) (End (number_of x)) (map Of (list_at lists (number_of x))) (End (number_of x)) join_ring join_at

  end_behind : next_at r (prev_at r (End (number_of x))) ≡ End (number_of x)
  end_behind = source_leads (next_at r) (prev_at r) (End (number_of x)) (map Of (list_at lists (number_of x))) (End (number_of x)) join_ring

  -- a range's last is on the list
  member_cut : (g : ℕ) (range : Range) → g < r.groups → x.group ≡ Some g → range_at r.ranges g (number_of x) ≡ Some range
      → JoinedBehind (is_member (listings_of r) g) (list_at lists (number_of x)) range b
  member_cut g range lg own at =
      block_joined_behind (is_member (listings_of r) g) (list_at lists (number_of x)) range b
      (member_of_own (listings_of r) b g (group_is (listings_of r) b x found ∙ own))
      (subst (λ o. IsBlock (is_member (listings_of r) g) (list_at lists (number_of x)) o) at (h.blocks (number_of x) g join_below lg))

  pub spot_at : (grp : Option ℕ) (range : Option Range) → x.group ≡ grp → range_for r.ranges grp (number_of x) ≡ range → AtSpot (listings_of r) (Some b) (number_of x) (spot_before r range (number_of x))
  spot_at grp None own at = last_at
  spot_at None (Some range) own at = absurd (cc)
  spot_at (Some g) (Some range) own at =
      let P : Spot → Type 0 = AtSpot (listings_of r) (Some b) (number_of x) in
      let cut = member_cut g range (subst (IsGroup r.groups) own (h.groups b x found)) own at in
      let all : Each P (map Of cut.front ++ Of range.last ∷ map Of cut.back) = subst (Each P) (ap (map Of) cut.split ∙ map_cut cut.front range.last cut.back) join_at.1 in
      (each_right P (map Of cut.front) (Of range.last ∷ map Of cut.back) all).0

  pub behind_spot_at : (grp : Option ℕ) (range : Option Range) → x.group ≡ grp → range_for r.ranges grp (number_of x) ≡ range → AtSpot (listings_of r) (Some b) (number_of x) (next_at r (spot_before r range (number_of x)))
  behind_spot_at grp None own at = subst (AtSpot (listings_of r) (Some b) (number_of x)) (sym end_behind) refl
  behind_spot_at None (Some range) own at = absurd (cc)
  behind_spot_at (Some g) (Some range) own at =
      let P : Spot → Type 0 = AtSpot (listings_of r) (Some b) (number_of x) in
      let cut = member_cut g range (subst (IsGroup r.groups) own (h.groups b x found)) own at in
      let parts = ap (map Of) cut.split ∙ map_cut cut.front range.last cut.back in
      let all : Each P (map Of cut.front ++ Of range.last ∷ map Of cut.back) = subst (Each P) parts join_at.1 in
      let ring = subst (λ l. Path (next_at r) (prev_at r) (End (number_of x)) l (End (number_of x))) parts join_ring in
      let two = path_split (next_at r) (prev_at r) (End (number_of x)) (map Of cut.front) (Of range.last) (map Of cut.back) (End (number_of x)) ring in
      at_target (next_at r) (prev_at r) P (Of range.last) (map Of cut.back) (End (number_of x)) two.1 (each_right P (map Of cut.front) (Of range.last ∷ map Of cut.back) all).1 refl

  -- at the end: no group, or the first member of one
  end_placed : (grp : Option ℕ) → x.group ≡ grp → range_for r.ranges grp (number_of x) ≡ None → placed_in (is_mate (listings_of r) b) b (list_at lists (number_of x)) ≡ list_at lists (number_of x) ++ b ∷ []
  end_placed None own at =
      placed_last (is_mate (listings_of r) b) b (list_at lists (number_of x)) (nobody (list_at lists (number_of x)))
    where
      nobody : (l : List BufId) → Each (λ c. is_mate (listings_of r) b c ≡ false) l
      nobody [] = tt
      nobody (c ∷ l) = (no_mates (listings_of r) b c (group_is (listings_of r) b x found ∙ own), nobody l)
  end_placed (Some g) own at =
      let lg : g < r.groups = subst (IsGroup r.groups) own (h.groups b x found) in
      let e = group_is (listings_of r) b x found ∙ own in
      let last = block_joined_last (is_member (listings_of r) g) (list_at lists (number_of x)) b (member_of_own (listings_of r) b g e)
      (subst (λ o. IsBlock (is_member (listings_of r) g) (list_at lists (number_of x)) o) at (h.blocks (number_of x) g join_below lg)) in
      ap (λ (m : BufId → Bool). placed_in m b (list_at lists (number_of x))) (mates_are (listings_of r) b g e) ∙ last.placed

  end_blocks : (grp : Option ℕ) → x.group ≡ grp → range_for r.ranges grp (number_of x) ≡ None → (g : ℕ) → g < r.groups
      → IsBlock (is_member (listings_of r) g) (list_at lists (number_of x) ++ b ∷ []) (range_at (ranges_joined r.ranges grp (number_of x) b) g (number_of x))
  end_blocks None own at g lg =
      block_append (is_member (listings_of r) g) (list_at lists (number_of x)) (b ∷ []) (range_at r.ranges g (number_of x))
      (member_of_none (listings_of r) b g (group_is (listings_of r) b x found ∙ own), tt) (h.blocks (number_of x) g join_below lg)
  end_blocks (Some g0) own at g lg =
      let lg0 : g0 < r.groups = subst (IsGroup r.groups) own (h.groups b x found) in
      let e = group_is (listings_of r) b x found ∙ own in
      let within : g0 * 12 + number_of x < length r.ranges = (let below = join_below in let room = h.room in omega arith) in
      elim (cases_eq g g0) [
        | inl same ↦
            let last = block_joined_last (is_member (listings_of r) g0) (list_at lists (number_of x)) b (member_of_own (listings_of r) b g0 e)
            (subst (λ o. IsBlock (is_member (listings_of r) g0) (list_at lists (number_of x)) o) at (h.blocks (number_of x) g0 join_below lg0)) in
            let is : range_at (ranges_joined r.ranges (Some g0) (number_of x) b) g0 (number_of x) ≡ Some (widened None b) =
            range_set_same r.ranges g0 (number_of x) (Some (widened (range_at r.ranges g0 (number_of x)) b)) within ∙ ap (λ (o : Option Range). Some (widened o b)) at in
            subst (λ k. IsBlock (is_member (listings_of r) k) (list_at lists (number_of x) ++ b ∷ []) (range_at (ranges_joined r.ranges (Some g0) (number_of x) b) k (number_of x))) (sym same)
            (subst (λ o. IsBlock (is_member (listings_of r) g0) (list_at lists (number_of x) ++ b ∷ []) o) (sym is) last.block)
        | inr ne ↦
            subst (λ o. IsBlock (is_member (listings_of r) g) (list_at lists (number_of x) ++ b ∷ []) o)
            (sym (range_set_group r.ranges g0 g (number_of x) (Some (widened (range_at r.ranges g0 (number_of x)) b)) ne))
            (block_append (is_member (listings_of r) g) (list_at lists (number_of x)) (b ∷ []) (range_at r.ranges g (number_of x))
            (member_of_other (listings_of r) b g0 g ne e, tt) (h.blocks (number_of x) g join_below lg))
      ]

  joined_end : (r2 : Rings) (grp : Option ℕ) → x.group ≡ grp → range_for r.ranges grp (number_of x) ≡ None
      → Between (next_at r) (prev_at r) (next_at r2) (prev_at r2) (prev_at r (End (number_of x))) (Of b) (next_at r (prev_at r (End (number_of x))))
      → Joined (listings_of r) (ranges_joined r.ranges grp (number_of x) b) r.groups (next_at r2) (prev_at r2) (number_of x) b (list_at lists (number_of x)) (list_at lists (number_of x) ++ b ∷ [])
  joined_end r2 grp own at t = record {
    placed = end_placed grp own at;
    ring = subst (λ m. Path (next_at r2) (prev_at r2) (End (number_of x)) m (End (number_of x))) (sym (map-append Of (list_at lists (number_of x)) (b ∷ [])))
        (ring_and_last (next_at r) (prev_at r) (next_at r2) (prev_at r2) (End (number_of x)) (map Of (list_at lists (number_of x))) (Of b) join_distinct join_out join_ring
        (subst (λ s. Between (next_at r) (prev_at r) (next_at r2) (prev_at r2) (prev_at r (End (number_of x))) (Of b) s) end_behind t));
    homes = each_append (IsAt (listings_of r) None (number_of x)) (list_at lists (number_of x)) (b ∷ []) join_homes (own_home, tt);
    kept = λ c k. has_last c b (list_at lists (number_of x)) k;
    there = has_in b (list_at lists (number_of x)) [];
    blocks = end_blocks grp own at;
  }

  -- after the last member
  behind_blocks : (g0 : ℕ) (range : Range) (cut : JoinedBehind (is_member (listings_of r) g0) (list_at lists (number_of x)) range b) → g0 < r.groups → x.group ≡ Some g0
      → range_at r.ranges g0 (number_of x) ≡ Some range → (g : ℕ) → g < r.groups
      → IsBlock (is_member (listings_of r) g) (cut.front ++ range.last ∷ b ∷ cut.back) (range_at (ranges_joined r.ranges (Some g0) (number_of x) b) g (number_of x))
  behind_blocks g0 range cut lg0 own at g lg =
      let e = group_is (listings_of r) b x found ∙ own in
      let within : g0 * 12 + number_of x < length r.ranges = (let below = join_below in let room = h.room in omega arith) in
      elim (cases_eq g g0) [
        | inl same ↦
            let is : range_at (ranges_joined r.ranges (Some g0) (number_of x) b) g0 (number_of x) ≡ Some (widened (Some range) b) =
            range_set_same r.ranges g0 (number_of x) (Some (widened (range_at r.ranges g0 (number_of x)) b)) within ∙ ap (λ (o : Option Range). Some (widened o b)) at in
            subst (λ k. IsBlock (is_member (listings_of r) k) (cut.front ++ range.last ∷ b ∷ cut.back) (range_at (ranges_joined r.ranges (Some g0) (number_of x) b) k (number_of x))) (sym same)
            (subst (λ o. IsBlock (is_member (listings_of r) g0) (cut.front ++ range.last ∷ b ∷ cut.back) o) (sym is) cut.block)
        | inr ne ↦
            subst (λ o. IsBlock (is_member (listings_of r) g) (cut.front ++ range.last ∷ b ∷ cut.back) o)
            (sym (range_set_group r.ranges g0 g (number_of x) (Some (widened (range_at r.ranges g0 (number_of x)) b)) ne))
            (block_behind (is_member (listings_of r) g) cut.front range.last b cut.back (range_at r.ranges g (number_of x))
            (member_of_one (listings_of r) g0 g range.last ne cut.last_passes) (member_of_other (listings_of r) b g0 g ne e)
            (subst (λ l. IsBlock (is_member (listings_of r) g) l (range_at r.ranges g (number_of x))) cut.split (h.blocks (number_of x) g join_below lg)))
      ]

  joined_behind : (r2 : Rings) (g0 : ℕ) (range : Range) (cut : JoinedBehind (is_member (listings_of r) g0) (list_at lists (number_of x)) range b) → g0 < r.groups → x.group ≡ Some g0
      → range_at r.ranges g0 (number_of x) ≡ Some range
      → Between (next_at r) (prev_at r) (next_at r2) (prev_at r2) (Of range.last) (Of b) (next_at r (Of range.last))
      → Joined (listings_of r) (ranges_joined r.ranges (Some g0) (number_of x) b) r.groups (next_at r2) (prev_at r2) (number_of x) b (list_at lists (number_of x)) (cut.front ++ range.last ∷ b ∷ cut.back)
  joined_behind r2 g0 range cut lg0 own at t =
      let e = group_is (listings_of r) b x found ∙ own in
      let parts = ap (map Of) cut.split ∙ map_cut cut.front range.last cut.back in
      let is : map Of (cut.front ++ range.last ∷ b ∷ cut.back) ≡ map Of cut.front ++ Of range.last ∷ Of b ∷ map Of cut.back = map-append Of cut.front (range.last ∷ b ∷ cut.back) in
      let all = subst (Each (IsAt (listings_of r) None (number_of x))) cut.split join_homes in
      let right = each_right (IsAt (listings_of r) None (number_of x)) cut.front (range.last ∷ cut.back) all in
      let more : (c : BufId) → has c (list_at lists (number_of x)) ≡ true → has c (cut.front ++ range.last ∷ b ∷ cut.back) ≡ true =
      λ c k. has_through c b cut.front range.last cut.back (subst (λ l. has c l ≡ true) cut.split k) in
      record {
        placed = ap (λ (m : BufId → Bool). placed_in m b (list_at lists (number_of x))) (mates_are (listings_of r) b g0 e) ∙ cut.placed;
        ring = subst (λ m. Path (next_at r2) (prev_at r2) (End (number_of x)) m (End (number_of x))) (sym is)
            (ring_behind (next_at r) (prev_at r) (next_at r2) (prev_at r2) (End (number_of x)) (map Of cut.front) (Of range.last) (map Of cut.back) (Of b)
            (subst (λ l. Distinct (End (number_of x) ∷ l)) parts join_distinct) (subst (λ l. NotIn (Of b) (End (number_of x) ∷ l)) parts join_out)
            (subst (λ l. Path (next_at r) (prev_at r) (End (number_of x)) l (End (number_of x))) parts join_ring) t);
        homes = each_append (IsAt (listings_of r) None (number_of x)) cut.front (range.last ∷ b ∷ cut.back)
            (each_left (IsAt (listings_of r) None (number_of x)) cut.front (range.last ∷ cut.back) all) (right.0, (own_home, right.1));
        kept = more;
        there = has_through_b b cut.front range.last cut.back;
        blocks = behind_blocks g0 range cut lg0 own at;
      }

  joined : (r2 : Rings) (grp : Option ℕ) (range : Option Range) → x.group ≡ grp → range_for r.ranges grp (number_of x) ≡ range
      → Between (next_at r) (prev_at r) (next_at r2) (prev_at r2) (spot_before r range (number_of x)) (Of b) (next_at r (spot_before r range (number_of x)))
      → (new : List BufId) × Joined (listings_of r) (ranges_joined r.ranges grp (number_of x) b) r.groups (next_at r2) (prev_at r2) (number_of x) b (list_at lists (number_of x)) new
  joined r2 grp None own at t = (list_at lists (number_of x) ++ b ∷ [], joined_end r2 grp own at t)
  joined r2 None (Some range) own at t = absurd (cc)
  joined r2 (Some g) (Some range) own at t =
      let lg : g < r.groups = subst (IsGroup r.groups) own (h.groups b x found) in
      let cut = member_cut g range lg own at in
      (cut.front ++ range.last ∷ b ∷ cut.back, joined_behind r2 g range cut lg own at t)

-- the whole
pub join_sound : (r r1 r2 : Rings) (ranges : List (Option Range)) (lists : List (List BufId)) (b : BufId) (x : Listing) (range : Option Range) → IsSound r (Some b) lists
    → listing_in (listings_of r) b ≡ Some x → range_for r.ranges x.group (number_of x) ≡ range
    → Tied (next_at r) (prev_at r) (next_at r1) (prev_at r1) (spot_before r range (number_of x)) (Of b)
    → Tied (next_at r1) (prev_at r1) (next_at r2) (prev_at r2) (Of b) (next_at r (spot_before r range (number_of x)))
    → SameRest r r2 → ranges ≡ ranges_joined r.ranges x.group (number_of x) b
    → IsSound (record r2 { ranges = ranges }) None (put_on (listings_of r) lists b (number_of x))
join_sound r r1 r2 ranges lists b x range h found at one two rest is =
    let i = number_of x in
    let below : number_of x < 12 = number_below x (h.prios b x found) in
    let in_lists : number_of x < length lists = (let count = h.count in omega arith) in
    let left_at = spot_at r lists b x h found x.group range refl at in
    let right_at = behind_spot_at r lists b x h found x.group range refl at in
    let t = between_from_ties (next_at r) (prev_at r) (next_at r1) (prev_at r1) (next_at r2) (prev_at r2) (spot_before r range i) (Of b) (next_at r (spot_before r range i))
    (out_apart (listings_of r) b i (spot_before r range i) left_at) (out_apart (listings_of r) b i (next_at r (spot_before r range i)) right_at) one two in
    let j = joined r lists b x h found r2 x.group range refl at t in
    let new = j.0 in
    let lists_is : put_on (listings_of r) lists b i ≡ set lists i new = ap (λ (l : List BufId). set lists i l) j.1.placed in
    subst (IsSound (record r2 { ranges = ranges }) None) (sym lists_is) (record {
      ends = rest.ends ∙ h.ends;
      count = length-set lists i new ∙ h.count;
      room = ap length is ∙ length-ranges_joined r.ranges x.group i b ∙ h.room ∙ ap (λ (k : ℕ). 12 * k) (sym rest.groups);
      rings = λ k lt. elim (cases_eq k i) [
        | inl same ↦ subst (λ m. Path (next_at r2) (prev_at r2) (End m) (map Of (list_at (set lists i new) m)) (End m)) (sym same)
            (subst (λ l. Path (next_at r2) (prev_at r2) (End i) (map Of l) (End i)) (sym (list_same lists i new in_lists)) j.1.ring)
        | inr ne ↦ subst (λ l. Path (next_at r2) (prev_at r2) (End k) (map Of l) (End k)) (sym (list_other lists i k new ne))
            (other_ring (next_at r) (prev_at r) (next_at r2) (prev_at r2) (listings_of r) (Some b) k (list_at lists k) (h.homes k lt)
            (λ s sat. t.nexts s (spots_apart (listings_of r) (Some b) k i s (spot_before r range i) ne sat left_at) (out_apart (listings_of r) b k s sat))
            (λ s sat. t.prevs s (out_apart (listings_of r) b k s sat) (spots_apart (listings_of r) (Some b) k i s (next_at r (spot_before r range i)) ne sat right_at))
            (h.rings k lt))
      ];
      homes = λ k lt. subst (λ ls. Each (IsAt ls None k) (list_at (set lists i new) k)) (sym rest.listings) (elim (cases_eq k i) [
        | inl same ↦ subst (λ m. Each (IsAt (listings_of r) None m) (list_at (set lists i new) m)) (sym same)
            (subst (Each (IsAt (listings_of r) None i)) (sym (list_same lists i new in_lists)) j.1.homes)
        | inr ne ↦ subst (Each (IsAt (listings_of r) None k)) (sym (list_other lists i k new ne))
            (each_map (IsAt (listings_of r) (Some b) k) (IsAt (listings_of r) None k) (at_none (listings_of r) (Some b) k) (list_at lists k) (h.homes k lt))
      ]);
      listed = λ c y got out. elim (cases_eq c.0 b.0) [
        | inl same ↦
            let cb : c ≡ b = ap (λ (m : ℕ). record { 0 = m }) same in
            let got' : Some y ≡ Some x = sym got ∙ ap (λ (l : List (Option Listing)). listing_in l c) rest.listings ∙ ap (listing_in (listings_of r)) cb ∙ found in
            let yx : y ≡ x = cc in
            subst (λ d. has d (list_at (set lists i new) (number_of y)) ≡ true) (sym cb)
            (subst (λ m. has b (list_at (set lists i new) (number_of m)) ≡ true) (sym yx)
            (subst (λ l. has b l ≡ true) (sym (list_same lists i new in_lists)) j.1.there))
        | inr other ↦
            let old = h.listed c y (sym (ap (λ (l : List (Option Listing)). listing_in l c) rest.listings) ∙ got) (λ e. let f : c ≡ b = cc in other (ap (λ (k : BufId). k.0) f)) in
            elim (cases_eq (number_of y) i) [
              | inl same ↦ subst (λ m. has c (list_at (set lists i new) m) ≡ true) (sym same)
                  (subst (λ l. has c l ≡ true) (sym (list_same lists i new in_lists)) (j.1.kept c (subst (λ m. has c (list_at lists m) ≡ true) same old)))
              | inr ne ↦ subst (λ l. has c l ≡ true) (sym (list_other lists i (number_of y) new ne)) old
            ]
      ];
      prios = λ c y got. h.prios c y (sym (ap (λ (l : List (Option Listing)). listing_in l c) rest.listings) ∙ got);
      groups = λ c y got. subst (λ k. IsGroup k y.group) (sym rest.groups) (h.groups c y (sym (ap (λ (l : List (Option Listing)). listing_in l c) rest.listings) ∙ got));
      blocks = λ k g lt lg.
          let lg' : g < r.groups = subst (λ m. g < m) rest.groups lg in
          subst (λ l. IsBlock (is_member l g) (list_at (set lists i new) k) (range_at ranges g k)) (sym rest.listings)
          (subst (λ l. IsBlock (is_member (listings_of r) g) (list_at (set lists i new) k) (range_at l g k)) (sym is) (elim (cases_eq k i) [
            | inl same ↦ subst (λ m. IsBlock (is_member (listings_of r) g) (list_at (set lists i new) m) (range_at (ranges_joined r.ranges x.group i b) g m)) (sym same)
                (subst (λ l. IsBlock (is_member (listings_of r) g) l (range_at (ranges_joined r.ranges x.group i b) g i)) (sym (list_same lists i new in_lists)) (j.1.blocks g lg'))
            | inr ne ↦ subst (λ l. IsBlock (is_member (listings_of r) g) l (range_at (ranges_joined r.ranges x.group i b) g k)) (sym (list_other lists i k new ne))
                (subst (λ o. IsBlock (is_member (listings_of r) g) (list_at lists k) o) (sym (joined_other_list r.ranges x.group i k b g below lt ne)) (h.blocks k g lt lg'))
          ]));
    })
