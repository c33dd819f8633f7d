-- After a buffer has left its list the links and the ranges show the lists without it.
use Rattle.std.proofs.Common.{◌≡◌, ◌≢◌, ℕ, ◌+◌, ◌*◌, ◌<◌, Bool, true, false, List, [], ◌∷◌, ◌++◌, length, map, Option, Some, None, refl, sym, ap, subst, ◌∙◌, inl, inr, arith}
use Rattle.std.specs.Prelude.{not, ◌==◌}
use Rattle.std.proofs.lemmas.Bool.{cases_eq}
use Rattle.std.proofs.lemmas.List.{length-map, map-append}
use Rattle.ttm_base.specs.declared.BufId.{BufId}
use Rattle.lru_bulk.specs.declared.nodes.Listing.{Listing}
use Rattle.lru_bulk.specs.declared.nodes.Spot.{Spot}
use Rattle.lru_bulk.specs.declared.nodes.Spot.TheVariants.{End, Of}
use Rattle.lru_bulk.specs.declared.rings.Range.{Range}
use Rattle.lru_bulk.specs.declared.rings.Rings.{Rings}
use Rattle.lru_bulk.specs.Rings.{Each, Path}
use Rattle.lru_bulk.specs.Relinks.{SameRest, Tied}
use Rattle.lru_bulk.specs.Lists.{IsGroup, list_at, listing_in, number_of, group_in, is_member, without_buffer, taken_off}
use Rattle.lru_bulk.specs.Sound.{next_at, prev_at, listings_of, buffer_of, first_from, last_from, has, range_at, ranges_left, narrowed, narrowed_in, IsBlock, IsAt, IsSound}
use Rattle.lru_bulk.proofs.Paths.{each_map, each_append, each_left, each_right, Distinct, path_split, at_source}
use Rattle.lru_bulk.proofs.RingMoves.{ring_without}
use Rattle.lru_bulk.proofs.Walks.{ring_distinct}
use Rattle.lru_bulk.proofs.Blocks.{block_filter, false_not_true}
use Rattle.lru_bulk.proofs.OwnBlock.{Unlike, block_left}
use Rattle.lru_bulk.proofs.GroupLaws.{number_below, same_id_is, not_same_id, group_is, member_of_own, member_of_other, member_of_none, range_set_same, range_set_group, left_other_list, length-ranges_left, without_is, without_nothing, taken_off_at, has_without, Cut, has_cut}
use Rattle.lru_bulk.proofs.Neighbors.{map_cut, before_is, behind_is, at_target, unlike_front, unlike_back, unlike_other}
use Rattle.lru_bulk.proofs.SoundLaws.{AtSpot, ring_at, spots_apart, other_ring}

-- one that b isn't in stays a block without b
without_other : (test : BufId → Bool) (b : BufId) (x y : List BufId) (range : Option Range) → test b ≡ false → Unlike b x → Unlike b y
    → IsBlock test (x ++ b ∷ y) range → IsBlock test (x ++ y) range
without_other test b x y range f ux uy h =
    let keep : BufId → Bool = λ c. not (b.0 == c.0) in
    subst (λ l. IsBlock test l range) (without_is b x y ux uy)
    (block_filter test keep (x ++ b ∷ y) range (λ c t. kept c t (b.0 == c.0) refl) h)
  where
    kept : (c : BufId) → test c ≡ true → (u : Bool) → (b.0 == c.0) ≡ u → not (b.0 == c.0) ≡ true
    kept c t true e = false_not_true (test c) t (ap test (sym (same_id_is b c e)) ∙ f)
    kept c t false e = rw e refl

pub left_blocks : (listings : List (Option Listing)) (ranges : List (Option Range)) (groups : ℕ) (grp : Option ℕ) (i : ℕ) (b : BufId) (x y : List BufId) (g : ℕ)
    → group_in listings b ≡ grp → IsGroup groups grp → length ranges ≡ 12 * groups → i < 12 → Unlike b x → Unlike b y
    → IsBlock (is_member listings g) (x ++ b ∷ y) (range_at ranges g i)
    → IsBlock (is_member listings g) (x ++ y) (range_at (ranges_left ranges grp i b (last_from b x) (first_from b y)) g i)
left_blocks listings ranges groups None i b x y g e known room li ux uy h =
    without_other (is_member listings g) b x y (range_at ranges g i) (member_of_none listings b g e) ux uy h
left_blocks listings ranges groups (Some g0) i b x y g e known room li ux uy h =
    elim (cases_eq g g0) [
      | inl same ↦
          let own : is_member listings g b ≡ true = member_of_own listings b g (e ∙ ap (λ (k : ℕ). Some k) (sym same)) in
          let left = block_left (is_member listings g) x b y (range_at ranges g i) own ux uy h in
          let p = last_from b x in
          let s = first_from b y in
          let there : g0 * 12 + i < length ranges = omega arith in
          let old : range_at ranges g0 i ≡ Some left.old = ap (λ (k : ℕ). range_at ranges k i) (sym same) ∙ left.old_is in
          let is : range_at (ranges_left ranges (Some g0) i b p s) g i ≡ narrowed left.old b p s =
          ap (λ (k : ℕ). range_at (ranges_left ranges (Some g0) i b p s) k i) same
          ∙ range_set_same ranges g0 i (narrowed_in (range_at ranges g0 i) b p s) there
          ∙ ap (λ (o : Option Range). narrowed_in o b p s) old in
          subst (λ r. IsBlock (is_member listings g) (x ++ y) r) (sym is) left.block
      | inr ne ↦
          let p = last_from b x in
          let s = first_from b y in
          let is : range_at (ranges_left ranges (Some g0) i b p s) g i ≡ range_at ranges g i = range_set_group ranges g0 g i (narrowed_in (range_at ranges g0 i) b p s) ne in
          subst (λ r. IsBlock (is_member listings g) (x ++ y) r) (sym is)
          (without_other (is_member listings g) b x y (range_at ranges g i) (member_of_other listings b g0 g ne e) ux uy h)
    ]

-- what is known where b stands on list i
module _ (r : Rings) (lists : List (List BufId)) (b : BufId) (x : Listing) (h : IsSound r None lists) (found : listing_in (listings_of r) b ≡ Some x) where
  pub place_below : number_of x < 12
  place_below = number_below x (h.prios b x found)

  pub place_cut : Cut b (list_at lists (number_of x))
  place_cut = has_cut b (list_at lists (number_of x)) (h.listed b x found (λ e. let f : Some b ≡ None = e in cc))

  pub place_ring : Path (next_at r) (prev_at r) (End (number_of x)) (map Of place_cut.front ++ Of b ∷ map Of place_cut.back) (End (number_of x))
  place_ring =
      subst (λ l. Path (next_at r) (prev_at r) (End (number_of x)) l (End (number_of x))) (ap (map Of) place_cut.split ∙ map_cut place_cut.front b place_cut.back)
      (h.rings (number_of x) place_below)

  pub place_distinct : Distinct (End (number_of x) ∷ (map Of place_cut.front ++ Of b ∷ map Of place_cut.back))
  place_distinct =
      subst (λ l. Distinct (End (number_of x) ∷ l)) (ap (map Of) place_cut.split ∙ map_cut place_cut.front b place_cut.back)
      (ring_distinct (next_at r) (prev_at r) (number_of x) (list_at lists (number_of x)) (h.rings (number_of x) place_below))

  pub place_at : Each (AtSpot (listings_of r) None (number_of x)) (End (number_of x) ∷ (map Of place_cut.front ++ Of b ∷ map Of place_cut.back))
  place_at =
      subst (λ l. Each (AtSpot (listings_of r) None (number_of x)) (End (number_of x) ∷ l)) (ap (map Of) place_cut.split ∙ map_cut place_cut.front b place_cut.back)
      (ring_at (listings_of r) None (number_of x) (list_at lists (number_of x)) (h.homes (number_of x) place_below))

  -- the neighbors of b are of its ring
  pub before_at : AtSpot (listings_of r) None (number_of x) (prev_at r (Of b))
  before_at =
      let P : Spot → Type 0 = AtSpot (listings_of r) None (number_of x) in
      let cut = path_split (next_at r) (prev_at r) (End (number_of x)) (map Of place_cut.front) (Of b) (map Of place_cut.back) (End (number_of x)) place_ring in
      at_source (next_at r) (prev_at r) P (End (number_of x)) (map Of place_cut.front) (Of b) cut.0 (each_left P (End (number_of x) ∷ map Of place_cut.front) (Of b ∷ map Of place_cut.back) place_at)

  pub behind_at : AtSpot (listings_of r) None (number_of x) (next_at r (Of b))
  behind_at =
      let P : Spot → Type 0 = AtSpot (listings_of r) None (number_of x) in
      let cut = path_split (next_at r) (prev_at r) (End (number_of x)) (map Of place_cut.front) (Of b) (map Of place_cut.back) (End (number_of x)) place_ring in
      at_target (next_at r) (prev_at r) P (Of b) (map Of place_cut.back) (End (number_of x)) cut.1 (each_right P (End (number_of x) ∷ map Of place_cut.front) (Of b ∷ map Of place_cut.back) place_at).1 place_at.0

  -- the buffers beside b
  pub before_buffer : buffer_of (prev_at r (Of b)) b ≡ last_from b place_cut.front
  before_buffer =
      let cut = path_split (next_at r) (prev_at r) (End (number_of x)) (map Of place_cut.front) (Of b) (map Of place_cut.back) (End (number_of x)) place_ring in
      before_is (next_at r) (prev_at r) (number_of x) place_cut.front b cut.0

  pub behind_buffer : buffer_of (next_at r (Of b)) b ≡ first_from b place_cut.back
  behind_buffer =
      let cut = path_split (next_at r) (prev_at r) (End (number_of x)) (map Of place_cut.front) (Of b) (map Of place_cut.back) (End (number_of x)) place_ring in
      behind_is (next_at r) (prev_at r) (number_of x) b place_cut.back cut.1

  unlike_x : Unlike b place_cut.front
  unlike_x = unlike_front (End (number_of x)) place_cut.front b place_cut.back place_distinct

  unlike_y : Unlike b place_cut.back
  unlike_y = unlike_back (End (number_of x)) place_cut.front b place_cut.back place_distinct

  -- its list without it, and the others as they were
  own_list : list_at (taken_off lists b) (number_of x) ≡ place_cut.front ++ place_cut.back
  own_list = taken_off_at lists b (number_of x) ∙ ap (λ (l : List BufId). without_buffer l b) place_cut.split ∙ without_is b place_cut.front place_cut.back unlike_x unlike_y

  other_list : (j : ℕ) → j < 12 → j ≢ number_of x → list_at (taken_off lists b) j ≡ list_at lists j
  other_list j lt ne =
      taken_off_at lists b j ∙ without_nothing b (list_at lists j)
      (each_map (IsAt (listings_of r) None j) (λ c. (b.0 == c.0) ≡ false) (unlike_other (listings_of r) None j b x found (λ e. ne (sym e))) (list_at lists j) (h.homes j lt))

  homes_without : (j : ℕ) → j < 12 → Each (IsAt (listings_of r) (Some b) j) (list_at (taken_off lists b) j)
  homes_without j lt = elim (cases_eq j (number_of x)) [
    | inl same ↦
        let all : Each (IsAt (listings_of r) None (number_of x)) (place_cut.front ++ b ∷ place_cut.back) =
        subst (Each (IsAt (listings_of r) None (number_of x))) place_cut.split (h.homes (number_of x) place_below) in
        let front = moved (number_of x) place_cut.front (each_left (IsAt (listings_of r) None (number_of x)) place_cut.front (b ∷ place_cut.back) all) unlike_x in
        let back = moved (number_of x) place_cut.back (each_right (IsAt (listings_of r) None (number_of x)) place_cut.front (b ∷ place_cut.back) all).1 unlike_y in
        subst (λ k. Each (IsAt (listings_of r) (Some b) k) (list_at (taken_off lists b) k)) (sym same)
        (subst (Each (IsAt (listings_of r) (Some b) (number_of x))) (sym own_list) (each_append (IsAt (listings_of r) (Some b) (number_of x)) place_cut.front place_cut.back front back))
    | inr ne ↦
        subst (Each (IsAt (listings_of r) (Some b) j)) (sym (other_list j lt ne))
        (moved j (list_at lists j) (h.homes j lt)
        (each_map (IsAt (listings_of r) None j) (λ c. (b.0 == c.0) ≡ false) (unlike_other (listings_of r) None j b x found (λ e. ne (sym e))) (list_at lists j) (h.homes j lt)))
  ]
    where
      moved : (k : ℕ) (l : List BufId) → Each (IsAt (listings_of r) None k) l → Unlike b l → Each (IsAt (listings_of r) (Some b) k) l
      moved k [] at u = tt
      moved k (c ∷ l) at u = (
        record { listing = at.0.listing; listed = at.0.listed; number = at.0.number; there = λ e. not_same_id b c u.0 (let f : c ≡ b = cc in f) },
        moved k l at.1 u.1,
      )

  rings_without : (r1 : Rings) → Tied (next_at r) (prev_at r) (next_at r1) (prev_at r1) (prev_at r (Of b)) (next_at r (Of b)) → (j : ℕ) → j < 12
      → Path (next_at r1) (prev_at r1) (End j) (map Of (list_at (taken_off lists b) j)) (End j)
  rings_without r1 t j lt = elim (cases_eq j (number_of x)) [
    | inl same ↦
        let ring = ring_without (next_at r) (prev_at r) (next_at r1) (prev_at r1) (End (number_of x)) (map Of place_cut.front) (Of b) (map Of place_cut.back) place_distinct place_ring t in
        let is : map Of place_cut.front ++ map Of place_cut.back ≡ map Of (list_at (taken_off lists b) (number_of x)) = sym (map-append Of place_cut.front place_cut.back) ∙ ap (map Of) (sym own_list) in
        subst (λ k. Path (next_at r1) (prev_at r1) (End k) (map Of (list_at (taken_off lists b) k)) (End k)) (sym same)
        (subst (λ l. Path (next_at r1) (prev_at r1) (End (number_of x)) l (End (number_of x))) is ring)
    | inr ne ↦
        subst (λ l. Path (next_at r1) (prev_at r1) (End j) (map Of l) (End j)) (sym (other_list j lt ne))
        (other_ring (next_at r) (prev_at r) (next_at r1) (prev_at r1) (listings_of r) None j (list_at lists j) (h.homes j lt)
        (λ s at. t.nexts s (spots_apart (listings_of r) None j (number_of x) s (prev_at r (Of b)) ne at before_at))
        (λ s at. t.prevs s (spots_apart (listings_of r) None j (number_of x) s (next_at r (Of b)) ne at behind_at))
        (h.rings j lt))
  ]

  blocks_without : (j g : ℕ) → j < 12 → g < r.groups
      → IsBlock (is_member (listings_of r) g) (list_at (taken_off lists b) j)
      (range_at (ranges_left r.ranges x.group (number_of x) b (buffer_of (prev_at r (Of b)) b) (buffer_of (next_at r (Of b)) b)) g j)
  blocks_without j g lt lg =
      let p = buffer_of (prev_at r (Of b)) b in
      let s = buffer_of (next_at r (Of b)) b in
      elim (cases_eq j (number_of x)) [
        | inl same ↦
            let old : IsBlock (is_member (listings_of r) g) (place_cut.front ++ b ∷ place_cut.back) (range_at r.ranges g (number_of x)) =
            subst (λ l. IsBlock (is_member (listings_of r) g) l (range_at r.ranges g (number_of x))) place_cut.split (h.blocks (number_of x) g place_below lg) in
            let new = left_blocks (listings_of r) r.ranges r.groups x.group (number_of x) b place_cut.front place_cut.back g
            (group_is (listings_of r) b x found) (h.groups b x found) h.room place_below unlike_x unlike_y old in
            let at : IsBlock (is_member (listings_of r) g) (place_cut.front ++ place_cut.back) (range_at (ranges_left r.ranges x.group (number_of x) b p s) g (number_of x)) =
            rw (before_buffer, behind_buffer) new in
            subst (λ k. IsBlock (is_member (listings_of r) g) (list_at (taken_off lists b) k) (range_at (ranges_left r.ranges x.group (number_of x) b p s) g k)) (sym same)
            (subst (λ l. IsBlock (is_member (listings_of r) g) l (range_at (ranges_left r.ranges x.group (number_of x) b p s) g (number_of x))) (sym own_list) at)
        | inr ne ↦
            subst (λ l. IsBlock (is_member (listings_of r) g) l (range_at (ranges_left r.ranges x.group (number_of x) b p s) g j)) (sym (other_list j lt ne))
            (subst (λ o. IsBlock (is_member (listings_of r) g) (list_at lists j) o) (sym (left_other_list r.ranges x.group (number_of x) j b p s g place_below lt ne)) (h.blocks j g lt lg))
      ]

-- the whole
pub leave_sound : (r r1 : Rings) (ranges : List (Option Range)) (lists : List (List BufId)) (b : BufId) (x : Listing) → IsSound r None lists → listing_in (listings_of r) b ≡ Some x
    → Tied (next_at r) (prev_at r) (next_at r1) (prev_at r1) (prev_at r (Of b)) (next_at r (Of b)) → SameRest r r1
    → ranges ≡ ranges_left r.ranges x.group (number_of x) b (buffer_of (prev_at r (Of b)) b) (buffer_of (next_at r (Of b)) b)
    → IsSound (record r1 { ranges = ranges }) (Some b) (taken_off lists b)
leave_sound r r1 ranges lists b x h found t rest is = record {
  ends = rest.ends ∙ h.ends;
  count = length-map lists (λ l. without_buffer l b) ∙ h.count;
  room = ap length is ∙ length-ranges_left r.ranges x.group (number_of x) b (buffer_of (prev_at r (Of b)) b) (buffer_of (next_at r (Of b)) b) ∙ h.room ∙ ap (λ (k : ℕ). 12 * k) (sym rest.groups);
  rings = λ j lt. rings_without r lists b x h found r1 t j lt;
  homes = λ j lt. subst (λ l. Each (IsAt l (Some b) j) (list_at (taken_off lists b) j)) (sym rest.listings) (homes_without r lists b x h found j lt);
  listed = λ c y at out.
      let at' : listing_in (listings_of r) c ≡ Some y = sym (ap (λ (l : List (Option Listing)). listing_in l c) rest.listings) ∙ at in
      subst (λ l. has c l ≡ true) (sym (taken_off_at lists b (number_of y)))
      (has_without b c (list_at lists (number_of y)) (λ e. out (ap (λ (k : BufId). Some k) e)) (h.listed c y at' (λ e. let f : Some c ≡ None = e in cc)));
  prios = λ c y at. h.prios c y (sym (ap (λ (l : List (Option Listing)). listing_in l c) rest.listings) ∙ at);
  groups = λ c y at. subst (λ k. IsGroup k y.group) (sym rest.groups) (h.groups c y (sym (ap (λ (l : List (Option Listing)). listing_in l c) rest.listings) ∙ at));
  blocks = λ j g lt lg.
      let lg' : g < r.groups = subst (λ k. g < k) rest.groups lg in
      subst (λ l. IsBlock (is_member l g) (list_at (taken_off lists b) j) (range_at ranges g j)) (sym rest.listings)
      (subst (λ l. IsBlock (is_member (listings_of r) g) (list_at (taken_off lists b) j) (range_at l g j)) (sym is) (blocks_without r lists b x h found j g lt lg'));
}
