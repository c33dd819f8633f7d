-- After the range of a group went to the end of a list the links and the ranges show its members last.
use Rattle.std.proofs.Common.{◌≡◌, ◌≢◌, ℕ, ◌*◌, ◌<◌, Bool, true, false, ◌||◌, List, [], ◌∷◌, ◌++◌, length, set, map, filter, cond, Option, Some, None, refl, sym, ap, subst, ◌∙◌, inl, inr, arith}
use Rattle.std.specs.Prelude.{not}
use Rattle.std.proofs.lemmas.Bool.{cases_eq}
use Rattle.std.proofs.lemmas.List.{length-set, map-append, append-nil, set-get_or}
use Rattle.ttm_base.specs.declared.BufId.{BufId}
use Rattle.lru_bulk.specs.declared.nodes.Listing.{Listing}
use Rattle.lru_bulk.specs.declared.nodes.Spot.{Spot}
use Rattle.lru_bulk.specs.declared.nodes.Spot.TheVariants.{End, Of}
use Rattle.lru_bulk.specs.declared.rings.Range.{Range}
use Rattle.lru_bulk.specs.declared.rings.Rings.{Rings}
use Rattle.lru_bulk.specs.Rings.{Each, Path}
use Rattle.lru_bulk.specs.Relinks.{SameRest, Tied}
use Rattle.lru_bulk.specs.Lists.{IsGroup, list_at, listing_in, number_of, is_member, members_last}
use Rattle.lru_bulk.specs.Sound.{next_at, prev_at, listings_of, last_from, has, range_at, IsBlock, IsAt, IsSound}
use Rattle.lru_bulk.proofs.Paths.{each_map, each_append, each_left, each_right, Distinct, path_split, at_source, source_leads}
use Rattle.lru_bulk.proofs.RingMoves.{spliced_from_ties, ring_splice, splice_apart}
use Rattle.lru_bulk.proofs.Walks.{ring_distinct}
use Rattle.lru_bulk.proofs.Blocks.{block_append, block_filter}
use Rattle.lru_bulk.proofs.OwnBlock.{Moved, block_moved, block_empty}
use Rattle.lru_bulk.proofs.GroupLaws.{member_of_one}
use Rattle.lru_bulk.proofs.Neighbors.{last_of_range}
use Rattle.lru_bulk.proofs.JoinLaws.{has-append}
use Rattle.lru_bulk.proofs.SoundLaws.{AtSpot, ring_at, spots_apart, other_ring, list_same, list_other}

passing_more : (test : BufId → Bool) (b : BufId) (l : List BufId) → Each (λ c. test c ≡ true) (filter test l) → (t : Bool) → test b ≡ t → Each (λ c. test c ≡ true) (filter test (b ∷ l))
passing_more test b l r true e = subst (λ k. Each (λ c. test c ≡ true) (cond k (b ∷ filter test l) (filter test l))) (sym e) (e, r)
passing_more test b l r false e = subst (λ k. Each (λ c. test c ≡ true) (cond k (b ∷ filter test l) (filter test l))) (sym e) r

passing : (test : BufId → Bool) (l : List BufId) → Each (λ c. test c ≡ true) (filter test l)
passing test [] = tt
passing test (b ∷ l) = passing_more test b l (passing test l) (test b) refl

-- others stay side by side
pub others_last : (listings : List (Option Listing)) (g h : ℕ) (l : List BufId) (range : Option Range) → h ≢ g → IsBlock (is_member listings h) l range
    → IsBlock (is_member listings h) (members_last (is_member listings g) l) range
others_last listings g h l range ne block =
    block_append (is_member listings h) (filter (λ c. not (is_member listings g c)) l) (filter (is_member listings g) l) range
    (each_map (λ c. is_member listings g c ≡ true) (λ c. is_member listings h c ≡ false) (λ c t. member_of_one listings g h c ne t) (filter (is_member listings g) l) (passing (is_member listings g) l))
    (block_filter (is_member listings h) (λ c. not (is_member listings g c)) l range (λ c t. kept c t) block)
  where
    kept : (c : BufId) → is_member listings h c ≡ true → not (is_member listings g c) ≡ true
    kept c t = let f : is_member listings g c ≡ false = member_of_one listings h g c (λ e. ne (sym e)) t in rw f refl

or_swap : (a b c : Bool) → (a || (b || c)) ≡ true → (a || (c || b)) ≡ true
or_swap true b c h = refl
or_swap false true true h = refl
or_swap false true false h = refl
or_swap false false true h = refl
or_swap false false false h = h

has_swapped : (c : BufId) (x y z : List BufId) → has c (x ++ (y ++ z)) ≡ true → has c (x ++ (z ++ y)) ≡ true
has_swapped c x y z h =
    let old : has c (x ++ (y ++ z)) ≡ (has c x || (has c y || has c z)) = has-append c x (y ++ z) ∙ ap (λ (t : Bool). has c x || t) (has-append c y z) in
    let new : has c (x ++ (z ++ y)) ≡ (has c x || (has c z || has c y)) = has-append c x (z ++ y) ∙ ap (λ (t : Bool). has c x || t) (has-append c z y) in
    new ∙ or_swap (has c x) (has c y) (has c z) (sym old ∙ h)

module _ (r : Rings) (lists : List (List BufId)) (g i : ℕ) (range : Range) (h : IsSound r None lists) (lg : g < r.groups) (li : i < 12) (at : range_at r.ranges g i ≡ Some range) where
  parts : Moved (is_member (listings_of r) g) (list_at lists i) range
  parts = block_moved (is_member (listings_of r) g) (list_at lists i) range (subst (λ o. IsBlock (is_member (listings_of r) g) (list_at lists i) o) at (h.blocks i g li lg))

  cut_is : map Of (list_at lists i) ≡ map Of parts.before ++ Of range.first ∷ (map Of parts.rest ++ map Of parts.after)
  cut_is = ap (map Of) parts.split ∙ map-append Of parts.before (range.first ∷ (parts.rest ++ parts.after))
      ∙ ap (λ (l : List Spot). map Of parts.before ++ Of range.first ∷ l) (map-append Of parts.rest parts.after)

  cut_ring : Path (next_at r) (prev_at r) (End i) (map Of parts.before ++ Of range.first ∷ (map Of parts.rest ++ map Of parts.after)) (End i)
  cut_ring = subst (λ l. Path (next_at r) (prev_at r) (End i) l (End i)) cut_is (h.rings i li)

  cut_at : Each (AtSpot (listings_of r) None i) (End i ∷ (map Of parts.before ++ Of range.first ∷ (map Of parts.rest ++ map Of parts.after)))
  cut_at = subst (λ l. Each (AtSpot (listings_of r) None i) (End i ∷ l)) cut_is (ring_at (listings_of r) None i (list_at lists i) (h.homes i li))

  -- the touched spots are of the ring
  pub first_spot_at : AtSpot (listings_of r) None i (Of range.first)
  first_spot_at = (each_right (AtSpot (listings_of r) None i) (End i ∷ map Of parts.before) (Of range.first ∷ (map Of parts.rest ++ map Of parts.after)) cut_at).0

  pub before_first_at : AtSpot (listings_of r) None i (prev_at r (Of range.first))
  before_first_at =
      let P : Spot → Type 0 = AtSpot (listings_of r) None i in
      let one = path_split (next_at r) (prev_at r) (End i) (map Of parts.before) (Of range.first) (map Of parts.rest ++ map Of parts.after) (End i) cut_ring in
      at_source (next_at r) (prev_at r) P (End i) (map Of parts.before) (Of range.first) one.0 (each_left P (End i ∷ map Of parts.before) (Of range.first ∷ (map Of parts.rest ++ map Of parts.after)) cut_at)

  pub tail_at : AtSpot (listings_of r) None i (prev_at r (End i))
  tail_at = at_source (next_at r) (prev_at r) (AtSpot (listings_of r) None i) (End i) (map Of parts.before ++ Of range.first ∷ (map Of parts.rest ++ map Of parts.after)) (End i) cut_ring cut_at

  last_spot : (P : Spot → Type 0) (f : BufId) (l : List BufId) → P (Of f) → Each P (map Of l) → P (Of (last_from f l))
  last_spot P f [] k e = k
  last_spot P f (c ∷ l) k e = last_spot P c l e.0 e.1

  pub last_spot_at : AtSpot (listings_of r) None i (Of range.last)
  last_spot_at =
      let P : Spot → Type 0 = AtSpot (listings_of r) None i in
      let right = each_right P (End i ∷ map Of parts.before) (Of range.first ∷ (map Of parts.rest ++ map Of parts.after)) cut_at in
      subst (λ c. P (Of c)) (sym parts.last_is) (last_spot P range.first parts.rest right.0 (each_left P (map Of parts.rest) (map Of parts.after) right.1))

  -- what follows the range
  behind_range : (after : List BufId) → map Of (list_at lists i) ≡ map Of parts.before ++ Of range.first ∷ (map Of parts.rest ++ map Of after) → (v : BufId) (y : List BufId) → after ≡ v ∷ y → next_at r (Of range.last) ≡ Of v
  behind_range after is v y e =
      let ring = subst (λ l. Path (next_at r) (prev_at r) (End i) l (End i)) (is ∙ ap (λ (l : List BufId). map Of parts.before ++ Of range.first ∷ (map Of parts.rest ++ map Of l)) e) (h.rings i li) in
      let one = path_split (next_at r) (prev_at r) (End i) (map Of parts.before) (Of range.first) (map Of parts.rest ++ Of v ∷ map Of y) (End i) ring in
      let two = path_split (next_at r) (prev_at r) (Of range.first) (map Of parts.rest) (Of v) (map Of y) (End i) one.1 in
      let p_is : prev_at r (Of v) ≡ Of range.last = last_of_range (next_at r) (prev_at r) range.first parts.rest (Of v) two.0 ∙ ap Of (sym parts.last_is) in
      ap (next_at r) (sym p_is) ∙ leads two.0
    where
      leads : Path (next_at r) (prev_at r) (Of range.first) (map Of parts.rest) (Of v) → next_at r (prev_at r (Of v)) ≡ Of v
      leads w = source_leads (next_at r) (prev_at r) (Of range.first) (map Of parts.rest) (Of v) w

  -- nothing is after it: the list is as it shall be
  pub at_end_already : next_at r (Of range.last) ≡ End i → members_last (is_member (listings_of r) g) (list_at lists i) ≡ list_at lists i
  at_end_already ends = go parts.after refl
    where
      go : (after : List BufId) → parts.after ≡ after → members_last (is_member (listings_of r) g) (list_at lists i) ≡ list_at lists i
      go [] e =
          parts.moved ∙ ap (λ (l : List BufId). parts.before ++ (l ++ range.first ∷ parts.rest)) e
          ∙ ap (λ (l : List BufId). parts.before ++ range.first ∷ l) (sym (append-nil parts.rest) ∙ ap (λ (l : List BufId). parts.rest ++ l) (sym e)) ∙ sym parts.split
      go (v ∷ y) e = absurd (let f : Of v ≡ End i = sym (behind_range parts.after cut_is v y e) ∙ ends in cc)

  end_behind_range : parts.after ≡ [] → next_at r (Of range.last) ≡ End i
  end_behind_range e =
      let is = cut_is ∙ ap (λ (l : List BufId). map Of parts.before ++ Of range.first ∷ (map Of parts.rest ++ map Of l)) e
      ∙ ap (λ (l : List Spot). map Of parts.before ++ Of range.first ∷ l) (append-nil (map Of parts.rest)) in
      let ring = subst (λ l. Path (next_at r) (prev_at r) (End i) l (End i)) is (h.rings i li) in
      let one = path_split (next_at r) (prev_at r) (End i) (map Of parts.before) (Of range.first) (map Of parts.rest) (End i) ring in
      let p_is : prev_at r (End i) ≡ Of range.last = last_of_range (next_at r) (prev_at r) range.first parts.rest (End i) one.1 ∙ ap Of (sym parts.last_is) in
      ap (next_at r) (sym p_is) ∙ source_leads (next_at r) (prev_at r) (Of range.first) (map Of parts.rest) (End i) one.1

  pub behind_at : AtSpot (listings_of r) None i (next_at r (Of range.last))
  behind_at = go parts.after refl
    where
      go : (after : List BufId) → parts.after ≡ after → AtSpot (listings_of r) None i (next_at r (Of range.last))
      go [] e = subst (AtSpot (listings_of r) None i) (sym (end_behind_range e)) refl
      go (v ∷ y) e =
          let P : Spot → Type 0 = AtSpot (listings_of r) None i in
          let all = subst (λ l. Each P (End i ∷ l)) (ap (λ (l : List BufId). map Of parts.before ++ Of range.first ∷ (map Of parts.rest ++ map Of l)) e) cut_at in
          let right = each_right P (End i ∷ map Of parts.before) (Of range.first ∷ (map Of parts.rest ++ Of v ∷ map Of y)) all in
          subst P (sym (behind_range parts.after cut_is v y e)) (each_right P (map Of parts.rest) (Of v ∷ map Of y) right.1).0

  -- what comes of the list
  pub record Goes (r3 : Rings) : Type 0 where
    pub new : List BufId
    pub new_is : members_last (is_member (listings_of r) g) (list_at lists i) ≡ new
    pub ring : Path (next_at r3) (prev_at r3) (End i) (map Of new) (End i)
    pub homes : Each (IsAt (listings_of r) None i) new
    pub kept : (c : BufId) → has c (list_at lists i) ≡ true → has c new ≡ true

  splice_goes : (r1 r2 r3 : Rings) → next_at r (Of range.last) ≢ End i
      → Tied (next_at r) (prev_at r) (next_at r1) (prev_at r1) (prev_at r (Of range.first)) (next_at r (Of range.last))
      → Tied (next_at r1) (prev_at r1) (next_at r2) (prev_at r2) (prev_at r (End i)) (Of range.first)
      → Tied (next_at r2) (prev_at r2) (next_at r3) (prev_at r3) (Of range.last) (End i)
      → Goes r3
  splice_goes r1 r2 r3 further one two three = go parts.after refl
    where
      go : (after : List BufId) → parts.after ≡ after → Goes r3
      go [] e = absurd (further (end_behind_range e))
      go (v ∷ y) e =
          let n = next_at r in
          let p = prev_at r in
          let Home : BufId → Type 0 = IsAt (listings_of r) None i in
          let v_is : n (Of range.last) ≡ Of v = behind_range parts.after cut_is v y e in
          let is = cut_is ∙ ap (λ (l : List BufId). map Of parts.before ++ Of range.first ∷ (map Of parts.rest ++ map Of l)) e in
          let ring = subst (λ l. Path n p (End i) l (End i)) is (h.rings i li) in
          let d = subst (λ l. Distinct (End i ∷ l)) is (ring_distinct n p i (list_at lists i) (h.rings i li)) in
          let a = splice_apart n p (next_at r3) (prev_at r3) (End i) (map Of parts.before) (Of range.first) (map Of parts.rest) (Of v) (map Of y) d ring in
          let cut1 = path_split n p (End i) (map Of parts.before) (Of range.first) (map Of parts.rest ++ Of v ∷ map Of y) (End i) ring in
          let cut2 = path_split n p (Of range.first) (map Of parts.rest) (Of v) (map Of y) (End i) cut1.1 in
          let p_is : p (Of v) ≡ Of range.last = last_of_range n p range.first parts.rest (Of v) cut2.0 ∙ ap Of (sym parts.last_is) in
          let one' = subst (λ s. Tied n p (next_at r1) (prev_at r1) (p (Of range.first)) s) v_is one in
          let three' = subst (λ s. Tied (next_at r2) (prev_at r2) (next_at r3) (prev_at r3) s (End i)) (sym p_is) three in
          let all = spliced_from_ties n p (next_at r1) (prev_at r1) (next_at r2) (prev_at r2) (next_at r3) (prev_at r3)
          (p (Of range.first)) (Of v) (p (End i)) (Of range.first) (p (Of v)) (End i) a.ut a.ul a.tl a.vf a.vz a.fz one' two three' in
          let new_ring = ring_splice n p (next_at r3) (prev_at r3) (End i) (map Of parts.before) (Of range.first) (map Of parts.rest) (Of v) (map Of y) d ring all in
          let new_map : map Of (parts.before ++ v ∷ (y ++ range.first ∷ parts.rest)) ≡ map Of parts.before ++ Of v ∷ (map Of y ++ Of range.first ∷ map Of parts.rest) =
          map-append Of parts.before (v ∷ (y ++ range.first ∷ parts.rest)) ∙ ap (λ (l : List Spot). map Of parts.before ++ Of v ∷ l) (map-append Of y (range.first ∷ parts.rest)) in
          let homes : Each Home (parts.before ++ range.first ∷ (parts.rest ++ v ∷ y)) =
          subst (Each Home) (parts.split ∙ ap (λ (l : List BufId). parts.before ++ range.first ∷ (parts.rest ++ l)) e) (h.homes i li) in
          let right = each_right Home parts.before (range.first ∷ (parts.rest ++ v ∷ y)) homes in
          record {
            new = parts.before ++ v ∷ (y ++ range.first ∷ parts.rest);
            new_is = parts.moved ∙ ap (λ (l : List BufId). parts.before ++ (l ++ range.first ∷ parts.rest)) e;
            ring = subst (λ l. Path (next_at r3) (prev_at r3) (End i) l (End i)) (sym new_map) new_ring;
            homes = each_append Home parts.before (v ∷ (y ++ range.first ∷ parts.rest)) (each_left Home parts.before (range.first ∷ (parts.rest ++ v ∷ y)) homes)
                (each_append Home (v ∷ y) (range.first ∷ parts.rest) (each_right Home (range.first ∷ parts.rest) (v ∷ y) right) (each_left Home (range.first ∷ parts.rest) (v ∷ y) right));
            kept = λ c k. subst (λ l. has c (parts.before ++ (l ++ range.first ∷ parts.rest)) ≡ true) e
                (has_swapped c parts.before (range.first ∷ parts.rest) parts.after (subst (λ l. has c l ≡ true) parts.split k));
          }

-- all lists
pub splice_sound : (r r1 r2 r3 : Rings) (lists : List (List BufId)) (g i : ℕ) (range : Range) → IsSound r None lists → g < r.groups → i < 12 → range_at r.ranges g i ≡ Some range
    → next_at r (Of range.last) ≢ End i
    → Tied (next_at r) (prev_at r) (next_at r1) (prev_at r1) (prev_at r (Of range.first)) (next_at r (Of range.last))
    → Tied (next_at r1) (prev_at r1) (next_at r2) (prev_at r2) (prev_at r (End i)) (Of range.first)
    → Tied (next_at r2) (prev_at r2) (next_at r3) (prev_at r3) (Of range.last) (End i)
    → SameRest r r3 → IsSound r3 None (set lists i (members_last (is_member (listings_of r) g) (list_at lists i)))
splice_sound r r1 r2 r3 lists g i range h lg li at further one two three rest =
    let new = members_last (is_member (listings_of r) g) (list_at lists i) in
    let goes = splice_goes r lists g i range h lg li at r1 r2 r3 further one two three in
    let in_lists : i < length lists = (let count = h.count in omega arith) in
    let first_at = first_spot_at r lists g i range h lg li at in
    let last_at = last_spot_at r lists g i range h lg li at in
    let u_at = before_first_at r lists g i range h lg li at in
    let t_at = tail_at r lists g i range h lg li at in
    let v_at : AtSpot (listings_of r) None i (next_at r (Of range.last)) = behind_at r lists g i range h lg li at in
    let moved = parts r lists g i range h lg li at in
    let apart : (k : ℕ) → k ≢ i → (s t : Spot) → AtSpot (listings_of r) None k s → AtSpot (listings_of r) None i t → s ≢ t = λ k ne s t sat tat. spots_apart (listings_of r) None k i s t ne sat tat in
    record {
      ends = rest.ends ∙ h.ends;
      count = length-set lists i new ∙ h.count;
      room = ap length rest.ranges ∙ h.room ∙ ap (λ (k : ℕ). 12 * k) (sym rest.groups);
      rings = λ k lt. elim (cases_eq k i) [
        | inl same ↦ subst (λ m. Path (next_at r3) (prev_at r3) (End m) (map Of (list_at (set lists i new) m)) (End m)) (sym same)
            (subst (λ l. Path (next_at r3) (prev_at r3) (End i) (map Of l) (End i)) (sym (list_same lists i new in_lists ∙ goes.new_is)) goes.ring)
        | inr ne ↦ subst (λ l. Path (next_at r3) (prev_at r3) (End k) (map Of l) (End k)) (sym (list_other lists i k new ne))
            (other_ring (next_at r) (prev_at r) (next_at r3) (prev_at r3) (listings_of r) None k (list_at lists k) (h.homes k lt)
            (λ s sat. three.nexts s (apart k ne s (Of range.last) sat last_at) ∙ two.nexts s (apart k ne s (prev_at r (End i)) sat t_at) ∙ one.nexts s (apart k ne s (prev_at r (Of range.first)) sat u_at))
            (λ s sat. three.prevs s (apart k ne s (End i) sat refl) ∙ two.prevs s (apart k ne s (Of range.first) sat first_at) ∙ one.prevs s (apart k ne s (next_at r (Of range.last)) sat v_at))
            (h.rings k lt))
      ];
      homes = λ k lt. subst (λ ls. Each (IsAt ls None k) (list_at (set lists i new) k)) (sym rest.listings) (elim (cases_eq k i) [
        | inl same ↦ subst (λ m. Each (IsAt (listings_of r) None m) (list_at (set lists i new) m)) (sym same)
            (subst (Each (IsAt (listings_of r) None i)) (sym (list_same lists i new in_lists ∙ goes.new_is)) goes.homes)
        | inr ne ↦ subst (Each (IsAt (listings_of r) None k)) (sym (list_other lists i k new ne)) (h.homes k lt)
      ]);
      listed = λ c y got out.
          let old = h.listed c y (sym (ap (λ (l : List (Option Listing)). listing_in l c) rest.listings) ∙ got) out in
          elim (cases_eq (number_of y) i) [
            | inl same ↦ subst (λ m. has c (list_at (set lists i new) m) ≡ true) (sym same)
                (subst (λ l. has c l ≡ true) (sym (list_same lists i new in_lists ∙ goes.new_is)) (goes.kept c (subst (λ m. has c (list_at lists m) ≡ true) same old)))
            | inr ne ↦ subst (λ l. has c l ≡ true) (sym (list_other lists i (number_of y) new ne)) old
          ];
      prios = λ c y got. h.prios c y (sym (ap (λ (l : List (Option Listing)). listing_in l c) rest.listings) ∙ got);
      groups = λ c y got. subst (λ k. IsGroup k y.group) (sym rest.groups) (h.groups c y (sym (ap (λ (l : List (Option Listing)). listing_in l c) rest.listings) ∙ got));
      blocks = λ k g' lt lg'.
          let below : g' < r.groups = subst (λ m. g' < m) rest.groups lg' in
          subst (λ l. IsBlock (is_member l g') (list_at (set lists i new) k) (range_at r3.ranges g' k)) (sym rest.listings)
          (subst (λ l. IsBlock (is_member (listings_of r) g') (list_at (set lists i new) k) (range_at l g' k)) (sym rest.ranges) (elim (cases_eq k i) [
            | inl same ↦ subst (λ m. IsBlock (is_member (listings_of r) g') (list_at (set lists i new) m) (range_at r.ranges g' m)) (sym same)
                (subst (λ l. IsBlock (is_member (listings_of r) g') l (range_at r.ranges g' i)) (sym (list_same lists i new in_lists)) (elim (cases_eq g' g) [
                  | inl one_group ↦ subst (λ m. IsBlock (is_member (listings_of r) m) new (range_at r.ranges m i)) (sym one_group)
                      (subst (λ o. IsBlock (is_member (listings_of r) g) new o) (sym at) (subst (λ l. IsBlock (is_member (listings_of r) g) l (Some range)) (sym moved.moved) moved.block))
                  | inr other ↦ others_last (listings_of r) g g' (list_at lists i) (range_at r.ranges g' i) other (h.blocks i g' li below)
                ]))
            | inr ne ↦ subst (λ l. IsBlock (is_member (listings_of r) g') l (range_at r.ranges g' k)) (sym (list_other lists i k new ne)) (h.blocks k g' lt below)
          ]));
    }

-- a list with its members last already
pub splice_nothing : (r : Rings) (lists : List (List BufId)) (g i : ℕ) (range : Range) → IsSound r None lists → g < r.groups → i < 12 → range_at r.ranges g i ≡ Some range
    → next_at r (Of range.last) ≡ End i → set lists i (members_last (is_member (listings_of r) g) (list_at lists i)) ≡ lists
splice_nothing r lists g i range h lg li at ends =
    ap (λ (l : List BufId). set lists i l) (at_end_already r lists g i range h lg li at ends) ∙ set-get_or lists i []

-- a list with no member
pub splice_nobody : (r : Rings) (lists : List (List BufId)) (g i : ℕ) → IsSound r None lists → g < r.groups → i < 12 → range_at r.ranges g i ≡ None
    → set lists i (members_last (is_member (listings_of r) g) (list_at lists i)) ≡ lists
splice_nobody r lists g i h lg li at =
    ap (λ (l : List BufId). set lists i l) (block_empty (is_member (listings_of r) g) (list_at lists i) (subst (λ o. IsBlock (is_member (listings_of r) g) (list_at lists i) o) at (h.blocks i g li lg)))
    ∙ set-get_or lists i []
