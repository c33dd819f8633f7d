-- A change of the node of a buffer that stands on no list leaves the lists as they are.
use Rattle.std.proofs.Common.{◌≡◌, ◌≢◌, ℕ, ◌<◌, List, length, set, map, Option, Some, None, refl, sym, ap, ◌∙◌, inl, inr, arith}
use Rattle.std.specs.Prelude.{option_and_then}
use Rattle.std.proofs.lemmas.Bool.{cases_eq}
use Rattle.std.proofs.lemmas.List.{length-map, get_or-set_same, get_or-set_other}
use Rattle.ttm_base.specs.declared.BufId.{BufId}
use Rattle.lru_bulk.specs.declared.nodes.Listing.{Listing}
use Rattle.lru_bulk.specs.declared.nodes.Node.{Node}
use Rattle.lru_bulk.specs.declared.nodes.Spot.{Spot}
use Rattle.lru_bulk.specs.declared.nodes.Spot.TheVariants.{End, Of}
use Rattle.lru_bulk.specs.declared.rings.Rings.{Rings}
use Rattle.lru_bulk.specs.Lists.{IsGroup, list_at, listing_in, same_group, is_member}
use Rattle.lru_bulk.specs.Sound.{next_at, prev_at, links_at, node_links, listings_of, range_at, IsAt, IsSound}
use Rattle.lru_bulk.proofs.Paths.{each_map}
use Rattle.lru_bulk.proofs.Blocks.{block_agree}
use Rattle.lru_bulk.proofs.ListingLaws.{listing_in_node, listings_set}
use Rattle.lru_bulk.proofs.SoundLaws.{AtSpot, other_ring}

-- the rings with another node, or none, of a buffer
abbrev pub with_node : Rings → BufId → Option Node → Rings
with_node r b slot = record r { nodes = set r.nodes b.0 slot }

number_apart : (b c : BufId) → c ≢ b → c.0 ≢ b.0
number_apart b c ne e = ne (ap (λ (m : ℕ). record { 0 = m }) e)

abbrev group_of : Option Listing → Option ℕ
group_of o = option_and_then (λ x. x.group) o

module _ (r : Rings) (b : BufId) (slot : Option Node) where
  not_b : (out : Option BufId) → ((i : ℕ) (c : BufId) → IsAt (listings_of r) out i c → c ≢ b) → (i : ℕ) (s : Spot) → AtSpot (listings_of r) out i s → s ≢ Of b
  not_b out f i (End j) at e = cc
  not_b out f i (Of c) at e = let g : c ≡ b = cc in f i c at g

  other_links : (s : Spot) → s ≢ Of b → links_at (with_node r b slot) s ≡ links_at r s
  other_links (End i) ne = refl
  other_links (Of c) ne = ap node_links (get_or-set_other r.nodes b.0 c.0 slot None (number_apart b c (λ e. ne (ap Of e))))

  pub other_listing : (c : BufId) → c ≢ b → listing_in (listings_of (with_node r b slot)) c ≡ listing_in (listings_of r) c
  other_listing c ne = ap (λ (l : List (Option Listing)). listing_in l c) (listings_set r.nodes b.0 slot)
      ∙ get_or-set_other (listings_of r) b.0 c.0 (listing_in_node slot) None (number_apart b c ne)

  own_listing : b.0 < length r.nodes → listing_in (listings_of (with_node r b slot)) b ≡ listing_in_node slot
  own_listing lt =
      let len = length-map r.nodes listing_in_node in
      let in_listings : b.0 < length (map listing_in_node r.nodes) = omega arith in
      ap (λ (l : List (Option Listing)). listing_in l b) (listings_set r.nodes b.0 slot)
      ∙ get_or-set_same (listings_of r) b.0 (listing_in_node slot) None in_listings

  pub changed_sound : (lists : List (List BufId)) (out out' : Option BufId) → IsSound r out lists → b.0 < length r.nodes
      → ((i : ℕ) (c : BufId) → IsAt (listings_of r) out i c → c ≢ b)
      → ((c : BufId) → c ≢ b → Some c ≢ out) → ((c : BufId) → c ≢ b → Some c ≢ out')
      → ((x : Listing) → listing_in_node slot ≡ Some x → (out' ≡ Some b) × (x.prio < 4) × IsGroup r.groups x.group)
      → IsSound (with_node r b slot) out' lists
  changed_sound lists out out' h lt off old new own =
      let r' = with_node r b slot in
      let spot_off : (i : ℕ) (s : Spot) → AtSpot (listings_of r) out i s → s ≢ Of b = not_b out off in
      record {
        ends = h.ends;
        count = h.count;
        room = h.room;
        rings = λ i li. other_ring (next_at r) (prev_at r) (next_at r') (prev_at r') (listings_of r) out i (list_at lists i) (h.homes i li)
            (λ s at. ap (λ l. l.next) (other_links s (spot_off i s at))) (λ s at. ap (λ l. l.prev) (other_links s (spot_off i s at))) (h.rings i li);
        homes = λ i li. each_map (IsAt (listings_of r) out i) (IsAt (listings_of r') out' i)
            (λ c at. record { listing = at.listing; listed = other_listing c (off i c at) ∙ at.listed; number = at.number; there = new c (off i c at) }) (list_at lists i) (h.homes i li);
        listed = λ c x found out_c. elim (cases_eq c.0 b.0) [
          | inl same ↦
              let cb : c ≡ b = ap (λ (m : ℕ). record { 0 = m }) same in
              let slot_is : listing_in_node slot ≡ Some x = sym (own_listing lt) ∙ ap (listing_in (listings_of r')) (sym cb) ∙ found in
              absurd (out_c (ap (λ (k : BufId). Some k) cb ∙ sym (own x slot_is).0))
          | inr other ↦
              let ne : c ≢ b = λ e. other (ap (λ (k : BufId). k.0) e) in
              h.listed c x (sym (other_listing c ne) ∙ found) (old c ne)
        ];
        prios = λ c x found. elim (cases_eq c.0 b.0) [
          | inl same ↦
              let cb : c ≡ b = ap (λ (m : ℕ). record { 0 = m }) same in
              (own x (sym (own_listing lt) ∙ ap (listing_in (listings_of r')) (sym cb) ∙ found)).1
          | inr other ↦ h.prios c x (sym (other_listing c (λ e. other (ap (λ (k : BufId). k.0) e))) ∙ found)
        ];
        groups = λ c x found. elim (cases_eq c.0 b.0) [
          | inl same ↦
              let cb : c ≡ b = ap (λ (m : ℕ). record { 0 = m }) same in
              (own x (sym (own_listing lt) ∙ ap (listing_in (listings_of r')) (sym cb) ∙ found)).2
          | inr other ↦ h.groups c x (sym (other_listing c (λ e. other (ap (λ (k : BufId). k.0) e))) ∙ found)
        ];
        blocks = λ i g li lg. block_agree (is_member (listings_of r) g) (is_member (listings_of r') g) (list_at lists i) (range_at r.ranges g i)
            (each_map (IsAt (listings_of r) out i) (λ c. is_member (listings_of r') g c ≡ is_member (listings_of r) g c)
            (λ c at. ap (λ (o : Option Listing). same_group (group_of o) (Some g)) (other_listing c (off i c at))) (list_at lists i) (h.homes i li))
            (h.blocks i g li lg);
      }
