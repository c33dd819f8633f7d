-- Each call of the LRU does to its lists what the definition does to the state's.
use Rattle.std.proofs.Common.{◌≡◌, ◌≢◌, ℕ, zero, suc, ◌<◌, Bool, true, false, List, [], ◌∷◌, length, get_or, set, map, cond, Option, Some, None, refl, sym, ap, subst, ◌∙◌, inl, inr, arith}
use Rattle.std.specs.Prelude.{◌==◌, not, slice_get, unwrap_or, option_map, option_and_then, if◌then◌else◌}
use Rattle.std.specs.List.{All}
use Rattle.std.proofs.lemmas.Bool.{cases_eq}
use Rattle.std.proofs.lemmas.List.{length-set, get_or-set_same, get_or-set_other, get_or_past}
use Rattle.ttm_base.specs.declared.Mem.{Mem}
use Rattle.ttm_base.specs.declared.BufId.{BufId}
use Rattle.lru_bulk.specs.declared.nodes.Listing.{Listing}
use Rattle.lru_bulk.specs.Lists.{Order, list_at, list_number, number_of, listing_in, listing_of, group_in, is_mate, same_group, added, removed, touched, touched_as, relisted, relisted_as, bulk_moved}
use Rattle.lru_bulk.specs.Lists as lru
use Rattle.lru_bulk.specs.Members.{AreMembersListed}
use Rattle.lru_bulk.proofs.GroupLaws.{unlike_id}
use Rattle.lru_bulk.proofs.OtherTests.{bulk_moved-same, touched-same, added-same, relisted-same}
use Rattle.journal_model.specs.declared.script.Script.{Script}
use Rattle.journal_model.specs.declared.state.Buffer.{Buffer}
use Rattle.journal_model.specs.declared.state.Reservation.{Reservation}
use Rattle.journal_model.specs.rules.State.{live_in, reservation_in}
use Rattle.journal_model.specs.rules.Commands.{decl}
use Rattle.journal_model.specs.rules.Lists as state
use Rattle.room_representation.specs.lemma_lists.Listed.{listing_as, listing_due, AreListed}
use Rattle.room_representation.proofs.lemma_lists.Due.{group_due, other_number}

-- the state's lists after a buffer was placed by its listing, or taken off for lack of one
abbrev placed_by : Script → List (List BufId) → BufId → Option Listing → List (List BufId)
placed_by script lists b None = state.taken_off lists b
placed_by script lists b (Some y) =
    set (state.taken_off lists b) (number_of y) (state.placed_in (state.is_mate script b) b (list_at (state.taken_off lists b) (number_of y)))

list_is : (lists : List (List BufId)) (i : ℕ) → unwrap_or (slice_get lists i) [] ≡ list_at lists i
list_is [] i = refl
list_is (l ∷ lists) zero = refl
list_is (l ∷ lists) (suc i) = list_is lists i

listed_as_placed : (script : Script) (lists : List (List BufId)) (b : BufId) (g : Reservation) (o : Option Buffer) → state.listed_as script lists b g o ≡ placed_by script lists b (listing_as script b g.pins o)
listed_as_placed script lists b g None = refl
listed_as_placed script lists b g (Some x) = by (g.pins == 0)
  where
    by : (q : Bool) → (if q then state.put_on script (state.taken_off lists b) b x.mem else state.taken_off lists b)
        ≡ placed_by script lists b (if q then Some (record { mem = x.mem; prio = (decl script b).prio; group = (decl script b).group }) else None)
    by true =
        let i = list_number x.mem (decl script b).prio in
        ap (λ (l : List BufId). set (state.taken_off lists b) i (state.placed_in (state.is_mate script b) b l)) (list_is (state.taken_off lists b) i)
    by false = refl

-- ---- the tests agree

module _ (script : Script) (buffers : List (Option Buffer)) (reservations : List Reservation) (lists : List (List BufId)) (o : Order) (representation : AreListed script buffers reservations lists o) where
  declared_group : (c : BufId) (y : Listing) → listing_of o c ≡ Some y → y.group ≡ (decl script c).group
  declared_group c y found = group_due script c (reservation_in reservations c).pins (live_in buffers c) y (sym (representation.listings_are c) ∙ found)

  module _ (members : AreMembersListed o) where
    groups_agree : (grp : Option ℕ) (b : BufId) (i : ℕ) → grp ≡ (decl script b).group → All (λ c. same_group grp (group_in o.listings c) ≡ state.is_mate script b c) (list_at o.lists i)
    groups_agree grp b i e = λ k d lt.
        let c = get_or (list_at o.lists i) k d in
        let at = members i k d lt in
        ap (same_group grp) (ap (option_and_then (λ (y : Listing). y.group)) at.listed ∙ declared_group c at.listing at.listed)
        ∙ ap (λ (p : Option ℕ). same_group p (decl script c).group) e

    mates_agree : (b : BufId) (x : Listing) (i : ℕ) → listing_of o b ≡ Some x → All (λ c. is_mate o.listings b c ≡ state.is_mate script b c) (list_at o.lists i)
    mates_agree b x i found = groups_agree (group_in o.listings b) b i (ap (option_and_then (λ (y : Listing). y.group)) found ∙ declared_group b x found)

    members_agree : (group i : ℕ) → All (λ c. lru.is_member o.listings group c ≡ state.is_member script group c) (list_at o.lists i)
    members_agree group i = λ k d lt.
        let c = get_or (list_at o.lists i) k d in
        let at = members i k d lt in
        ap (λ (p : Option ℕ). same_group p (Some group)) (ap (option_and_then (λ (y : Listing). y.group)) at.listed ∙ declared_group c at.listing at.listed)

-- ---- what isn't listed is on no list

filter_kept : (b : BufId) (l : List BufId) → All (λ c. (b.0 == c.0) ≡ false) l → lru.without_buffer l b ≡ l
filter_kept b [] h = refl
filter_kept b (c ∷ l) h =
    ap (λ (q : Bool). cond (not q) (c ∷ lru.without_buffer l b) (lru.without_buffer l b)) (h 0 c (omega arith))
    ∙ ap (λ (m : List BufId). c ∷ m) (filter_kept b l (λ k d lt. h (suc k) d (omega arith)))

all_kept : (b : BufId) (lists : List (List BufId)) → ((i : ℕ) → lru.without_buffer (list_at lists i) b ≡ list_at lists i) → lru.taken_off lists b ≡ lists
all_kept b [] h = refl
all_kept b (l ∷ lists) h =
    ap (λ (m : List BufId). m ∷ lru.taken_off lists b) (h 0)
    ∙ ap (λ (m : List (List BufId)). l ∷ m) (all_kept b lists (λ i. h (suc i)))

pub taken_off_unlisted : (o : Order) (b : BufId) → AreMembersListed o → listing_of o b ≡ None → lru.taken_off o.lists b ≡ o.lists
taken_off_unlisted o b members none = all_kept b o.lists (λ i. filter_kept b (list_at o.lists i) (λ k d lt.
    let at = members i k d lt in
    unlike_id b (get_or (list_at o.lists i) k d) (λ e. let f : None ≡ Some at.listing = sym none ∙ ap (listing_of o) e ∙ at.listed in cc)))

within : (l : List (Option Listing)) (i : ℕ) (x : Listing) → get_or l i None ≡ Some x → i < length l
within l i x h = grind (arith, get_or_past)

-- ---- calls on one buffer, where all others are to be listed as before

module _ (script : Script) (buffers new_buffers : List (Option Buffer)) (reservations new_reservations : List Reservation) (lists : List (List BufId)) (o : Order) (b : BufId)
    (representation : AreListed script buffers reservations lists o) (members : AreMembersListed o) (room : length new_buffers ≡ length buffers)
    (others : (c : BufId) → c ≢ b → listing_due script new_buffers new_reservations c ≡ listing_due script buffers reservations c) where
  touched_lists : (y : Option Listing) → listing_due script new_buffers new_reservations b ≡ y → placed_by script lists b y ≡ state.touched script new_buffers new_reservations lists b
  touched_lists y due = sym (listed_as_placed script lists b (reservation_in new_reservations b) (live_in new_buffers b) ∙ ap (placed_by script lists b) due)

  all_due : (listings : List (Option Listing)) → listing_in listings b ≡ listing_due script new_buffers new_reservations b → ((c : BufId) → c ≢ b → listing_in listings c ≡ listing_of o c)
      → (c : BufId) → listing_in listings c ≡ listing_due script new_buffers new_reservations c
  all_due listings here kept c =
      elim (cases_eq c.0 b.0) [
        | inl same ↦
            let e : c ≡ b = ap (λ (n : ℕ). let m : BufId = record { 0 = n } in m) same in
            ap (listing_in listings) e ∙ here ∙ ap (listing_due script new_buffers new_reservations) (sym e)
        | inr ne ↦
            let other : c ≢ b = λ e. ne (ap (λ (m : BufId). m.0) e) in
            kept c other ∙ representation.listings_are c ∙ sym (others c other)
      ]

  -- a buffer that isn't listed, and is not to be
  unlisted_kept : listing_of o b ≡ None → listing_due script new_buffers new_reservations b ≡ None
      → AreListed script new_buffers new_reservations (state.touched script new_buffers new_reservations lists b) o
  unlisted_kept none due = record {
    lists_are = sym (taken_off_unlisted o b members none) ∙ ap (λ (l : List (List BufId)). state.taken_off l b) representation.lists_are ∙ touched_lists None due;
    listings_are = all_due o.listings (none ∙ sym due) (λ c ne. refl);
    room_is = representation.room_is ∙ sym room;
    groups_are = representation.groups_are;
  }

  touched_some : (x : Listing) → listing_of o b ≡ Some x → listing_due script new_buffers new_reservations b ≡ Some x
      → AreListed script new_buffers new_reservations (state.touched script new_buffers new_reservations lists b) (touched_as o b (Some x))
  touched_some x found due = record {
    lists_are = sym (ap (λ (y : Option Listing). (touched_as o b y).lists) found)
        ∙ touched-same (state.is_mate script b) o b x found (mates_agree script buffers reservations lists o representation members b x (number_of x) found)
        ∙ ap (λ (l : List (List BufId)). placed_by script l b (Some x)) representation.lists_are ∙ touched_lists (Some x) due;
    listings_are = all_due o.listings (found ∙ sym due) (λ c ne. refl);
    room_is = representation.room_is ∙ sym room;
    groups_are = representation.groups_are;
  }

  -- a buffer that is to be listed as before is touched. Where it isn't listed, nothing is to be done
  pub touched_representation : listing_due script new_buffers new_reservations b ≡ listing_due script buffers reservations b
      → AreListed script new_buffers new_reservations (state.touched script new_buffers new_reservations lists b) (touched o b)
  touched_representation same = by (listing_of o b) refl
    where
      by : (y : Option Listing) → listing_of o b ≡ y → AreListed script new_buffers new_reservations (state.touched script new_buffers new_reservations lists b) (touched_as o b y)
      by None e = unlisted_kept e (same ∙ sym (representation.listings_are b) ∙ e)
      by (Some x) e = touched_some x e (same ∙ sym (representation.listings_are b) ∙ e)

  relisted_some : (mem : Mem) (x : Listing) → listing_of o b ≡ Some x → listing_due script new_buffers new_reservations b ≡ Some (record x { mem = mem })
      → AreListed script new_buffers new_reservations (state.touched script new_buffers new_reservations lists b) (relisted_as o b mem (Some x))
  relisted_some mem x found due =
      let y : Listing = record x { mem = mem } in
      let off = set o.listings b.0 None in
      let on = set off b.0 (Some y) in
      let lt : b.0 < length o.listings = within o.listings b.0 x found in
      let lt_off : b.0 < length off = subst (λ n. b.0 < n) (sym (length-set o.listings b.0 None)) lt in
      record {
        lists_are = sym (ap (λ (z : Option Listing). (relisted_as o b mem z).lists) found)
            ∙ relisted-same (state.is_mate script b) o b mem x found (mates_agree script buffers reservations lists o representation members b x (number_of y) found)
            ∙ ap (λ (l : List (List BufId)). placed_by script l b (Some y)) representation.lists_are ∙ touched_lists (Some y) due;
        listings_are = all_due on (get_or-set_same off b.0 (Some y) None lt_off ∙ sym due)
            (λ c ne. get_or-set_other off b.0 c.0 (Some y) None (other_number b c ne) ∙ get_or-set_other o.listings b.0 c.0 None None (other_number b c ne));
        room_is = length-set off b.0 (Some y) ∙ length-set o.listings b.0 None ∙ representation.room_is ∙ sym room;
        groups_are = representation.groups_are;
      }

  -- a buffer that is to be listed for another memory type alone is relisted. Where it isn't listed, nothing is to be done
  pub relisted_representation : (mem : Mem) → listing_due script new_buffers new_reservations b ≡ option_map (λ (x : Listing). record x { mem = mem }) (listing_due script buffers reservations b)
      → AreListed script new_buffers new_reservations (state.touched script new_buffers new_reservations lists b) (relisted o b mem)
  relisted_representation mem moved = by (listing_of o b) refl
    where
      due_as : (y : Option Listing) → listing_of o b ≡ y → listing_due script new_buffers new_reservations b ≡ option_map (λ (x : Listing). record x { mem = mem }) y
      due_as y e = moved ∙ ap (option_map (λ (x : Listing). record x { mem = mem })) (sym (representation.listings_are b) ∙ e)

      by : (y : Option Listing) → listing_of o b ≡ y → AreListed script new_buffers new_reservations (state.touched script new_buffers new_reservations lists b) (relisted_as o b mem y)
      by None e = unlisted_kept e (due_as None e)
      by (Some x) e = relisted_some mem x e (due_as (Some x) e)

  -- a buffer that wasn't listed is to be: it is added
  pub added_representation : (y : Listing) → listing_due script buffers reservations b ≡ None → listing_due script new_buffers new_reservations b ≡ Some y → b.0 < length buffers
      → AreListed script new_buffers new_reservations (state.touched script new_buffers new_reservations lists b) (added o b y)
  added_representation y old due below =
      let none : listing_of o b ≡ None = representation.listings_are b ∙ old in
      let lt : b.0 < length o.listings = subst (λ n. b.0 < n) (sym representation.room_is) below in
      let group : y.group ≡ (decl script b).group = group_due script b (reservation_in new_reservations b).pins (live_in new_buffers b) y due in
      record {
        lists_are = added-same (state.is_mate script b) o b y members none lt (groups_agree script buffers reservations lists o representation members y.group b (number_of y) group)
            ∙ ap (λ (l : List (List BufId)). set l (number_of y) (state.placed_in (state.is_mate script b) b (list_at l (number_of y)))) (sym (taken_off_unlisted o b members none))
            ∙ ap (λ (l : List (List BufId)). placed_by script l b (Some y)) representation.lists_are ∙ touched_lists (Some y) due;
        listings_are = all_due (set o.listings b.0 (Some y)) (get_or-set_same o.listings b.0 (Some y) None lt ∙ sym due) (λ c ne. get_or-set_other o.listings b.0 c.0 (Some y) None (other_number b c ne));
        room_is = length-set o.listings b.0 (Some y) ∙ representation.room_is ∙ sym room;
        groups_are = representation.groups_are;
      }

  -- a listed buffer is not to be listed any more: it is removed
  pub removed_representation : (x : Listing) → listing_due script buffers reservations b ≡ Some x → listing_due script new_buffers new_reservations b ≡ None
      → AreListed script new_buffers new_reservations (state.touched script new_buffers new_reservations lists b) (removed o b)
  removed_representation x old due =
      let lt : b.0 < length o.listings = within o.listings b.0 x (representation.listings_are b ∙ old) in
      record {
        lists_are = ap (λ (l : List (List BufId)). state.taken_off l b) representation.lists_are ∙ touched_lists None due;
        listings_are = all_due (set o.listings b.0 None) (get_or-set_same o.listings b.0 None None lt ∙ sym due) (λ c ne. get_or-set_other o.listings b.0 c.0 None None (other_number b c ne));
        room_is = length-set o.listings b.0 None ∙ representation.room_is ∙ sym room;
        groups_are = representation.groups_are;
      }

  -- a buffer that isn't listed and is not to be: nothing is to be done
  pub untouched_representation : listing_due script buffers reservations b ≡ None → listing_due script new_buffers new_reservations b ≡ None
      → AreListed script new_buffers new_reservations (state.touched script new_buffers new_reservations lists b) o
  untouched_representation old due = unlisted_kept (representation.listings_are b ∙ old) due

-- ---- calls on all lists, and changes that the lists don't see

pub bulk_representation : (script : Script) (buffers : List (Option Buffer)) (reservations : List Reservation) (lists : List (List BufId)) (o : Order) (group : ℕ)
    → AreListed script buffers reservations lists o → AreMembersListed o → AreListed script buffers reservations (map (state.members_last (state.is_member script group)) lists) (bulk_moved o group)
bulk_representation script buffers reservations lists o group representation members = record {
  lists_are = bulk_moved-same (state.is_member script group) o group (members_agree script buffers reservations lists o representation members group)
      ∙ ap (map (state.members_last (state.is_member script group))) representation.lists_are;
  listings_are = representation.listings_are;
  room_is = representation.room_is;
  groups_are = representation.groups_are;
}

pub unseen_representation : (script : Script) (buffers new_buffers : List (Option Buffer)) (reservations new_reservations : List Reservation) (lists : List (List BufId)) (o : Order)
    → length new_buffers ≡ length buffers → ((c : BufId) → listing_due script new_buffers new_reservations c ≡ listing_due script buffers reservations c)
    → AreListed script buffers reservations lists o → AreListed script new_buffers new_reservations lists o
unseen_representation script buffers new_buffers reservations new_reservations lists o room same representation = record {
  lists_are = representation.lists_are;
  listings_are = λ c. representation.listings_are c ∙ sym (same c);
  room_is = representation.room_is ∙ sym room;
  groups_are = representation.groups_are;
}
