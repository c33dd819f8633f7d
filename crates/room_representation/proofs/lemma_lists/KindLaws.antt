-- What each kind of entry does to the lists, and which call of the LRU follows it.
use Rattle.std.proofs.Common.{◌≡◌, ◌≢◌, ℕ, zero, suc, ◌+◌, ◌<◌, Bool, false, List, [], ◌∷◌, length, Option, Some, None, refl, sym, ap, subst, ◌∙◌, arith}
use Rattle.std.specs.Prelude.{◌==◌, slice_get, slice_set, option_map, option_and_then, unwrap_or, if◌then◌else◌}
use Rattle.std.proofs.lemmas.Bool.Decides.{nat_tests}
use Rattle.std.proofs.lemmas.List.{length-set}
use Rattle.ttm_base.specs.declared.Mem.{Mem}
use Rattle.ttm_base.specs.declared.Mem.TheVariants.{System, Tt}
use Rattle.ttm_base.specs.declared.BufId.{BufId}
use Rattle.ttm_base.specs.declared.JobId.{JobId}
use Rattle.lru_bulk.specs.declared.nodes.Listing.{Listing}
use Rattle.lru_bulk.specs.Lists.{Order, added, removed, touched, relisted, bulk_moved}
use Rattle.lru_bulk.specs.Members.{AreMembersListed}
use Rattle.journal_model.specs.declared.script.Script.{Script}
use Rattle.journal_model.specs.declared.entry.Left.{Left}
use Rattle.journal_model.specs.declared.state.State.{State}
use Rattle.journal_model.specs.declared.state.Buffer.{Buffer}
use Rattle.journal_model.specs.declared.state.Reservation.{Reservation}
use Rattle.journal_model.specs.rules.State.{live_in, reservation_in, no_reservation, new_buffer, changed, reservation_changed}
use Rattle.journal_model.specs.rules.Commands.{decl}
use Rattle.journal_model.specs.rules.Lists as state
use Rattle.journal_model.specs.rules.ApplyCommands.{with_holder, released, after_new, after_free, after_bulk, pinned_more, pinned_less}
use Rattle.journal_model.specs.rules.ApplyPages.{bound, unbound, after_bind, after_unbind}
use Rattle.journal_model.specs.rules.ApplyMoves.{moved, after_move_job}
use Rattle.journal_model.specs.rules.ApplyVictims.{after_loose}
use Rattle.room_representation.specs.lemma_lists.Listed.{listing_as, listing_due, AreListed, HasLists}
use Rattle.room_representation.proofs.lemma_lists.Due.{listing_as_moved, live_other, reservation_other, due_other, changed_here, changed_due, reservation_changed_due}
use Rattle.room_representation.proofs.lemma_lists.Represents.{touched_representation, relisted_representation, added_representation, removed_representation, untouched_representation, bulk_representation, unseen_representation}

-- ---- entries that the lists don't see

pub changed_unseen : (script : Script) (f : Buffer → Buffer) (buffers : List (Option Buffer)) (reservations : List Reservation) (lists : List (List BufId)) (o : Order) (b : BufId)
    → ((x : Buffer) → (f x).mem ≡ x.mem) → AreListed script buffers reservations lists o → AreListed script (changed f buffers b) reservations lists o
changed_unseen script f buffers reservations lists o b kept representation =
    unseen_representation script buffers (changed f buffers b) reservations reservations lists o (length-set buffers b.0 (option_map f (live_in buffers b))) (changed_due script f buffers reservations b kept) representation

pub reservation_changed_unseen : (script : Script) (f : Reservation → Reservation) (buffers : List (Option Buffer)) (reservations : List Reservation) (lists : List (List BufId)) (o : Order) (b : BufId)
    → ((g : Reservation) → (f g).pins ≡ g.pins) → AreListed script buffers reservations lists o → AreListed script buffers (reservation_changed f reservations b) lists o
reservation_changed_unseen script f buffers reservations lists o b kept representation = unseen_representation script buffers buffers reservations (reservation_changed f reservations b) lists o refl (reservation_changed_due script f buffers reservations b kept) representation

pub released_unseen : (script : Script) (buffers : List (Option Buffer)) (reservations : List Reservation) (lists : List (List BufId)) (o : Order) (bs : List BufId)
    → AreListed script buffers reservations lists o → AreListed script buffers (released reservations bs) lists o
released_unseen script buffers reservations lists o [] representation = representation
released_unseen script buffers reservations lists o (b ∷ bs) representation =
    released_unseen script buffers (reservation_changed (with_holder None) reservations b) lists o bs (reservation_changed_unseen script (with_holder None) buffers reservations lists o b (λ g. refl) representation)

-- ---- a buffer goes to another memory type

module _ (script : Script) (buffers : List (Option Buffer)) (reservations : List Reservation) (lists : List (List BufId)) (o : Order) (b : BufId)
    (representation : AreListed script buffers reservations lists o) (members : AreMembersListed o) where
  pub carried_lists : (f : Buffer → Buffer) (mem : Mem) (x : Buffer) → live_in buffers b ≡ Some x → (f x).mem ≡ mem
      → AreListed script (changed f buffers b) reservations (state.touched script (changed f buffers b) reservations lists b) (relisted o b mem)
  carried_lists f mem x live goes =
      let now : live_in (changed f buffers b) b ≡ Some (f x) = changed_here f buffers b ∙ ap (option_map f) live in
      let pins = (reservation_in reservations b).pins in
      relisted_representation script buffers (changed f buffers b) reservations reservations lists o b representation members (length-set buffers b.0 (option_map f (live_in buffers b)))
      (λ c ne. ap (listing_as script c (reservation_in reservations c).pins) (live_other buffers b c (option_map f (live_in buffers b)) ne))
      mem
      (ap (listing_as script b pins) now ∙ sym (listing_as_moved script b pins mem x (f x) goes)
      ∙ ap (λ (y : Option Buffer). option_map (λ (z : Listing). record z { mem = mem }) (listing_as script b pins y)) (sym live))

  -- touched with nothing changed: one after another, the buffers of an answer
  pub touched_again : AreListed script buffers reservations (state.touched script buffers reservations lists b) (touched o b)
  touched_again = touched_representation script buffers buffers reservations reservations lists o b representation members refl (λ c ne. refl) refl

module _ (script : Script) (s : State) (o : Order) (b : BufId) (representation : HasLists script s o) (members : AreMembersListed o) where
  pub bind_lists : (x : Buffer) → live_in s.core.buffers b ≡ Some x → HasLists script (after_bind script s b) (relisted o b Tt)
  bind_lists x live = carried_lists script s.core.buffers s.reservations s.lists o b representation members bound Tt x live refl

  pub unbind_lists : (x : Buffer) → live_in s.core.buffers b ≡ Some x → HasLists script (after_unbind script s b) (relisted o b System)
  unbind_lists x live = carried_lists script s.core.buffers s.reservations s.lists o b representation members unbound System x live refl

  pub move_lists : (mem : Mem) (job : JobId) (l : Left) (x : Buffer) → live_in s.core.buffers b ≡ Some x → HasLists script (after_move_job script s b mem job l) (relisted o b mem)
  move_lists mem job l x live = carried_lists script s.core.buffers s.reservations s.lists o b representation members (moved mem job) mem x live refl

  -- a victim is let go
  pub loose_lists : (t : ℕ) → HasLists script (after_loose script s t b) (touched o b)
  loose_lists t =
      touched_representation script s.core.buffers s.core.buffers s.reservations (reservation_changed (with_holder None) s.reservations b) s.lists o b representation members refl
      (λ c ne. reservation_changed_due script (with_holder None) s.core.buffers s.reservations b (λ g. refl) c)
      (reservation_changed_due script (with_holder None) s.core.buffers s.reservations b (λ g. refl) b)

  pub bulk_lists : (t group : ℕ) → HasLists script (after_bulk script s t group) (bulk_moved o group)
  bulk_lists t group = bulk_representation script s.core.buffers s.reservations s.lists o group representation members

-- ---- made and freed

set_here : (buffers : List (Option Buffer)) (i : ℕ) (o : Option Buffer) → i < length buffers → option_and_then (λ x. x) (slice_get (slice_set buffers i o) i) ≡ o
set_here [] i o h = absurd (omega arith)
set_here (x ∷ buffers) zero o h = refl
set_here (x ∷ buffers) (suc i) o h = set_here buffers i o (omega arith)

killed_here : (buffers : List (Option Buffer)) (i : ℕ) → option_and_then (λ x. x) (slice_get (slice_set buffers i None) i) ≡ None
killed_here [] i = refl
killed_here (x ∷ buffers) zero = refl
killed_here (x ∷ buffers) (suc i) = killed_here buffers i

no_reservation_here : (reservations : List Reservation) (i : ℕ) → unwrap_or (slice_get (slice_set reservations i no_reservation) i) no_reservation ≡ no_reservation
no_reservation_here [] i = refl
no_reservation_here (g ∷ reservations) zero = refl
no_reservation_here (g ∷ reservations) (suc i) = no_reservation_here reservations i

module _ (script : Script) (s : State) (o : Order) (t : ℕ) (b : BufId) (representation : HasLists script s o) (members : AreMembersListed o) where
  pub new_lists : live_in s.core.buffers b ≡ None → b.0 < length s.core.buffers
      → HasLists script (after_new script s t b) (added o b (record { mem = System; prio = (decl script b).prio; group = (decl script b).group }))
  new_lists dead below =
      let x = new_buffer (decl script b).pages in
      let buffers = slice_set s.core.buffers b.0 (Some x) in
      let reservations = slice_set s.reservations b.0 no_reservation in
      let live : live_in buffers b ≡ Some x = set_here s.core.buffers b.0 (Some x) below in
      let loose : reservation_in reservations b ≡ no_reservation = no_reservation_here s.reservations b.0 in
      let y : Listing = record { mem = System; prio = (decl script b).prio; group = (decl script b).group } in
      let due : listing_due script buffers reservations b ≡ Some y =
      ap (λ (g : Reservation). listing_as script b g.pins (live_in buffers b)) loose ∙ ap (listing_as script b 0) live in
      let lists : state.touched script buffers reservations s.lists b ≡ state.listed_as script s.lists b no_reservation (Some x) =
      ap (λ (g : Reservation). state.listed_as script s.lists b g (live_in buffers b)) loose ∙ ap (state.listed_as script s.lists b no_reservation) live in
      subst (λ (l : List (List BufId)). AreListed script buffers reservations l (added o b y)) lists
      (added_representation script s.core.buffers buffers s.reservations reservations s.lists o b representation members (length-set s.core.buffers b.0 (Some x))
      (λ c ne. due_other script s.core.buffers s.reservations b c (Some x) no_reservation ne) y
      (ap (listing_as script b (reservation_in s.reservations b).pins) dead) due below)

  freed_due : listing_due script (slice_set s.core.buffers b.0 None) (slice_set s.reservations b.0 no_reservation) b ≡ None
  freed_due = ap (listing_as script b (reservation_in (slice_set s.reservations b.0 no_reservation) b).pins) (killed_here s.core.buffers b.0)

  freed_lists : state.touched script (slice_set s.core.buffers b.0 None) (slice_set s.reservations b.0 no_reservation) s.lists b ≡ state.taken_off s.lists b
  freed_lists = ap (state.listed_as script s.lists b (reservation_in (slice_set s.reservations b.0 no_reservation) b)) (killed_here s.core.buffers b.0)

  -- of a listed buffer
  pub free_lists : (g : ℕ) (x : Listing) → listing_due script s.core.buffers s.reservations b ≡ Some x → HasLists script (after_free s t b g) (removed o b)
  free_lists g x old =
      subst (λ (l : List (List BufId)). AreListed script (slice_set s.core.buffers b.0 None) (slice_set s.reservations b.0 no_reservation) l (removed o b)) freed_lists
      (removed_representation script s.core.buffers (slice_set s.core.buffers b.0 None) s.reservations (slice_set s.reservations b.0 no_reservation) s.lists o b representation members (length-set s.core.buffers b.0 None)
      (λ c ne. due_other script s.core.buffers s.reservations b c None no_reservation ne) x old freed_due)

  -- of one that isn't listed
  pub free_unlisted : (g : ℕ) → listing_due script s.core.buffers s.reservations b ≡ None → HasLists script (after_free s t b g) o
  free_unlisted g old =
      subst (λ (l : List (List BufId)). AreListed script (slice_set s.core.buffers b.0 None) (slice_set s.reservations b.0 no_reservation) l o) freed_lists
      (untouched_representation script s.core.buffers (slice_set s.core.buffers b.0 None) s.reservations (slice_set s.reservations b.0 no_reservation) s.lists o b representation members (length-set s.core.buffers b.0 None)
      (λ c ne. due_other script s.core.buffers s.reservations b c None no_reservation ne) old freed_due)

-- ---- pinned and unpinned

reservation_at : (f : Reservation → Reservation) (reservations : List Reservation) (i : ℕ) → i < length reservations → unwrap_or (slice_get (slice_set reservations i (f (unwrap_or (slice_get reservations i) no_reservation))) i) no_reservation ≡ f (unwrap_or (slice_get reservations i) no_reservation)
reservation_at f [] i h = absurd (omega arith)
reservation_at f (g ∷ reservations) zero h = refl
reservation_at f (g ∷ reservations) (suc i) h = reservation_at f reservations i (omega arith)

pinned_as : (script : Script) (b : BufId) (pins : ℕ) (o : Option Buffer) → listing_as script b (pins + 1) o ≡ None
pinned_as script b pins None = refl
pinned_as script b pins (Some x) =
    let e : (pins + 1 == 0) ≡ false = grind (arith, nat_tests) in
    ap (λ (q : Bool). if q then Some (let y : Listing = record { mem = x.mem; prio = (decl script b).prio; group = (decl script b).group } in y) else None) e

module _ (script : Script) (buffers : List (Option Buffer)) (reservations : List Reservation) (lists : List (List BufId)) (o : Order) (b : BufId)
    (representation : AreListed script buffers reservations lists o) (members : AreMembersListed o) (room : b.0 < length reservations) where
  reservation_changed_other : (f : Reservation → Reservation) (c : BufId) → c ≢ b → listing_due script buffers (reservation_changed f reservations b) c ≡ listing_due script buffers reservations c
  reservation_changed_other f c ne = ap (λ (g : Reservation). listing_as script c g.pins (live_in buffers c)) (reservation_other reservations b c (f (reservation_in reservations b)) ne)

  pinned_due : listing_due script buffers (reservation_changed pinned_more reservations b) b ≡ None
  pinned_due =
      ap (λ (g : Reservation). listing_as script b g.pins (live_in buffers b)) (reservation_at pinned_more reservations b.0 room)
      ∙ pinned_as script b (reservation_in reservations b).pins (live_in buffers b)

  -- the first pin of a buffer takes it off its list
  pub pinned_lists : (x : Listing) → listing_due script buffers reservations b ≡ Some x
      → AreListed script buffers (reservation_changed pinned_more reservations b) (state.touched script buffers (reservation_changed pinned_more reservations b) lists b) (removed o b)
  pinned_lists x old = removed_representation script buffers buffers reservations (reservation_changed pinned_more reservations b) lists o b representation members refl (reservation_changed_other pinned_more) x old pinned_due

  -- a further pin does nothing
  pub pinned_again : listing_due script buffers reservations b ≡ None
      → AreListed script buffers (reservation_changed pinned_more reservations b) (state.touched script buffers (reservation_changed pinned_more reservations b) lists b) o
  pinned_again old = untouched_representation script buffers buffers reservations (reservation_changed pinned_more reservations b) lists o b representation members refl (reservation_changed_other pinned_more) old pinned_due

  unpinned_due : listing_due script buffers (reservation_changed pinned_less reservations b) b ≡ listing_as script b (pinned_less (reservation_in reservations b)).pins (live_in buffers b)
  unpinned_due = ap (λ (g : Reservation). listing_as script b g.pins (live_in buffers b)) (reservation_at pinned_less reservations b.0 room)

  -- the last pin of a live buffer goes: it is added
  pub unpinned_lists : (x : Buffer) → live_in buffers b ≡ Some x → (reservation_in reservations b).pins ≡ 1 → b.0 < length buffers
      → AreListed script buffers (reservation_changed pinned_less reservations b) (state.touched script buffers (reservation_changed pinned_less reservations b) lists b)
      (added o b (record { mem = x.mem; prio = (decl script b).prio; group = (decl script b).group }))
  unpinned_lists x live one below =
      let y : Listing = record { mem = x.mem; prio = (decl script b).prio; group = (decl script b).group } in
      let due : listing_due script buffers (reservation_changed pinned_less reservations b) b ≡ Some y =
      unpinned_due ∙ ap (listing_as script b (pinned_less (reservation_in reservations b)).pins) live
      ∙ ap (λ (n : ℕ). listing_as script b n (Some x)) less in
      added_representation script buffers buffers reservations (reservation_changed pinned_less reservations b) lists o b representation members refl (reservation_changed_other pinned_less) y
      (ap (λ (n : ℕ). listing_as script b n (live_in buffers b)) one ∙ ap (listing_as script b 1) live) due below
    where
      less : (pinned_less (reservation_in reservations b)).pins ≡ 0
      less = omega arith

  -- pins are left
  pub unpinned_further : (pins : ℕ) → (reservation_in reservations b).pins ≡ pins + 1 + 1
      → AreListed script buffers (reservation_changed pinned_less reservations b) (state.touched script buffers (reservation_changed pinned_less reservations b) lists b) o
  unpinned_further pins many =
      let less : (pinned_less (reservation_in reservations b)).pins ≡ pins + 1 = omega arith in
      untouched_representation script buffers buffers reservations (reservation_changed pinned_less reservations b) lists o b representation members refl (reservation_changed_other pinned_less)
      (ap (λ (n : ℕ). listing_as script b n (live_in buffers b)) many ∙ pinned_as script b (pins + 1) (live_in buffers b))
      (unpinned_due ∙ ap (λ (n : ℕ). listing_as script b n (live_in buffers b)) less ∙ pinned_as script b pins (live_in buffers b))
