-- How buffers are to be listed: what is declared of them, and what a change of a buffer or of its pins leaves as it is.
use Rattle.std.proofs.Common.{◌≡◌, ◌≢◌, ℕ, zero, suc, Bool, true, false, List, [], ◌∷◌, Option, Some, None, refl, sym, ap, ◌∙◌, inl, inr}
use Rattle.std.specs.Prelude.{◌==◌, slice_get, slice_set, option_map, option_and_then, unwrap_or, if◌then◌else◌}
use Rattle.std.proofs.lemmas.Bool.{cases_eq}
use Rattle.ttm_base.specs.declared.Mem.{Mem}
use Rattle.ttm_base.specs.declared.BufId.{BufId}
use Rattle.lru_bulk.specs.declared.nodes.Listing.{Listing}
use Rattle.journal_model.specs.declared.script.Script.{Script}
use Rattle.journal_model.specs.declared.state.Buffer.{Buffer}
use Rattle.journal_model.specs.declared.state.Reservation.{Reservation}
use Rattle.journal_model.specs.rules.State.{live_in, reservation_in, no_reservation, changed, reservation_changed}
use Rattle.journal_model.specs.rules.Commands.{decl}
use Rattle.room_representation.specs.lemma_lists.Listed.{listing_as, listing_due}

-- a listing has the group that is declared
pub group_due : (script : Script) (b : BufId) (pins : ℕ) (o : Option Buffer) (y : Listing) → listing_as script b pins o ≡ Some y → y.group ≡ (decl script b).group
group_due script b pins None y e = absurd (let f : None ≡ Some y = e in cc)
group_due script b pins (Some x) y e = by (pins == 0) e
  where
    by : (q : Bool) → (if q then Some (record { mem = x.mem; prio = (decl script b).prio; group = (decl script b).group }) else None) ≡ Some y → y.group ≡ (decl script b).group
    by true k =
        let z : Listing = record { mem = x.mem; prio = (decl script b).prio; group = (decl script b).group } in
        let f : z ≡ y = let g : Some z ≡ Some y = k in cc in
        sym (ap (λ (w : Listing). w.group) f)
    by false k = absurd (let f : None ≡ Some y = k in cc)

-- for another memory type alone the listing is of that
pub listing_as_moved : (script : Script) (b : BufId) (pins : ℕ) (mem : Mem) (x y : Buffer) → y.mem ≡ mem → option_map (λ (z : Listing). record z { mem = mem }) (listing_as script b pins (Some x)) ≡ listing_as script b pins (Some y)
listing_as_moved script b pins mem x y e = by (pins == 0)
  where
    by : (q : Bool) → option_map (λ (z : Listing). record z { mem = mem }) (if q then Some (record { mem = x.mem; prio = (decl script b).prio; group = (decl script b).group }) else None)
        ≡ (if q then Some (record { mem = y.mem; prio = (decl script b).prio; group = (decl script b).group }) else None)
    by true = ap (λ (m : Mem). Some (let z : Listing = record { mem = m; prio = (decl script b).prio; group = (decl script b).group } in z)) (sym e)
    by false = refl

pub other_number : (b c : BufId) → c ≢ b → c.0 ≢ b.0
other_number b c ne e = ne (ap (λ (n : ℕ). let m : BufId = record { 0 = n } in m) e)

-- elements of lists
get_set_other : {X : Type 0} (xs : List X) (i j : ℕ) (v : X) → j ≢ i → slice_get (slice_set xs i v) j ≡ slice_get xs j
get_set_other [] i j v ne = refl
get_set_other (x ∷ xs) zero zero v ne = absurd (ne refl)
get_set_other (x ∷ xs) zero (suc j) v ne = refl
get_set_other (x ∷ xs) (suc i) zero v ne = refl
get_set_other (x ∷ xs) (suc i) (suc j) v ne = get_set_other xs i j v (λ e. ne (ap suc e))

-- another buffer is as it was
pub live_other : (buffers : List (Option Buffer)) (b c : BufId) (o : Option Buffer) → c ≢ b → live_in (slice_set buffers b.0 o) c ≡ live_in buffers c
live_other buffers b c o ne = ap (option_and_then (λ (x : Option Buffer). x)) (get_set_other buffers b.0 c.0 o (other_number b c ne))

pub reservation_other : (reservations : List Reservation) (b c : BufId) (g : Reservation) → c ≢ b → reservation_in (slice_set reservations b.0 g) c ≡ reservation_in reservations c
reservation_other reservations b c g ne = ap (λ (o : Option Reservation). unwrap_or o no_reservation) (get_set_other reservations b.0 c.0 g (other_number b c ne))

pub due_other : (script : Script) (buffers : List (Option Buffer)) (reservations : List Reservation) (b c : BufId) (o : Option Buffer) (g : Reservation) → c ≢ b
    → listing_due script (slice_set buffers b.0 o) (slice_set reservations b.0 g) c ≡ listing_due script buffers reservations c
due_other script buffers reservations b c o g ne =
    ap (λ (x : Option Buffer). listing_as script c (reservation_in (slice_set reservations b.0 g) c).pins x) (live_other buffers b c o ne)
    ∙ ap (λ (h : Reservation). listing_as script c h.pins (live_in buffers c)) (reservation_other reservations b c g ne)

-- the buffer itself, if it is live, is the changed one
changed_at : (f : Buffer → Buffer) (buffers : List (Option Buffer)) (i : ℕ) → option_and_then (λ x. x) (slice_get (slice_set buffers i (option_map f (option_and_then (λ x. x) (slice_get buffers i)))) i) ≡ option_map f (option_and_then (λ x. x) (slice_get buffers i))
changed_at f [] i = refl
changed_at f (x ∷ buffers) zero = refl
changed_at f (x ∷ buffers) (suc i) = changed_at f buffers i

pub changed_here : (f : Buffer → Buffer) (buffers : List (Option Buffer)) (b : BufId) → live_in (changed f buffers b) b ≡ option_map f (live_in buffers b)
changed_here f buffers b = changed_at f buffers b.0

-- what keeps the memory type keeps the listing
kept_mem : (script : Script) (f : Buffer → Buffer) (b : BufId) (pins : ℕ) (o : Option Buffer) → ((x : Buffer) → (f x).mem ≡ x.mem) → listing_as script b pins (option_map f o) ≡ listing_as script b pins o
kept_mem script f b pins None k = refl
kept_mem script f b pins (Some x) k = ap (λ (m : Mem). listing_as script b pins (Some (let y : Buffer = record x { mem = m } in y))) (k x)

pub changed_due : (script : Script) (f : Buffer → Buffer) (buffers : List (Option Buffer)) (reservations : List Reservation) (b : BufId) → ((x : Buffer) → (f x).mem ≡ x.mem)
    → (c : BufId) → listing_due script (changed f buffers b) reservations c ≡ listing_due script buffers reservations c
changed_due script f buffers reservations b k c =
    elim (cases_eq c.0 b.0) [
      | inl same ↦
          let e : c ≡ b = ap (λ (n : ℕ). let m : BufId = record { 0 = n } in m) same in
          let here : listing_due script (changed f buffers b) reservations b ≡ listing_due script buffers reservations b =
          ap (listing_as script b (reservation_in reservations b).pins) (changed_here f buffers b) ∙ kept_mem script f b (reservation_in reservations b).pins (live_in buffers b) k in
          ap (listing_due script (changed f buffers b) reservations) e ∙ here ∙ ap (listing_due script buffers reservations) (sym e)
      | inr ne ↦ ap (listing_as script c (reservation_in reservations c).pins) (live_other buffers b c (option_map f (live_in buffers b)) (λ e. ne (ap (λ (m : BufId). m.0) e)))
    ]

-- what keeps the pins keeps the listing
reservation_changed_at : (f : Reservation → Reservation) (reservations : List Reservation) (i : ℕ) → ((g : Reservation) → (f g).pins ≡ g.pins)
    → (unwrap_or (slice_get (slice_set reservations i (f (unwrap_or (slice_get reservations i) no_reservation))) i) no_reservation).pins ≡ (unwrap_or (slice_get reservations i) no_reservation).pins
reservation_changed_at f [] i k = refl
reservation_changed_at f (g ∷ reservations) zero k = k g
reservation_changed_at f (g ∷ reservations) (suc i) k = reservation_changed_at f reservations i k

pub reservation_changed_due : (script : Script) (f : Reservation → Reservation) (buffers : List (Option Buffer)) (reservations : List Reservation) (b : BufId) → ((g : Reservation) → (f g).pins ≡ g.pins)
    → (c : BufId) → listing_due script buffers (reservation_changed f reservations b) c ≡ listing_due script buffers reservations c
reservation_changed_due script f buffers reservations b k c =
    elim (cases_eq c.0 b.0) [
      | inl same ↦
          let e : c ≡ b = ap (λ (n : ℕ). let m : BufId = record { 0 = n } in m) same in
          let here : listing_due script buffers (reservation_changed f reservations b) b ≡ listing_due script buffers reservations b =
          ap (λ (p : ℕ). listing_as script b p (live_in buffers b)) (reservation_changed_at f reservations b.0 k) in
          ap (listing_due script buffers (reservation_changed f reservations b)) e ∙ here ∙ ap (listing_due script buffers reservations) (sym e)
      | inr ne ↦ ap (λ (h : Reservation). listing_as script c h.pins (live_in buffers c)) (reservation_other reservations b c (f (reservation_in reservations b)) (λ e. ne (ap (λ (m : BufId). m.0) e)))
    ]
