-- Who keeps pages of a place, as the parts and the state tell it.
use Rattle.std.proofs.Common.{◌≡◌, ℕ, zero, suc, ◌+◌, ◌<◌, ◌≤◌, Bool, true, false, List, [], ◌∷◌, ◌++◌, Option, Some, None, IsTrue, length, take, refl, sym, ◌∙◌, ap, arith}
use Rattle.std.specs.Prelude.{◌&&◌, ◌||◌, is_some, find, filter_map, option_to_list, option_and_then, option_map, slice_get, unwrap_or, if◌then◌else◌}
use Rattle.std.specs.List.{enumerate_from, cons_option}
use Rattle.std.proofs.lemmas.Grind.{common_steps}
use Rattle.std.proofs.lemmas.Bool.Decides.{nat_tests}
use Rattle.std.proofs.lemmas.List.{length-take-le, take_all}
use Rattle.std.proofs.lemmas.List.Elements.{filter_map-append}
use Rattle.ttm_base.specs.declared.BufId.{BufId}
use Rattle.ttm_base.specs.declared.Mem.{Mem}
use Rattle.ttm_base.specs.declared.Mem.TheVariants.{System, Tt, Vram}
use Rattle.ttm_base.specs.declared.Place.{Place}
use Rattle.ttm_base.specs.declared.Span.{Span}
use Rattle.ttm_base.specs.Reach.{same_mem, intersects}
use Rattle.bo_table.specs.declared.bo.Bo.{Bo}
use Rattle.bo_table.specs.Seen.{Bos, IsBo, body_of, reservation_of}
use Rattle.bo_table.proofs.TableLaws.{get_map}
use Rattle.journal_model.specs.declared.script.Script.{Script}
use Rattle.journal_model.specs.declared.state.State.{State}
use Rattle.journal_model.specs.declared.state.Buffer.{Buffer}
use Rattle.journal_model.specs.declared.state.Reservation.{Reservation}
use Rattle.journal_model.specs.declared.state.Job.{Job}
use Rattle.journal_model.specs.declared.state.Ghost as state
use Rattle.journal_model.specs.declared.entry.CauseRow.{CauseRow}
use Rattle.journal_model.specs.rules.State.{reservation_in, has_target, no_reservation, target_of}
use Rattle.journal_model.specs.scripts.ScriptRules.{is_script}
use Rattle.journal_model.specs.rules.Holds.{live_entry}
use Rattle.journal_model.specs.rules.Holds as holds
use Rattle.journal_model.specs.rules.Dry.{cause_of, cause_row, causes}
use Rattle.room_representation.specs.declared.parts.Ghost.{Ghost}
use Rattle.room_representation.specs.Bos.{AreBos, unfenced}
use Rattle.room_representation.specs.Ghosts.{AreGhosts, IsGhost}
use Rattle.evict_core.specs.Rows.{buffer_of, ghost_spans, ghost_in, row_in}

-- ---- ghosts

spans_same : (jobs : List Job) (last : List ℕ) (mem : Mem) (g : state.Ghost) (r : Ghost) → IsGhost jobs last g r → ghost_spans mem r ≡ holds.ghost_spans mem g
spans_same jobs last System g r is = refl
spans_same jobs last Tt g r is = is.tt
spans_same jobs last Vram g r is = is.vram

-- the first ghost that holds pages has the same number
pub ghost_same : (jobs : List Job) (last : List ℕ) (mem : Mem) (within : Span) (gs : List state.Ghost) (rs : List Ghost) → AreGhosts jobs last gs rs →
    option_map (λ (r : Ghost). r.num) (ghost_in mem within rs) ≡ option_map (λ (g : state.Ghost). g.num) (find (λ g. intersects (holds.ghost_spans mem g) within) gs)
ghost_same jobs last mem within [] [] are = refl
ghost_same jobs last mem within [] (r ∷ rs) are = absurd are
ghost_same jobs last mem within (g ∷ gs) [] are = absurd are
ghost_same jobs last mem within (g ∷ gs) (r ∷ rs) are =
    ap (λ (q : Bool). option_map (λ (x : Ghost). x.num) (if q then Some r else ghost_in mem within rs)) (ap (λ ss. intersects ss within) (spans_same jobs last mem g r are.0))
    ∙ by (intersects (holds.ghost_spans mem g) within) (ghost_same jobs last mem within gs rs are.1)
  where
    by : (q : Bool) → option_map (λ (x : Ghost). x.num) (ghost_in mem within rs) ≡ option_map (λ (x : state.Ghost). x.num) (find (λ g. intersects (holds.ghost_spans mem g) within) gs) →
        option_map (λ (x : Ghost). x.num) (if q then Some r else ghost_in mem within rs) ≡ option_map (λ (x : state.Ghost). x.num) (if q then Some g else find (λ g. intersects (holds.ghost_spans mem g) within) gs)
    by true h = ap Some are.0.num
    by false h = h

-- ---- buffers

pub few_buffers : (script : Script) → IsTrue (is_script script) → length script.buffers ≤ 256
few_buffers script h = grind (arith, nat_tests)

module _ (script : Script) (place : Place) (b : BufId) (bo : Bo) where
  -- by whether it is kept in the manager
  abbrev row_by : Reservation → Buffer → Bool → Option CauseRow
  row_by g x q = if q then Some (record { b = b; cause = cause_of script place g x }) else None

  dead_row : bo.alive ≡ false → None ≡ row_in script place b bo
  dead_row e = ap (λ q. row_by (reservation_of bo) (buffer_of bo) (q && (same_mem bo.mem place.mem || is_some (target_of place.mem bo.targets)))) (sym e)

  live_row : bo.alive ≡ true → row_in script place b bo ≡ row_by (reservation_of bo) (buffer_of bo) (same_mem (buffer_of bo).mem place.mem || has_target place.mem (buffer_of bo))
  live_row e = ap (λ q. row_by (reservation_of bo) (buffer_of bo) (q && (same_mem bo.mem place.mem || is_some (target_of place.mem bo.targets)))) e

-- the row of a buffer that is lent is that of the state's
pub row_same : (script : Script) (s : State) (place : Place) (b : BufId) (t : Bos) → AreBos script s.core.buffers s.reservations s.last_jobs t → (bo : Bo) → IsBo t b bo →
    (slot : Option Buffer) × (slice_get s.core.buffers b.0 ≡ Some slot) × (row_in script place b bo ≡ option_and_then (λ x. cause_row script s.reservations place (b, x)) slot)
row_same script s place b t are bo is = by (slice_get s.core.buffers b.0) refl
  where
    same_reservation : reservation_in s.reservations b ≡ reservation_of bo
    same_reservation = ap (λ gs. reservation_in gs b) (sym are.reservations_are) ∙ ap (λ o. unwrap_or o no_reservation) is.reservation

    lent : option_map (option_map unfenced) (slice_get s.core.buffers b.0) ≡ Some (body_of bo)
    lent = sym (get_map (option_map unfenced) s.core.buffers b.0) ∙ ap (λ bs. slice_get bs b.0) (sym are.buffers_are) ∙ is.body

    none : (q : Bool) → bo.alive ≡ q → (if q then Some (buffer_of bo) else None) ≡ None → row_in script place b bo ≡ None
    none true e h = cc
    none false e h = sym (dead_row script place b bo e)

    some : (x : Buffer) (q : Bool) → bo.alive ≡ q → (if q then Some (buffer_of bo) else None) ≡ Some (unfenced x) → row_in script place b bo ≡ cause_row script s.reservations place (b, x)
    some x false e h = cc
    some x true e h =
        let seen : buffer_of bo ≡ unfenced x = cc in
        live_row script place b bo e
        ∙ ap (λ (y : Buffer). row_by script place b bo (reservation_of bo) y (same_mem y.mem place.mem || has_target place.mem y)) seen
        ∙ ap (λ g. row_by script place b bo g x (same_mem x.mem place.mem || has_target place.mem x)) (sym same_reservation)

    by : (o : Option (Option Buffer)) → slice_get s.core.buffers b.0 ≡ o →
        (slot : Option Buffer) × (slice_get s.core.buffers b.0 ≡ Some slot) × (row_in script place b bo ≡ option_and_then (λ x. cause_row script s.reservations place (b, x)) slot)
    by None e = (let g : ◌≡◌ {A = Option (Option Buffer)} None (Some (body_of bo)) = sym (ap (option_map (option_map unfenced)) e) ∙ lent in cc)
    by (Some None) e =
        let g : Some (option_map unfenced None) ≡ Some (body_of bo) = sym (ap (option_map (option_map unfenced)) e) ∙ lent in
        let h : body_of bo ≡ None = cc in
        (None, e, none bo.alive refl h)
    by (Some (Some x)) e =
        let g : Some (option_map unfenced (Some x)) ≡ Some (body_of bo) = sym (ap (option_map (option_map unfenced)) e) ∙ lent in
        let h : body_of bo ≡ Some (unfenced x) = cc in
        (Some x, e, some x bo.alive refl h)

-- ---- row by row

enumerate_from-push : {X : Type 0} (n : ℕ) (xs : List X) (x : X) → enumerate_from n (xs ++ x ∷ []) ≡ enumerate_from n xs ++ (n + length xs, x) ∷ []
enumerate_from-push n [] x = grind (arith, common_steps)
enumerate_from-push n (y ∷ xs) x = let e = enumerate_from-push (n + 1) xs x in grind (arith, common_steps)

-- a buffer that isn't live has no row
row_of_slot : (f : BufId × Buffer → Option CauseRow) (n : ℕ) (slot : Option Buffer)
    → filter_map f (filter_map live_entry ((n, slot) ∷ [])) ≡ option_to_list (option_and_then (λ x. f (record { 0 = n }, x)) slot)
row_of_slot f n None = refl
row_of_slot f n (Some x) = one (f (record { 0 = n }, x)) where
  one : (row : Option CauseRow) → cons_option row [] ≡ option_to_list row
  one None = refl
  one (Some r) = refl

take_one : {X : Type 0} (xs : List X) (i : ℕ) (x : X) → slice_get xs i ≡ Some x → take (suc i) xs ≡ take i xs ++ x ∷ []
take_one [] i x e = cc
take_one (y ∷ xs) zero x e = let same : y ≡ x = cc in ap (λ z. z ∷ []) same
take_one (y ∷ xs) (suc i) x e = ap (λ zs. y ∷ zs) (take_one xs i x e)

is_below : {X : Type 0} (xs : List X) (i : ℕ) (x : X) → slice_get xs i ≡ Some x → i < length xs
is_below [] i x e = cc
is_below (y ∷ xs) zero x e = omega arith
is_below (y ∷ xs) (suc i) x e = let r = is_below xs i x e in omega (arith, r)

-- the rows of the first buffers
abbrev pub rows_up_to : Script → List Reservation → Place → List (Option Buffer) → ℕ → List CauseRow
rows_up_to script reservations place slots n = filter_map (cause_row script reservations place) (filter_map live_entry (enumerate_from 0 (take n slots)))

-- with one more
pub row_more : (script : Script) (reservations : List Reservation) (place : Place) (slots : List (Option Buffer)) (i : ℕ) (slot : Option Buffer) → slice_get slots i ≡ Some slot →
    rows_up_to script reservations place slots (i + 1) ≡ rows_up_to script reservations place slots i ++ option_to_list (option_and_then (λ x. cause_row script reservations place (record { 0 = i }, x)) slot)
row_more script reservations place slots i slot at =
    let f = cause_row script reservations place in
    let before = enumerate_from 0 (take i slots) in
    let below = is_below slots i slot at in
    let here : length (take i slots) ≡ i = length-take-le i slots (omega (arith, below)) in
    let number : 0 + length (take i slots) ≡ i = omega (arith, here) in
    let next : i + 1 ≡ suc i = omega arith in
    ap (λ n. filter_map f (filter_map live_entry (enumerate_from 0 (take n slots)))) next
    ∙ ap (λ xs. filter_map f (filter_map live_entry (enumerate_from 0 xs))) (take_one slots i slot at)
    ∙ ap (λ es. filter_map f (filter_map live_entry es)) (enumerate_from-push 0 (take i slots) slot)
    ∙ ap (λ n. filter_map f (filter_map live_entry (before ++ (n, slot) ∷ []))) number
    ∙ ap (filter_map f) (filter_map-append live_entry before ((i, slot) ∷ []))
    ∙ filter_map-append f (filter_map live_entry before) (filter_map live_entry ((i, slot) ∷ []))
    ∙ ap (λ rows. filter_map f (filter_map live_entry before) ++ rows) (row_of_slot f i slot)

-- after the last one they are all
pub rows_all : (script : Script) (s : State) (place : Place) (n : ℕ) → length s.core.buffers ≤ n → rows_up_to script s.reservations place s.core.buffers n ≡ causes script s place
rows_all script s place n h = ap (λ xs. filter_map (cause_row script s.reservations place) (filter_map live_entry (enumerate_from 0 xs))) (take_all n s.core.buffers h)
