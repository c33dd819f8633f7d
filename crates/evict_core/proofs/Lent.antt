-- A buffer that the table lends is the one of the state.
use Rattle.std.proofs.Common.{◌≡◌, ℕ, zero, suc, ◌+◌, ◌<◌, ◌≤◌, take, Bool, true, false, List, [], ◌∷◌, Option, Some, None, refl, sym, ◌∙◌, ap, arith, length}
use Rattle.std.specs.Prelude.{◌&&◌, ◌||◌, ◌==◌, not, find, get_or, slice_set, nat_lt, option_map, option_and_then, replicate, slice_get, slice_index_or, unwrap_or, if◌then◌else◌}
use Rattle.std.proofs.lemmas.Bool.Decides.{nat_tests}
use Rattle.std.proofs.lemmas.Grind.{common_steps}
use Rattle.std.proofs.lemmas.List.{take_more, get_or-set_other, get_or-set_same}
use Rattle.ttm_base.specs.declared.BufId.{BufId}
use Rattle.ttm_base.specs.declared.Mem.{Mem}
use Rattle.ttm_base.specs.declared.Mem.TheVariants.{System}
use Rattle.ttm_base.specs.declared.Span.{Span}
use Rattle.ttm_base.specs.Reach.{same_mem, intersects}
use Rattle.bo_table.specs.declared.bo.Bo.{Bo}
use Rattle.bo_table.specs.Seen.{Bos, IsBo, body_of, reservation_of}
use Rattle.bo_table.proofs.TableLaws.{get_map}
use Rattle.journal_model.specs.declared.script.Script.{Script}
use Rattle.journal_model.specs.declared.state.State.{State}
use Rattle.journal_model.specs.declared.state.Buffer.{Buffer}
use Rattle.journal_model.specs.rules.State.{reservation, live_in, reservation_in, has_buffer, same_buffer, no_reservation}
use Rattle.journal_model.specs.rules.Dry.{is_loose}
use Rattle.room_representation.specs.Bos.{AreBos, unfenced}
use Rattle.evict_core.specs.Walks.{stands_in, was_skipped, is_evictable_in, AreMarks}

get_beyond : {X : Type 0} (xs : List X) (i : ℕ) → length xs ≤ i → slice_get xs i ≡ None
get_beyond [] i h = refl
get_beyond (x ∷ xs) zero h = absurd (omega (arith, h))
get_beyond (x ∷ xs) (suc i) h = get_beyond xs i (omega (arith, h))

and_false : (a b d : Bool) → (((a && false) && b) && d) ≡ false
and_false true b d = refl
and_false false b d = refl

module _ (script : Script) (s : State) (mem : Mem) (within : Span) (skipped : Bool) (b : BufId) where
  -- one that isn't declared
  pub not_there : length s.core.buffers ≡ length s.reservations → length s.reservations ≤ b.0 → false ≡ is_evictable_in s mem within skipped b
  not_there e h =
      let none : slice_get s.core.buffers b.0 ≡ None = get_beyond s.core.buffers b.0 (omega (arith, e, h)) in
      let dead : live_in s.core.buffers b ≡ None = ap (option_and_then (λ x. x)) none in
      sym (rw dead (and_false (same_mem System mem) (is_loose (reservation s b)) (not skipped)))

  -- one that is lent
  pub lent_is : (t : Bos) → AreBos script s.core.buffers s.reservations s.last_jobs t → (bo : Bo) → IsBo t b bo → (r : Bool) →
      r ≡ ((stands_in bo mem within && is_loose (reservation_of bo)) && not skipped) → r ≡ is_evictable_in s mem within skipped b
  lent_is t are bo is r h = h ∙ sym (by (slice_get s.core.buffers b.0) refl)
    where
      same_reservation : reservation s b ≡ reservation_of bo
      same_reservation = ap (λ gs. reservation_in gs b) (sym are.reservations_are) ∙ ap (λ o. unwrap_or o no_reservation) is.reservation

      lent : option_map (option_map unfenced) (slice_get s.core.buffers b.0) ≡ Some (body_of bo)
      lent = sym (get_map (option_map unfenced) s.core.buffers b.0) ∙ ap (λ bs. slice_get bs b.0) (sym are.buffers_are) ∙ is.body

      by : (o : Option (Option Buffer)) → slice_get s.core.buffers b.0 ≡ o → is_evictable_in s mem within skipped b ≡ ((stands_in bo mem within && is_loose (reservation_of bo)) && not skipped)
      by None e = (let g : ◌≡◌ {A = Option (Option Buffer)} None (Some (body_of bo)) = sym (ap (option_map (option_map unfenced)) e) ∙ lent in cc)
      by (Some None) e =
          let none : body_of bo ≡ None = (let g : ◌≡◌ {A = Option (Option Buffer)} (Some None) (Some (body_of bo)) = sym (ap (option_map (option_map unfenced)) e) ∙ lent in cc) in
          let dead : live_in s.core.buffers b ≡ None = ap (option_and_then (λ x. x)) e in
          rw dead (and_false (same_mem System mem) (is_loose (reservation s b)) (not skipped) ∙ sym (gone bo.alive refl none))
        where
          gone : (a : Bool) → bo.alive ≡ a → body_of bo ≡ None → ((stands_in bo mem within && is_loose (reservation_of bo)) && not skipped) ≡ false
          gone true p n = let g : ◌≡◌ {A = Option Buffer} (Some (record { mem = bo.mem; spans = bo.spans; table = bo.table; targets = bo.targets; fences = [] })) None = rw p at n in cc
          gone false p n = rw p refl
      by (Some (Some x)) e =
          let some : body_of bo ≡ Some (unfenced x) = (let g : Some (Some (unfenced x)) ≡ Some (body_of bo) = sym (ap (option_map (option_map unfenced)) e) ∙ lent in cc) in
          let live : live_in s.core.buffers b ≡ Some x = ap (option_and_then (λ x. x)) e in
          rw (live, same_reservation) (here bo.alive refl some)
        where
          here : (a : Bool) → bo.alive ≡ a → body_of bo ≡ Some (unfenced x) →
              (((same_mem x.mem mem && intersects x.spans within) && is_loose (reservation_of bo)) && not skipped) ≡ ((stands_in bo mem within && is_loose (reservation_of bo)) && not skipped)
          here true p n =
              let g : Some (record { mem = bo.mem; spans = bo.spans; table = bo.table; targets = bo.targets; fences = [] }) ≡ Some (unfenced x) = rw p at n in
              let seen : Buffer = record { mem = bo.mem; spans = bo.spans; table = bo.table; targets = bo.targets; fences = [] } in
              let same : seen ≡ unfenced x = cc in
              let in_mem : bo.mem ≡ x.mem = ap (λ (y : Buffer). y.mem) same in
              let spans : bo.spans ≡ x.spans = ap (λ (y : Buffer). y.spans) same in
              rw (p, in_mem, spans) refl
          here false p n = let g : None ≡ Some (unfenced x) = rw p at n in cc

-- one that wasn't skipped and stands there passes if it is loose
pub passes_loose : (stands loose skipped : Bool) → stands ≡ true → skipped ≡ false → loose ≡ ((stands && loose) && not skipped)
passes_loose true true false h n = refl
passes_loose true false false h n = refl
passes_loose false l s h n = cc
passes_loose true l true h n = cc

-- one that doesn't stand there doesn't
pub passes_not : (stands loose skipped : Bool) → stands ≡ false → stands ≡ ((stands && loose) && not skipped)
passes_not false l s h = refl
passes_not true l s h = cc

-- ---- marks of what was skipped

-- without marks
unmarked : (n i : ℕ) → slice_index_or (replicate n false) i false ≡ false
unmarked zero i = refl
unmarked (suc n) zero = refl
unmarked (suc n) (suc i) = unmarked n i

pub none_marked : AreMarks [] (replicate 256 false)
none_marked b h = unmarked 256 b.0

or_true : (a : Bool) → (a || true) ≡ true
or_true true = refl
or_true false = refl

or_false : (a : Bool) → (a || false) ≡ a
or_false true = refl
or_false false = refl

-- with one buffer more
pub marked_more : (skips : List BufId) (marks : List Bool) (i : ℕ) (d : BufId) → i < length skips → (get_or skips i d).0 < length marks → AreMarks (take i skips) marks
    → AreMarks (take (i + 1) skips) (slice_set marks (get_or skips i d).0 true)
marked_more skips marks i d h fits are b low = by (b.0 == x.0) refl
  where
    x : BufId
    x = get_or skips i d

    among : has_buffer (take (i + 1) skips) b ≡ (has_buffer (take i skips) b || same_buffer b x)
    among = let e = take_more skips i d h in grind (arith, common_steps)

    by : (q : Bool) → (b.0 == x.0) ≡ q → slice_index_or (slice_set marks x.0 true) b.0 false ≡ has_buffer (take (i + 1) skips) b
    by true e =
        let same : b.0 ≡ x.0 = grind (arith, nat_tests) in
        ap (λ n. slice_index_or (slice_set marks x.0 true) n false) same ∙ get_or-set_same marks x.0 true false fits ∙ sym (among ∙ ap (λ q. has_buffer (take i skips) b || q) e ∙ or_true (has_buffer (take i skips) b))
    by false e =
        get_or-set_other marks x.0 b.0 true false (grind (arith, nat_tests)) ∙ are b low ∙ sym (among ∙ ap (λ q. has_buffer (take i skips) b || q) e ∙ or_false (has_buffer (take i skips) b))

-- a buffer whose number has no mark adds none
pub unmarked_more : (skips : List BufId) (marks : List Bool) (i : ℕ) (d : BufId) → i < length skips → 256 ≤ (get_or skips i d).0 → AreMarks (take i skips) marks → AreMarks (take (i + 1) skips) marks
unmarked_more skips marks i d h high are b low =
    let e = take_more skips i d h in
    let apart : same_buffer b (get_or skips i d) ≡ false = grind (arith, nat_tests) in
    let was = are b low in
    grind (arith, common_steps)

-- by marks and by the list it is the same
pub skipped_same : (skips : List BufId) (marks : List Bool) → AreMarks skips marks → (b : BufId) → was_skipped skips marks b ≡ has_buffer skips b
skipped_same skips marks are b = by (nat_lt b.0 256) refl
  where
    by : (q : Bool) → nat_lt b.0 256 ≡ q → (if q then slice_index_or marks b.0 false else has_buffer skips b) ≡ has_buffer skips b
    by true e = are b (grind (arith, nat_tests))
    by false e = refl

-- two tests that agree find the same
pub find_same : (p q : BufId → Bool) (l : List BufId) → ((b : BufId) → p b ≡ q b) → find p l ≡ find q l
find_same p q [] same = refl
find_same p q (b ∷ l) same = rw (same b, find_same p q l same) refl
