-- Why a place is dry can be read: its causes are of live buffers and of stamps that were drawn.
use Rattle.std.proofs.Common.{◌≡◌, ℕ, ◌+◌, ◌≤◌, Bool, true, false, List, [], ◌∷◌, length, Option, Some, None, Ok, Err, refl, subst, arith}
use Rattle.std.specs.Prelude.{filter_map, slice_get, unwrap_or, nat_lt, ◌||◌, ◌&&◌, if◌then◌else◌}
use Rattle.std.specs.List.{list_all, enumerate_from, cons_option}
use Rattle.std.proofs.lemmas.Bool.{lt-ltb}
use Rattle.ttm_base.specs.declared.Mem.{Mem}
use Rattle.ttm_base.specs.declared.Mem.TheVariants.{System}
use Rattle.ttm_base.specs.declared.BufId.{BufId}
use Rattle.ttm_base.specs.declared.Stamp.{Stamp}
use Rattle.ttm_base.specs.declared.Span.{Span}
use Rattle.ttm_base.specs.declared.Place.{Place}
use Rattle.ttm_base.specs.declared.Need.TheVariants as need
use Rattle.ttm_base.specs.Reach.{same_mem, intersects}
use Rattle.ttm_base.specs.Placement.{first_places, forced_places}
use Rattle.journal_model.specs.declared.script.Script.{Script}
use Rattle.journal_model.specs.declared.state.State.{State}
use Rattle.journal_model.specs.declared.state.Course.{Course}
use Rattle.journal_model.specs.declared.state.Buffer.{Buffer}
use Rattle.journal_model.specs.declared.state.Ghost.{Ghost}
use Rattle.journal_model.specs.declared.entry.Kind.{Kind}
use Rattle.journal_model.specs.declared.entry.Kind.TheVariants as kind
use Rattle.journal_model.specs.declared.entry.DryWhy.TheVariants as dry
use Rattle.journal_model.specs.declared.entry.CauseRow.{CauseRow}
use Rattle.journal_model.specs.declared.entry.Cause.TheVariants as cause
use Rattle.journal_model.specs.rules.State.{reservation, reservation_in, has_target}
use Rattle.journal_model.specs.rules.Commands.{whole}
use Rattle.journal_model.specs.scripts.CommandRules.{is_declared}
use Rattle.journal_model.specs.rules.Choice.{choice, reach_of}
use Rattle.journal_model.specs.rules.Holds.{live_entry}
use Rattle.journal_model.specs.rules.Dry.{is_long_enough, victim, ghost_in, cause_of, cause_row, causes}
use Rattle.journal_model.specs.rules.Search.{Step, PlaceSearch, why_of, step_of_crowded, step_of_forced_place, step_of_forced, first_choice, step_of_place_search}
use Rattle.journal_model.specs.scripts.Readable.{is_cause, is_cause_row, is_dry_why, is_u64}
use Rattle.law_legal.proofs.law_readable.Tests.{joint}

-- why a place is dry, where the entry says it
abbrev pub has_why : Script → Kind → Bool
has_why script (kind.Dry b k w) = is_dry_why script w
has_why script _ = true

module _ (script : Script) (s : State) (drawn : (b : BufId) (st : Stamp) → (reservation s b).holder ≡ Some st → is_u64 st.0 ≡ true) (many : length s.core.buffers ≡ length script.buffers) where
  cause_fits : (place : Place) (b : BufId) (x : Buffer) → is_cause (cause_of script place (reservation_in s.reservations b) x) ≡ true
  cause_fits place b x = by_pins (nat_lt 0 (reservation_in s.reservations b).pins)
    where
      by_spans : (q : Bool) → is_cause (elim q [ false ↦ cause.Outside | true ↦ cause.Skipped ]) ≡ true
      by_spans true = refl
      by_spans false = refl

      by_holder : (o : Option Stamp) → (reservation s b).holder ≡ o → is_cause (elim o [
        | Some s ↦ cause.Reserved s
        | None ↦ elim (intersects x.spans (reach_of script place)) [ false ↦ cause.Outside | true ↦ cause.Skipped ]
      ]) ≡ true
      by_holder (Some st) e = drawn b st e
      by_holder None e = by_spans (intersects x.spans (reach_of script place))

      by_pins : (q : Bool) → is_cause (elim q [
        | true ↦ cause.Pinned
        | false ↦ elim (reservation s b).holder [
          | Some s ↦ cause.Reserved s
          | None ↦ elim (intersects x.spans (reach_of script place)) [ false ↦ cause.Outside | true ↦ cause.Skipped ]
        ]
      ]) ≡ true
      by_pins true = refl
      by_pins false = by_holder (reservation s b).holder refl

  rows_fit : (place : Place) (k : ℕ) (xs : List (Option Buffer)) → k + length xs ≤ length script.buffers
      → list_all (is_cause_row script) (filter_map (cause_row script s.reservations place) (filter_map live_entry (enumerate_from k xs))) ≡ true
  rows_fit place k [] l = refl
  rows_fit place k (None ∷ xs) l = rows_fit place (k + 1) xs (omega (arith, l))
  rows_fit place k (Some x ∷ xs) l =
      by (same_mem x.mem place.mem || has_target place.mem x) (filter_map (cause_row script s.reservations place) (filter_map live_entry (enumerate_from (k + 1) xs))) (rows_fit place (k + 1) xs (omega (arith, l)))
    where
      here : BufId
      here = record { 0 = k }

      by : (q : Bool) (rest : List CauseRow) → list_all (is_cause_row script) rest ≡ true →
          list_all (is_cause_row script) (cons_option (if q then Some (record { b = record { 0 = k }; cause = cause_of script place (reservation_in s.reservations (record { 0 = k })) x }) else None) rest) ≡ true
      by true rest h =
          joint (is_declared script (record { 0 = k }) && is_cause (cause_of script place (reservation_in s.reservations (record { 0 = k })) x)) (list_all (is_cause_row script) rest)
          (joint (is_declared script (record { 0 = k })) (is_cause (cause_of script place (reservation_in s.reservations (record { 0 = k })) x)) (lt-ltb k (length script.buffers) (omega (arith, l))) (cause_fits place (record { 0 = k }) x))
          h
      by false rest h = h

  causes_fit : (place : Place) → list_all (is_cause_row script) (causes script s place) ≡ true
  causes_fit place = rows_fit place 0 s.core.buffers (omega (arith, many))

  module _ (c : Course) (b : BufId) where
    crowded_why : (k : ℕ) (place : Place) (e : Kind) → step_of_crowded script s c b k place ≡ Ok e → has_why script e ≡ true
    crowded_why k place e h = by_long (is_long_enough script b place) h
      where
        by_ghost : (o : Option Ghost) → ◌≡◌ {A = Step} (elim o [ Some g ↦ Err (need.Ghost g.num) | None ↦ Ok (kind.Dry b k (dry.Of (causes script s place))) ]) (Ok e) → has_why script e ≡ true
        by_ghost (Some g) h = cc
        by_ghost None h = let it : kind.Dry b k (dry.Of (causes script s place)) ≡ e = cc in subst (λ e. has_why script e ≡ true) it (causes_fit place)

        by_victim : (o : Option BufId) →
            ◌≡◌ {A = Step} (elim o [
              | Some v ↦ Ok (kind.Catch v (why_of place.mem))
              | None ↦ elim (ghost_in script s place) [ Some g ↦ Err (need.Ghost g.num) | None ↦ Ok (kind.Dry b k (dry.Of (causes script s place))) ]
            ]) (Ok e) → has_why script e ≡ true
        by_victim (Some v) h = let it : kind.Catch v (why_of place.mem) ≡ e = cc in subst (λ e. has_why script e ≡ true) it refl
        by_victim None h = by_ghost (ghost_in script s place) h

        by_long : (l : Bool) →
            ◌≡◌ {A = Step} (elim l [
              | false ↦ Ok (kind.Dry b k dry.Short)
              | true ↦ elim (victim script s c.skips place) [
                | Some v ↦ Ok (kind.Catch v (why_of place.mem))
                | None ↦ elim (ghost_in script s place) [ Some g ↦ Err (need.Ghost g.num) | None ↦ Ok (kind.Dry b k (dry.Of (causes script s place))) ]
              ]
            ]) (Ok e) → has_why script e ≡ true
        by_long false h = let it : kind.Dry b k dry.Short ≡ e = cc in subst (λ e. has_why script e ≡ true) it refl
        by_long true h = by_victim (victim script s c.skips place) h

    forced_why : (k : ℕ) (place : Place) (e : Kind) → step_of_forced_place script s c b k place ≡ Ok e → has_why script e ≡ true
    forced_why k place e h = by (choice script s.core b place) h
      where
        by : (o : Option (List Span)) → ◌≡◌ {A = Step} (elim o [ Some spans ↦ Ok (kind.Take b place.mem spans) | None ↦ step_of_crowded script s c b k place ]) (Ok e) → has_why script e ≡ true
        by (Some spans) h = let it : kind.Take b place.mem spans ≡ e = cc in subst (λ e. has_why script e ≡ true) it refl
        by None h = crowded_why k place e h

    pub place_search_why : (q : PlaceSearch) (e : Kind) → step_of_place_search script s c b q ≡ Ok e → has_why script e ≡ true
    place_search_why q e h = by q.forced (first_choice script s b (first_places q.list)) h
      where
        by : (f : Bool) (o : Option (Mem × List Span)) →
            ◌≡◌ {A = Step} (elim f [
              | true ↦ step_of_forced script s c b q.dry (forced_places q.list)
              | false ↦ elim o [ Some found ↦ Ok (kind.Take b found.0 found.1) | None ↦ step_of_forced script s c b q.dry (forced_places q.list) ]
            ]) (Ok e) → has_why script e ≡ true
        by true o g = forced_why q.dry (unwrap_or (slice_get (forced_places q.list) q.dry) (whole System)) e g
        by false (Some found) g = let it : kind.Take b found.0 found.1 ≡ e = cc in subst (λ e. has_why script e ≡ true) it refl
        by false None g = forced_why q.dry (unwrap_or (slice_get (forced_places q.list) q.dry) (whole System)) e g
