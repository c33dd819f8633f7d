-- Neither the version nor the marks of a script change a search.
use Rattle.std.proofs.Common.{◌≡◌, ℕ, true, false, List, [], ◌∷◌, Option, Some, None, Ok, Err, refl, ap}
use Rattle.std.specs.Prelude.{◌&&◌, ◌||◌, not, nat_lt, nat_le, find, filter_map, option_map, unwrap_or, slice_get, if◌then◌else◌}
use Rattle.ttm_base.specs.declared.Mem.{Mem}
use Rattle.ttm_base.specs.declared.Mem.TheVariants.{System, Tt, Vram}
use Rattle.ttm_base.specs.declared.Mode.TheVariants.{Best, High}
use Rattle.ttm_base.specs.declared.Span.{Span}
use Rattle.ttm_base.specs.declared.BufId.{BufId}
use Rattle.ttm_base.specs.declared.Place.{Place}
use Rattle.ttm_base.specs.declared.Need.TheVariants as need
use Rattle.ttm_base.specs.Reach.{reach, same_mem, intersects, length_of}
use Rattle.ttm_base.specs.Holes.{holes}
use Rattle.ttm_base.specs.RangeChoice.{range_choice}
use Rattle.ttm_base.specs.BuddyChoice.{buddy_choice}
use Rattle.ttm_base.specs.Placement.{first_places, forced_places, compatible}
use Rattle.journal_model.specs.declared.script.Script.{Script}
use Rattle.journal_model.specs.declared.script.Mark.{Mark}
use Rattle.journal_model.specs.declared.script.Command.{Command}
use Rattle.journal_model.specs.declared.script.Command.TheVariants as command
use Rattle.journal_model.specs.declared.entry.Kind.TheVariants as kind
use Rattle.journal_model.specs.declared.entry.CauseRow.{CauseRow}
use Rattle.journal_model.specs.declared.entry.Cause.TheVariants as cause
use Rattle.journal_model.specs.declared.entry.DryWhy.TheVariants as dry
use Rattle.journal_model.specs.declared.state.SearchAim.{SearchAim}
use Rattle.journal_model.specs.declared.state.SearchAim.TheVariants.{Asked, Hop}
use Rattle.journal_model.specs.declared.state.State.{State}
use Rattle.journal_model.specs.declared.state.Core.{Core}
use Rattle.journal_model.specs.declared.state.Course.{Course}
use Rattle.journal_model.specs.declared.state.Buffer.{Buffer}
use Rattle.journal_model.specs.declared.state.Reservation.{Reservation}
use Rattle.journal_model.specs.rules.State.{buffer, reservation, reservation_in, has_buffer, has_target}
use Rattle.journal_model.specs.rules.Commands.{decl, asked_places, whole}
use Rattle.journal_model.specs.rules.Holds.{size_of, is_free_page, ghost_spans, live_buffers}
use Rattle.journal_model.specs.rules.Choice.{choice, choice_in, reach_of}
use Rattle.journal_model.specs.rules.Dry.{is_long_enough, is_loose, victim, ghost_in, causes}
use Rattle.journal_model.specs.rules.Lists.{in_order}
use Rattle.journal_model.specs.rules.Ready.{meets}
use Rattle.journal_model.specs.rules.Search.{PlaceSearch, place_search, why_of, step_of_crowded, step_of_forced_place, step_of_forced, first_choice, step_of_place_search}

-- a script in another version, with other marks
abbrev pub in_form : ℕ → List Mark → Script → Script
in_form version marks script = record script { version = version; marks = marks }

-- the row of a cause, by what the place reaches
abbrev cause_row_at : Span → List Reservation → Place → BufId × Buffer → Option CauseRow
cause_row_at r reservations place e =
    if same_mem e.1.mem place.mem || has_target place.mem e.1
    then Some (record {
      b = e.0;
      cause = elim (nat_lt 0 (reservation_in reservations e.0).pins) [
        | true ↦ cause.Pinned
        | false ↦ elim (reservation_in reservations e.0).holder [
          | Some s ↦ cause.Reserved s
          | None ↦ elim (intersects e.1.spans r) [ false ↦ cause.Outside | true ↦ cause.Skipped ]
        ]
      ];
    })
    else None

module _ (v : ℕ) (ms : List Mark) (script : Script) where
  pub size_same : (mem : Mem) → size_of (in_form v ms script) mem ≡ size_of script mem
  size_same System = refl
  size_same Tt = refl
  size_same Vram = refl

  pub reach_same : (place : Place) → reach_of (in_form v ms script) place ≡ reach_of script place
  reach_same place = ap (reach place) (size_same place.mem)

  choice_in_same : (mem : Mem) (c : Core) (b : BufId) (place : Place) → choice_in mem (in_form v ms script) c b place ≡ choice_in mem script c b place
  choice_in_same System c b place = refl
  choice_in_same Tt c b place =
      ap (λ n. option_map (λ span. span ∷ []) (range_choice (if place.topdown then High else Best) (holes (is_free_page place.mem c) n) (decl script b).pages (decl script b).align (reach place n))) (size_same place.mem)
  choice_in_same Vram c b place = λ i.
      elim script.sizes.buddy [
        | true ↦ buddy_choice (is_free_page place.mem c) (size_same place.mem i) (reach place (size_same place.mem i)) place.topdown place.contig (decl script b).pages
        | false ↦ option_map (λ span. span ∷ []) (range_choice (if place.topdown then High else Best) (holes (is_free_page place.mem c) (size_same place.mem i)) (decl script b).pages (decl script b).align (reach place (size_same place.mem i)))
      ]

  pub choice_same : (c : Core) (b : BufId) (place : Place) → choice (in_form v ms script) c b place ≡ choice script c b place
  choice_same c b place = choice_in_same place.mem c b place

  first_choice_same : (s : State) (b : BufId) (places : List Place) → first_choice (in_form v ms script) s b places ≡ first_choice script s b places
  first_choice_same s b [] = refl
  first_choice_same s b (place ∷ places) = by (choice (in_form v ms script) s.core b place) (choice script s.core b place) (choice_same s.core b place) (first_choice_same s b places)
    where
      by : (o p : Option (List Span)) → o ≡ p → first_choice (in_form v ms script) s b places ≡ first_choice script s b places →
          ◌≡◌ {A = Option (Mem × List Span)} (elim o [ Some spans ↦ Some (place.mem, spans) | None ↦ first_choice (in_form v ms script) s b places ]) (elim p [ Some spans ↦ Some (place.mem, spans) | None ↦ first_choice script s b places ])
      by o p e ih = λ i. elim (e i) [ Some spans ↦ Some (place.mem, spans) | None ↦ ih i ]

  asked_same : (cmd : Command) (b : BufId) → asked_places (in_form v ms script) cmd b ≡ asked_places script cmd b
  asked_same (command.New c) b = refl
  asked_same cmd b = refl

  pub place_search_same : (cmd : Command) (c : Course) (b : BufId) (aim : SearchAim) → place_search (in_form v ms script) cmd c b aim ≡ place_search script cmd c b aim
  place_search_same cmd c b Asked = λ i. record { list = asked_same cmd b i; forced = c.forced; dry = c.dry }
  place_search_same cmd c b Hop = refl

  pub long_same : (b : BufId) (place : Place) → is_long_enough (in_form v ms script) b place ≡ is_long_enough script b place
  long_same b place = ap (λ r. nat_le (decl script b).pages (length_of r)) (reach_same place)

  pub victim_same : (s : State) (skips : List BufId) (place : Place) → victim (in_form v ms script) s skips place ≡ victim script s skips place
  victim_same s skips place =
      ap (λ r. find (λ b. same_mem (buffer s b).mem place.mem && intersects (buffer s b).spans r && is_loose (reservation s b) && not (has_buffer skips b)) (in_order s place.mem)) (reach_same place)

  pub ghost_same : (s : State) (place : Place) → ghost_in (in_form v ms script) s place ≡ ghost_in script s place
  ghost_same s place = ap (λ r. find (λ g. intersects (ghost_spans place.mem g) r) s.core.ghosts) (reach_same place)

  pub causes_same : (s : State) (place : Place) → causes (in_form v ms script) s place ≡ causes script s place
  causes_same s place = ap (λ r. filter_map (cause_row_at r s.reservations place) (live_buffers s.core)) (reach_same place)

  crowded_same : (s : State) (c : Course) (b : BufId) (k : ℕ) (place : Place) → step_of_crowded (in_form v ms script) s c b k place ≡ step_of_crowded script s c b k place
  crowded_same s c b k place = λ i.
      elim (long_same b place i) [
        | false ↦ Ok (kind.Dry b k dry.Short)
        | true ↦ elim (victim_same s c.skips place i) [
          | Some w ↦ Ok (kind.Catch w (why_of place.mem))
          | None ↦ elim (ghost_same s place i) [
            | Some g ↦ Err (need.Ghost g.num)
            | None ↦ Ok (kind.Dry b k (dry.Of (causes_same s place i)))
          ]
        ]
      ]

  forced_place_same : (s : State) (c : Course) (b : BufId) (k : ℕ) (place : Place) → step_of_forced_place (in_form v ms script) s c b k place ≡ step_of_forced_place script s c b k place
  forced_place_same s c b k place = λ i.
      elim (choice_same s.core b place i) [ Some spans ↦ Ok (kind.Take b place.mem spans) | None ↦ crowded_same s c b k place i ]

  forced_same : (s : State) (c : Course) (b : BufId) (k : ℕ) (places : List Place) → step_of_forced (in_form v ms script) s c b k places ≡ step_of_forced script s c b k places
  forced_same s c b k places = forced_place_same s c b k (unwrap_or (slice_get places k) (whole System))

  pub search_same : (s : State) (c : Course) (b : BufId) (q : PlaceSearch) → step_of_place_search (in_form v ms script) s c b q ≡ step_of_place_search script s c b q
  search_same s c b q = λ i.
      elim q.forced [
        | true ↦ forced_same s c b q.dry (forced_places q.list) i
        | false ↦ elim (first_choice_same s b (first_places q.list) i) [
          | Some found ↦ Ok (kind.Take b found.0 found.1)
          | None ↦ forced_same s c b q.dry (forced_places q.list) i
        ]
      ]

  pub meets_same : (cmd : Command) (b : BufId) (x : Buffer) → meets (in_form v ms script) cmd b x ≡ meets script cmd b x
  meets_same (command.Submit engine ops) b x = ap (compatible x.mem x.spans (decl script b).placement) (size_same x.mem)
  meets_same (command.Find c) b x = ap (compatible x.mem x.spans (decl script b).placement) (size_same x.mem)
  meets_same cmd b x = refl
