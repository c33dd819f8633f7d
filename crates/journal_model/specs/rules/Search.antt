-- The search of pages for a buffer (ttm_bo_mem_space): a choice, a victim, a ghost to wait for, or a dry place. A search is the task of a named
-- buffer by rule 9 of `Tasks`, and of a victim in VRAM by rule 6. Its own rules are in `step_of_place_search`, the first that applies:
--   1. not yet under pressure, a place of the first round has a choice: take it
--   2. the forced place at work has a choice: take it
--   3. that place is too short for the buffer: it is dry
--   4. a buffer in it can be evicted: catch it
--   5. a ghost holds a page of it: wait for the ghost
--   6. else it is dry
-- The search fails once every forced place is dry (`ApplyVictims`), and is then no task any more.
use Rattle.std.specs.Prelude.{ℕ, Bool, true, false, List, [], ◌∷◌, Option, Some, None, Result, Ok, Err, ◌||◌, map, unwrap_or, slice_get, if◌then◌else◌}
use Rattle.journal_model.specs.Types.{BufId, Buffer, Command, Course, FlaggedPlace, Kind, Mem, Need, Place, Script, SearchAim, Span, State, Why}
use Rattle.ttm_base.specs.declared.Mem.TheVariants.{System, Tt, Vram}
use Rattle.ttm_base.specs.declared.Need.TheVariants as need
use Rattle.ttm_base.specs.Placement.{first_places, forced_places}
use Rattle.journal_model.specs.declared.entry.Kind.TheVariants as kind
use Rattle.journal_model.specs.declared.entry.Why.TheVariants as why
use Rattle.journal_model.specs.declared.entry.DryWhy.TheVariants as dry
use Rattle.journal_model.specs.declared.state.SearchAim.TheVariants.{Asked, Hop}
use Rattle.journal_model.specs.rules.State.{buffer, has_buffer}
use Rattle.journal_model.specs.rules.Commands.{asked_places, whole, as_fallback}
use Rattle.journal_model.specs.rules.Choice.{choice}
use Rattle.journal_model.specs.rules.Dry.{is_long_enough, victim, ghost_in, causes}
use Rattle.journal_model.specs.rules.Ready.{has_some_target}

-- an entry, or what its actor needs first
abbrev pub Step : Type 0
Step = Result Kind Need

-- the places that a search tries, whether it is under pressure, and how many forced places are dry
pub record PlaceSearch : Type 0 where
  pub list : List FlaggedPlace
  pub forced : Bool
  pub dry : ℕ

-- the buffer is a victim of this thread
abbrev pub is_caught : Course → BufId → Bool
is_caught c b = has_buffer (map (λ v. v.b) c.caught) b

-- the list for the hop on the way between SYSTEM and VRAM: all of TT, under pressure alone
abbrev pub through_tt : List FlaggedPlace
through_tt = as_fallback (whole Tt) ∷ []

-- the search of `b`, by what it is for. Of its progress the course tells, but not of a victim's: that one has come no way, since it is over
-- as soon as it doesn't succeed at once
abbrev pub place_search : Script → Command → Course → BufId → SearchAim → PlaceSearch
place_search script cmd c b Asked = record { list = asked_places script cmd b; forced = c.forced; dry = c.dry }
place_search script cmd c b Hop =
    if is_caught c b then record { list = through_tt; forced = false; dry = 0 } else record { list = through_tt; forced = c.forced; dry = c.dry }

-- a victim, and a buffer that has a target, hop through TT; any other goes where its command asks
abbrev pub aim_of : Course → BufId → Buffer → SearchAim
aim_of c b x = if is_caught c b || has_some_target x then Hop else Asked

-- the search of a buffer, as its state tells it
abbrev pub place_search_at_work : Script → State → Course → Command → BufId → PlaceSearch
place_search_at_work script s c cmd b = place_search script cmd c b (aim_of c b (buffer s b))

-- for what a victim is caught, by the place that it has to leave
abbrev pub why_of : Mem → Why
why_of Vram = why.Vram
why_of Tt = why.Tt
why_of System = why.Swap

-- rules 3 to 6: the `k`-th forced place has no choice
abbrev pub step_of_crowded : Script → State → Course → BufId → ℕ → Place → Step
step_of_crowded script s c b k place =
    elim (is_long_enough script b place) [
      | false ↦ Ok (kind.Dry b k dry.Short)
      | true ↦ elim (victim script s c.skips place) [
        | Some v ↦ Ok (kind.Catch v (why_of place.mem))
        | None ↦ elim (ghost_in script s place) [
          | Some g ↦ Err (need.Ghost g.num)
          | None ↦ Ok (kind.Dry b k (dry.Of (causes script s place)))
        ]
      ]
    ]

-- rule 2, and else those after it, at the `k`-th forced place
abbrev pub step_of_forced_place : Script → State → Course → BufId → ℕ → Place → Step
step_of_forced_place script s c b k place =
    elim (choice script s.core b place) [ Some spans ↦ Ok (kind.Take b place.mem spans) | None ↦ step_of_crowded script s c b k place ]

-- rules 2 to 6 at the `k`-th of the forced places. No search gets past the last: the whole of SYSTEM stands for a place that isn't there, and
-- is never tried
abbrev pub step_of_forced : Script → State → Course → BufId → ℕ → List Place → Step
step_of_forced script s c b k places = step_of_forced_place script s c b k (unwrap_or (slice_get places k) (whole System))

-- rule 1: the first of the places that has a choice, by its memory type, with the spans that are chosen
abbrev pub first_choice : Script → State → BufId → List Place → Option (Mem × List Span)
first_choice script s b [] = None
first_choice script s b (place ∷ places) =
    elim (choice script s.core b place) [ Some spans ↦ Some (place.mem, spans) | None ↦ first_choice script s b places ]

-- the rules in their order: 1 unless the search is under pressure, and then 2 to 6 at the forced place at work
abbrev pub step_of_place_search : Script → State → Course → BufId → PlaceSearch → Step
step_of_place_search script s c b q =
    elim q.forced [
      | true ↦ step_of_forced script s c b q.dry (forced_places q.list)
      | false ↦ elim (first_choice script s b (first_places q.list)) [
        | Some found ↦ Ok (kind.Take b found.0 found.1)
        | None ↦ step_of_forced script s c b q.dry (forced_places q.list)
      ]
    ]
