-- Marks tell nothing of a journal, and turn nothing: scripts that differ in version and marks alone are one to these definitions.
use Rattle.std.proofs.Common.{◌≡◌, ℕ, true, false, List, [], ◌∷◌, ◌++◌, Some, None, refl, sym, ap, subst}
use Rattle.std.specs.Prelude.{◌==◌, ◌&&◌, ◌||◌, not, filter, find, length, is_none, option_and_then, slice_get, if◌then◌else◌}
use Rattle.std.specs.List.{list_all, list_any}
use Rattle.ttm_base.specs.declared.BufId.{BufId}
use Rattle.ttm_base.specs.declared.Place.{Place}
use Rattle.ttm_base.specs.declared.FlaggedPlace.{FlaggedPlace}
use Rattle.ttm_base.specs.declared.Deny.TheVariants as deny
use Rattle.ttm_base.specs.Placement.{first_places, forced_places}
use Rattle.journal_model.specs.declared.script.Script.{Script}
use Rattle.journal_model.specs.declared.script.Mark.{Mark}
use Rattle.journal_model.specs.declared.entry.Entry.{Entry}
use Rattle.journal_model.specs.declared.entry.Kind.{Kind}
use Rattle.journal_model.specs.declared.entry.Kind.TheVariants as kind
use Rattle.journal_model.specs.declared.entry.DryWhy.{DryWhy}
use Rattle.journal_model.specs.declared.entry.DryWhy.TheVariants as dry
use Rattle.journal_model.specs.declared.state.State.{State}
use Rattle.journal_model.specs.rules.State.{course, buffer, same_buffer}
use Rattle.journal_model.specs.rules.Commands.{command_at_work}
use Rattle.journal_model.specs.statements.Complete.{is_complete, answers_of, thread_numbers}
use Rattle.journal_model.specs.rules.Commands.{commands_of}
use Rattle.journal_model.specs.rules.Legal.{World, Made, first_world, world_along, made_along}
use Rattle.journal_model.specs.rules.PlainMemory.{Plain, first_plain, plain_after, plain_after_kind}
use Rattle.journal_model.specs.rules.Transparent.{IsKindPlain, IsTransparentFrom}
use Rattle.journal_model.specs.rules.Apply.{thread_of}
use Rattle.journal_model.specs.rules.Dry.{is_dry, dry_why, same_why}
use Rattle.journal_model.specs.rules.Search.{aim_of}
use Rattle.journal_model.specs.statements.Causes.{since_last, in_command, named_at_work, is_take_of, dry_of, is_at_work, places_sought, is_dry_place, is_dry_as_told, was_dry, search_of, shows_pressure, PressedSearch, pressed_by, all_went_dry, is_search_over, is_out_of_space, has_its_cause, have_causes}
use Rattle.journal_model.specs.statements.MarkLaws.{HaveOneStory, MarksTellNothing, MarksTurnNothing}
use Rattle.laws.proofs.law_search.FormSearches.{in_form, choice_same, place_search_same, long_same, victim_same, ghost_same, causes_same}
use Rattle.laws.proofs.law_search.FormSteps.{unready_same, world_same}
use Rattle.laws.proofs.law_search.Forms.{scheduled_same}

module _ (ms : List Mark) (script : Script) where
  -- the script with other marks
  abbrev other : Script
  other = in_form script.version ms script

  -- ---- what is shown

  kind_plain : (p : Plain) (e : Entry) → IsKindPlain (in_form script.version ms script) p e.who e.kind ≡ IsKindPlain script p e.who e.kind
  kind_plain p e = by e.kind
    where
      by : (k : Kind) → IsKindPlain (in_form script.version ms script) p e.who k ≡ IsKindPlain script p e.who k
      by (kind.Result r) = refl
      by (kind.Packet n k piece) = refl
      by k = refl

  plain_same : (p : Plain) (e : Entry) → plain_after (in_form script.version ms script) p e ≡ plain_after script p e
  plain_same p e = by e.kind
    where
      by : (k : Kind) → plain_after_kind (in_form script.version ms script) p (thread_of e.who) k ≡ plain_after_kind script p (thread_of e.who) k
      by (kind.Ticket stamp) = refl
      by k = refl

  transparent_same : (p : Plain) (es : List Entry) → IsTransparentFrom (in_form script.version ms script) p es ≡ IsTransparentFrom script p es
  transparent_same p [] = refl
  transparent_same p (e ∷ es) = λ i. kind_plain p e i × transparent_same (plain_same p e i) es i

  -- ---- states

  along_same : (w : World) (es : List Entry) → world_along (in_form script.version ms script) w es ≡ world_along script w es
  along_same w [] = refl
  along_same w (e ∷ es) = λ i. along_same (world_same script.version ms script w e i) es i

  made_same : (w : World) (es : List Entry) → made_along (in_form script.version ms script) w es ≡ made_along script w es
  made_same w [] = refl
  made_same w (e ∷ es) = λ i. record { before = w.state; entry = e } ∷ made_same (world_same script.version ms script w e i) es i

  complete_same : (journal : List Entry) → is_complete (in_form script.version ms script) journal ≡ is_complete script journal
  complete_same journal =
      ap (λ (w : World).
      list_all (λ thread. answers_of thread journal == length (commands_of script thread)) (thread_numbers script)
      && list_all (λ j. j.finished) w.state.core.jobs
      && (length w.state.core.ghosts == 0))
      (along_same (first_world script) journal)

  -- ---- causes

  dry_same : (s : State) (skips : List BufId) (b : BufId) (place : Place) → is_dry (in_form script.version ms script) s skips b place ≡ is_dry script s skips b place
  dry_same s skips b place = λ i.
      not (long_same script.version ms script b place i)
      || (is_none (choice_same script.version ms script s.core b place i) && is_none (victim_same script.version ms script s skips place i) && is_none (ghost_same script.version ms script s place i))

  why_same : (s : State) (b : BufId) (place : Place) → dry_why (in_form script.version ms script) s b place ≡ dry_why script s b place
  why_same s b place = λ i. if long_same script.version ms script b place i then dry.Of (causes_same script.version ms script s place i) else dry.Short

  sought_same : (s : State) (t : ℕ) (b : BufId) → places_sought (in_form script.version ms script) s t b ≡ places_sought script s t b
  sought_same s t b = λ i.
      elim (command_at_work script s t) [
        | Some cmd ↦ (place_search_same script.version ms script cmd (course s t) b (aim_of (course s t) b (buffer s b)) i).list
        | None ↦ []
      ]

  place_same : (s : State) (t : ℕ) (b : BufId) (forced : List Place) (k : ℕ) → is_dry_place (in_form script.version ms script) s t b forced k ≡ is_dry_place script s t b forced k
  place_same s t b forced k = λ i. elim (slice_get forced k) [ None ↦ false | Some place ↦ dry_same s (course s t).skips b place i ]

  told_same : (s : State) (t : ℕ) (b : BufId) (forced : List Place) (k : ℕ) (w : DryWhy) → is_dry_as_told (in_form script.version ms script) s t b forced k w ≡ is_dry_as_told script s t b forced k w
  told_same s t b forced k w = λ i.
      elim (slice_get forced k) [ None ↦ false | Some place ↦ dry_same s (course s t).skips b place i && same_why w (why_same s b place i) ]

  was_same : (t : ℕ) (b : BufId) (forced : List Place) (m : Made) → was_dry (in_form script.version ms script) t b forced m ≡ was_dry script t b forced m
  was_same t b forced m = λ i. elim (dry_of b m.entry.kind) [ None ↦ true | Some k ↦ place_same m.before t b forced k i ]

  work_same : (t : ℕ) (b : BufId) (m : Made) → is_at_work (in_form script.version ms script) t b m ≡ is_at_work script t b m
  work_same t b m = λ i.
      elim (option_and_then (λ cmd. unready_same script.version ms script m.before cmd i) (command_at_work script m.before t)) [ None ↦ false | Some c ↦ same_buffer b c ]

  entries_same : (t : ℕ) (b : BufId) (before : List Made) → search_of (in_form script.version ms script) t b before ≡ search_of script t b before
  entries_same t b before = λ i. filter (λ m. work_same t b m i) (since_last (λ m. is_take_of b m.entry.kind) (in_command t before))

  -- the search, by the places that it tries
  abbrev pressed_at : ℕ → BufId → List Made → Made → List FlaggedPlace → PressedSearch
  pressed_at t b entries m list = record { thread = t; b = b; entries = entries; start = m.before; first = first_places list; forced = forced_places list }

  pressed_same : (t : ℕ) (b : BufId) (entries : List Made) (m : Made) → pressed_by (in_form script.version ms script) t b entries m ≡ pressed_by script t b entries m
  pressed_same t b entries m =
      ap (pressed_at t b entries m) (sought_same m.before t b)

  over_same : (p : PressedSearch) → is_search_over (in_form script.version ms script) p ≡ is_search_over script p
  over_same p = λ i.
      list_all (λ place. is_none (choice_same script.version ms script p.start.core p.b place i)) p.first
      && all_went_dry p
      && list_all (λ m. was_same p.thread p.b p.forced m i) p.entries

  space_same : (t : ℕ) (b : BufId) (entries : List Made) → is_out_of_space (in_form script.version ms script) t b entries ≡ is_out_of_space script t b entries
  space_same t b entries = λ i. elim (find (shows_pressure b) entries) [ None ↦ false | Some m ↦ over_same (pressed_same t b entries m i) i ]

  cause_same : (before : List Made) (s : State) (t : ℕ) (k : Kind) → has_its_cause (in_form script.version ms script) before s t k ≡ has_its_cause script before s t k
  cause_same before s t (kind.Dry b k w) = λ i. told_same s t b (forced_places (sought_same s t b i)) k w i
  cause_same before s t (kind.Refused deny.NoSpace) = λ i. list_any (λ b. space_same t b (entries_same t b before i) i) (named_at_work script s t)
  cause_same before s t (kind.Refused d) = refl
  cause_same before s t k = refl

  have_same : (before made : List Made) → have_causes (in_form script.version ms script) before made ≡ have_causes script before made
  have_same before [] = refl
  have_same before (m ∷ made) = λ i. cause_same before m.before (thread_of m.entry.who) m.entry.kind i && have_same (before ++ m ∷ []) made i

  all_same : (journal : List Entry) → have_causes (in_form script.version ms script) [] (made_along (in_form script.version ms script) (first_world script) journal) ≡ have_causes script [] (made_along script (first_world script) journal)
  all_same journal = λ i. have_same [] (made_same (first_world script) journal i) i

  pub one_story : (journal : List Entry) → HaveOneStory (in_form script.version ms script) script journal
  one_story journal = record {
    transparent = (subst (λ t. t) (transparent_same first_plain journal), subst (λ t. t) (sym (transparent_same first_plain journal)));
    complete = complete_same journal;
    causes = all_same journal;
  }

pub story_law : MarksTellNothing
story_law script journal = one_story [] script journal

pub turns_law : MarksTurnNothing
turns_law script n = scheduled_same script.version [] script n
