-- What a legal entry gives was free: the choice of a place, the lowest free frame, the lowest free slot.
use Rattle.std.proofs.Common.{◌≡◌, ℕ, Bool, true, false, List, [], ◌∷◌, Option, Some, None, Ok, refl, subst, arith}
use Rattle.std.proofs.lemmas.Grind.{common_steps}
use Rattle.ttm_base.specs.declared.Mem.{Mem}
use Rattle.ttm_base.specs.declared.Mem.TheVariants.{System}
use Rattle.ttm_base.specs.declared.BufId.{BufId}
use Rattle.ttm_base.specs.declared.JobId.{JobId}
use Rattle.ttm_base.specs.declared.Span.{Span}
use Rattle.ttm_base.specs.declared.Place.{Place}
use Rattle.ttm_base.specs.declared.Loc.{Loc}
use Rattle.ttm_base.specs.declared.Loc.TheVariants as loc
use Rattle.ttm_base.specs.declared.Deny.TheVariants as deny
use Rattle.ttm_base.specs.Placement.{first_places, forced_places}
use Rattle.journal_model.specs.declared.script.Script.{Script}
use Rattle.journal_model.specs.declared.script.Command.{Command}
use Rattle.journal_model.specs.declared.script.Command.TheVariants as command
use Rattle.journal_model.specs.declared.state.State.{State}
use Rattle.journal_model.specs.declared.state.Course.{Course}
use Rattle.journal_model.specs.declared.state.Task.{Task}
use Rattle.journal_model.specs.declared.state.Task.TheVariants as task
use Rattle.journal_model.specs.declared.entry.Why.{Why}
use Rattle.journal_model.specs.declared.entry.Why.TheVariants as why
use Rattle.journal_model.specs.declared.entry.Kind.{Kind}
use Rattle.journal_model.specs.declared.entry.Kind.TheVariants as kind
use Rattle.std.specs.Prelude.{slice_get, unwrap_or}
use Rattle.journal_model.specs.rules.State.{buffer}
use Rattle.journal_model.specs.rules.Places.{loc_of}
use Rattle.journal_model.specs.rules.Commands.{whole}
use Rattle.journal_model.specs.rules.Holds.{free_frame, free_slot}
use Rattle.journal_model.specs.rules.Choice.{choice}
use Rattle.journal_model.specs.rules.Dry.{has_frame}
use Rattle.journal_model.specs.rules.Waits.{waited_for, jobs_before_write}
use Rattle.journal_model.specs.rules.Search.{Step, PlaceSearch, place_search, step_of_place_search, step_of_forced, step_of_forced_place, step_of_crowded, first_choice}
use Rattle.journal_model.specs.rules.PageSteps.{unless_waiting, once_idle, filled_by, page_to_fill, first_frame_page, step_of_fill, step_without_frame, step_of_swap_out, step_of_empty, why_caught}
use Rattle.journal_model.specs.rules.Next.{plain, step_of_act, step_of_task}

-- the kind takes free pages, a free frame or a free slot
abbrev pub takes : Kind → Bool
takes (kind.Take b mem spans) = true
takes (kind.Populate b page f) = true
takes (kind.SwapIn b page k f) = true
takes (kind.SwapOut b page k) = true
takes _ = false

-- what it takes
abbrev pub Gives : Script → State → Kind → Type 0
Gives script s (kind.Take b mem spans) = (place : Place) × (mem ≡ place.mem) × (choice script s.core b place ≡ Some spans)
Gives script s (kind.Populate b page f) = free_frame script s.core ≡ Some f
Gives script s (kind.SwapIn b page k f) = free_frame script s.core ≡ Some f
Gives script s (kind.SwapOut b page k) = free_slot script s.core ≡ Some k
Gives script s _ = Unit {0}

pub quiet : (script : Script) (s : State) (k : Kind) → takes k ≡ false → Gives script s k
quiet script s (kind.Take b mem spans) h = cc
quiet script s (kind.Populate b page f) h = cc
quiet script s (kind.SwapIn b page slot f) h = cc
quiet script s (kind.SwapOut b page slot) h = cc
quiet script s k h = tt

same_gives : (script : Script) (s : State) (k e : Kind) → ◌≡◌ {A = Step} (Ok k) (Ok e) → Gives script s k → Gives script s e
same_gives script s k e h g = let same : k ≡ e = cc in subst (Gives script s) same g

-- ---- a search

-- the places that are tried first
found_gives : (script : Script) (s : State) (b : BufId) (places : List Place) (found : Mem × List Span) → first_choice script s b places ≡ Some found
    → (place : Place) × (found.0 ≡ place.mem) × (choice script s.core b place ≡ Some found.1)
found_gives script s b [] found e = cc
found_gives script s b (p ∷ ps) found e = by (choice script s.core b p) refl (found_gives script s b ps found) e
  where
    by : (o : Option (List Span)) → choice script s.core b p ≡ o → (first_choice script s b ps ≡ Some found → (place : Place) × (found.0 ≡ place.mem) × (choice script s.core b place ≡ Some found.1)) →
        (elim o as (λ o. Option (Mem × List Span)) [ Some spans ↦ Some (p.mem, spans) | None ↦ first_choice script s b ps ]) ≡ Some found → (place : Place) × (found.0 ≡ place.mem) × (choice script s.core b place ≡ Some found.1)
    by (Some spans) q rest g =
        let same : ◌≡◌ {A = Mem × List Span} (p.mem, spans) found = cc in
        subst (λ f. (place : Place) × (f.0 ≡ place.mem) × (choice script s.core b place ≡ Some f.1)) same (p, refl, q)
    by None q rest g = rest g

crowded_takes_none : (script : Script) (s : State) (c : Course) (b : BufId) (k : ℕ) (place : Place) (e : Kind) → step_of_crowded script s c b k place ≡ Ok e → takes e ≡ false
crowded_takes_none script s c b k place e h = grind (arith, common_steps)

forced_gives : (script : Script) (s : State) (c : Course) (b : BufId) (k : ℕ) (place : Place) (e : Kind) → step_of_forced_place script s c b k place ≡ Ok e → Gives script s e
forced_gives script s c b k place e h = by (choice script s.core b place) refl h
  where
    by : (o : Option (List Span)) → choice script s.core b place ≡ o → (elim o as (λ o. Step) [ Some spans ↦ Ok (kind.Take b place.mem spans) | None ↦ step_of_crowded script s c b k place ]) ≡ Ok e → Gives script s e
    by (Some spans) q g = same_gives script s (kind.Take b place.mem spans) e g (place, refl, q)
    by None q g = quiet script s e (crowded_takes_none script s c b k place e g)

place_search_gives : (script : Script) (s : State) (c : Course) (b : BufId) (q : PlaceSearch) (e : Kind) → step_of_place_search script s c b q ≡ Ok e → Gives script s e
place_search_gives script s c b q e h = by q.forced (first_choice script s b (first_places q.list)) refl h
  where
    forced : step_of_forced script s c b q.dry (forced_places q.list) ≡ Ok e → Gives script s e
    forced g = forced_gives script s c b q.dry (unwrap_or (slice_get (forced_places q.list) q.dry) (whole System)) e g

    by : (f : Bool) (o : Option (Mem × List Span)) → first_choice script s b (first_places q.list) ≡ o →
        (elim f as (λ f. Step) [
          | true ↦ step_of_forced script s c b q.dry (forced_places q.list)
          | false ↦ elim o as (λ o. Step) [ Some found ↦ Ok (kind.Take b found.0 found.1) | None ↦ step_of_forced script s c b q.dry (forced_places q.list) ]
        ]) ≡ Ok e → Gives script s e
    by true o w g = forced g
    by false (Some found) w g = same_gives script s (kind.Take b found.0 found.1) e g (found_gives script s b (first_places q.list) found w)
    by false None w g = forced g

-- ---- frames and slots

without_frame_takes_none : (script : Script) (s : State) (b : BufId) (e : Kind) → step_without_frame script s b ≡ Ok e → takes e ≡ false
without_frame_takes_none script s b e h = grind (arith, common_steps)

filled_gives : (script : Script) (s : State) (b : BufId) (page frame : ℕ) (l : Loc) → free_frame script s.core ≡ Some frame → Gives script s (filled_by b page frame l)
filled_gives script s b page frame (loc.Slot k) h = h
filled_gives script s b page frame loc.Zero h = h
filled_gives script s b page frame (loc.Frame f) h = h

fill_gives : (script : Script) (s : State) (b : BufId) (e : Kind) → step_of_fill script s b ≡ Ok e → Gives script s e
fill_gives script s b e h = by (free_frame script s.core) refl h
  where
    by : (o : Option ℕ) → free_frame script s.core ≡ o →
        (elim o as (λ o. Step) [
          | Some frame ↦ Ok (filled_by b (page_to_fill (buffer s b)) frame (loc_of (buffer s b) (page_to_fill (buffer s b))))
          | None ↦ step_without_frame script s b
        ]) ≡ Ok e → Gives script s e
    by (Some frame) q g =
        same_gives script s (filled_by b (page_to_fill (buffer s b)) frame (loc_of (buffer s b) (page_to_fill (buffer s b)))) e g
        (filled_gives script s b (page_to_fill (buffer s b)) frame (loc_of (buffer s b) (page_to_fill (buffer s b))) q)
    by None q g = quiet script s e (without_frame_takes_none script s b e g)

waited_gives : (script : Script) (s : State) (k e : Kind) (o : Option JobId) → Gives script s k → unless_waiting o k ≡ Ok e → Gives script s e
waited_gives script s k e None g h = same_gives script s k e h g
waited_gives script s k e (Some job) g h = cc

swap_out_gives : (script : Script) (s : State) (b : BufId) (no_frame no_slot : Step) (e : Kind) → (no_frame ≡ Ok e → Gives script s e) → (no_slot ≡ Ok e → Gives script s e)
    → step_of_swap_out script s b no_frame no_slot ≡ Ok e → Gives script s e
swap_out_gives script s b no_frame no_slot e f k h = by (has_frame (buffer s b)) (free_slot script s.core) refl h
  where
    by : (q : Bool) (o : Option ℕ) → free_slot script s.core ≡ o →
        (elim q as (λ q. Step) [
          | false ↦ no_frame
          | true ↦ elim o as (λ o. Step) [ None ↦ no_slot | Some slot ↦ once_idle s.core b (kind.SwapOut b (first_frame_page (buffer s b)) slot) ]
        ]) ≡ Ok e → Gives script s e
    by false o w g = f g
    by true None w g = k g
    by true (Some slot) w g = waited_gives script s (kind.SwapOut b (first_frame_page (buffer s b)) slot) e (waited_for s.core (jobs_before_write (buffer s b))) w g

loose_takes_none : (e k : Kind) → takes k ≡ false → ◌≡◌ {A = Step} (Ok k) (Ok e) → takes e ≡ false
loose_takes_none e k q h = let same : k ≡ e = cc in subst (λ k. takes k ≡ false) same q

empty_gives : (script : Script) (s : State) (c : Course) (b : BufId) (e : Kind) → step_of_empty script s c b ≡ Ok e → Gives script s e
empty_gives script s c b e h = by (why_caught c b) h
  where
    let_go : ◌≡◌ {A = Step} (Ok (kind.Loose b)) (Ok e) → Gives script s e
    let_go g = same_gives script s (kind.Loose b) e g tt

    by_why : (w : Why) → (elim w as (λ w. Step) [
      | why.Swap ↦ step_of_swap_out script s b (Ok (kind.Loose b)) (Ok (kind.Loose b))
      | why.Tt ↦ Ok (kind.Loose b)
      | why.Vram ↦ Ok (kind.Loose b)
    ]) ≡ Ok e → Gives script s e
    by_why why.Swap g = swap_out_gives script s b (Ok (kind.Loose b)) (Ok (kind.Loose b)) e let_go let_go g
    by_why why.Tt g = let_go g
    by_why why.Vram g = let_go g

    by : (o : Option Why) → (elim o as (λ o. Step) [
      | Some w ↦ elim w as (λ w. Step) [
        | why.Swap ↦ step_of_swap_out script s b (Ok (kind.Loose b)) (Ok (kind.Loose b))
        | why.Tt ↦ Ok (kind.Loose b)
        | why.Vram ↦ Ok (kind.Loose b)
      ]
      | None ↦ Ok (kind.Loose b)
    ]) ≡ Ok e → Gives script s e
    by (Some w) g = by_why w g
    by None g = let_go g

-- ---- each task

act_takes_none : (script : Script) (s : State) (cmd : Command) (k : Kind) → step_of_act script s cmd ≡ Ok k → Gives script s k
act_takes_none script s (command.SwapOut b) k h =
    swap_out_gives script s b plain (Ok (kind.Refused deny.NoSwap)) k (λ g. quiet script s k (loose_takes_none k _ refl g)) (λ g. quiet script s k (loose_takes_none k (kind.Refused deny.NoSwap) refl g)) h
act_takes_none script s cmd k h = quiet script s k (grind (arith, common_steps))

pub task_gives : (script : Script) (s : State) (c : Course) (cmd : Command) (t : Task) (k : Kind) → step_of_task script s c cmd t ≡ Ok k → Gives script s k
task_gives script s c cmd task.Idle k h = cc
task_gives script s c cmd (task.Search x aim) k h = place_search_gives script s c x (place_search script cmd c x aim) k h
task_gives script s c cmd (task.Fill x) k h = fill_gives script s x k h
task_gives script s c cmd (task.Empty x) k h = empty_gives script s c x k h
task_gives script s c cmd task.Act k h = act_takes_none script s cmd k h
task_gives script s c cmd t k h = quiet script s k (grind (arith, common_steps))
