-- What a thread's entry tells of its course: only commands that make something are made, a result is of a made command or one that
-- nothing forbids, and only a place that there is goes dry.
use Rattle.std.proofs.Common.{◌≡◌, ℕ, ◌<◌, Bool, true, false, List, Option, Some, None, Ok, refl, ap, arith}
use Rattle.std.specs.Prelude.{nat_lt, length, not, is_none, slice_get, unwrap_or}
use Rattle.std.proofs.lemmas.Grind.{common_steps}
use Rattle.std.proofs.lemmas.Bool.Decides.{nat_tests}
use Rattle.ttm_base.specs.ListWords.{last_of}
use Rattle.ttm_base.specs.declared.Mem.{Mem}
use Rattle.ttm_base.specs.declared.Mem.TheVariants.{System}
use Rattle.ttm_base.specs.declared.BufId.{BufId}
use Rattle.ttm_base.specs.declared.Deny.{Deny}
use Rattle.ttm_base.specs.declared.Place.{Place}
use Rattle.ttm_base.specs.declared.Span.{Span}
use Rattle.ttm_base.specs.Placement.{first_places, forced_places}
use Rattle.ttm_base.specs.Reach.{same_mem}
use Rattle.journal_model.specs.declared.script.Script.{Script}
use Rattle.journal_model.specs.declared.script.Command.{Command}
use Rattle.journal_model.specs.declared.script.Command.TheVariants as command
use Rattle.journal_model.specs.declared.state.State.{State}
use Rattle.journal_model.specs.declared.state.Course.{Course}
use Rattle.journal_model.specs.declared.state.Victim.{Victim}
use Rattle.journal_model.specs.declared.state.Reservation.{Reservation}
use Rattle.journal_model.specs.declared.state.Task.{Task}
use Rattle.journal_model.specs.declared.state.Task.TheVariants as task
use Rattle.journal_model.specs.declared.entry.Kind.{Kind}
use Rattle.journal_model.specs.declared.entry.Kind.TheVariants as kind
use Rattle.journal_model.specs.rules.State.{buffer, reservation}
use Rattle.journal_model.specs.rules.Commands.{whole}
use Rattle.journal_model.specs.rules.Choice.{choice}
use Rattle.journal_model.specs.rules.Ready.{is_in_place, first_unready}
use Rattle.journal_model.specs.rules.Tasks.{carried, task_of_misplaced, task_of_unready, task_of_failed, gives_back, forbidden, task_of_command, task_of_held, task_of_victim, first_missing, starts}
use Rattle.journal_model.specs.rules.Search.{Step, PlaceSearch, step_of_place_search, step_of_forced, step_of_forced_place, step_of_crowded, first_choice}
use Rattle.journal_model.specs.rules.Next.{step_of_task, step_of_act, step_of_start}
use Rattle.laws.specs.law_state.Courses.{makes}
use Rattle.laws.proofs.law_state.Lists.{get_within}

-- ---- tasks

-- an answer is of a made command, acting is of one that nothing forbids, what is moved by a job doesn't stand in SYSTEM, and what is bound does
abbrev pub may : State → Course → Command → Task → Bool
may s c cmd task.Answer = c.made
may s c cmd task.Act = is_none (forbidden s cmd)
may s c cmd (task.Move b mem) = not (same_mem (buffer s b).mem System)
may s c cmd (task.Bind b) = same_mem (buffer s b).mem System
may s c cmd _ = true

victim_may : (s : State) (c : Course) (cmd : Command) (v : Victim) → may s c cmd (task_of_victim v (buffer s v.b)) ≡ true
victim_may s c cmd v = grind (arith, common_steps, nat_tests)

carried_may : (s : State) (c : Course) (cmd : Command) (mem : Mem) (b : BufId) → (buffer s b).mem ≡ mem → may s c cmd (carried mem b (buffer s b)) ≡ true
carried_may s c cmd System b e = grind (arith, common_steps, nat_tests)
carried_may s c cmd mem b e = grind (arith, common_steps, nat_tests)

misplaced_may : (s : State) (c : Course) (cmd : Command) (b : BufId) (g : Reservation) → may s c cmd (task_of_misplaced b g (buffer s b)) ≡ true
misplaced_may s c cmd b g = let on : may s c cmd (carried (buffer s b).mem b (buffer s b)) ≡ true = carried_may s c cmd (buffer s b).mem b refl in grind (arith, common_steps)

unready_may : (script : Script) (s : State) (c : Course) (cmd : Command) (b : BufId) → may s c cmd (task_of_unready script s cmd b) ≡ true
unready_may script s c cmd b = by (is_in_place script cmd b (buffer s b))
  where
    by : (q : Bool) → may s c cmd (elim q [ true ↦ task.Fill b | false ↦ task_of_misplaced b (reservation s b) (buffer s b) ]) ≡ true
    by true = refl
    by false = misplaced_may s c cmd b (reservation s b)

failed_may : (script : Script) (s : State) (c : Course) (cmd : Command) (d : Deny) → may s c cmd (task_of_failed script s cmd d) ≡ true
failed_may script s c cmd d = by_buffer (first_unready script s cmd)
  where
    by_gift : (q : Bool) (b : BufId) → may s c cmd (elim q [ true ↦ task.GiveBack b | false ↦ task.GiveUp d ]) ≡ true
    by_gift true b = refl
    by_gift false b = refl

    by_buffer : (o : Option BufId) → may s c cmd (elim o [ Some b ↦ elim (gives_back (buffer s b)) [ true ↦ task.GiveBack b | false ↦ task.GiveUp d ] | None ↦ task.GiveUp d ]) ≡ true
    by_buffer None = refl
    by_buffer (Some b) = by_gift (gives_back (buffer s b)) b

abbrev held_at : Script → State → Course → Command → Option Deny → Option Deny → Option BufId → Task
held_at script s c cmd o f u =
    elim o [
      | Some d ↦ task.Refuse d
      | None ↦ elim f [
        | Some d ↦ task_of_failed script s cmd d
        | None ↦ elim u [ Some b ↦ task_of_unready script s cmd b | None ↦ task.Act ]
      ]
    ]

held_may : (script : Script) (s : State) (c : Course) (cmd : Command) → may s c cmd (task_of_held script s c cmd) ≡ true
held_may script s c cmd = by (forbidden s cmd) refl c.fail (first_unready script s cmd)
  where
    by : (o : Option Deny) → forbidden s cmd ≡ o → (f : Option Deny) (u : Option BufId) → may s c cmd (held_at script s c cmd o f u) ≡ true
    by (Some d) e f u = refl
    by None e (Some d) u = failed_may script s c cmd d
    by None e None (Some b) = unready_may script s c cmd b
    by None e None None = ap is_none e

abbrev command_task_at : Script → State → Course → Command → Bool → Bool → Option BufId → Option Victim → Task
command_task_at script s c cmd made began m v =
    elim made [
      | true ↦ task.Answer
      | false ↦ elim began [
        | true ↦ task.Start
        | false ↦ elim m [
          | Some b ↦ task.Lock b
          | None ↦ elim v [ Some w ↦ task_of_victim w (buffer s w.b) | None ↦ task_of_held script s c cmd ]
        ]
      ]
    ]

pub command_may : (script : Script) (s : State) (c : Course) (cmd : Command) → may s c cmd (task_of_command script s c cmd) ≡ true
command_may script s c cmd = by c.made refl (starts c cmd) (first_missing c cmd) (last_of c.caught)
  where
    by : (made : Bool) → c.made ≡ made → (began : Bool) (m : Option BufId) (v : Option Victim) → may s c cmd (command_task_at script s c cmd made began m v) ≡ true
    by true e began m v = e
    by false e true m v = refl
    by false e false (Some b) v = refl
    by false e false None (Some w) = victim_may s c cmd w
    by false e false None None = held_may script s c cmd

-- ---- steps

-- a result is of a made command or of one that acts; what makes a command made is of one that makes something
abbrev pub is_shown_by : Command → Task → Kind → Bool
is_shown_by cmd t (kind.New b) = makes cmd
is_shown_by cmd t (kind.Free b g) = makes cmd
is_shown_by cmd t (kind.Bulk group) = makes cmd
is_shown_by cmd t (kind.Arm engine n) = makes cmd
is_shown_by cmd task.Answer (kind.Result r) = true
is_shown_by cmd task.Act (kind.Result r) = true
is_shown_by cmd t (kind.Result r) = false
is_shown_by cmd t _ = true

act_shows : (script : Script) (s : State) (cmd : Command) (k : Kind) → step_of_act script s cmd ≡ Ok k → is_shown_by cmd task.Act k ≡ true
act_shows script s (command.New b) k h = grind (arith, common_steps)
act_shows script s cmd k h = grind (arith, common_steps)

start_shows : (s : State) (cmd : Command) (k : Kind) → step_of_start s cmd ≡ Ok k → is_shown_by cmd task.Start k ≡ true
start_shows s (command.New b) k h = grind (arith, common_steps)
start_shows s cmd k h = grind (arith, common_steps)

pub shown_by_task : (script : Script) (s : State) (c : Course) (cmd : Command) (t : Task) (k : Kind) → step_of_task script s c cmd t ≡ Ok k → is_shown_by cmd t k ≡ true
shown_by_task script s c cmd task.Start k h = start_shows s cmd k h
shown_by_task script s c cmd task.Act k h = act_shows script s cmd k h
shown_by_task script s c cmd t k h = grind (arith, common_steps)

-- ---- dry places

-- the number of a dry place is that of a place of a list of at most so many
abbrev pub is_dry_below : ℕ → Kind → Bool
is_dry_below most (kind.Dry b k w) = nat_lt k most
is_dry_below most _ = true

crowded_dry : (script : Script) (s : State) (c : Course) (b : BufId) (k most : ℕ) (place : Place) (e : Kind) → k < most → step_of_crowded script s c b k place ≡ Ok e → is_dry_below most e ≡ true
crowded_dry script s c b k most place e l h = grind (arith, common_steps, nat_tests)

abbrev place_step : Script → State → Course → BufId → ℕ → Place → Option (List Span) → Step
place_step script s c b k place o = elim o [ Some spans ↦ Ok (kind.Take b place.mem spans) | None ↦ step_of_crowded script s c b k place ]

place_dry : (script : Script) (s : State) (c : Course) (b : BufId) (k most : ℕ) (place : Place) (e : Kind) (o : Option (List Span)) → k < most → place_step script s c b k place o ≡ Ok e → is_dry_below most e ≡ true
place_dry script s c b k most place e (Some spans) l g = grind (arith, common_steps)
place_dry script s c b k most place e None l g = crowded_dry script s c b k most place e l g

forced_dry : (script : Script) (s : State) (c : Course) (b : BufId) (k : ℕ) (places : List Place) (e : Kind) → step_of_forced script s c b k places ≡ Ok e → is_dry_below (length places) e ≡ true
forced_dry script s c b k places e h = by (slice_get places k) refl h
  where
    by : (o : Option Place) → slice_get places k ≡ o → step_of_forced_place script s c b k (unwrap_or o (whole System)) ≡ Ok e → is_dry_below (length places) e ≡ true
    by None q g = grind (arith, common_steps)
    by (Some place) q g = place_dry script s c b k (length places) place e (choice script s.core b place) (get_within places k place q) g

abbrev place_search_step : Script → State → Course → BufId → PlaceSearch → Bool → Option (Mem × List Span) → Step
place_search_step script s c b q f o =
    elim f [
      | true ↦ step_of_forced script s c b q.dry (forced_places q.list)
      | false ↦ elim o [
        | Some found ↦ Ok (kind.Take b found.0 found.1)
        | None ↦ step_of_forced script s c b q.dry (forced_places q.list)
      ]
    ]

pub place_search_dry : (script : Script) (s : State) (c : Course) (b : BufId) (q : PlaceSearch) (e : Kind) → step_of_place_search script s c b q ≡ Ok e → is_dry_below (length (forced_places q.list)) e ≡ true
place_search_dry script s c b q e h = by q.forced (first_choice script s b (first_places q.list)) h
  where
    by : (f : Bool) (o : Option (Mem × List Span)) → place_search_step script s c b q f o ≡ Ok e → is_dry_below (length (forced_places q.list)) e ≡ true
    by true o g = forced_dry script s c b q.dry (forced_places q.list) e g
    by false (Some found) g = grind (arith, common_steps)
    by false None g = forced_dry script s c b q.dry (forced_places q.list) e g
