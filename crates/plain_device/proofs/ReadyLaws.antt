-- Each entry that is legal next can be written and applied: its numbers fit, and its thread is there.
use Rattle.std.proofs.Common.{◌≡◌, ℕ, ◌+◌, ◌-◌, ◌^◌, ◌<◌, ◌≤◌, zero, suc, Bool, true, false, List, [], ◌∷◌, length, Option, Some, None, Result, Ok, Err, IsTrue, IsSome, refl, sym, subst, ◌∙◌, ap, arith, ◌⊎◌, inl, inr, ⊎_elim}
use Rattle.std.specs.Prelude.{slice_get, map, filter, not, ◌==◌, ◌&&◌, ◌||◌, nat_lt, nat_le, sum_by, unwrap_or, option_and_then, if◌then◌else◌}
use Rattle.std.specs.List.{list_all}
use Rattle.std.proofs.lemmas.Grind.{common_steps}
use Rattle.std.proofs.lemmas.Bool.Decides.{nat_tests}
use Rattle.std.proofs.lemmas.Bool.{cases_lt, false≢true}
use Rattle.ttm_base.specs.ListWords.{count_from}
use Rattle.ttm_base.specs.declared.BufId.{BufId}
use Rattle.ttm_base.specs.declared.JobId.{JobId}
use Rattle.ttm_base.specs.declared.FlaggedPlace.{FlaggedPlace}
use Rattle.ttm_base.specs.declared.Place.{Place}
use Rattle.ttm_base.specs.Placement.{forced_places}
use Rattle.ttm_base.specs.declared.Actor.{Actor}
use Rattle.ttm_base.specs.declared.Actor.TheVariants as actor
use Rattle.journal_model.specs.declared.script.Script.{Script}
use Rattle.journal_model.specs.declared.script.Decl.{Decl}
use Rattle.journal_model.specs.declared.script.Command.{Command}
use Rattle.journal_model.specs.declared.script.Command.TheVariants as command
use Rattle.journal_model.specs.declared.state.State.{State}
use Rattle.journal_model.specs.declared.state.Job.{Job}
use Rattle.journal_model.specs.declared.state.Reservation.{Reservation}
use Rattle.journal_model.specs.declared.state.Buffer.{Buffer}
use Rattle.journal_model.specs.declared.state.Course.{Course}
use Rattle.journal_model.specs.declared.state.SearchAim.{SearchAim}
use Rattle.journal_model.specs.declared.state.SearchAim.TheVariants.{Asked, Hop}
use Rattle.journal_model.specs.declared.state.Task.{Task}
use Rattle.journal_model.specs.declared.state.Task.TheVariants as task
use Rattle.journal_model.specs.declared.entry.Kind.{Kind}
use Rattle.journal_model.specs.declared.entry.Kind.TheVariants as kind
use Rattle.journal_model.specs.rules.State.{buffer, course, course_of, live_in, new_buffer}
use Rattle.journal_model.specs.rules.Commands.{commands_of, command_at_work, decl, undeclared, asked_places}
use Rattle.journal_model.specs.scripts.ScriptRules.{is_script, is_decl, is_place_list, has_sizes, has_distinct_names, is_turn_line}
use Rattle.journal_model.specs.scripts.CommandRules.{is_between, is_command, command_len}
use Rattle.journal_model.specs.scripts.MarkRules.{has_few_lines, have_marks, are_in_order, is_in_thread, marks_fit, empty_thread_mappings}
use Rattle.journal_model.specs.statements.Complete.{thread_numbers}
use Rattle.journal_model.specs.rules.Waits.{same_job}
use Rattle.journal_model.specs.rules.Search.{PlaceSearch, place_search, is_caught, through_tt, step_of_place_search}
use Rattle.journal_model.specs.rules.PageSteps.{next_job}
use Rattle.journal_model.specs.rules.Next.{next, step_of_task, step_of_act, step_of_start}
use Rattle.journal_model.specs.rules.Stores.{Stores, showing}
use Rattle.laws.proofs.law_state.JournalCourses.{is_of_engine, is_of_reaper, of_engine, of_reaper, thread_is_there}
use Rattle.laws.specs.law_state.GoodState.{last_number, GoodState}
use Rattle.laws.specs.law_state.Counters.{Below}
use Rattle.laws.specs.law_state.Courses.{GoodCourses}
use Rattle.laws.proofs.law_state.Lists.{get_within}
use Rattle.laws.proofs.law_state.JobsKeep.{all_at}
use Rattle.laws.proofs.law_state.Rules.{Rules, rules_of, declared_pages}
use Rattle.laws.proofs.law_state.Moves.{ThreadStep, thread_step}
use Rattle.laws.proofs.law_state.Courses.{is_dry_below, place_search_dry}
use Rattle.laws.proofs.law_state.Pins.{HasPinLeft, result_pins, at_number}
use Rattle.laws.proofs.law_state.GoodStates.{table_pages}
use Rattle.rules_state.specs.parts.Pins.{HasPinsLeft}
use Rattle.rules_search.specs.Room.{HasRoom}
use Rattle.rules_apply.specs.Ready.{IsThread, CanAnswer, CanShowResult, CanGoDry, CanRun, HasShortTable, has_packets_left, IsReadyFor}

-- ---- few commands

counted_at : (n start i : ℕ) → i < n → slice_get (count_from 1 n start) i ≡ Some (start + i)
counted_at zero start i h = absurd (omega arith)
counted_at (suc n) start zero h = let e : start ≡ start + 0 = omega arith in ap Some e
counted_at (suc n) start (suc i) h = counted_at n (1 + start) i (omega arith) ∙ (let e : 1 + start + i ≡ start + suc i = omega arith in ap Some e)

few_of_lines : (script : Script) (t : ℕ) → has_few_lines script t ≡ true → length (commands_of script t) ≤ 4096
few_of_lines script t h = grind (arith, nat_tests)

tenth : (a b c d e f g h i j : Bool) → (a && b && c && d && e && f && g && h && i && j) ≡ true → j ≡ true
tenth a b c d e f g h i j t = grind arith

fourth : (a b c d e : Bool) → (a && b && c && d && e) ≡ true → d ≡ true
fourth a b c d e t = grind arith

lines_of : (script : Script) → IsTrue (is_script script) → list_all (has_few_lines script) (thread_numbers script) ≡ true
lines_of script h =
    fourth ((script.version == 2) || (length script.marks == 0)) (are_in_order script.marks) (list_all (is_in_thread script) script.marks) (list_all (has_few_lines script) (thread_numbers script)) (list_all (λ t. marks_fit script t 0 empty_thread_mappings (commands_of script t)) (thread_numbers script))
    (tenth (is_between 1 2 script.version) (has_sizes script) (nat_le (length script.buffers) 256) (list_all (is_decl script.version) script.buffers) (has_distinct_names script.buffers) (nat_le (length script.threads) 16) (list_all (list_all (is_command script)) script.threads) (nat_le (sum_by (sum_by command_len) script.threads) 67108864) (list_all (is_turn_line script) script.turns) (have_marks script) h)

no_commands : (script : Script) (t : ℕ) → length script.threads < t → length (commands_of script t) ≤ 4096
no_commands script t h = by (t == 0)
  where
    by_get : (o : Option (List Command)) → slice_get script.threads (t - 1) ≡ o → length (unwrap_or o []) ≤ 4096
    by_get None e = omega arith
    by_get (Some xs) e = let l = get_within script.threads (t - 1) xs e in absurd (omega (arith, l, h))

    by : (b : Bool) → length (if b then [] else unwrap_or (slice_get script.threads (t - 1)) []) ≤ 4096
    by true = omega arith
    by false = by_get (slice_get script.threads (t - 1)) refl

pub few_commands : (script : Script) → IsTrue (is_script script) → (t : ℕ) → length (commands_of script t) ≤ 4096
few_commands script fits zero = omega arith
few_commands script fits (suc t) =
    ⊎_elim
    (λ lt. few_of_lines script (suc t) (all_at (has_few_lines script) (thread_numbers script) t (suc t) (lines_of script fits) (counted_at (length script.threads) 1 t lt ∙ (let e : 1 + t ≡ suc t = omega arith in ap Some e))))
    (λ ge. no_commands script (suc t) (omega (arith, ge)))
    (cases_lt t (length script.threads))

-- ---- few places

length-map : {X Y : Type 0} (f : X → Y) (xs : List X) → length (map f xs) ≡ length xs
length-map f [] = refl
length-map f (x ∷ xs) = ap suc (length-map f xs)

few_filtered : {X : Type 0} (p : X → Bool) (xs : List X) → length (filter p xs) ≤ length xs
few_filtered p [] = omega arith
few_filtered p (x ∷ xs) = let rest = few_filtered p xs in by (p x) rest
  where
    by : (b : Bool) → length (filter p xs) ≤ length xs → length (if b then x ∷ filter p xs else filter p xs) ≤ suc (length xs)
    by true h = omega (arith, h)
    by false h = omega (arith, h)

few_forced : (list : List FlaggedPlace) → length (forced_places list) ≤ length list
few_forced list =
    let a = length-map (λ (p : FlaggedPlace). p.place) (filter (λ p. not p.desired) list) in
    let b = few_filtered (λ (p : FlaggedPlace). not p.desired) list in
    omega (arith, a, b)

list_places : (version : ℕ) (list : List FlaggedPlace) → is_place_list version list ≡ true → length (forced_places list) ≤ 8
list_places version list h = let f = few_forced list in grind (arith, nat_tests)

decl_places : (script : Script) → Rules script → (b : BufId) → length (forced_places (decl script b).placement.list) ≤ 8
decl_places script r b = by (slice_get script.buffers b.0) refl
  where
    placed : (d : Decl) → is_decl script.version d ≡ true → is_place_list script.version d.placement.list ≡ true
    placed d h = grind arith

    by : (o : Option Decl) → slice_get script.buffers b.0 ≡ o → length (forced_places (unwrap_or o undeclared).placement.list) ≤ 8
    by None e = omega arith
    by (Some d) e = list_places script.version d.placement.list (placed d (all_at (is_decl script.version) script.buffers b.0 d r.decls e))

asked_few : (script : Script) → Rules script → (cmd : Command) (b : BufId) → length (forced_places (asked_places script cmd b)) ≤ 8
asked_few script r (command.Move c mem) b = omega arith
asked_few script r (command.SwapOut c) b = omega arith
asked_few script r (command.New c) b = decl_places script r b
asked_few script r (command.Free c) b = decl_places script r b
asked_few script r (command.Pin c) b = decl_places script r b
asked_few script r (command.Unpin c) b = decl_places script r b
asked_few script r (command.Find c) b = decl_places script r b
asked_few script r (command.Write c off bytes) b = decl_places script r b
asked_few script r (command.Read c off len) b = decl_places script r b
asked_few script r (command.Touch group) b = decl_places script r b
asked_few script r (command.Submit engine ops) b = decl_places script r b

place_search_few : (script : Script) → Rules script → (cmd : Command) (c : Course) (b : BufId) (aim : SearchAim) → length (forced_places (place_search script cmd c b aim).list) ≤ 8
place_search_few script r cmd c b Asked = asked_few script r cmd b
place_search_few script r cmd c b Hop = by (is_caught c b)
  where
    picked : Bool → PlaceSearch
    picked q = if q then record { list = through_tt; forced = false; dry = 0 } else record { list = through_tt; forced = c.forced; dry = c.dry }

    by : (q : Bool) → length (forced_places (picked q).list) ≤ 8
    by true = omega arith
    by false = omega arith

-- ---- dry places

-- a lesser bound
dry_below_more : (m n : ℕ) (k : Kind) → m ≤ n → is_dry_below m k ≡ true → is_dry_below n k ≡ true
dry_below_more m n (kind.Ticket stamp) l h = refl
dry_below_more m n (kind.Reserve b) l h = refl
dry_below_more m n (kind.Backoff b stamp) l h = refl
dry_below_more m n (kind.New b) l h = refl
dry_below_more m n (kind.Free b g) l h = refl
dry_below_more m n (kind.Take b mem spans) l h = refl
dry_below_more m n (kind.Untake b mem) l h = refl
dry_below_more m n (kind.Populate b page f) l h = refl
dry_below_more m n (kind.SwapIn b page slot f) l h = refl
dry_below_more m n (kind.Depopulate b) l h = refl
dry_below_more m n (kind.Bind b) l h = refl
dry_below_more m n (kind.Unbind b) l h = refl
dry_below_more m n (kind.Move b mem num left) l h = refl
dry_below_more m n (kind.Catch b w) l h = refl
dry_below_more m n (kind.Loose b) l h = refl
dry_below_more m n (kind.Skip b) l h = refl
dry_below_more m n (kind.Dry b p w) l h = grind (arith, nat_tests)
dry_below_more m n (kind.SwapOut b page slot) l h = refl
dry_below_more m n (kind.NoPages b) l h = refl
dry_below_more m n (kind.Arm engine num) l h = refl
dry_below_more m n (kind.Packet num p piece) l h = refl
dry_below_more m n (kind.Done num) l h = refl
dry_below_more m n (kind.Reap g) l h = refl
dry_below_more m n (kind.Bulk group) l h = refl
dry_below_more m n (kind.Result shown) l h = refl
dry_below_more m n (kind.Refused d) l h = refl

act_dry : (script : Script) (s : State) (cmd : Command) (k : Kind) → step_of_act script s cmd ≡ Ok k → is_dry_below 8 k ≡ true
act_dry script s (command.New b) k h = grind (arith, common_steps)
act_dry script s (command.Free b) k h = grind (arith, common_steps)
act_dry script s (command.Pin b) k h = grind (arith, common_steps)
act_dry script s (command.Unpin b) k h = grind (arith, common_steps)
act_dry script s (command.Find b) k h = grind (arith, common_steps)
act_dry script s (command.SwapOut b) k h = grind (arith, common_steps)
act_dry script s (command.Write b off bytes) k h = grind (arith, common_steps)
act_dry script s (command.Read b off len) k h = grind (arith, common_steps)
act_dry script s (command.Move b mem) k h = grind (arith, common_steps)
act_dry script s (command.Touch group) k h = grind (arith, common_steps)
act_dry script s (command.Submit engine ops) k h = grind (arith, common_steps)

start_dry : (s : State) (cmd : Command) (k : Kind) → step_of_start s cmd ≡ Ok k → is_dry_below 8 k ≡ true
start_dry s (command.New b) k h = grind (arith, common_steps)
start_dry s (command.Free b) k h = grind (arith, common_steps)
start_dry s (command.Pin b) k h = grind (arith, common_steps)
start_dry s (command.Unpin b) k h = grind (arith, common_steps)
start_dry s (command.Find b) k h = grind (arith, common_steps)
start_dry s (command.SwapOut b) k h = grind (arith, common_steps)
start_dry s (command.Write b off bytes) k h = grind (arith, common_steps)
start_dry s (command.Read b off len) k h = grind (arith, common_steps)
start_dry s (command.Move b mem) k h = grind (arith, common_steps)
start_dry s (command.Touch group) k h = grind (arith, common_steps)
start_dry s (command.Submit engine ops) k h = grind (arith, common_steps)

tasks_dry : (script : Script) → Rules script → (s : State) (c : Course) (cmd : Command) (t : Task) (k : Kind) → step_of_task script s c cmd t ≡ Ok k → is_dry_below 8 k ≡ true
tasks_dry script r s c cmd task.Idle k h = grind (arith, common_steps)
tasks_dry script r s c cmd task.Answer k h = grind (arith, common_steps)
tasks_dry script r s c cmd task.Start k h = start_dry s cmd k h
tasks_dry script r s c cmd (task.Lock x) k h = grind (arith, common_steps)
tasks_dry script r s c cmd (task.Search x aim) k h = dry_below_more (length (forced_places (place_search script cmd c x aim).list)) 8 k (place_search_few script r cmd c x aim) (place_search_dry script s c x (place_search script cmd c x aim) k h)
tasks_dry script r s c cmd (task.Bind x) k h = grind (arith, common_steps)
tasks_dry script r s c cmd (task.Unbind x) k h = grind (arith, common_steps)
tasks_dry script r s c cmd (task.Move x mem) k h = grind (arith, common_steps)
tasks_dry script r s c cmd (task.Fill x) k h = grind (arith, common_steps)
tasks_dry script r s c cmd (task.Empty x) k h = grind (arith, common_steps)
tasks_dry script r s c cmd (task.GiveBack x) k h = grind (arith, common_steps)
tasks_dry script r s c cmd (task.Skip x) k h = grind (arith, common_steps)
tasks_dry script r s c cmd (task.GiveUp d) k h = grind (arith, common_steps)
tasks_dry script r s c cmd (task.Refuse d) k h = grind (arith, common_steps)
tasks_dry script r s c cmd task.Act k h = act_dry script s cmd k h

-- ---- what is known of the state of a legal journal

pub record Known (script : Script) (s : State) (n : ℕ) : Type 0 where
  pub fits : IsTrue (is_script script)
  pub rules : Rules script
  pub good : GoodState script s
  pub courses : GoodCourses script s
  pub below : Below n s
  pub short : n + 1 < 2 ^ 64

can_answer : (script : Script) (s : State) (n : ℕ) → Known script s n → (t : ℕ) (cmd : Command) → command_at_work script s t ≡ Some cmd → IsSome (course_of s t) → CanAnswer s t
can_answer script s n k t cmd h here =
    let inside = get_within (commands_of script t) (course s t).answered cmd (at_number script s t cmd h) in
    let few = few_commands script k.fits t in
    record { there = here; room = omega (arith, inside, few) }

same_pins : (reservations : List Reservation) (o : Option Command) → HasPinLeft reservations o → HasPinsLeft reservations o
same_pins reservations None h = tt
same_pins reservations (Some (command.Pin b)) h = h
same_pins reservations (Some (command.Unpin b)) h = tt
same_pins reservations (Some (command.New b)) h = tt
same_pins reservations (Some (command.Free b)) h = tt
same_pins reservations (Some (command.Find b)) h = tt
same_pins reservations (Some (command.SwapOut b)) h = tt
same_pins reservations (Some (command.Write b off bytes)) h = tt
same_pins reservations (Some (command.Read b off len)) h = tt
same_pins reservations (Some (command.Move b mem)) h = tt
same_pins reservations (Some (command.Touch group)) h = tt
same_pins reservations (Some (command.Submit engine ops)) h = tt

all_from : {X : Type 0} (p : X → Bool) (xs : List X) → ((i : ℕ) (x : X) → slice_get xs i ≡ Some x → p x ≡ true) → list_all p xs ≡ true
all_from p [] h = refl
all_from p (x ∷ xs) h = let here : p x ≡ true = h zero x refl in let rest : list_all p xs ≡ true = all_from p xs (λ i y e. h (suc i) y e) in grind arith

can_run : (script : Script) (s : State) (n : ℕ) → Known script s n → (id : JobId) → CanRun s id
can_run script s n k id = all_from (has_packets_left id) s.core.jobs (λ i x e. let r = k.good.jobs.ran i x e in let f = k.good.jobs.few i x e in passes (same_job id x.id) x.ran (omega (arith, r, f)))
  where
    passes : (b : Bool) (m : ℕ) → m + 1 < 4294967296 → (not b || nat_lt (m + 1) (2 ^ 32)) ≡ true
    passes b m l = grind (arith, nat_tests)

short_table : (script : Script) (s : State) (n : ℕ) → Known script s n → (b : BufId) → length (buffer s b).table ≤ 4096
short_table script s n k b = by (live_in s.core.buffers b) refl
  where
    by : (o : Option Buffer) → live_in s.core.buffers b ≡ o → length (unwrap_or o (new_buffer 0)).table ≤ 4096
    by None e = omega arith
    by (Some x) e = (table_pages script k.rules s k.good b x e).1

few_pages : (script : Script) → Rules script → (b : BufId) → (decl script b).pages ≤ 4096
few_pages script r b = ⊎_elim (λ lt. (declared_pages script r b lt).few) (λ ge. none (slice_get script.buffers b.0) refl ge) (cases_lt b.0 (length script.buffers))
  where
    none : (o : Option Decl) → slice_get script.buffers b.0 ≡ o → length script.buffers ≤ b.0 → (unwrap_or o undeclared).pages ≤ 4096
    none None e g = omega arith
    none (Some d) e g = let l = get_within script.buffers b.0 d e in absurd (omega (arith, l, g))

few_buffers : (script : Script) → IsTrue (is_script script) → length script.buffers ≤ 256
few_buffers script h = grind (arith, nat_tests)

few_threads : (script : Script) → IsTrue (is_script script) → length script.threads ≤ 16
few_threads script h = grind (arith, nat_tests)

-- the next entry can be written
pub has_room : (script : Script) (s : State) (n : ℕ) → Known script s n → HasRoom script s
has_room script s n k = record {
  pages = λ b. let l = few_pages script k.rules b in omega (arith, l);
  tables = λ b. let l = short_table script s n k b in omega (arith, l);
  threads = let l = few_threads script k.fits in omega (arith, l);
  buffers = let m = k.good.many in let l = few_buffers script k.fits in omega (arith, m, l);
  stamps = let l = k.below.stamps in let f = k.short in omega (arith, l, f);
  ghosts = let l = k.below.ghosts in let f = k.short in omega (arith, l, f);
  jobs = λ ctx. let l = k.below.jobs ctx in let f = k.short in omega (arith, l, f);
}

-- ---- each kind

dry_number : (k : ℕ) → nat_lt k 8 ≡ true → k + 1 < 2 ^ 32
dry_number k h = grind (arith, nat_tests)

thread_ready : (script : Script) (s : State) (n : ℕ) → Known script s n → (t : ℕ) (k : Kind) → next script s (actor.Thread t) ≡ Ok k → IsReadyFor script s (actor.Thread t) k
thread_ready script s n k t (kind.Ticket stamp) h = thread_is_there script s t (kind.Ticket stamp) h
thread_ready script s n k t (kind.Reserve b) h = thread_is_there script s t (kind.Reserve b) h
thread_ready script s n k t (kind.Backoff b stamp) h = thread_is_there script s t (kind.Backoff b stamp) h
thread_ready script s n k t (kind.New b) h = thread_is_there script s t (kind.New b) h
thread_ready script s n k t (kind.Free b g) h = thread_is_there script s t (kind.Free b g) h
thread_ready script s n k t (kind.Take b mem spans) h = thread_is_there script s t (kind.Take b mem spans) h
thread_ready script s n k t (kind.Untake b mem) h = tt
thread_ready script s n k t (kind.Populate b page f) h = tt
thread_ready script s n k t (kind.SwapIn b page slot f) h = tt
thread_ready script s n k t (kind.Depopulate b) h = tt
thread_ready script s n k t (kind.Bind b) h = tt
thread_ready script s n k t (kind.Unbind b) h = tt
thread_ready script s n k t (kind.Move b mem m left) h = let l = short_table script s n k b in omega (arith, l)
thread_ready script s n k t (kind.Catch b w) h = thread_is_there script s t (kind.Catch b w) h
thread_ready script s n k t (kind.Loose b) h = thread_is_there script s t (kind.Loose b) h
thread_ready script s n k t (kind.Skip b) h = thread_is_there script s t (kind.Skip b) h
thread_ready script s n k t (kind.Dry b p w) h = let st = thread_step script s t (kind.Dry b p w) h in record { there = thread_is_there script s t (kind.Dry b p w) h; room = dry_number p (tasks_dry script k.rules s (course s t) st.cmd st.task (kind.Dry b p w) st.step) }
thread_ready script s n k t (kind.SwapOut b page slot) h = tt
thread_ready script s n k t (kind.NoPages b) h = thread_is_there script s t (kind.NoPages b) h
thread_ready script s n k t (kind.Arm engine m) h = thread_is_there script s t (kind.Arm engine m) h
thread_ready script s n k t (kind.Packet m p piece) h = can_run script s n k (record { ctx = 0; num = m })
thread_ready script s n k t (kind.Done m) h = tt
thread_ready script s n k t (kind.Reap g) h = tt
thread_ready script s n k t (kind.Bulk group) h = thread_is_there script s t (kind.Bulk group) h
thread_ready script s n k t (kind.Result shown) h = let st = thread_step script s t (kind.Result shown) h in record { answer = can_answer script s n k t st.cmd st.at_work (thread_is_there script s t (kind.Result shown) h); pins = same_pins s.reservations (command_at_work script s t) (result_pins script s t shown k.courses st) }
thread_ready script s n k t (kind.Refused d) h = let st = thread_step script s t (kind.Refused d) h in can_answer script s n k t st.cmd st.at_work (thread_is_there script s t (kind.Refused d) h)

engine_ready : (script : Script) (s : State) (n : ℕ) → Known script s n → (e : ℕ) (k : Kind) → is_of_engine k ≡ true → IsReadyFor script s (actor.Engine e) k
engine_ready script s n k e (kind.Packet m p piece) q = can_run script s n k (record { ctx = e; num = m })
engine_ready script s n k e (kind.Done m) q = tt
engine_ready script s n k e it q = absurd (false≢true q)

reaper_ready : (script : Script) (s : State) (n : ℕ) → Known script s n → (k : Kind) → is_of_reaper k ≡ true → IsReadyFor script s actor.Reaper k
reaper_ready script s n k (kind.Reap g) q = tt
reaper_ready script s n k it q = absurd (false≢true q)

next_ready : (script : Script) (s : State) (n : ℕ) → Known script s n → (who : Actor) (k : Kind) → next script s who ≡ Ok k → IsReadyFor script s who k
next_ready script s n known (actor.Thread t) k h = thread_ready script s n known t k h
next_ready script s n known (actor.Engine e) k h = engine_ready script s n known e k (of_engine script s e k h)
next_ready script s n known actor.Reaper k h = reaper_ready script s n known k (of_reaper script s k h)

-- what is shown makes no difference
shown_ready : (script : Script) (stores : Stores) (s : State) (who : Actor) (k : Kind) → IsReadyFor script s who k → IsReadyFor script s who (showing script stores s who k)
shown_ready script stores s who (kind.Ticket stamp) h = h
shown_ready script stores s who (kind.Reserve b) h = h
shown_ready script stores s who (kind.Backoff b stamp) h = h
shown_ready script stores s who (kind.New b) h = h
shown_ready script stores s who (kind.Free b g) h = h
shown_ready script stores s who (kind.Take b mem spans) h = h
shown_ready script stores s who (kind.Untake b mem) h = h
shown_ready script stores s who (kind.Populate b page f) h = h
shown_ready script stores s who (kind.SwapIn b page slot f) h = h
shown_ready script stores s who (kind.Depopulate b) h = h
shown_ready script stores s who (kind.Bind b) h = h
shown_ready script stores s who (kind.Unbind b) h = h
shown_ready script stores s who (kind.Move b mem m left) h = h
shown_ready script stores s who (kind.Catch b w) h = h
shown_ready script stores s who (kind.Loose b) h = h
shown_ready script stores s who (kind.Skip b) h = h
shown_ready script stores s who (kind.Dry b p w) h = h
shown_ready script stores s who (kind.SwapOut b page slot) h = h
shown_ready script stores s who (kind.NoPages b) h = h
shown_ready script stores s who (kind.Arm engine m) h = h
shown_ready script stores s who (kind.Packet m p piece) h = h
shown_ready script stores s who (kind.Done m) h = h
shown_ready script stores s who (kind.Reap g) h = h
shown_ready script stores s who (kind.Bulk group) h = h
shown_ready script stores s who (kind.Result shown) h = h
shown_ready script stores s who (kind.Refused d) h = h

-- the entry of an actor's step can be applied
pub ready : (script : Script) (s : State) (n : ℕ) → Known script s n → (stores : Stores) (who : Actor) (k : Kind) → next script s who ≡ Ok k → IsReadyFor script s who (showing script stores s who k)
ready script s n known stores who k h = shown_ready script stores s who k (next_ready script s n known who k h)
