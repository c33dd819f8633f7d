-- A number that each legal entry lowers, so that journals end.
use Rattle.std.specs.Prelude.{ℕ, ◌+◌, ◌-◌, ◌*◌, Bool, true, false, List, [], ◌∷◌, Option, Some, None, ◌==◌, ◌&&◌, ◌||◌, not, nat_lt, nat_le, filter_map, map, drop, length, sum_by, count_by, is_none, is_some, if◌then◌else◌}
use Rattle.std.specs.List.{list_any, enumerate_from}
use Rattle.ttm_base.specs.ListWords.{last_of}
use Rattle.ttm_base.specs.declared.Mem.TheVariants.{System, Tt, Vram}
use Rattle.ttm_base.specs.declared.BufId.{BufId}
use Rattle.ttm_base.specs.declared.Stamp.{Stamp}
use Rattle.ttm_base.specs.declared.Loc.{Loc}
use Rattle.ttm_base.specs.declared.Loc.TheVariants as loc
use Rattle.journal_model.specs.declared.script.Decl.{Decl}
use Rattle.ttm_base.specs.Cutting.{pieces_of}
use Rattle.journal_model.specs.declared.script.Script.{Script}
use Rattle.journal_model.specs.declared.state.Course.{Course}
use Rattle.journal_model.specs.declared.state.Victim.{Victim}
use Rattle.journal_model.specs.declared.entry.Why.TheVariants as why
use Rattle.journal_model.specs.declared.script.Command.{Command}
use Rattle.journal_model.specs.declared.script.Command.TheVariants as command
use Rattle.journal_model.specs.declared.state.State.{State}
use Rattle.journal_model.specs.declared.state.Buffer.{Buffer}
use Rattle.journal_model.specs.declared.state.Job.{Job}
use Rattle.journal_model.specs.rules.State.{buffer, reservation, course, has_buffer, same_buffer, has_target}
use Rattle.journal_model.specs.rules.Commands.{commands_of, command_at_work, named}
use Rattle.journal_model.specs.rules.Places.{is_frame}
use Rattle.journal_model.specs.rules.Holds.{free_slot}
use Rattle.journal_model.specs.rules.Dry.{has_frame}
use Rattle.journal_model.specs.rules.Ready.{has_some_target, is_in_place}
use Rattle.journal_model.specs.rules.Tasks.{first_missing}
use Rattle.journal_model.specs.statements.Complete.{thread_numbers}
use Rattle.journal_model.specs.statements.Scheduled.{Ticketed, ticketed}

abbrev pub one_if : Bool → ℕ
one_if b = if b then 1 else 0

abbrev pub all_pages : Script → ℕ
all_pages script = sum_by (λ d. d.pages) script.buffers

-- the packets into which a command's operations are cut
abbrev pub packet_count : Command → ℕ
packet_count (command.Submit engine ops) = sum_by (λ op. length (pieces_of op)) ops
packet_count _ = 0

-- ---- locks: a backoff lowers the number whose digits say who isn't held back, the eldest first

-- it waits, holding nothing, for a buffer that an elder thread has
abbrev pub is_elder : Option ℕ → Option ℕ → Bool
is_elder (Some mine) (Some other) = nat_lt other mine
is_elder _ _ = false

abbrev pub number_of : Option Stamp → Option ℕ
number_of None = None
number_of (Some stamp) = Some stamp.0

abbrev pub waits_for_elder : State → Course → Bool
waits_for_elder s c =
    elim c.first [
      | None ↦ false
      | Some b ↦ (length c.held == 0) && is_elder (number_of c.stamp) (number_of (reservation s b).holder)
    ]

abbrev pub put_by_age : Ticketed → List Ticketed → List Ticketed
put_by_age t [] = t ∷ []
put_by_age t (u ∷ us) = if nat_le u.stamp t.stamp then t ∷ u ∷ us else u ∷ put_by_age t us

-- the youngest first
abbrev pub by_age : List Ticketed → List Ticketed
by_age [] = []
by_age (t ∷ ts) = put_by_age t (by_age ts)

abbrev pub binary : List Bool → ℕ
binary [] = 0
binary (b ∷ bs) = one_if b + (binary bs + binary bs)

abbrev pub may_lock : Script → State → List Bool
may_lock script s = map (λ t. not (waits_for_elder s (course s t.thread))) (by_age (filter_map (ticketed s) (thread_numbers script)))

abbrev pub missing_of : Course → Command → ℕ
missing_of c cmd = count_by (λ b. not (has_buffer c.held b)) (named cmd)

abbrev pub missing : Script → State → ℕ → ℕ
missing script s t =
    elim (is_none (course s t).stamp) [
      | true ↦ 0
      | false ↦ elim (command_at_work script s t) [ None ↦ 0 | Some cmd ↦ missing_of (course s t) cmd ]
    ]

abbrev pub locks_left : Script → State → ℕ
locks_left script s = 17 * binary (may_lock script s) + sum_by (missing script s) (thread_numbers script)

-- ---- a command at work

abbrev pub frame_count : Buffer → ℕ
frame_count x = count_by is_frame x.table

abbrev pub target_count : Buffer → ℕ
target_count x = one_if (has_target System x) + one_if (has_target Tt x) + one_if (has_target Vram x)

-- what a failed search may have to give back
abbrev pub to_give_back : Buffer → ℕ
to_give_back x = elim x.mem [ Vram ↦ 2 * frame_count x | Tt ↦ 0 | System ↦ 0 ] + target_count x

-- a buffer with targets is so many steps from its place
abbrev pub carries_left : Buffer → ℕ
carries_left x =
    elim x.mem [
      | System ↦ elim (has_target Tt x) [ true ↦ if has_target Vram x || has_target System x then 2 else 1 | false ↦ 3 ]
      | Tt ↦ elim (has_target System x) [ true ↦ 1 | false ↦ if has_target Tt x then 2 else 1 ]
      | Vram ↦ elim (has_target Vram x) [
        | true ↦ 1
        | false ↦ elim (has_target Tt x) [ true ↦ if has_target System x then 2 else 1 | false ↦ 3 ]
      ]
    ]

abbrev pub steps_left : Script → Command → BufId → Buffer → ℕ
steps_left script cmd b x =
    elim (is_in_place script cmd b x) [ true ↦ 0 | false ↦ elim (has_some_target x) [ true ↦ carries_left x | false ↦ 4 ] ]

abbrev pub is_slot : Loc → Bool
is_slot (loc.Slot k) = true
is_slot (loc.Frame f) = false
is_slot loc.Zero = false

-- only a command that doesn't swap its buffer out swaps its pages in
abbrev pub slots_to_fill : Command → Buffer → ℕ
slots_to_fill (command.SwapOut b) x = 0
slots_to_fill _ x = count_by is_slot x.table

abbrev pub named_left : Script → State → Command → BufId → ℕ
named_left script s cmd b =
    let x = buffer s b in
    (5 + 6291456 * steps_left script cmd b x) * length x.table + 67108865 * slots_to_fill cmd x

abbrev pub victim_left : Buffer → Victim → ℕ
victim_left x v =
    elim v.why [
      | why.Swap ↦ 0
      | why.Tt ↦ if has_target System x then 0 else 2097160
      | why.Vram ↦ elim x.mem [
        | Vram ↦ elim v.fail [ None ↦ one_if (not (has_target Tt x)) | Some deny ↦ 2097160 + to_give_back x ]
        | Tt ↦ 2097160
        | System ↦ 2097160
      ]
    ]

abbrev pub has_failed : BufId → Victim → Bool
has_failed b v = same_buffer b v.b && is_some v.fail

-- the pages of the buffers that the command may still skip
abbrev pub not_skipped : Course → ℕ × Decl → ℕ
not_skipped c e =
    let b : BufId = record { 0 = e.0 } in
    if has_buffer c.skips b || list_any (has_failed b) c.caught then 0 else e.1.pages

-- how many more may be caught
abbrev pub room_for_victims : Option Victim → ℕ
room_for_victims None = 2
room_for_victims (Some v) = elim v.why [ why.Vram ↦ 1 | why.Tt ↦ 0 | why.Swap ↦ 0 ]

-- what a declared buffer may still cost the command: as a victim, and as a named one
abbrev pub if_named : Command → (BufId → ℕ) → ℕ × Decl → ℕ
if_named cmd cost e = let b : BufId = record { 0 = e.0 } in if has_buffer (named cmd) b then cost b else 0

abbrev pub search_share : Script → State → Course → Command → ℕ × Decl → ℕ
search_share script s c cmd e = 4194304 * not_skipped c e + if_named cmd (named_left script s cmd) e

abbrev pub search_left : Script → State → Course → Command → ℕ
search_left script s c cmd =
    4194320
    + (8 - c.dry)
    + 3 * room_for_victims (last_of c.caught)
    + sum_by (λ v. victim_left (buffer s v.b) v) c.caught
    + sum_by (search_share script s c cmd) (enumerate_from 0 script.buffers)

abbrev pub held_left : Script → State → Course → Command → ℕ
held_left script s c cmd =
    elim c.fail [
      | Some deny ↦ 2097153 + sum_by (if_named cmd (λ b. to_give_back (buffer s b))) (enumerate_from 0 script.buffers)
      | None ↦ packet_count cmd + search_left script s c cmd
    ]

-- a command that hasn't begun, and one that locks
abbrev pub whole_command : Script → Command → ℕ
whole_command script cmd = 134217728 * (all_pages script + 17) + packet_count cmd

abbrev pub locking_left : Script → Command → ℕ
locking_left script cmd = 134217728 * (all_pages script + 16) + packet_count cmd

abbrev pub command_left : Script → State → Course → Command → ℕ
command_left script s c cmd =
    elim c.made [
      | true ↦ 2097153
      | false ↦ elim (is_none c.stamp) [
        | true ↦ whole_command script cmd
        | false ↦ elim (is_none (first_missing c cmd)) [ true ↦ held_left script s c cmd | false ↦ locking_left script cmd ]
      ]
    ]

abbrev pub later_commands : Script → ℕ → ℕ → ℕ
later_commands script t answered = sum_by (whole_command script) (drop (answered + 1) (commands_of script t))

abbrev pub thread_left : Script → State → ℕ → ℕ
thread_left script s t =
    elim (command_at_work script s t) [
      | None ↦ 0
      | Some cmd ↦ command_left script s (course s t) cmd + later_commands script t (course s t).answered
    ]

-- ---- victims of swap: each may find that others took the last slot

abbrev pub slot_debt : Bool → Buffer → Victim → ℕ
slot_debt is_slot_free x v =
    elim v.why [
      | why.Swap ↦ if has_target System x || (has_frame x && is_slot_free) then 0 else 2097160
      | why.Tt ↦ 0
      | why.Vram ↦ 0
    ]

abbrev pub slot_debts : Script → State → ℕ → ℕ
slot_debts script s t = sum_by (λ v. slot_debt (is_some (free_slot script s.core)) (buffer s v.b) v) (course s t).caught

-- ---- buffers, by how high they stand and what their pages hold

abbrev pub page_left : Loc → ℕ
page_left loc.Zero = 67108865
page_left (loc.Frame f) = 67108864
page_left (loc.Slot k) = 0

abbrev pub buffer_left : Buffer → ℕ
buffer_left x =
    elim x.mem [
      | System ↦ sum_by page_left x.table
      | Tt ↦ 71303168 * length x.table
      | Vram ↦ 75497472 * length x.table + count_by (λ l. not (is_frame l)) x.table
    ]

abbrev pub left_of_buffer : Option Buffer → ℕ
left_of_buffer None = 0
left_of_buffer (Some x) = buffer_left x

abbrev pub job_left : Job → ℕ
job_left j = if j.finished then 0 else length j.packets - j.ran + 1

-- ---- all of it

abbrev pub measure : Script → State → ℕ
measure script s =
    sum_by (thread_left script s) (thread_numbers script)
    + sum_by (slot_debts script s) (thread_numbers script)
    + sum_by left_of_buffer s.core.buffers
    + sum_by job_left s.core.jobs
    + length s.core.ghosts
    + locks_left script s
