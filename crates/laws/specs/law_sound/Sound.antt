-- What a sound state is: what the laws on going on need of jobs, holders and searches.
use Rattle.std.proofs.Common.{◌≡◌, ℕ, ◌<◌, ◌≤◌, Bool, true, false, List, [], ◌∷◌, Option, Some, None, ◌⊎◌}
use Rattle.std.specs.Prelude.{Contains, map, length, slice_get, unwrap_or, not, nat_le}
use Rattle.std.specs.List.{list_any, list_all}
use Rattle.ttm_base.specs.declared.Mem.{Mem}
use Rattle.ttm_base.specs.declared.Mem.TheVariants.{System, Tt, Vram}
use Rattle.ttm_base.specs.declared.BufId.{BufId}
use Rattle.ttm_base.specs.declared.Stamp.{Stamp}
use Rattle.ttm_base.specs.declared.Deny.{Deny}
use Rattle.ttm_base.specs.declared.JobId.{JobId}
use Rattle.journal_model.specs.declared.script.Script.{Script}
use Rattle.journal_model.specs.declared.state.State.{State}
use Rattle.journal_model.specs.declared.state.Buffer.{Buffer}
use Rattle.journal_model.specs.declared.state.Course.{Course}
use Rattle.journal_model.specs.declared.state.Victim.{Victim}
use Rattle.journal_model.specs.declared.state.Job.{Job}
use Rattle.journal_model.specs.declared.entry.Why.{Why}
use Rattle.journal_model.specs.declared.entry.Why.TheVariants as why
use Rattle.journal_model.specs.declared.script.Command.{Command}
use Rattle.journal_model.specs.declared.script.Command.TheVariants as command
use Rattle.journal_model.specs.rules.State.{buffer, reservation, is_live, live_in, course, has_buffer, has_target, target_of}
use Rattle.journal_model.specs.rules.Commands.{commands_of, command_at_work, named, decl, asked_places}
use Rattle.ttm_base.specs.Placement.{forced_places}
use Rattle.journal_model.specs.rules.Waits.{same_job}
use Rattle.journal_model.specs.rules.Lists.{in_order}
use Rattle.journal_model.specs.rules.Ready.{meets, is_in_place, has_some_target, first_unready}
use Rattle.journal_model.specs.rules.Search.{is_caught}
use Rattle.journal_model.specs.rules.Tasks.{first_missing, starts}
use Rattle.journal_model.specs.statements.DeadEnd.{can_step}
use Rattle.ttm_base.specs.declared.Actor.{Actor}

-- what a command waits for, if it waits for a holder
abbrev pub wanted : (made began : Bool) → Option BufId → Option BufId
wanted true began m = None
wanted false true m = None
wanted false false m = m

abbrev pub wants : Course → Command → Option BufId
wants c cmd = wanted c.made (starts c cmd) (first_missing c cmd)

-- the thread holds the buffer, as a named one or as a victim
abbrev pub Has : State → ℕ → BufId → Type 0
Has s t b = (has_buffer (course s t).held b ≡ true) ⊎ (is_caught (course s t) b ≡ true)

-- no job waits for itself or for one that was emitted after it
abbrev pub waits_for_none_of : List Job → Job → Bool
waits_for_none_of js j = list_all (λ i. not (list_any (λ h. same_job i h.id) js)) j.waits

abbrev pub WaitsGoBack : List Job → Type 0
WaitsGoBack [] = Unit {0}
WaitsGoBack (j ∷ js) = (waits_for_none_of (j ∷ js) j ≡ true) × WaitsGoBack js

-- some actor has an entry
abbrev pub SomeGoesOn : Script → State → Type 0
SomeGoesOn script s = (who : Actor) × (can_step script s who ≡ true)

-- ---- jobs

abbrev pub is_among : List Job → JobId → Bool
is_among js i = list_any (λ h. same_job i h.id) js

-- each job that is waited for was emitted
abbrev pub waits_for_some_of : List Job → Job → Bool
waits_for_some_of js j = list_all (is_among js) j.waits

pub record SoundJobs (script : Script) (jobs : List Job) : Type 0 where
  pub contexts : list_all (λ j. nat_le j.id.ctx script.sizes.engines) jobs ≡ true
  pub waits_known : list_all (waits_for_some_of jobs) jobs ≡ true
  pub waits_back : WaitsGoBack jobs

-- ---- who has what

-- `new` and `touch` lock nothing
abbrev pub locks : Command → Bool
locks (command.New b) = false
locks (command.Touch group) = false
locks _ = true

abbrev pub victims : Course → List BufId
victims c = map (λ v. v.b) c.caught

-- the command of a course
abbrev pub command_of : Script → ℕ → Course → Option Command
command_of script t c = slice_get (commands_of script t) c.answered

-- what a thread's course tells by itself
pub record Steady (script : Script) (t : ℕ) (c : Course) : Type 0 where
  pub answered : c.answered ≤ length (commands_of script t)
  pub apart : (b : BufId) → is_caught c b ≡ true → has_buffer c.held b ≡ false
  pub at_work : (st : Stamp) → c.stamp ≡ Some st → (cmd : Command) × (command_of script t c ≡ Some cmd) × (locks cmd ≡ true)
  pub named_held : (b : BufId) (cmd : Command) → command_of script t c ≡ Some cmd → has_buffer c.held b ≡ true → has_buffer (named cmd) b ≡ true
  pub named_first : (b : BufId) (cmd : Command) → command_of script t c ≡ Some cmd → c.first ≡ Some b → has_buffer (named cmd) b ≡ true
  pub searching : (b : BufId) (cmd : Command) → command_of script t c ≡ Some cmd → is_caught c b ≡ true → wants c cmd ≡ None
  pub unfailed : (b : BufId) → is_caught c b ≡ true → c.fail ≡ None
  pub finished : c.made ≡ true → c.caught ≡ []

-- the holder of a live buffer tells which thread holds it
pub record Owned (script : Script) (s : State) : Type 0 where
  pub courses : length s.courses ≡ length script.threads
  pub reservations : length s.reservations ≡ length s.core.buffers
  pub steady : (t : ℕ) → Steady script t (course s t)
  pub holder : (b : BufId) (st : Stamp) → (reservation s b).holder ≡ Some st → (t : ℕ) × ((course s t).stamp ≡ Some st) × Has s t b
  pub held : (t : ℕ) (b : BufId) → Has s t b → (st : Stamp) × (is_live s b ≡ true) × ((reservation s b).holder ≡ Some st) × ((course s t).stamp ≡ Some st)
  pub one : (t u : ℕ) (st : Stamp) → (course s t).stamp ≡ Some st → (course s u).stamp ≡ Some st → t ≡ u
  pub below : (t : ℕ) (st : Stamp) → (course s t).stamp ≡ Some st → st.0 ≤ s.last_stamp

pub record Sound (script : Script) (s : State) : Type 0 where
  pub jobs : SoundJobs script s.core.jobs
  pub owned : Owned script s

-- ---- searches

-- the targets, by memory type: whether there is one
abbrev pub Targeted : Buffer → (system tt vram : Bool) → Type 0
Targeted x a b c = (has_target System x ≡ a) × (has_target Tt x ≡ b) × (has_target Vram x ≡ c)

-- a victim on its way, by why it was caught
pub data OnItsWay (x : Buffer) : Why → Option Deny → Type 0 where
  in_vram : {fail : Option Deny} → x.mem ≡ Vram → Targeted x false false false → OnItsWay x why.Vram fail
  to_tt : {fail : Option Deny} → x.mem ≡ Vram → Targeted x false true false → OnItsWay x why.Vram fail
  out_of_vram : x.mem ≡ Tt → Targeted x false false false → OnItsWay x why.Vram None
  in_tt : {w : Why} → (w ≡ why.Vram → ⊥) → x.mem ≡ Tt → Targeted x true false false → OnItsWay x w None
  in_system : {w : Why} → (w ≡ why.Vram → ⊥) → x.mem ≡ System → Targeted x false false false → OnItsWay x w None

-- at most two are caught, and the first of two for VRAM
pub data Victims : List Victim → Type 0 where
  none : Victims []
  one : {v : Victim} → Victims (v ∷ [])
  two : {v w : Victim} → v.why ≡ why.Vram → (w.why ≡ why.Vram → ⊥) → Victims (v ∷ w ∷ [])

-- the buffer as it stands where a target is
abbrev pub at_target : Mem → Buffer → Buffer
at_target mem x = record x { mem = mem; spans = unwrap_or (target_of mem x.targets) [] }

-- the rows of the carrying table; where the search hasn't failed, the last target is where the command wants the buffer
pub data Carried (fits : Mem → Type 0) (x : Buffer) : Type 0 where
  system_tt : x.mem ≡ System → Targeted x false true false → fits Tt → Carried fits x
  system_vram : x.mem ≡ System → Targeted x false false true → fits Vram → Carried fits x
  system_both : x.mem ≡ System → Targeted x false true true → fits Vram → Carried fits x
  tt_system : x.mem ≡ Tt → Targeted x true false false → fits System → Carried fits x
  tt_tt : x.mem ≡ Tt → Targeted x false true false → fits Tt → Carried fits x
  tt_vram : x.mem ≡ Tt → Targeted x false false true → fits Vram → Carried fits x
  vram_vram : x.mem ≡ Vram → Targeted x false false true → fits Vram → Carried fits x
  vram_tt : x.mem ≡ Vram → Targeted x false true false → fits Tt → Carried fits x
  vram_system : x.mem ≡ Vram → Targeted x true false false → fits System → Carried fits x
  vram_both : x.mem ≡ Vram → Targeted x true true false → fits System → Carried fits x

abbrev pub Fits : Script → Course → Command → BufId → Buffer → Mem → Type 0
Fits script c cmd b x mem = c.fail ≡ None → meets script cmd b (at_target mem x) ≡ true

-- the command tells where its buffers must stand
abbrev pub asks : Command → Bool
asks (command.Submit engine ops) = true
asks (command.Find b) = true
asks (command.Move b mem) = true
asks (command.SwapOut b) = true
asks _ = false

pub record UnderWay (script : Script) (s : State) (c : Course) (cmd : Command) (b : BufId) : Type 0 where
  pub works : wants c cmd ≡ None
  pub unmade : c.made ≡ false
  pub first : first_unready script s cmd ≡ Some b
  pub asked : asks cmd ≡ true
  pub loose : (reservation s b).pins ≡ 0
  pub row : Carried (Fits script c cmd b (buffer s b)) (buffer s b)

-- a search that has gone dry at some places
pub record GoneDry (script : Script) (s : State) (c : Course) (cmd : Command) : Type 0 where
  pub works : wants c cmd ≡ None
  pub b : BufId
  pub first : first_unready script s cmd ≡ Some b
  pub misplaced : is_in_place script cmd b (buffer s b) ≡ false
  pub untargeted : has_some_target (buffer s b) ≡ false
  pub fewer : c.dry < length (forced_places (asked_places script cmd b))

-- the command has an entry of its own before its result
abbrev pub asks_to_make : Command → Bool
asks_to_make (command.New b) = true
asks_to_make (command.Free b) = true
asks_to_make (command.Touch group) = true
asks_to_make (command.Submit engine ops) = true
asks_to_make _ = false

pub record Searched (script : Script) (s : State) : Type 0 where
  pub pages : (b : BufId) (x : Buffer) → live_in s.core.buffers b ≡ Some x → length x.table ≡ (decl script b).pages
  pub listed : (mem : Mem) (b : BufId) → Contains (in_order s mem) b → (x : Buffer) × (live_in s.core.buffers b ≡ Some x) × (x.mem ≡ mem)
  pub victims : (t : ℕ) → Victims (course s t).caught
  pub ways : (t : ℕ) (v : Victim) → Contains (course s t).caught v → OnItsWay (buffer s v.b) v.why v.fail
  pub unskipped : (t : ℕ) (v : Victim) → Contains (course s t).caught v → v.why ≡ why.Vram → has_buffer (course s t).skips v.b ≡ false
  pub targets : (b : BufId) → has_some_target (buffer s b) ≡ true → (reservation s b).holder ≡ None → ⊥
  pub carried : (t : ℕ) (cmd : Command) (b : BufId) → command_at_work script s t ≡ Some cmd → has_buffer (course s t).held b ≡ true →
      has_some_target (buffer s b) ≡ true → UnderWay script s (course s t) cmd b
  pub dry : (t : ℕ) (cmd : Command) → command_at_work script s t ≡ Some cmd → (course s t).made ≡ false → (course s t).fail ≡ None →
      0 < (course s t).dry → GoneDry script s (course s t) cmd
  pub makes : (t : ℕ) (cmd : Command) → command_at_work script s t ≡ Some cmd → (course s t).made ≡ true → asks_to_make cmd ≡ true
