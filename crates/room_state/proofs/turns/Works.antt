-- The buffers at which a thread works are live and declared.
use Rattle.std.proofs.Common.{◌≡◌, ℕ, ◌<◌, List, true, inl, inr, ⊎_elim, Option, Some, None, IsTrue, length, sym, ◌∙◌, subst, arith}
use Rattle.std.specs.Prelude.{not, option_and_then, slice_get, unwrap_or}
use Rattle.ttm_base.specs.declared.BufId.{BufId}
use Rattle.ttm_base.specs.declared.Stamp.{Stamp}
use Rattle.journal_model.specs.declared.script.Script.{Script}
use Rattle.journal_model.specs.declared.script.Command.{Command}
use Rattle.journal_model.specs.declared.state.Course.{Course}
use Rattle.journal_model.specs.declared.state.State.{State}
use Rattle.journal_model.specs.declared.state.Task.{Task}
use Rattle.journal_model.specs.declared.state.Task.TheVariants as task
use Rattle.journal_model.specs.declared.entry.Entry.{Entry}
use Rattle.journal_model.specs.rules.State.{course, course_of, reservation, has_buffer, new_course}
use Rattle.journal_model.specs.rules.Commands.{command_at_work, commands_of, named}
use Rattle.journal_model.specs.rules.Legal.{IsLegal, state_of}
use Rattle.journal_model.specs.rules.Ready.{is_ready}
use Rattle.journal_model.specs.scripts.ScriptRules.{is_script}
use Rattle.journal_model.specs.rules.Tasks.{task_of}
use Rattle.laws.proofs.law_state.GoodStates.{good_law}
use Rattle.laws.specs.law_sound.Sound.{Has, Owned, command_of}
use Rattle.laws.proofs.law_sound.Along.{sound_law}
use Rattle.laws.proofs.law_sound.Bufs.{clash, has_found, last_caught, missing_not_held, none_missing}
use Rattle.laws.proofs.law_sound.Reservations.{live_within}
use Rattle.laws.proofs.law_sound.Steadies.{lock_wants, locks_alone}
use Rattle.laws.proofs.law_sound.Turns.{Turn, OnBuffer, OnNamed, OnVictim, turn_of, lock, victim_unbind, victim_give, give, act, unbind}
use Rattle.laws.specs.lemma_bytes_told.Told.{IsThere}
use Rattle.room_representation.proofs.steps.Lent.{is_there}
use Rattle.room_state.proofs.turns.Threads.{task_at}

-- the command at work is that of the course
command_there : (script : Script) (s : State) (t : ℕ) (cmd : Command) → command_at_work script s t ≡ Some cmd → command_of script t (course s t) ≡ Some cmd
command_there script s t cmd h = by (course_of s t) h
  where
    by : (o : Option Course) → option_and_then (λ (c : Course). slice_get (commands_of script t) c.answered) o ≡ Some cmd → command_of script t (unwrap_or o (new_course 0)) ≡ Some cmd
    by None e = cc
    by (Some c) e = e

-- what a task tells
pub turn_at : (script : Script) (s : State) (t : ℕ) (cmd : Command) (x : Task) → command_at_work script s t ≡ Some cmd → task_of script s t ≡ x → Turn script s (course s t) cmd x
turn_at script s t cmd x at is = subst (Turn script s (course s t) cmd) (sym (task_at script s t cmd at) ∙ is) (turn_of script s (course s t) cmd)

module _ (script : Script) (s : State) (t : ℕ) (cmd : Command) (at : command_at_work script s t ≡ Some cmd) where
  -- a named buffer of a command that works is held
  works_has : OnNamed s (course s t) cmd → (b : BufId) → has_buffer (named cmd) b ≡ true → Has s t b
  works_has on b h = inl (none_missing (course s t) cmd b on.works.whole h)

  buffer_has : (b : BufId) → OnBuffer script s (course s t) cmd b → Has s t b
  buffer_has b on = works_has on.named b (has_found (λ d. not (is_ready script s cmd d)) (named cmd) b on.first)

  victim_has : (v : _) → OnVictim (course s t) cmd v → Has s t v.b
  victim_has v on = inr (last_caught (course s t) v on.last)

-- which have a buffer
module _ (script : Script) (s : State) (t : ℕ) (cmd : Command) (at : command_at_work script s t ≡ Some cmd) where
  -- the one that is unbound
  pub unbound_has : (b : BufId) → task_of script s t ≡ task.Unbind b → Has s t b
  unbound_has b is = by (turn_at script s t cmd (task.Unbind b) at is)
    where
      by : Turn script s (course s t) cmd (task.Unbind b) → Has s t b
      by (victim_unbind v on h) = victim_has script s t cmd at v on
      by (unbind on h) = buffer_has script s t cmd at b on.on.on

  -- the one that gives back
  pub given_has : (b : BufId) → task_of script s t ≡ task.GiveBack b → Has s t b
  given_has b is = by (turn_at script s t cmd (task.GiveBack b) at is)
    where
      by : Turn script s (course s t) cmd (task.GiveBack b) → Has s t b
      by (victim_give v d on i f g) = victim_has script s t cmd at v on
      by (give d on a f u g) = works_has script s t cmd at on b (has_found (λ d. not (is_ready script s cmd d)) (named cmd) b u)

  -- each that a command at work names
  pub acted_has : (b : BufId) → task_of script s t ≡ task.Act → has_buffer (named cmd) b ≡ true → Has s t b
  acted_has b is h = by (turn_at script s t cmd task.Act at is)
    where
      by : Turn script s (course s t) cmd task.Act → Has s t b
      by (act on a f u) = works_has script s t cmd at on b h

-- ---- legal journals

module _ (script : Script) (journal : List Entry) (fits : IsTrue (is_script script)) (legal : IsLegal script journal) where
  abbrev s : State
  s = state_of script journal

  -- what a thread has is live
  pub has_live : (t : ℕ) (b : BufId) → Has s t b → IsThere s b
  has_live t b h = is_there s b ((sound_law script journal fits legal).owned.held t b h).1

  -- and declared
  pub has_declared : (t : ℕ) (b : BufId) → Has s t b → b.0 < length script.buffers
  has_declared t b h =
      let below = live_within s.core.buffers b.0 ((sound_law script journal fits legal).owned.held t b h).1 in
      let many = (good_law script fits journal legal).many in
      omega (arith, below, many)

  -- nobody holds the buffer that it wants itself
  module _ (t : ℕ) (cmd : Command) (at : command_at_work script s t ≡ Some cmd) (b : BufId) (is : task_of script s t ≡ task.Lock b) where
    locks : Turn script s (course s t) cmd (task.Lock b)
    locks = turn_at script s t cmd (task.Lock b) at is

    -- another one is the holder
    pub lock_other : (mine : Stamp) → (course s t).stamp ≡ Some mine → (reservation s b).holder ≡ Some mine → ⊥
    lock_other mine stamp holder = by locks
      where
        owned : Owned script s
        owned = (sound_law script journal fits legal).owned

        has : Has s t b
        has =
            let who = owned.holder b mine holder in
            subst (λ u. Has s u b) (owned.one who.0 t mine who.1 stamp) who.2

        by : Turn script s (course s t) cmd (task.Lock b) → ⊥
        by (lock m n f) =
            ⊎_elim
            (λ h. clash (sym h ∙ missing_not_held (course s t) cmd b f))
            (λ h. locks_alone script t (course s t) cmd (owned.steady t) (command_there script s t cmd at) b b (lock_wants (course s t) cmd b m n f) h)
            has
