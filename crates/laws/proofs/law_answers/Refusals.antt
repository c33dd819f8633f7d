-- A command that is refused for lack of space or pages has a buffer at work.
use Rattle.std.proofs.Common.{◌≡◌, ℕ, Bool, true, false, List, Option, Some, None, IsTrue, refl, sym, ◌∙◌, ap, subst, ◌⊎◌, inl, inr}
use Rattle.std.specs.Prelude.{take, not, nat_lt, ◌==◌, if◌then◌else◌}
use Rattle.ttm_base.specs.declared.BufId.{BufId}
use Rattle.ttm_base.specs.declared.Deny.{Deny}
use Rattle.ttm_base.specs.declared.Deny.TheVariants as deny
use Rattle.ttm_base.specs.declared.Actor.TheVariants as actor
use Rattle.journal_model.specs.declared.script.Script.{Script}
use Rattle.journal_model.specs.declared.script.Command.{Command}
use Rattle.journal_model.specs.declared.script.Command.TheVariants as command
use Rattle.journal_model.specs.declared.entry.Entry.{Entry}
use Rattle.journal_model.specs.declared.entry.Kind.TheVariants as kind
use Rattle.journal_model.specs.declared.state.State.{State}
use Rattle.journal_model.specs.declared.state.Course.{Course}
use Rattle.journal_model.specs.declared.state.Task.{Task}
use Rattle.journal_model.specs.declared.state.Task.TheVariants as task
use Rattle.journal_model.specs.rules.State.{buffer, reservation, course}
use Rattle.journal_model.specs.rules.Commands.{named, command_at_work}
use Rattle.journal_model.specs.rules.Ready.{is_ready, first_unready}
use Rattle.journal_model.specs.rules.Tasks.{forbidden, task_of_victim, task_of_failed, task_of_unready, task_of_command}
use Rattle.journal_model.specs.scripts.ScriptRules.{is_script}
use Rattle.journal_model.specs.rules.Legal.{first_world, world_along, state_of, IsLegal}
use Rattle.laws.proofs.law_state.Shown.{legal_plain}
use Rattle.laws.proofs.law_sound.Along.{stepped_of}
use Rattle.laws.proofs.law_sound.Turns.{Turn, OnNamed, ban, pinned, bare, ready, refuse, give_up}
use Rattle.laws.proofs.law_sound.Gifts.{Gives, seeks, fills, exists, no_buffer, gives_up, refuses, no_swap}
use Rattle.laws.proofs.law_sound.Bufs.{none_found, clash}
use Rattle.laws.proofs.law_owners.Fronts.{legal_front}
use Rattle.laws.specs.law_answers.Refusals.{HasBufferAtWork, RefusalsHaveBuffers}
use Rattle.laws.proofs.law_answers.InOrder.{legal_at}
use Rattle.laws.proofs.law_answers.Failures.{Fares}
use Rattle.laws.proofs.law_answers.Fares.{kept_law}

-- it is for lack of space or pages
abbrev is_want : Deny → Bool
is_want deny.NoSpace = true
is_want deny.NoPages = true
is_want _ = false

forbidden_other : (s : State) (cmd : Command) (d : Deny) → forbidden s cmd ≡ Some d → is_want d ≡ false
forbidden_other s (command.Pin b) d h = by ((reservation s b).pins == 255) h
  where
    by : (q : Bool) → ◌≡◌ {A = Option Deny} (if q then Some deny.PinMax else None) (Some d) → is_want d ≡ false
    by true h = let it : deny.PinMax ≡ d = cc in subst (λ e. is_want e ≡ false) it refl
    by false h = cc
forbidden_other s (command.Unpin b) d h = by ((reservation s b).pins == 0) h
  where
    by : (q : Bool) → ◌≡◌ {A = Option Deny} (if q then Some deny.NotPinned else None) (Some d) → is_want d ≡ false
    by true h = let it : deny.NotPinned ≡ d = cc in subst (λ e. is_want e ≡ false) it refl
    by false h = cc
forbidden_other s (command.Free b) d h = by (nat_lt 0 (reservation s b).pins) h
  where
    by : (q : Bool) → ◌≡◌ {A = Option Deny} (if q then Some deny.Pinned else None) (Some d) → is_want d ≡ false
    by true h = let it : deny.Pinned ≡ d = cc in subst (λ e. is_want e ≡ false) it refl
    by false h = cc
forbidden_other s (command.SwapOut b) d h = by (nat_lt 0 (reservation s b).pins) h
  where
    by : (q : Bool) → ◌≡◌ {A = Option Deny} (if q then Some deny.Pinned else None) (Some d) → is_want d ≡ false
    by true h = let it : deny.Pinned ≡ d = cc in subst (λ e. is_want e ≡ false) it refl
    by false h = cc
forbidden_other s cmd d h = cc

-- a command that may not ask what it asks is refused for that
forbidden_task : (script : Script) (s : State) (c : Course) (cmd : Command) (d : Deny) → OnNamed s c cmd → forbidden s cmd ≡ Some d → task_of_command script s c cmd ≡ task.Refuse d
forbidden_task script s c cmd d on f = λ i.
    elim (on.works.unmade i) [
      | true ↦ task.Answer
      | false ↦ elim (on.works.begun i) [
        | true ↦ task.Start
        | false ↦ elim (on.works.whole i) [
          | Some b ↦ task.Lock b
          | None ↦ elim (on.alone i) [
            | Some v ↦ task_of_victim v (buffer s v.b)
            | None ↦ elim (f i) [
              | Some e ↦ task.Refuse e
              | None ↦ elim c.fail [
                | Some e ↦ task_of_failed script s cmd e
                | None ↦ elim (first_unready script s cmd) [ Some b ↦ task_of_unready script s cmd b | None ↦ task.Act ]
              ]
            ]
          ]
        ]
      ]
    ]

module _ (script : Script) (s : State) (t : ℕ) (cmd : Command) (at_work : command_at_work script s t ≡ Some cmd) (fares : Fares script s (course s t) cmd) where
  works_on : (b : BufId) → first_unready script s cmd ≡ Some b → HasBufferAtWork script s t
  works_on b u = record { command = cmd; at_work = at_work; b = b; first = u }

  -- nothing is refused for lack of space or pages by what it asks
  not_banned : (d e : Deny) → is_want d ≡ true → OnNamed s (course s t) cmd → forbidden s cmd ≡ Some e → task.Refuse d ≡ task_of_command script s (course s t) cmd → ⊥
  not_banned d e want on f is =
      clash (sym want ∙ (ap is_want (one d e (is ∙ forbidden_task script s (course s t) cmd e on f)) ∙ forbidden_other s cmd e f))
    where
      one : (a b : Deny) → task.Refuse a ≡ task.Refuse b → a ≡ b
      one a b h = cc

  -- what has failed has a buffer that isn't ready
  not_ready : (d : Deny) → (course s t).fail ≡ Some d → first_unready script s cmd ≡ None → ⊥
  not_ready d f u =
      let w = fares.failed d f in
      clash (sym (ap not w.unready) ∙ none_found (λ b. not (is_ready script s cmd b)) (named cmd) w.b u w.member)

  refused_at : (x : Task) (d : Deny) → is_want d ≡ true → x ≡ task_of_command script s (course s t) cmd → Turn script s (course s t) cmd x → Gives script s (course s t) cmd x (kind.Refused d) → HasBufferAtWork script s t
  refused_at x d want is turn (exists e) = cc
  refused_at x d want is turn (no_buffer l) = cc
  refused_at x d want is turn (no_swap e) = cc
  refused_at x d want is (give_up on a f (bare b u g)) gives_up = works_on b u
  refused_at x d want is (give_up on a f (ready u)) gives_up = absurd (not_ready d f u)
  refused_at x d want is (refuse on (ban e f)) refuses = absurd (not_banned d e want on f is)
  refused_at x d want is (refuse on (pinned b f u p q)) refuses = works_on b u
  refused_at x d want is turn (seeks sought) = elim sought [ ]
  refused_at x d want is turn (fills filled) = elim filled [ ]

-- ---- along a journal

wanted_is : (d : Deny) → (d ≡ deny.NoSpace) ⊎ (d ≡ deny.NoPages) → is_want d ≡ true
wanted_is d (inl e) = ap is_want e
wanted_is d (inr e) = ap is_want e

pub refusals_law : (script : Script) (journal : List Entry) → IsTrue (is_script script) → IsLegal script journal → RefusalsHaveBuffers script journal
refusals_law script journal fits h i t d want at =
    let e : Entry = record { who = actor.Thread t; kind = kind.Refused d } in
    let step = legal_plain script (world_along script (first_world script) (take i journal)) e (legal_at script (first_world script) journal i e h at) refl in
    let inv = kept_law script fits (take i journal) (legal_front script journal i h) in
    let st = stepped_of script (state_of script (take i journal)) t (kind.Refused d) inv.steady.sound.owned.courses step in
    refused_at script (state_of script (take i journal)) t st.step.cmd st.step.at_work (inv.fares t st.step.cmd st.at) st.step.task d (wanted_is d want) st.step.is_task st.turn st.gives
