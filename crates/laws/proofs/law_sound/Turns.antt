-- What a thread's task tells of its command, its victims and its buffers.
use Rattle.std.proofs.Common.{◌≡◌, Bool, true, false, Option, Some, None, refl, sym, ◌∙◌}
use Rattle.std.specs.Prelude.{◌||◌}
use Rattle.std.specs.Prelude.{nat_lt}
use Rattle.ttm_base.specs.ListWords.{last_of}
use Rattle.ttm_base.specs.declared.Mem.{Mem}
use Rattle.ttm_base.specs.declared.Mem.TheVariants.{System, Tt, Vram}
use Rattle.ttm_base.specs.declared.BufId.{BufId}
use Rattle.ttm_base.specs.declared.Deny.{Deny}
use Rattle.ttm_base.specs.declared.Deny.TheVariants as deny
use Rattle.journal_model.specs.declared.script.Script.{Script}
use Rattle.journal_model.specs.declared.script.Command.{Command}
use Rattle.journal_model.specs.declared.state.State.{State}
use Rattle.journal_model.specs.declared.state.Course.{Course}
use Rattle.journal_model.specs.declared.state.Victim.{Victim}
use Rattle.journal_model.specs.declared.state.Buffer.{Buffer}
use Rattle.journal_model.specs.declared.state.Task.{Task}
use Rattle.journal_model.specs.declared.state.Task.TheVariants as task
use Rattle.journal_model.specs.declared.state.SearchAim.TheVariants.{Asked, Hop}
use Rattle.journal_model.specs.declared.entry.Why.{Why}
use Rattle.journal_model.specs.declared.entry.Why.TheVariants as why
use Rattle.ttm_base.specs.Reach.{same_mem}
use Rattle.journal_model.specs.rules.State.{buffer, reservation, has_target}
use Rattle.journal_model.specs.rules.Ready.{has_all_frames, has_some_target, is_in_place, first_unready}
use Rattle.journal_model.specs.rules.Tasks.{starts, first_missing, filled_then, gives_back, task_in_vram, task_of_victim, forbidden, task_of_failed, carried, task_of_misplaced, task_of_unready, task_of_held, task_of_command}

-- the command works: each buffer that it names is held
pub record Works (c : Course) (cmd : Command) : Type 0 where
  pub unmade : c.made ≡ false
  pub begun : starts c cmd ≡ false
  pub whole : first_missing c cmd ≡ None

-- the last victim is at work
pub record OnVictim (c : Course) (cmd : Command) (v : Victim) : Type 0 where
  pub works : Works c cmd
  pub last : last_of c.caught ≡ Some v

-- no victim is caught
pub record OnNamed (s : State) (c : Course) (cmd : Command) : Type 0 where
  pub works : Works c cmd
  pub alone : last_of c.caught ≡ None

-- the named buffer at work, whose search hasn't failed
pub record OnBuffer (script : Script) (s : State) (c : Course) (cmd : Command) (b : BufId) : Type 0 where
  pub named : OnNamed s c cmd
  pub allowed : forbidden s cmd ≡ None
  pub fine : c.fail ≡ None
  pub first : first_unready script s cmd ≡ Some b

-- one that stands elsewhere and has no pin
pub record OnMisplaced (script : Script) (s : State) (c : Course) (cmd : Command) (b : BufId) : Type 0 where
  pub on : OnBuffer script s c cmd b
  pub misplaced : is_in_place script cmd b (buffer s b) ≡ false
  pub loose : nat_lt 0 (reservation s b).pins ≡ false

-- one that has targets
pub record OnCarried (script : Script) (s : State) (c : Course) (cmd : Command) (b : BufId) (mem : Mem) : Type 0 where
  pub on : OnMisplaced script s c cmd b
  pub some : has_some_target (buffer s b) ≡ true
  pub stands : (buffer s b).mem ≡ mem

-- why a victim is emptied: it has left VRAM, or it was caught elsewhere
pub data Emptied (v : Victim) (x : Buffer) : Type 0 where
  for_tt : v.why ≡ why.Tt → Emptied v x
  for_swap : v.why ≡ why.Swap → Emptied v x
  left_vram : v.why ≡ why.Vram → (x.mem ≡ Vram → ⊥) → Emptied v x

-- the victim still stands in VRAM
pub record InVram (v : Victim) (x : Buffer) : Type 0 where
  pub why : v.why ≡ why.Vram
  pub mem : x.mem ≡ Vram
  pub back : has_target System x ≡ false

-- why a command is refused at work
pub data Refusal (script : Script) (s : State) (c : Course) (cmd : Command) : Type 0 where
  ban : (d : Deny) → forbidden s cmd ≡ Some d → Refusal script s c cmd
  pinned : (b : BufId) → c.fail ≡ None → first_unready script s cmd ≡ Some b → is_in_place script cmd b (buffer s b) ≡ false → nat_lt 0 (reservation s b).pins ≡ true → Refusal script s c cmd

-- why a failed command gives up
pub data Surrender (script : Script) (s : State) (cmd : Command) : Type 0 where
  bare : (b : BufId) → first_unready script s cmd ≡ Some b → gives_back (buffer s b) ≡ false → Surrender script s cmd
  ready : first_unready script s cmd ≡ None → Surrender script s cmd

pub data Turn (script : Script) (s : State) (c : Course) (cmd : Command) : Task → Type 0 where
  answer : c.made ≡ true → Turn script s c cmd task.Answer
  start : c.made ≡ false → starts c cmd ≡ true → Turn script s c cmd task.Start
  lock : {b : BufId} → c.made ≡ false → starts c cmd ≡ false → first_missing c cmd ≡ Some b → Turn script s c cmd (task.Lock b)
  victim_unbind : (v : Victim) → OnVictim c cmd v → has_target System (buffer s v.b) ≡ true → Turn script s c cmd (task.Unbind v.b)
  victim_empty : (v : Victim) → OnVictim c cmd v → has_target System (buffer s v.b) ≡ false → Emptied v (buffer s v.b) → Turn script s c cmd (task.Empty v.b)
  victim_give : (v : Victim) (d : Deny) → OnVictim c cmd v → InVram v (buffer s v.b) → v.fail ≡ Some d → gives_back (buffer s v.b) ≡ true → Turn script s c cmd (task.GiveBack v.b)
  victim_skip : (v : Victim) (d : Deny) → OnVictim c cmd v → InVram v (buffer s v.b) → v.fail ≡ Some d → gives_back (buffer s v.b) ≡ false → Turn script s c cmd (task.Skip v.b)
  victim_move : (v : Victim) → OnVictim c cmd v → InVram v (buffer s v.b) → v.fail ≡ None → has_target Tt (buffer s v.b) ≡ true → has_all_frames (buffer s v.b) ≡ true → Turn script s c cmd (task.Move v.b Tt)
  victim_fill : (v : Victim) → OnVictim c cmd v → InVram v (buffer s v.b) → v.fail ≡ None → has_target Tt (buffer s v.b) ≡ true → has_all_frames (buffer s v.b) ≡ false → Turn script s c cmd (task.Fill v.b)
  victim_search : (v : Victim) → OnVictim c cmd v → InVram v (buffer s v.b) → v.fail ≡ None → has_target Tt (buffer s v.b) ≡ false → Turn script s c cmd (task.Search v.b Hop)
  refuse : {d : Deny} → OnNamed s c cmd → Refusal script s c cmd → Turn script s c cmd (task.Refuse d)
  give : {b : BufId} (d : Deny) → OnNamed s c cmd → forbidden s cmd ≡ None → c.fail ≡ Some d → first_unready script s cmd ≡ Some b → gives_back (buffer s b) ≡ true → Turn script s c cmd (task.GiveBack b)
  give_up : {d : Deny} → OnNamed s c cmd → forbidden s cmd ≡ None → c.fail ≡ Some d → Surrender script s cmd → Turn script s c cmd (task.GiveUp d)
  act : OnNamed s c cmd → forbidden s cmd ≡ None → c.fail ≡ None → first_unready script s cmd ≡ None → Turn script s c cmd task.Act
  fill_in_place : {b : BufId} → OnBuffer script s c cmd b → is_in_place script cmd b (buffer s b) ≡ true → Turn script s c cmd (task.Fill b)
  ask : {b : BufId} → OnMisplaced script s c cmd b → has_some_target (buffer s b) ≡ false → Turn script s c cmd (task.Search b Asked)
  bind : {b : BufId} → OnCarried script s c cmd b System → has_target Tt (buffer s b) ≡ true → has_all_frames (buffer s b) ≡ true → Turn script s c cmd (task.Bind b)
  fill_to_bind : {b : BufId} → OnCarried script s c cmd b System → has_target Tt (buffer s b) ≡ true → has_all_frames (buffer s b) ≡ false → Turn script s c cmd (task.Fill b)
  hop_up : {b : BufId} → OnCarried script s c cmd b System → has_target Tt (buffer s b) ≡ false → Turn script s c cmd (task.Search b Hop)
  unbind : {b : BufId} → OnCarried script s c cmd b Tt → (has_target System (buffer s b) || has_target Tt (buffer s b)) ≡ true → Turn script s c cmd (task.Unbind b)
  move_up : {b : BufId} → OnCarried script s c cmd b Tt → (has_target System (buffer s b) || has_target Tt (buffer s b)) ≡ false → Turn script s c cmd (task.Move b Vram)
  move_across : {b : BufId} → OnCarried script s c cmd b Vram → has_target Vram (buffer s b) ≡ true → Turn script s c cmd (task.Move b Vram)
  move_down : {b : BufId} → OnCarried script s c cmd b Vram → has_target Vram (buffer s b) ≡ false → has_target Tt (buffer s b) ≡ true → has_all_frames (buffer s b) ≡ true → Turn script s c cmd (task.Move b Tt)
  fill_to_move : {b : BufId} → OnCarried script s c cmd b Vram → has_target Vram (buffer s b) ≡ false → has_target Tt (buffer s b) ≡ true → has_all_frames (buffer s b) ≡ false → Turn script s c cmd (task.Fill b)
  hop_down : {b : BufId} → OnCarried script s c cmd b Vram → has_target Vram (buffer s b) ≡ false → has_target Tt (buffer s b) ≡ false → Turn script s c cmd (task.Search b Hop)

module _ (script : Script) (s : State) (c : Course) (cmd : Command) where
  -- ---- victims

  victim_at : (v : Victim) → OnVictim c cmd v → Turn script s c cmd (task_of_victim v (buffer s v.b))
  victim_at v on = by_back (has_target System (buffer s v.b)) refl
    where
      x : Buffer
      x = buffer s v.b

      by_frames : InVram v (buffer s v.b) → v.fail ≡ None → has_target Tt (buffer s v.b) ≡ true → (q : Bool) → has_all_frames (buffer s v.b) ≡ q →
          Turn script s c cmd (elim q [ true ↦ task.Move v.b Tt | false ↦ task.Fill v.b ])
      by_frames i f t true e = victim_move v on i f t e
      by_frames i f t false e = victim_fill v on i f t e

      by_tt : InVram v (buffer s v.b) → v.fail ≡ None → (q : Bool) → has_target Tt (buffer s v.b) ≡ q →
          Turn script s c cmd (elim q [ true ↦ filled_then (task.Move v.b Tt) v.b (buffer s v.b) | false ↦ task.Search v.b Hop ])
      by_tt i f true e = by_frames i f e (has_all_frames (buffer s v.b)) refl
      by_tt i f false e = victim_search v on i f e

      by_gift : InVram v (buffer s v.b) → (d : Deny) → v.fail ≡ Some d → (q : Bool) → gives_back (buffer s v.b) ≡ q →
          Turn script s c cmd (elim q [ true ↦ task.GiveBack v.b | false ↦ task.Skip v.b ])
      by_gift i d f true e = victim_give v d on i f e
      by_gift i d f false e = victim_skip v d on i f e

      by_fail : InVram v (buffer s v.b) → (o : Option Deny) → v.fail ≡ o →
          Turn script s c cmd (elim o [
            | Some d ↦ elim (gives_back (buffer s v.b)) [ true ↦ task.GiveBack v.b | false ↦ task.Skip v.b ]
            | None ↦ elim (has_target Tt (buffer s v.b)) [ true ↦ filled_then (task.Move v.b Tt) v.b (buffer s v.b) | false ↦ task.Search v.b Hop ]
          ])
      by_fail i (Some d) f = by_gift i d f (gives_back (buffer s v.b)) refl
      by_fail i None f = by_tt i f (has_target Tt (buffer s v.b)) refl

      by_mem : has_target System (buffer s v.b) ≡ false → v.why ≡ why.Vram → (m : Mem) → (buffer s v.b).mem ≡ m →
          Turn script s c cmd (elim (same_mem m Vram) [ true ↦ task_in_vram v (buffer s v.b) | false ↦ task.Empty v.b ])
      by_mem t w Vram e = by_fail (record { why = w; mem = e; back = t }) v.fail refl
      by_mem t w Tt e = victim_empty v on t (left_vram w (λ h. clash (sym e ∙ h)))
        where
          clash : Tt ≡ Vram → ⊥
          clash h = cc
      by_mem t w System e = victim_empty v on t (left_vram w (λ h. clash (sym e ∙ h)))
        where
          clash : System ≡ Vram → ⊥
          clash h = cc

      by_why : has_target System (buffer s v.b) ≡ false → (w : Why) → v.why ≡ w →
          Turn script s c cmd (elim w [
            | why.Tt ↦ task.Empty v.b
            | why.Swap ↦ task.Empty v.b
            | why.Vram ↦ elim (same_mem (buffer s v.b).mem Vram) [ true ↦ task_in_vram v (buffer s v.b) | false ↦ task.Empty v.b ]
          ])
      by_why t why.Tt e = victim_empty v on t (for_tt e)
      by_why t why.Swap e = victim_empty v on t (for_swap e)
      by_why t why.Vram e = by_mem t e (buffer s v.b).mem refl

      by_back : (q : Bool) → has_target System (buffer s v.b) ≡ q →
          Turn script s c cmd (elim q [
            | true ↦ task.Unbind v.b
            | false ↦ elim v.why [
              | why.Tt ↦ task.Empty v.b
              | why.Swap ↦ task.Empty v.b
              | why.Vram ↦ elim (same_mem (buffer s v.b).mem Vram) [ true ↦ task_in_vram v (buffer s v.b) | false ↦ task.Empty v.b ]
            ]
          ])
      by_back true e = victim_unbind v on e
      by_back false e = by_why e v.why refl

  -- ---- named buffers

  module _ (b : BufId) where
    carried_at : OnMisplaced script s c cmd b → has_some_target (buffer s b) ≡ true → (m : Mem) → (buffer s b).mem ≡ m → Turn script s c cmd (carried m b (buffer s b))
    carried_at on some System m = by_tt (has_target Tt (buffer s b)) refl
      where
        up : OnCarried script s c cmd b System
        up = record { on = on; some = some; stands = m }

        by_frames : has_target Tt (buffer s b) ≡ true → (q : Bool) → has_all_frames (buffer s b) ≡ q → Turn script s c cmd (elim q [ true ↦ task.Bind b | false ↦ task.Fill b ])
        by_frames t true e = bind up t e
        by_frames t false e = fill_to_bind up t e

        by_tt : (q : Bool) → has_target Tt (buffer s b) ≡ q → Turn script s c cmd (elim q [ true ↦ filled_then (task.Bind b) b (buffer s b) | false ↦ task.Search b Hop ])
        by_tt true e = by_frames e (has_all_frames (buffer s b)) refl
        by_tt false e = hop_up up e
    carried_at on some Tt m = by_down (has_target System (buffer s b) || has_target Tt (buffer s b)) refl
      where
        here : OnCarried script s c cmd b Tt
        here = record { on = on; some = some; stands = m }

        by_down : (q : Bool) → (has_target System (buffer s b) || has_target Tt (buffer s b)) ≡ q → Turn script s c cmd (elim q [ true ↦ task.Unbind b | false ↦ task.Move b Vram ])
        by_down true e = unbind here e
        by_down false e = move_up here e
    carried_at on some Vram m = by_vram (has_target Vram (buffer s b)) refl
      where
        down : OnCarried script s c cmd b Vram
        down = record { on = on; some = some; stands = m }

        by_frames : has_target Vram (buffer s b) ≡ false → has_target Tt (buffer s b) ≡ true → (q : Bool) → has_all_frames (buffer s b) ≡ q → Turn script s c cmd (elim q [ true ↦ task.Move b Tt | false ↦ task.Fill b ])
        by_frames v t true e = move_down down v t e
        by_frames v t false e = fill_to_move down v t e

        by_tt : has_target Vram (buffer s b) ≡ false → (q : Bool) → has_target Tt (buffer s b) ≡ q → Turn script s c cmd (elim q [ true ↦ filled_then (task.Move b Tt) b (buffer s b) | false ↦ task.Search b Hop ])
        by_tt v true e = by_frames v e (has_all_frames (buffer s b)) refl
        by_tt v false e = hop_down down v e

        by_vram : (q : Bool) → has_target Vram (buffer s b) ≡ q →
            Turn script s c cmd (elim q [
              | true ↦ task.Move b Vram
              | false ↦ elim (has_target Tt (buffer s b)) [ true ↦ filled_then (task.Move b Tt) b (buffer s b) | false ↦ task.Search b Hop ]
            ])
        by_vram true e = move_across down e
        by_vram false e = by_tt e (has_target Tt (buffer s b)) refl

    misplaced_at : OnBuffer script s c cmd b → is_in_place script cmd b (buffer s b) ≡ false → Turn script s c cmd (task_of_misplaced b (reservation s b) (buffer s b))
    misplaced_at on out = by_pins (nat_lt 0 (reservation s b).pins) refl
      where
        by_target : nat_lt 0 (reservation s b).pins ≡ false → (q : Bool) → has_some_target (buffer s b) ≡ q → Turn script s c cmd (elim q [ true ↦ carried (buffer s b).mem b (buffer s b) | false ↦ task.Search b Asked ])
        by_target l true e = carried_at (record { on = on; misplaced = out; loose = l }) e (buffer s b).mem refl
        by_target l false e = ask (record { on = on; misplaced = out; loose = l }) e

        by_pins : (q : Bool) → nat_lt 0 (reservation s b).pins ≡ q →
            Turn script s c cmd (elim q [
              | true ↦ task.Refuse deny.Pinned
              | false ↦ elim (has_some_target (buffer s b)) [ true ↦ carried (buffer s b).mem b (buffer s b) | false ↦ task.Search b Asked ]
            ])
        by_pins true e = refuse on.named (pinned b on.fine on.first out e)
        by_pins false e = by_target e (has_some_target (buffer s b)) refl

    unready_at : OnBuffer script s c cmd b → Turn script s c cmd (task_of_unready script s cmd b)
    unready_at on = by_place (is_in_place script cmd b (buffer s b)) refl
      where
        by_place : (q : Bool) → is_in_place script cmd b (buffer s b) ≡ q → Turn script s c cmd (elim q [ true ↦ task.Fill b | false ↦ task_of_misplaced b (reservation s b) (buffer s b) ])
        by_place true e = fill_in_place on e
        by_place false e = misplaced_at on e

  failed_at : OnNamed s c cmd → forbidden s cmd ≡ None → (d : Deny) → c.fail ≡ Some d → Turn script s c cmd (task_of_failed script s cmd d)
  failed_at on allowed d f = by_buffer (first_unready script s cmd) refl
    where
      by_gift : (b : BufId) → first_unready script s cmd ≡ Some b → (q : Bool) → gives_back (buffer s b) ≡ q → Turn script s c cmd (elim q [ true ↦ task.GiveBack b | false ↦ task.GiveUp d ])
      by_gift b u true e = give d on allowed f u e
      by_gift b u false e = give_up on allowed f (bare b u e)

      by_buffer : (o : Option BufId) → first_unready script s cmd ≡ o →
          Turn script s c cmd (elim o [ Some b ↦ elim (gives_back (buffer s b)) [ true ↦ task.GiveBack b | false ↦ task.GiveUp d ] | None ↦ task.GiveUp d ])
      by_buffer None u = give_up on allowed f (ready u)
      by_buffer (Some b) u = by_gift b u (gives_back (buffer s b)) refl

  held_at : OnNamed s c cmd → Turn script s c cmd (task_of_held script s c cmd)
  held_at on = by_ban (forbidden s cmd) refl
    where
      by_first : forbidden s cmd ≡ None → c.fail ≡ None → (o : Option BufId) → first_unready script s cmd ≡ o → Turn script s c cmd (elim o [ Some b ↦ task_of_unready script s cmd b | None ↦ task.Act ])
      by_first a f None u = act on a f u
      by_first a f (Some b) u = unready_at b (record { named = on; allowed = a; fine = f; first = u })

      by_fail : forbidden s cmd ≡ None → (o : Option Deny) → c.fail ≡ o →
          Turn script s c cmd (elim o [
            | Some d ↦ task_of_failed script s cmd d
            | None ↦ elim (first_unready script s cmd) [ Some b ↦ task_of_unready script s cmd b | None ↦ task.Act ]
          ])
      by_fail a (Some d) f = failed_at on a d f
      by_fail a None f = by_first a f (first_unready script s cmd) refl

      by_ban : (o : Option Deny) → forbidden s cmd ≡ o →
          Turn script s c cmd (elim o [
            | Some d ↦ task.Refuse d
            | None ↦ elim c.fail [
              | Some d ↦ task_of_failed script s cmd d
              | None ↦ elim (first_unready script s cmd) [ Some b ↦ task_of_unready script s cmd b | None ↦ task.Act ]
            ]
          ])
      by_ban (Some d) e = refuse on (ban d e)
      by_ban None e = by_fail e c.fail refl

  pub turn_of : Turn script s c cmd (task_of_command script s c cmd)
  turn_of = by_made c.made refl
    where
      by_last : Works c cmd → (o : Option Victim) → last_of c.caught ≡ o → Turn script s c cmd (elim o [ Some v ↦ task_of_victim v (buffer s v.b) | None ↦ task_of_held script s c cmd ])
      by_last w (Some v) l = victim_at v (record { works = w; last = l })
      by_last w None l = held_at (record { works = w; alone = l })

      by_missing : c.made ≡ false → starts c cmd ≡ false → (o : Option BufId) → first_missing c cmd ≡ o →
          Turn script s c cmd (elim o [
            | Some b ↦ task.Lock b
            | None ↦ elim (last_of c.caught) [ Some v ↦ task_of_victim v (buffer s v.b) | None ↦ task_of_held script s c cmd ]
          ])
      by_missing m st (Some b) f = lock m st f
      by_missing m st None f = by_last (record { unmade = m; begun = st; whole = f }) (last_of c.caught) refl

      by_start : c.made ≡ false → (q : Bool) → starts c cmd ≡ q →
          Turn script s c cmd (elim q [
            | true ↦ task.Start
            | false ↦ elim (first_missing c cmd) [
              | Some b ↦ task.Lock b
              | None ↦ elim (last_of c.caught) [ Some v ↦ task_of_victim v (buffer s v.b) | None ↦ task_of_held script s c cmd ]
            ]
          ])
      by_start m true e = start m e
      by_start m false e = by_missing m e (first_missing c cmd) refl

      by_made : (q : Bool) → c.made ≡ q →
          Turn script s c cmd (elim q [
            | true ↦ task.Answer
            | false ↦ elim (starts c cmd) [
              | true ↦ task.Start
              | false ↦ elim (first_missing c cmd) [
                | Some b ↦ task.Lock b
                | None ↦ elim (last_of c.caught) [ Some v ↦ task_of_victim v (buffer s v.b) | None ↦ task_of_held script s c cmd ]
              ]
            ]
          ])
      by_made true e = answer e
      by_made false e = by_start e (starts c cmd) refl
