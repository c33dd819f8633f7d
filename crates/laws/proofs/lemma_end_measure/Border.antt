-- Entries that begin and end commands lower the measure.
use Rattle.std.proofs.Common.{◌≡◌, ℕ, ◌<◌, ◌≤◌, ◌+◌, ◌*◌, Bool, true, false, List, [], ◌∷◌, ◌++◌, length, length-append, Option, Some, None, refl, sym, ◌∙◌, ap, subst, arith, inr}
use Rattle.std.specs.Prelude.{slice_get, slice_set, sum_by, flat_map, unwrap_or, is_none, drop, ◌==◌, if◌then◌else◌}
use Rattle.ttm_base.specs.declared.BufId.{BufId}
use Rattle.ttm_base.specs.declared.Op.{Op}
use Rattle.ttm_base.specs.declared.Stamp.{Stamp}
use Rattle.ttm_base.specs.declared.Actor.TheVariants as actor
use Rattle.ttm_base.specs.Cutting.{packets_of, pieces_of}
use Rattle.journal_model.specs.declared.script.Script.{Script}
use Rattle.journal_model.specs.declared.script.Decl.{Decl}
use Rattle.journal_model.specs.declared.script.Command.{Command}
use Rattle.journal_model.specs.declared.script.Command.TheVariants as command
use Rattle.journal_model.specs.declared.state.State.{State}
use Rattle.journal_model.specs.declared.state.Course.{Course}
use Rattle.journal_model.specs.declared.entry.Kind.{Kind}
use Rattle.journal_model.specs.declared.entry.Kind.TheVariants as kind
use Rattle.journal_model.specs.rules.State.{new_buffer, new_course, buffer, buffer_in, live_in, course, without_buffer}
use Rattle.journal_model.specs.rules.Commands.{commands_of, command_at_work, decl}
use Rattle.journal_model.specs.rules.Places.{packet_place}
use Rattle.journal_model.specs.rules.Tasks.{first_missing}
use Rattle.journal_model.specs.rules.Waits.{jobs_before_use}
use Rattle.journal_model.specs.rules.Apply.{applied}
use Rattle.journal_model.specs.rules.ApplyCommands.{on_to_next, named_in, ghost_of_freed}
use Rattle.journal_model.specs.rules.ApplyJobs.{ops_of}
use Rattle.laws.specs.law_state.GoodState.{GoodState}
use Rattle.laws.proofs.law_state.Rules.{Rules}
use Rattle.laws.specs.law_sound.Sound.{Has, Owned}
use Rattle.laws.proofs.law_sound.Measure.{all_pages, packet_count, whole_command, locking_left, command_left, later_commands, thread_left, slot_debts, left_of_buffer, job_left, measure}
use Rattle.laws.proofs.law_sound.Along.{Stepped}
use Rattle.laws.proofs.law_sound.Orders.{there}
use Rattle.laws.proofs.law_sound.Turns.{OnNamed, Works}
use Rattle.laws.proofs.law_sound.Bufs.{none_last}
use Rattle.laws.proofs.law_sound.Steadies.{next_course, own_course}
use Rattle.laws.proofs.law_sound.Owners.{OneCourse}
use Rattle.laws.proofs.law_sound.Reservations.{one_course}
use Rattle.laws.proofs.lemma_end_measure.Locks.{locks_most}
use Rattle.laws.proofs.lemma_end_measure.Frame.{left_of, left_is, others_left, others_buffer}
use Rattle.laws.proofs.lemma_end_measure.Working.{phase, phase_is, working_most, command_least, working_least}
use Rattle.laws.proofs.lemma_end_measure.Slots.{Fewer, same_all, gone_fewer, debts_keep, no_debts}
use Rattle.laws.proofs.lemma_end_measure.Sums.{sum_one, sum_set_most, uses_left, uses_fewer, pages_of_new, decl_most, drop_at, length-packets, sum_pushed}

-- what is known of a state and of its script
pub record Known (script : Script) (s : State) : Type 0 where
  pub rules : Rules script
  pub threads : length script.threads ≤ 16
  pub pages : (i : ℕ) (d : Decl) → slice_get script.buffers i ≡ Some d → 1 ≤ d.pages
  pub good : GoodState script s
  pub owned : Owned script s

-- the costs that all actors share
abbrev pub shared : State → ℕ
shared s = sum_by left_of_buffer s.core.buffers + sum_by job_left s.core.jobs + length s.core.ghosts

module _ (script : Script) (s : State) (t : ℕ) (k : Kind) (known : Known script s) (st : Stepped script s t k) where
  o : Owned script s
  o = known.owned

  pub range : (1 ≤ t) × (t < 1 + length script.threads)
  range = let r = there s.courses t st.here in let a = r.0 in let b = r.1 in let l = o.courses in (omega (arith, a), omega (arith, b, l))

  pub one : OneCourse s (applied script s (actor.Thread t) k) t
  one = one_course script s t k st.here

  pub others_same : (u : ℕ) (d : BufId) → (u ≡ t → ⊥) → Has s u d → live_in (applied script s (actor.Thread t) k).core.buffers d ≡ live_in s.core.buffers d
  others_same u d n h = others_buffer script s t st.step.cmd st.step.at_work o st.step.task k u d st.turn st.gives n h

  pub own_is : thread_left script (applied script s (actor.Thread t) k) t ≡ left_of script (applied script s (actor.Thread t) k) t (next_course script s t k)
  own_is =
      left_is script (applied script s (actor.Thread t) k) (one.lengths.courses ∙ o.courses) t
      ∙ ap (left_of script (applied script s (actor.Thread t) k) t) (own_course script s t k st.here)

  -- an entry that lets nobody wait longer than all locks are worth
  pub border_falls : (next_course script s t k).caught ≡ [] → Fewer s.core.buffers (applied script s (actor.Thread t) k).core.buffers
      → left_of script (applied script s (actor.Thread t) k) t (next_course script s t k) + shared (applied script s (actor.Thread t) k) + 2097153 ≤ left_of script s t (course s t) + shared s
      → measure script (applied script s (actor.Thread t) k) + 1 ≤ measure script s
  border_falls empty fewer less =
      let a = range.0 in
      let b = range.1 in
      let threads = sum_one (thread_left script (applied script s (actor.Thread t) k)) (thread_left script s) t (length script.threads) 1 a b
      (λ u n. let e = others_left script s (applied script s (actor.Thread t) k) t u one o.courses n (λ d h. others_same u d n h) in omega (arith, e)) in
      let debts = sum_one (slot_debts script (applied script s (actor.Thread t) k)) (slot_debts script s) t (length script.threads) 1 a b
      (λ u n. debts_keep script s (applied script s (actor.Thread t) k) u (one.others u n) fewer (λ d h. ap (λ p. unwrap_or p (new_buffer 0)) (others_same u d n (inr h)))) in
      let mine = own_is in
      let was = left_is script s o.courses t in
      let none = no_debts script (applied script s (actor.Thread t) k) t (ap (λ c. c.caught) (own_course script s t k st.here) ∙ empty) in
      let most = locks_most script known.rules known.threads (applied script s (actor.Thread t) k) in
      omega (arith, threads, debts, mine, was, none, most, less)

  -- ---- parts of the own thread

  -- the command at work, and those after it
  pub own_was : left_of script s t (course s t) ≡ command_left script s (course s t) st.step.cmd + later_commands script t (course s t).answered
  own_was = ap (λ p. elim p [ None ↦ 0 | Some cmd ↦ command_left script s (course s t) cmd + later_commands script t (course s t).answered ]) st.at

  -- a course that stands at the same command
  pub own_now : (z : State) (c : Course) → c.answered ≡ (course s t).answered → left_of script z t c ≡ command_left script z c st.step.cmd + later_commands script t (course s t).answered
  own_now z c e =
      ap (λ p. elim p [ None ↦ 0 | Some cmd ↦ command_left script z c cmd + later_commands script t c.answered ]) (ap (slice_get (commands_of script t)) e ∙ st.at)
      ∙ ap (λ n. command_left script z c st.step.cmd + later_commands script t n) e

  -- a command that is made costs the least
  own_made : (z : State) (held : List BufId) → left_of script z t (record (course s t) { held = held; made = true }) ≡ 2097153 + later_commands script t (course s t).answered
  own_made z held = own_now z (record (course s t) { held = held; made = true }) refl

  -- the next command was counted already
  own_next : (z : State) → left_of script z t (on_to_next (course s t)) ≡ later_commands script t (course s t).answered
  own_next z = by (slice_get (commands_of script t) ((course s t).answered + 1)) ∙ drop_at (whole_command script) (commands_of script t) ((course s t).answered + 1)
    where
      by : (p : Option Command) →
          ◌≡◌ {A = ℕ}
          (elim p [ None ↦ 0 | Some cmd ↦ command_left script z (new_course ((course s t).answered + 1)) cmd + later_commands script t ((course s t).answered + 1) ])
          (elim p [ None ↦ 0 | Some cmd ↦ whole_command script cmd + sum_by (whole_command script) (drop ((course s t).answered + 1 + 1) (commands_of script t)) ])
      by None = refl
      by (Some cmd) = refl

  -- ---- results and refusals

  pub next_falls : next_course script s t k ≡ on_to_next (course s t) → (applied script s (actor.Thread t) k).core ≡ s.core → measure script (applied script s (actor.Thread t) k) + 1 ≤ measure script s
  next_falls own core =
      border_falls (ap (λ c. c.caught) own) (subst (λ c. Fewer s.core.buffers c.buffers) (sym core) (same_all s.core.buffers))
      (let now = ap (left_of script (applied script s (actor.Thread t) k) t) own ∙ own_next (applied script s (actor.Thread t) k) in
      let was = own_was in
      let least = command_least script s (course s t) st.step.cmd in
      let same : shared (applied script s (actor.Thread t) k) ≡ shared s = ap (λ c. sum_by left_of_buffer c.buffers + sum_by job_left c.jobs + length c.ghosts) core in
      omega (arith, now, was, least, same))

  -- ---- what is made

  -- a command that hasn't begun
  whole_was : (course s t).made ≡ false → (course s t).stamp ≡ None → left_of script s t (course s t) ≡ whole_command script st.step.cmd + later_commands script t (course s t).answered
  whole_was m e = own_was ∙ ap (λ n. n + later_commands script t (course s t).answered) (phase_is script s (course s t) st.step.cmd false true (is_none (first_missing (course s t) st.step.cmd)) m (ap is_none e) refl)

  -- one that works
  held_was : (st' : Stamp) → (course s t).stamp ≡ Some st' → Works (course s t) st.step.cmd → (course s t).fail ≡ None → packet_count st.step.cmd + 4194320 + later_commands script t (course s t).answered ≤ left_of script s t (course s t)
  held_was st' e works fine =
      let is = phase_is script s (course s t) st.step.cmd false false true works.unmade (ap is_none e) (ap is_none works.whole) in
      let least = working_least script s (course s t) st.step.cmd fine in
      let was = own_was in
      omega (arith, is, least, was)

  -- a step to a made command
  pub made_falls : (held : List BufId) → next_course script s t k ≡ record (course s t) { held = held; made = true } → (course s t).caught ≡ [] → Fewer s.core.buffers (applied script s (actor.Thread t) k).core.buffers
      → later_commands script t (course s t).answered + shared (applied script s (actor.Thread t) k) + 4194306 ≤ left_of script s t (course s t) + shared s
      → measure script (applied script s (actor.Thread t) k) + 1 ≤ measure script s
  made_falls held own alone fewer less =
      border_falls (ap (λ c. c.caught) own ∙ alone) fewer
      (let now = ap (left_of script (applied script s (actor.Thread t) k) t) own ∙ own_made (applied script s (actor.Thread t) k) held in
      omega (arith, now, less))

-- ---- each kind

new_left : (script : Script) (b : BufId) → left_of_buffer (Some (new_buffer (decl script b).pages)) ≤ 67108865 * all_pages script
new_left script b = let is = pages_of_new (decl script b).pages in let most = decl_most script b in omega (arith, is, most)

pub new_falls : (script : Script) (s : State) (t : ℕ) (b : BufId) → Known script s → Stepped script s t (kind.New b) → (course s t).made ≡ false → (course s t).stamp ≡ None → (course s t).caught ≡ []
    → Fewer s.core.buffers (slice_set s.core.buffers b.0 (Some (new_buffer (decl script b).pages))) → measure script (applied script s (actor.Thread t) (kind.New b)) + 1 ≤ measure script s
new_falls script s t b known st m e alone fewer =
    made_falls script s t (kind.New b) known st (course s t).held refl alone fewer
    (let was = whole_was script s t (kind.New b) known st m e in
    let buffers = sum_set_most left_of_buffer s.core.buffers b.0 (Some (new_buffer (decl script b).pages)) in
    let pages = new_left script b in
    omega (arith, was, buffers, pages))

pub bulk_falls : (script : Script) (s : State) (t group : ℕ) → Known script s → Stepped script s t (kind.Bulk group) → (course s t).made ≡ false → (course s t).stamp ≡ None → (course s t).caught ≡ []
    → measure script (applied script s (actor.Thread t) (kind.Bulk group)) + 1 ≤ measure script s
bulk_falls script s t group known st m e alone =
    made_falls script s t (kind.Bulk group) known st (course s t).held refl alone (same_all s.core.buffers)
    (let was = whole_was script s t (kind.Bulk group) known st m e in omega (arith, was))

pub ticket_falls : (script : Script) (s : State) (t : ℕ) (stamp : Stamp) → Known script s → (st : Stepped script s t (kind.Ticket stamp)) → (course s t).made ≡ false → (course s t).stamp ≡ None → (course s t).caught ≡ []
    → measure script (applied script s (actor.Thread t) (kind.Ticket stamp)) + 1 ≤ measure script s
ticket_falls script s t stamp known st m e alone =
    border_falls script s t (kind.Ticket stamp) known st alone (same_all s.core.buffers)
    (let was = whole_was script s t (kind.Ticket stamp) known st m e in
    let now = own_now script s t (kind.Ticket stamp) known st (applied script s (actor.Thread t) (kind.Ticket stamp)) (record (course s t) { stamp = Some stamp }) refl in
    let most = begun (is_none (first_missing (record (course s t) { stamp = Some stamp }) st.step.cmd)) refl in
    omega (arith, was, now, most))
  where
    begun : (w : Bool) → is_none (first_missing (record (course s t) { stamp = Some stamp }) st.step.cmd) ≡ w → command_left script s (record (course s t) { stamp = Some stamp }) st.step.cmd ≤ locking_left script st.step.cmd
    begun w f =
        subst (λ n. n ≤ locking_left script st.step.cmd) (sym (phase_is script s (record (course s t) { stamp = Some stamp }) st.step.cmd false false w m refl f)) (by w)
      where
        by : (q : Bool) → phase script s (record (course s t) { stamp = Some stamp }) st.step.cmd false false q ≤ locking_left script st.step.cmd
        by true = working_most script s known.good known.pages (record (course s t) { stamp = Some stamp }) st.step.cmd alone
        by false = omega arith

pub free_falls : (script : Script) (s : State) (t : ℕ) (b : BufId) (g : ℕ) (stamp : Stamp) → Known script s → (st : Stepped script s t (kind.Free b g)) → (course s t).stamp ≡ Some stamp → OnNamed s (course s t) st.step.cmd → (course s t).fail ≡ None
    → measure script (applied script s (actor.Thread t) (kind.Free b g)) + 1 ≤ measure script s
free_falls script s t b g stamp known st e on fine =
    made_falls script s t (kind.Free b g) known st (without_buffer (course s t).held b) refl (none_last (course s t).caught on.alone) (gone_fewer s.core.buffers b.0)
    (let was = held_was script s t (kind.Free b g) known st stamp e on.works fine in
    let buffers = sum_set_most left_of_buffer s.core.buffers b.0 None in
    let ghosts = by (g == 0) in
    omega (arith, was, buffers, ghosts))
  where
    by : (q : Bool) → length (if q then s.core.ghosts else s.core.ghosts ++ ghost_of_freed s.core (buffer s b) g ∷ []) ≤ length s.core.ghosts + 1
    by true = omega arith
    by false = let both = length-append s.core.ghosts (ghost_of_freed s.core (buffer s b) g ∷ []) in omega (arith, both)

pub arm_falls : (script : Script) (s : State) (t engine n : ℕ) (ops : List Op) (stamp : Stamp) → Known script s → (st : Stepped script s t (kind.Arm engine n)) → st.step.cmd ≡ command.Submit engine ops → (course s t).stamp ≡ Some stamp
    → OnNamed s (course s t) st.step.cmd → (course s t).fail ≡ None → measure script (applied script s (actor.Thread t) (kind.Arm engine n)) + 1 ≤ measure script s
arm_falls script s t engine n ops stamp known st is e on fine =
    made_falls script s t (kind.Arm engine n) known st (course s t).held refl (none_last (course s t).caught on.alone)
    (uses_fewer (record { ctx = engine; num = n }) (ops_of (command_at_work script s t)) s.core.buffers (named_in (command_at_work script s t)))
    (let was = held_was script s t (kind.Arm engine n) known st stamp e on.works fine in
    let buffers = uses_left (record { ctx = engine; num = n }) (ops_of (command_at_work script s t)) s.core.buffers (named_in (command_at_work script s t)) in
    let jobs =
    sum_pushed job_left s.core.jobs
    (record {
      id = record { ctx = engine; num = n };
      waits = flat_map (jobs_before_use s.core (ops_of (command_at_work script s t))) (named_in (command_at_work script s t));
      packets = packets_of (λ b. packet_place (buffer_in s.core b)) (ops_of (command_at_work script s t));
      ran = 0;
      finished = false;
    }) in
    let packets = length-packets (λ b. packet_place (buffer_in s.core b)) (ops_of (command_at_work script s t)) in
    let same : sum_by (λ op. length (pieces_of op)) (ops_of (command_at_work script s t)) ≡ packet_count st.step.cmd =
    ap (λ p. sum_by (λ op. length (pieces_of op)) (ops_of p)) (st.step.at_work ∙ ap Some is) ∙ sym (ap packet_count is) in
    omega (arith, was, buffers, jobs, packets, same))
