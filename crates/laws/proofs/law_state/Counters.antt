-- Each entry raises each counter by one at most.
use Rattle.std.proofs.Common.{◌≡◌, ℕ, ◌+◌, ◌≤◌, zero, suc, Bool, true, false, List, [], ◌∷◌, length, Ok, refl, sym, subst, ap, arith, ⊎_elim}
use Rattle.std.specs.Prelude.{slice_set, ◌==◌, ◌&&◌, ◌||◌, unwrap_or, replicate, if◌then◌else◌}
use Rattle.std.proofs.lemmas.Grind.{common_steps}
use Rattle.std.proofs.lemmas.Bool.Decides.{nat_tests}
use Rattle.ttm_base.specs.declared.Actor.{Actor}
use Rattle.ttm_base.specs.declared.Actor.TheVariants as actor
use Rattle.journal_model.specs.declared.script.Script.{Script}
use Rattle.journal_model.specs.declared.script.Command.{Command}
use Rattle.journal_model.specs.declared.script.Command.TheVariants as command
use Rattle.journal_model.specs.declared.state.State.{State}
use Rattle.journal_model.specs.declared.state.Course.{Course}
use Rattle.journal_model.specs.declared.state.Task.{Task}
use Rattle.journal_model.specs.declared.state.Task.TheVariants as task
use Rattle.journal_model.specs.declared.entry.Entry.{Entry}
use Rattle.journal_model.specs.declared.entry.Left.{Left}
use Rattle.journal_model.specs.declared.entry.Left.TheVariants as left
use Rattle.journal_model.specs.declared.entry.Kind.{Kind}
use Rattle.journal_model.specs.declared.entry.Kind.TheVariants as kind
use Rattle.journal_model.specs.rules.State.{course}
use Rattle.journal_model.specs.rules.PageSteps.{next_job, next_ghost}
use Rattle.journal_model.specs.rules.Next.{next, step_of_task, step_of_act, step_of_start}
use Rattle.journal_model.specs.rules.Apply.{applied}
use Rattle.journal_model.specs.rules.ApplyMoves.{last_ghost_left}
use Rattle.journal_model.specs.rules.Legal.{World, first_world, world_after, world_along, state_of, IsLegalFrom, IsLegal}
use Rattle.laws.proofs.law_state.Shown.{legal_step}
use Rattle.laws.proofs.law_state.JournalCourses.{is_of_engine, is_of_reaper, of_engine, of_reaper}
use Rattle.laws.specs.law_state.GoodState.{last_number}
use Rattle.laws.specs.law_state.Counters.{Below}
use Rattle.laws.proofs.law_state.Lists.{set_at}
use Rattle.laws.proofs.law_state.Moves.{thread_step}

-- the next ghost, or none
abbrev pub is_left : State → Left → Bool
is_left s left.Now = true
is_left s (left.Ghost g) = g == next_ghost s

-- the numbers of an entry are the next ones
abbrev pub is_counted : State → Kind → Bool
is_counted s (kind.Ticket stamp) = stamp.0 == s.last_stamp + 1
is_counted s (kind.Free b g) = (g == 0) || (g == next_ghost s)
is_counted s (kind.Move b mem n l) = (n == next_job s 0) && is_left s l
is_counted s (kind.Arm engine n) = n == next_job s engine
is_counted s _ = true

act_counted : (script : Script) (s : State) (cmd : Command) (k : Kind) → step_of_act script s cmd ≡ Ok k → is_counted s k ≡ true
act_counted script s (command.New b) k h = grind (arith, common_steps, nat_tests)
act_counted script s cmd k h = grind (arith, common_steps, nat_tests)

start_counted : (s : State) (cmd : Command) (k : Kind) → step_of_start s cmd ≡ Ok k → is_counted s k ≡ true
start_counted s (command.New b) k h = grind (arith, common_steps, nat_tests)
start_counted s cmd k h = grind (arith, common_steps, nat_tests)

task_counted : (script : Script) (s : State) (c : Course) (cmd : Command) (t : Task) (k : Kind) → step_of_task script s c cmd t ≡ Ok k → is_counted s k ≡ true
task_counted script s c cmd task.Start k h = start_counted s cmd k h
task_counted script s c cmd task.Act k h = act_counted script s cmd k h
task_counted script s c cmd t k h = grind (arith, common_steps, nat_tests)

engine_counted : (s : State) (k : Kind) → is_of_engine k ≡ true → is_counted s k ≡ true
engine_counted s (kind.Packet n k piece) q = cc
engine_counted s k q = cc

reaper_counted : (s : State) (k : Kind) → is_of_reaper k ≡ true → is_counted s k ≡ true
reaper_counted s (kind.Reap g) q = cc
reaper_counted s k q = cc

pub next_counted : (script : Script) (s : State) (who : Actor) (k : Kind) → next script s who ≡ Ok k → is_counted s k ≡ true
next_counted script s (actor.Thread t) k h = let st = thread_step script s t k h in task_counted script s (course s t) st.cmd st.task k st.step
next_counted script s (actor.Engine e) k h = engine_counted s k (of_engine script s e k h)
next_counted script s actor.Reaper k h = reaper_counted s k (of_reaper script s k h)

-- ---- bounds

more : (n : ℕ) (s : State) → Below n s → Below (n + 1) s
more n s b = record {
  stamps = let l = b.stamps in omega (arith, l);
  ghosts = let l = b.ghosts in omega (arith, l);
  jobs = λ ctx. let l = b.jobs ctx in omega (arith, l);
}

set_below : (last : List ℕ) (n ctx num c : ℕ) → ((d : ℕ) → last_number last d ≤ n) → num ≤ n + 1 → last_number (slice_set last ctx num) c ≤ n + 1
set_below last n ctx num c h l =
    ⊎_elim
    (λ e. let same : last_number (slice_set last ctx num) c ≡ last_number last c = ap (λ o. unwrap_or o 0) e in let b = h c in omega (arith, same, b))
    (λ e. let same : last_number (slice_set last ctx num) c ≡ num = ap (λ o. unwrap_or o 0) e.1 in omega (arith, same, l))
    (set_at last ctx c num)

both : (a b : Bool) → (a && b) ≡ true → (a ≡ true) × (b ≡ true)
both true true h = (refl, refl)
both true false h = cc
both false b h = cc

is_number : (m n : ℕ) → (m == n) ≡ true → m ≡ n
is_number m n h = grind (arith, nat_tests)

arm_below : (n : ℕ) (s : State) (ctx num : ℕ) → Below n s → num ≡ next_job s ctx → (c : ℕ) → last_number (slice_set s.last_jobs ctx num) c ≤ n + 1
arm_below n s ctx num b e c = let l = b.jobs ctx in set_below s.last_jobs n ctx num c b.jobs (omega (arith, l, e))

free_ghost : (n : ℕ) (s : State) (g : ℕ) → Below n s → ((g == 0) || (g == next_ghost s)) ≡ true → (if g == 0 then s.last_ghost else g) ≤ n + 1
free_ghost n s g b h = let l = b.ghosts in grind (arith, nat_tests)

left_ghost : (n : ℕ) (s : State) (l : Left) → Below n s → is_left s l ≡ true → last_ghost_left l s.last_ghost ≤ n + 1
left_ghost n s left.Now b h = let l = b.ghosts in omega (arith, l)
left_ghost n s (left.Ghost g) b h = let l = b.ghosts in let e : g ≡ next_ghost s = is_number g (next_ghost s) h in omega (arith, l, e)

below_keeps : (script : Script) (n : ℕ) (s : State) (who : Actor) (k : Kind) → Below n s → is_counted s k ≡ true → Below (n + 1) (applied script s who k)
below_keeps script n s who (kind.Ticket stamp) b q = record { stamps = (let e : stamp.0 ≡ s.last_stamp + 1 = is_number stamp.0 (s.last_stamp + 1) q in let l = b.stamps in omega (arith, e, l)); ghosts = (more n s b).ghosts; jobs = (more n s b).jobs }
below_keeps script n s who (kind.Free b g) x q = record { stamps = (more n s x).stamps; ghosts = free_ghost n s g x q; jobs = (more n s x).jobs }
below_keeps script n s who (kind.Move b mem m l) x q = let p = both (m == next_job s 0) (is_left s l) q in record { stamps = (more n s x).stamps; ghosts = left_ghost n s l x p.1; jobs = arm_below n s 0 m x (is_number m (next_job s 0) p.0) }
below_keeps script n s who (kind.Arm engine m) x q = record { stamps = (more n s x).stamps; ghosts = (more n s x).ghosts; jobs = arm_below n s engine m x (is_number m (next_job s engine) q) }
below_keeps script n s who k x q = let y = more n s x in record { stamps = y.stamps; ghosts = y.ghosts; jobs = y.jobs }

below_along : (script : Script) (n : ℕ) (w : World) (es : List Entry) → Below n w.state → IsLegalFrom script w es → Below (n + length es) (world_along script w es).state
below_along script n w [] b h = let e : n ≡ n + 0 = omega arith in subst (λ m. Below m w.state) e b
below_along script n w (e ∷ es) b h =
    let l = legal_step script w e h.0 in
    let one : Below (n + 1) (world_after script w e).state = subst (Below (n + 1)) (sym l.state) (below_keeps script n w.state e.who l.kind b (next_counted script w.state e.who l.kind l.step)) in
    let sum : n + 1 + length es ≡ n + suc (length es) = omega arith in
    subst (λ m. Below m (world_along script (world_after script w e) es).state) sum (below_along script (n + 1) (world_after script w e) es one h.1)

zero_last : (n c : ℕ) → last_number (replicate n 0) c ≤ 0
zero_last zero c = omega arith
zero_last (suc n) zero = omega arith
zero_last (suc n) (suc c) = zero_last n c

pub below_law : (script : Script) (journal : List Entry) → IsLegal script journal → Below (length journal) (state_of script journal)
below_law script journal h =
    let all : 0 + length journal ≡ length journal = omega arith in
    subst (λ n. Below n (state_of script journal)) all
    (below_along script 0 (first_world script) journal
    (record { stamps = omega arith; ghosts = omega arith; jobs = λ c. zero_last (script.sizes.engines + 1) c }) h)
