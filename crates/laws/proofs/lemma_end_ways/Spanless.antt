-- A buffer in SYSTEM has no spans.
use Rattle.std.proofs.Common.{◌≡◌, ℕ, zero, suc, List, [], ◌∷◌, Option, Some, None, refl, sym, ◌∙◌, subst, ⊎_elim}
use Rattle.std.specs.Prelude.{slice_get, slice_set, map, fold, unwrap_or, option_map, option_and_then}
use Rattle.ttm_base.specs.declared.Mem.{Mem}
use Rattle.ttm_base.specs.declared.Mem.TheVariants.{System, Tt, Vram}
use Rattle.ttm_base.specs.declared.Span.{Span}
use Rattle.ttm_base.specs.declared.BufId.{BufId}
use Rattle.ttm_base.specs.declared.JobId.{JobId}
use Rattle.ttm_base.specs.declared.Op.{Op}
use Rattle.ttm_base.specs.declared.Actor.{Actor}
use Rattle.ttm_base.specs.declared.Actor.TheVariants as actor
use Rattle.journal_model.specs.declared.script.Script.{Script}
use Rattle.journal_model.specs.declared.script.Command.{Command}
use Rattle.journal_model.specs.declared.state.State.{State}
use Rattle.journal_model.specs.declared.state.Course.{Course}
use Rattle.journal_model.specs.declared.state.Buffer.{Buffer}
use Rattle.journal_model.specs.declared.state.Task.{Task}
use Rattle.journal_model.specs.declared.state.Task.TheVariants as task
use Rattle.journal_model.specs.declared.entry.Left.{Left}
use Rattle.journal_model.specs.declared.entry.Kind.{Kind}
use Rattle.journal_model.specs.declared.entry.Kind.TheVariants as kind
use Rattle.journal_model.specs.rules.State.{new_buffer, buffer, course, live_in, changed}
use Rattle.journal_model.specs.rules.Commands.{decl, command_at_work}
use Rattle.journal_model.specs.rules.Apply.{applied, thread_of}
use Rattle.journal_model.specs.rules.ApplyCommands.{named_in}
use Rattle.journal_model.specs.rules.ApplyJobs.{with_use, ops_of}
use Rattle.journal_model.specs.rules.ApplyVictims.{leaves_tt}
use Rattle.journal_model.specs.rules.Legal.{first_state}
use Rattle.laws.proofs.law_state.Lists.{set_at, live_changed}
use Rattle.laws.proofs.law_sound.Along.{Stepped, OfWorker, packet, done, reap}
use Rattle.laws.proofs.law_sound.Turns.{Turn, victim_move, move_up, move_across, move_down}
use Rattle.laws.proofs.law_sound.Gifts.{Gives, seeks, moves, fills}
use Rattle.laws.proofs.lemma_end_ways.Takes.{taken, taken_body}

abbrev pub IsBare : Buffer → Type 0
IsBare x = x.mem ≡ System → x.spans ≡ []

abbrev pub Bare : Option Buffer → Type 0
Bare None = Unit {0}
Bare (Some x) = IsBare x

-- of each live buffer
abbrev pub AreBare : List (Option Buffer) → Type 0
AreBare xs = (d : BufId) → Bare (live_in xs d)

pub buffer_bare : (s : State) (d : BufId) → AreBare s.core.buffers → IsBare (buffer s d)
buffer_bare s d bare = by (live_in s.core.buffers d) (bare d)
  where
    by : (o : Option Buffer) → Bare o → IsBare (unwrap_or o (new_buffer 0))
    by None h = λ m. refl
    by (Some x) h = h

bare_changed : (f : Buffer → Buffer) (xs : List (Option Buffer)) (b : BufId) → ((x : Buffer) → IsBare x → IsBare (f x)) → AreBare xs → AreBare (changed f xs b)
bare_changed f xs b h all d =
    ⊎_elim (λ e. subst Bare (sym e) (all d)) (λ e. subst Bare (sym e) (by (live_in xs d) (all d))) (live_changed f xs b d)
  where
    by : (o : Option Buffer) → Bare o → Bare (option_map f o)
    by None k = tt
    by (Some x) k = h x k

bare_set : (xs : List (Option Buffer)) (i : ℕ) (o : Option Buffer) → Bare o → AreBare xs → AreBare (slice_set xs i o)
bare_set xs i o h all d =
    ⊎_elim (λ e. subst (λ p. Bare (option_and_then (λ x. x) p)) (sym e) (all d)) (λ e. subst (λ p. Bare (option_and_then (λ x. x) p)) (sym e.1) h) (set_at xs i d.0 o)

bare_uses : (job : JobId) (ops : List Op) (xs : List (Option Buffer)) (bs : List BufId) → AreBare xs → AreBare (fold (with_use job ops) xs bs)
bare_uses job ops xs [] all = all
bare_uses job ops xs (b ∷ bs) all = bare_uses job ops (with_use job ops xs b) bs (bare_changed _ xs b (λ x h. h) all)

bare_leaves : (m : Mem) (x : Buffer) → IsBare x → IsBare (leaves_tt m x)
bare_leaves System x h = h
bare_leaves Tt x h = h
bare_leaves Vram x h = h

bare_taken : (s : State) (mem : Mem) (spans : List Span) (x : Buffer) → IsBare x → IsBare (taken s mem spans x)
bare_taken s mem spans x h = λ m. (taken_body s mem spans x).spans ∙ h (sym (taken_body s mem spans x).mem ∙ m)

-- ---- entries

bare_after : (script : Script) (s : State) (who : Actor) (k : Kind) → ((b : BufId) (mem : Mem) (n : ℕ) (l : Left) → k ≡ kind.Move b mem n l → mem ≡ System → ⊥) → AreBare s.core.buffers → AreBare (applied script s who k).core.buffers
bare_after script s who (kind.Move b mem n l) low all = bare_changed _ s.core.buffers b (λ x h. λ m. absurd (low b mem n l refl m)) all
bare_after script s who (kind.New b) low all = bare_set s.core.buffers b.0 (Some (new_buffer (decl script b).pages)) (λ m. refl) all
bare_after script s who (kind.Free b g) low all = bare_set s.core.buffers b.0 None tt all
bare_after script s who (kind.Take b mem spans) low all = bare_changed _ s.core.buffers b (bare_taken s mem spans) all
bare_after script s who (kind.Untake b mem) low all = bare_changed _ s.core.buffers b (λ x h. h) all
bare_after script s who (kind.Populate b page f) low all = bare_changed _ s.core.buffers b (λ x h. h) all
bare_after script s who (kind.SwapIn b page slot f) low all = bare_changed _ s.core.buffers b (λ x h. h) all
bare_after script s who (kind.Depopulate b) low all = bare_changed _ s.core.buffers b (λ x h. h) all
bare_after script s who (kind.Bind b) low all = bare_changed _ s.core.buffers b (λ x h. λ m. absurd (let z : Tt ≡ System = m in cc)) all
bare_after script s who (kind.Unbind b) low all = bare_changed _ s.core.buffers b (λ x h. λ m. refl) all
bare_after script s who (kind.Catch b w) low all = bare_changed _ s.core.buffers b (λ x h. bare_leaves x.mem x h) all
bare_after script s who (kind.SwapOut b page slot) low all = bare_changed _ s.core.buffers b (λ x h. h) all
bare_after script s who (kind.Arm engine n) low all =
    bare_uses (record { ctx = engine; num = n }) (ops_of (command_at_work script s (thread_of who))) s.core.buffers (named_in (command_at_work script s (thread_of who))) all
bare_after script s who k low all = all

module _ (script : Script) (s : State) (c : Course) (cmd : Command) where
  -- no job carries a buffer to SYSTEM
  moves_up : (b : BufId) (mem : Mem) → Turn script s c cmd (task.Move b mem) → mem ≡ System → ⊥
  moves_up b mem (victim_move v on i f q r) e = cc
  moves_up b mem (move_up on q) e = cc
  moves_up b mem (move_across on q) e = cc
  moves_up b mem (move_down on q r p) e = cc

  moved_up : (x : Task) (b : BufId) (mem : Mem) (n : ℕ) (l : Left) → Turn script s c cmd x → Gives script s c cmd x (kind.Move b mem n l) → mem ≡ System → ⊥
  moved_up x b mem n l turn moves = moves_up b mem turn
  moved_up x b mem n l turn (seeks sought) = elim sought [ ]
  moved_up x b mem n l turn (fills filled) = elim filled [ ]

pub bare_stepped : (script : Script) (s : State) (t : ℕ) (k : Kind) → Stepped script s t k → AreBare s.core.buffers → AreBare (applied script s (actor.Thread t) k).core.buffers
bare_stepped script s t k st =
    bare_after script s (actor.Thread t) k
    (λ b mem n l e. moved_up script s (course s t) st.step.cmd st.step.task b mem n l st.turn (subst (Gives script s (course s t) st.step.cmd st.step.task) e st.gives))

pub bare_worker : (script : Script) (s : State) (who : Actor) (k : Kind) → OfWorker k → AreBare s.core.buffers → AreBare (applied script s who k).core.buffers
bare_worker script s who k packet all = all
bare_worker script s who k done all = all
bare_worker script s who k reap all = all

none_live : {X : Type 0} (xs : List X) (i : ℕ) → ◌≡◌ {A = Option Buffer} (option_and_then (λ x. x) (slice_get (map (λ d. None) xs) i)) None
none_live [] i = refl
none_live (x ∷ xs) zero = refl
none_live (x ∷ xs) (suc i) = none_live xs i

pub first_live : (script : Script) (d : BufId) → live_in (first_state script).core.buffers d ≡ None
first_live script d = none_live script.buffers d.0

pub bare_first : (script : Script) → AreBare (first_state script).core.buffers
bare_first script d = subst Bare (sym (first_live script d)) tt
