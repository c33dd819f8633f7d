-- A buffer in VRAM that has frames is on its way to TT.
use Rattle.std.proofs.Common.{◌≡◌, ℕ, zero, suc, Bool, true, false, List, [], ◌∷◌, Option, Some, None, refl, sym, ◌∙◌, ap, subst, ◌⊎◌, ⊎_elim}
use Rattle.std.specs.Prelude.{slice_set, map, fold, not, unwrap_or, is_some, option_map, option_and_then, ◌||◌, ◌&&◌}
use Rattle.std.specs.List.{list_any}
use Rattle.std.proofs.lemmas.Bool.{both_ways, or_cases, or_left, or_right}
use Rattle.ttm_base.specs.declared.Mem.{Mem}
use Rattle.ttm_base.specs.declared.Mem.TheVariants.{System, Tt, Vram}
use Rattle.ttm_base.specs.declared.Span.{Span}
use Rattle.ttm_base.specs.declared.BufId.{BufId}
use Rattle.ttm_base.specs.declared.JobId.{JobId}
use Rattle.ttm_base.specs.declared.Op.{Op}
use Rattle.ttm_base.specs.declared.Loc.{Loc}
use Rattle.ttm_base.specs.declared.Loc.TheVariants as loc
use Rattle.ttm_base.specs.declared.Actor.{Actor}
use Rattle.ttm_base.specs.declared.Actor.TheVariants as actor
use Rattle.ttm_base.specs.Reach.{same_mem}
use Rattle.journal_model.specs.declared.script.Script.{Script}
use Rattle.journal_model.specs.declared.script.Command.{Command}
use Rattle.journal_model.specs.declared.state.State.{State}
use Rattle.journal_model.specs.declared.state.Course.{Course}
use Rattle.journal_model.specs.declared.state.Buffer.{Buffer}
use Rattle.journal_model.specs.declared.state.Task.{Task}
use Rattle.journal_model.specs.declared.state.Task.TheVariants as task
use Rattle.journal_model.specs.declared.entry.Kind.{Kind}
use Rattle.journal_model.specs.declared.entry.Kind.TheVariants as kind
use Rattle.journal_model.specs.rules.State.{new_buffer, buffer, course, live_in, changed, has_target}
use Rattle.journal_model.specs.rules.Commands.{decl, named, command_at_work}
use Rattle.journal_model.specs.rules.Places.{is_frame}
use Rattle.journal_model.specs.rules.Dry.{has_frame}
use Rattle.journal_model.specs.rules.Ready.{has_all_frames, is_in_place, is_filled, is_ready, uses_bytes, first_unready}
use Rattle.journal_model.specs.rules.Search.{PlaceSearch}
use Rattle.journal_model.specs.rules.Apply.{applied, thread_of}
use Rattle.journal_model.specs.rules.ApplyCommands.{named_in}
use Rattle.journal_model.specs.rules.ApplyJobs.{with_use, ops_of}
use Rattle.journal_model.specs.rules.ApplyMoves.{moved, table_left}
use Rattle.journal_model.specs.rules.ApplyPages.{with_spans, without_frame}
use Rattle.journal_model.specs.rules.ApplyVictims.{leaves_tt}
use Rattle.journal_model.specs.rules.Legal.{first_state}
use Rattle.laws.proofs.law_state.Lists.{set_at, live_changed}
use Rattle.laws.proofs.law_sound.Along.{Stepped, OfWorker, packet, done, reap}
use Rattle.laws.proofs.law_sound.Turns.{Turn, victim_move, victim_fill, fill_in_place, fill_to_bind, fill_to_move, move_up, move_across, move_down}
use Rattle.laws.proofs.law_sound.Gifts.{Gives, SearchOutcome, Filled, answers, makes, exists, shifts, draws, no_buffer, reserves, backs, seeks, binds, unbinds, moves, fills, lets_go, empties, depopulates, untakes, skips, gives_up, refuses, arms, frees, swaps, no_swap, acts, finds, evicts, dries, fresh, again, back, evicts_for_swap, nothing}
use Rattle.laws.proofs.law_sound.Bufs.{same_or_other, found_passes, clash}
use Rattle.laws.proofs.law_sound.Reservations.{live_set}
use Rattle.laws.proofs.lemma_end_ways.Takes.{taken, taken_body}
use Rattle.laws.proofs.lemma_end_ways.Spanless.{first_live}

-- its frames wait for its pages in TT
abbrev pub IsFramed : Buffer → Type 0
IsFramed x = x.mem ≡ Vram → has_frame x ≡ true → has_target Tt x ≡ true

abbrev pub Framed : Option Buffer → Type 0
Framed None = Unit {0}
Framed (Some x) = IsFramed x

-- of each live buffer
abbrev pub AreFramed : List (Option Buffer) → Type 0
AreFramed xs = (d : BufId) → Framed (live_in xs d)

-- ---- lists of buffers

-- one buffer is changed
framed_at : (f : Buffer → Buffer) (xs : List (Option Buffer)) (b : BufId) → ((x : Buffer) → live_in xs b ≡ Some x → IsFramed x → IsFramed (f x)) → AreFramed xs → AreFramed (changed f xs b)
framed_at f xs b h all d = ⊎_elim (λ e. subst (λ z. Framed (live_in (changed f xs b) z)) (sym e) here) (λ n. subst Framed (sym (live_set xs b d _ n)) (all d)) (same_or_other d b)
  where
    by : (o : Option Buffer) → live_in xs b ≡ o → Framed o → Framed (option_map f o)
    by None e k = tt
    by (Some x) e k = h x e k

    here : Framed (live_in (changed f xs b) b)
    here = ⊎_elim (λ e. subst Framed (sym e) (all b)) (λ e. subst Framed (sym e) (by (live_in xs b) refl (all b))) (live_changed f xs b b)

framed_set : (xs : List (Option Buffer)) (i : ℕ) (o : Option Buffer) → Framed o → AreFramed xs → AreFramed (slice_set xs i o)
framed_set xs i o h all d =
    ⊎_elim (λ e. subst (λ p. Framed (option_and_then (λ x. x) p)) (sym e) (all d)) (λ e. subst (λ p. Framed (option_and_then (λ x. x) p)) (sym e.1) h) (set_at xs i d.0 o)

framed_uses : (job : JobId) (ops : List Op) (xs : List (Option Buffer)) (bs : List BufId) → AreFramed xs → AreFramed (fold (with_use job ops) xs bs)
framed_uses job ops xs [] all = all
framed_uses job ops xs (b ∷ bs) all = framed_uses job ops (with_use job ops xs b) bs (framed_at _ xs b (λ x e h. h) all)

-- ---- tables

no_frame_new : (n : ℕ) → has_frame (new_buffer n) ≡ true → ⊥
no_frame_new zero h = clash (sym h)
no_frame_new (suc n) h = no_frame_new n h

zeroed : (table : List Loc) → list_any is_frame (map (λ l. loc.Zero) table) ≡ false
zeroed [] = refl
zeroed (l ∷ table) = zeroed table

emptied : (table : List Loc) → list_any is_frame (map without_frame table) ≡ false
emptied [] = refl
emptied (loc.Frame f ∷ table) = emptied table
emptied (loc.Slot k ∷ table) = emptied table
emptied (loc.Zero ∷ table) = emptied table

-- a slot in a page's place leaves no more frames
slotted : (table : List Loc) (i slot : ℕ) → list_any is_frame (slice_set table i (loc.Slot slot)) ≡ true → list_any is_frame table ≡ true
slotted [] i slot h = h
slotted (l ∷ table) zero slot h = or_right (is_frame l) (list_any is_frame table) h
slotted (l ∷ table) (suc i) slot h =
    ⊎_elim (λ k. or_left (is_frame l) (list_any is_frame table) k) (λ k. or_right (is_frame l) (list_any is_frame table) (slotted table i slot k)) (or_cases (is_frame l) (list_any is_frame (slice_set table i (loc.Slot slot))) h)

-- ---- each change of a buffer

leaves_framed : (m : Mem) (x : Buffer) → IsFramed x → IsFramed (leaves_tt m x)
leaves_framed System x h = h
leaves_framed Tt x h = h
leaves_framed Vram x h = h

taken_framed : (s : State) (mem : Mem) (spans : List Span) (x : Buffer) → IsFramed x → IsFramed (taken s mem spans x)
taken_framed s mem spans x h m f =
    ap (λ z. is_some z.tt) (taken_body s mem spans x).targets ∙ by mem (h (sym (taken_body s mem spans x).mem ∙ m) (sym (ap (list_any is_frame) (taken_body s mem spans x).table) ∙ f))
  where
    by : (l : Mem) → has_target Tt x ≡ true → has_target Tt (with_spans l (Some spans) x) ≡ true
    by System e = e
    by Tt e = refl
    by Vram e = e

moved_framed : (mem : Mem) (job : JobId) (x : Buffer) → (mem ≡ Vram → x.mem ≡ System → ⊥) → IsFramed x → IsFramed (moved mem job x)
moved_framed System job x low h m f = absurd (let z : System ≡ Vram = m in cc)
moved_framed Tt job x low h m f = absurd (let z : Tt ≡ Vram = m in cc)
moved_framed Vram job x low h m f = by x.mem refl f
  where
    by : (l : Mem) → x.mem ≡ l → list_any is_frame (table_left l x.table) ≡ true → has_target Tt x ≡ true
    by System e k = absurd (low refl e)
    by Tt e k = absurd (both_ways (list_any is_frame (map (λ l. loc.Zero) x.table)) (zeroed x.table) k)
    by Vram e k = h e k

-- ---- entries

-- what the entry needs of the state
abbrev pub Suits : State → Kind → Type 0
Suits s (kind.Untake b mem) = (buffer s b).mem ≡ Vram → has_frame (buffer s b) ≡ false
Suits s (kind.Populate b page f) = (buffer s b).mem ≡ Vram → has_target Tt (buffer s b) ≡ true
Suits s (kind.SwapIn b page slot f) = (buffer s b).mem ≡ Vram → has_target Tt (buffer s b) ≡ true
Suits s (kind.Move b mem n l) = mem ≡ Vram → (buffer s b).mem ≡ System → ⊥
Suits s _ = Unit {0}

is_buffer : (s : State) (b : BufId) (x : Buffer) → live_in s.core.buffers b ≡ Some x → buffer s b ≡ x
is_buffer s b x e = ap (λ o. unwrap_or o (new_buffer 0)) e

framed_after : (script : Script) (s : State) (who : Actor) (k : Kind) → Suits s k → AreFramed s.core.buffers → AreFramed (applied script s who k).core.buffers
framed_after script s who (kind.Move b mem n l) suits all = framed_at _ s.core.buffers b (λ x e h. moved_framed mem (record { ctx = 0; num = n }) x (λ q r. suits q (ap (λ z. z.mem) (is_buffer s b x e) ∙ r)) h) all
framed_after script s who (kind.New b) suits all = framed_set s.core.buffers b.0 (Some (new_buffer (decl script b).pages)) (λ m f. absurd (no_frame_new (decl script b).pages f)) all
framed_after script s who (kind.Free b g) suits all = framed_set s.core.buffers b.0 None tt all
framed_after script s who (kind.Take b mem spans) suits all = framed_at _ s.core.buffers b (λ x e h. taken_framed s mem spans x h) all
framed_after script s who (kind.Untake b mem) suits all =
    framed_at _ s.core.buffers b
    (λ x e h. λ m f. absurd (both_ways (has_frame x) (subst (λ z. has_frame z ≡ false) (is_buffer s b x e) (suits (ap (λ z. z.mem) (is_buffer s b x e) ∙ m))) f)) all
framed_after script s who (kind.Populate b page g) suits all =
    framed_at _ s.core.buffers b (λ x e h. λ m f. subst (λ z. has_target Tt z ≡ true) (is_buffer s b x e) (suits (ap (λ z. z.mem) (is_buffer s b x e) ∙ m))) all
framed_after script s who (kind.SwapIn b page slot g) suits all =
    framed_at _ s.core.buffers b (λ x e h. λ m f. subst (λ z. has_target Tt z ≡ true) (is_buffer s b x e) (suits (ap (λ z. z.mem) (is_buffer s b x e) ∙ m))) all
framed_after script s who (kind.Depopulate b) suits all = framed_at _ s.core.buffers b (λ x e h. λ m f. absurd (both_ways (list_any is_frame (map without_frame x.table)) (emptied x.table) f)) all
framed_after script s who (kind.Bind b) suits all = framed_at _ s.core.buffers b (λ x e h. λ m f. absurd (let z : Tt ≡ Vram = m in cc)) all
framed_after script s who (kind.Unbind b) suits all = framed_at _ s.core.buffers b (λ x e h. λ m f. absurd (let z : System ≡ Vram = m in cc)) all
framed_after script s who (kind.Catch b w) suits all = framed_at _ s.core.buffers b (λ x e h. leaves_framed x.mem x h) all
framed_after script s who (kind.SwapOut b page slot) suits all = framed_at _ s.core.buffers b (λ x e h. λ m f. h m (slotted x.table page slot f)) all
framed_after script s who (kind.Arm engine n) suits all =
    framed_uses (record { ctx = engine; num = n }) (ops_of (command_at_work script s (thread_of who))) s.core.buffers (named_in (command_at_work script s (thread_of who))) all
framed_after script s who _ suits all = all

module _ (script : Script) (s : State) (c : Course) (cmd : Command) where
  -- only a buffer in SYSTEM is filled in its place
  in_place : (b : BufId) → first_unready script s cmd ≡ Some b → is_in_place script cmd b (buffer s b) ≡ true → (buffer s b).mem ≡ Vram → ⊥
  in_place b u i m = by (is_in_place script cmd b (buffer s b)) (is_filled cmd (buffer s b)) (found_passes (λ y. not (is_ready script s cmd y)) (named cmd) b u) i filled
    where
      filled : is_filled cmd (buffer s b) ≡ true
      filled =
          ap (λ l. not (uses_bytes cmd) || not (same_mem l System) || has_all_frames (buffer s b)) m ∙ either (not (uses_bytes cmd)) (has_all_frames (buffer s b))
        where
          either : (p q : Bool) → (p || true || q) ≡ true
          either true q = refl
          either false q = refl

      by : (p q : Bool) → not (p && q) ≡ true → p ≡ true → q ≡ true → ⊥
      by true true h e f = clash (sym h)
      by true false h e f = clash (sym f)
      by false q h e f = clash (sym e)

  filled_suits : (b : BufId) → Turn script s c cmd (task.Fill b) → (buffer s b).mem ≡ Vram → has_target Tt (buffer s b) ≡ true
  filled_suits b (victim_fill v on i f n q) m = n
  filled_suits b (fill_in_place on i) m = absurd (in_place b on.first i m)
  filled_suits b (fill_to_bind on n q) m = absurd (let z : System ≡ Vram = sym on.stands ∙ m in cc)
  filled_suits b (fill_to_move on m n q) e = n

  moved_suits : (b : BufId) (mem : Mem) → Turn script s c cmd (task.Move b mem) → mem ≡ Vram → (buffer s b).mem ≡ System → ⊥
  moved_suits b mem (victim_move v on i f q r) e m = cc
  moved_suits b mem (move_up on q) e m = let z : Tt ≡ System = sym on.stands ∙ m in cc
  moved_suits b mem (move_across on q) e m = let z : Vram ≡ System = sym on.stands ∙ m in cc
  moved_suits b mem (move_down on q r p) e m = cc

  sought_suits : (b : BufId) (k : Kind) {q : PlaceSearch} → SearchOutcome script s c b q k → Suits s k
  sought_suits b k (finds place w m e) = tt
  sought_suits b k (evicts place a n e f) = tt
  sought_suits b k (dries place a n) = tt

  fill_suits : (b : BufId) (k : Kind) → Turn script s c cmd (task.Fill b) → Filled script s b k → Suits s k
  fill_suits b k turn (fresh f l) = filled_suits b turn
  fill_suits b k turn (again f l) = filled_suits b turn
  fill_suits b k turn (back f l) = filled_suits b turn
  fill_suits b k turn (evicts_for_swap f e) = tt
  fill_suits b k turn (nothing f) = tt

  suits_of : (x : Task) (k : Kind) → Turn script s c cmd x → Gives script s c cmd x k → Suits s k
  suits_of x k turn answers = tt
  suits_of x k turn (makes e l) = tt
  suits_of x k turn (exists e) = tt
  suits_of x k turn (shifts e) = tt
  suits_of x k turn (draws l) = tt
  suits_of x k turn (no_buffer l) = tt
  suits_of x k turn (reserves l h) = tt
  suits_of x k turn (backs l h q) = tt
  suits_of x k turn (seeks {b} f) = sought_suits b k f
  suits_of x k turn binds = tt
  suits_of x k turn (unbinds i) = tt
  suits_of x k turn (moves {b} {mem}) = moved_suits b mem turn
  suits_of x k turn (fills {b} f) = fill_suits b k turn f
  suits_of x k turn lets_go = tt
  suits_of x k turn (empties w f e) = tt
  suits_of x k turn (depopulates m f) = tt
  suits_of x k turn (untakes n) = n
  suits_of x k turn skips = tt
  suits_of x k turn gives_up = tt
  suits_of x k turn refuses = tt
  suits_of x k turn (arms ops e) = tt
  suits_of x k turn (frees e q) = tt
  suits_of x k turn (swaps e f g) = tt
  suits_of x k turn (no_swap e) = tt
  suits_of x k turn acts = tt

pub framed_stepped : (script : Script) (s : State) (t : ℕ) (k : Kind) → Stepped script s t k → AreFramed s.core.buffers → AreFramed (applied script s (actor.Thread t) k).core.buffers
framed_stepped script s t k st = framed_after script s (actor.Thread t) k (suits_of script s (course s t) st.step.cmd st.step.task k st.turn st.gives)

pub framed_worker : (script : Script) (s : State) (who : Actor) (k : Kind) → OfWorker k → AreFramed s.core.buffers → AreFramed (applied script s who k).core.buffers
framed_worker script s who k packet all = all
framed_worker script s who k done all = all
framed_worker script s who k reap all = all

pub framed_first : (script : Script) → AreFramed (first_state script).core.buffers
framed_first script d = subst Framed (sym (first_live script d)) tt
