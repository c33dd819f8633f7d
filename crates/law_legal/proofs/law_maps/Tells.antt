-- What a legal entry tells of the pages that it is on.
use Rattle.std.proofs.Common.{◌≡◌, ℕ, ◌+◌, ◌*◌, ◌<◌, ◌≤◌, zero, suc, Bool, true, false, cond, List, [], ◌∷◌, length, Option, Some, None, Ok, refl, sym, subst, ◌∙◌, ap, arith, inl}
use Rattle.std.specs.Prelude.{◌&&◌, ◌||◌, not, nat_le, nat_lt, find, is_some, option_and_then, slice_get, unwrap_or, if◌then◌else◌}
use Rattle.std.specs.List.{list_all, position_or_len}
use Rattle.std.proofs.lemmas.Bool.{and_parts, eqb-true, false≢true, leb-true, lt-ltb, ltb-true, or_left, or_right, true≢false}
use Rattle.std.proofs.lemmas.List.Folds.{find_at}
use Rattle.ttm_base.specs.declared.Actor.{Actor}
use Rattle.ttm_base.specs.declared.Actor.TheVariants as actor
use Rattle.ttm_base.specs.declared.BufId.{BufId}
use Rattle.ttm_base.specs.declared.Loc.{Loc}
use Rattle.ttm_base.specs.declared.Loc.TheVariants as loc
use Rattle.ttm_base.specs.declared.Mem.{Mem}
use Rattle.ttm_base.specs.declared.Mem.TheVariants.{System, Tt, Vram}
use Rattle.ttm_base.specs.Reach.{same_mem}
use Rattle.journal_model.specs.declared.script.Script.{Script}
use Rattle.journal_model.specs.declared.script.Command.{Command}
use Rattle.journal_model.specs.declared.script.Command.TheVariants as command
use Rattle.journal_model.specs.declared.state.State.{State}
use Rattle.journal_model.specs.declared.state.Buffer.{Buffer}
use Rattle.journal_model.specs.declared.state.Task.{Task}
use Rattle.journal_model.specs.declared.state.Task.TheVariants as task
use Rattle.journal_model.specs.declared.entry.Kind.{Kind}
use Rattle.journal_model.specs.declared.entry.Kind.TheVariants as kind
use Rattle.journal_model.specs.rules.State.{buffer, course, has_buffer, is_live, live_in, new_buffer}
use Rattle.journal_model.specs.rules.Commands.{commands_of, decl, named}
use Rattle.journal_model.specs.scripts.CommandRules.{is_between, is_byte, is_command, is_declared, is_range_of}
use Rattle.journal_model.specs.statements.Complete.{is_by_thread}
use Rattle.journal_model.specs.marks.Mapped.{Access, access_of, meets_page, peek_or_poke}
use Rattle.journal_model.specs.marks.Marks.{is_mapped_at}
use Rattle.journal_model.specs.rules.Next.{next}
use Rattle.journal_model.specs.rules.PageSteps.{page_to_fill}
use Rattle.journal_model.specs.rules.Places.{is_frame, loc_of}
use Rattle.journal_model.specs.rules.Search.{PlaceSearch}
use Rattle.journal_model.specs.rules.Ready.{first_unready, has_all_frames, is_in_place, is_ready, uses_bytes}
use Rattle.laws.specs.law_state.Courses.{GoodCourses, makes}
use Rattle.laws.specs.law_state.GoodState.{GoodState, HasPages}
use Rattle.laws.proofs.law_state.JournalCourses.{is_of_engine, is_of_reaper, of_engine, of_reaper}
use Rattle.laws.proofs.law_state.Rules.{Rules, at_work_rules}
use Rattle.laws.specs.law_sound.Sound.{Owned, Sound}
use Rattle.laws.proofs.law_sound.Along.{OfWorker, packet, done, reap, of_worker, Stepped, stepped_of}
use Rattle.laws.proofs.law_sound.Bufs.{found_passes, none_found, none_missing, same_self}
use Rattle.laws.proofs.law_sound.Gifts as gifts
use Rattle.laws.proofs.law_sound.Gifts.{Filled, Gives, SearchOutcome}
use Rattle.laws.proofs.law_sound.Turns.{OnNamed, Turn, answer, act, victim_fill, fill_in_place, fill_to_bind, fill_to_move}
use Rattle.law_legal.proofs.law_maps.Stays.{IsOpen, Settled}

-- each page that the access meets is settled
abbrev pub IsSettledFor : State → Access → Type 0
IsSettledFor s a = (i : ℕ) → meets_page a i ≡ true → Settled (buffer s a.b) i

-- what an entry tells, kind by kind, as far as entries of mappings depend on it
abbrev pub Tells : Script → State → Actor → Kind → Type 0
Tells script s who (kind.New b) = live_in s.core.buffers b ≡ None
Tells script s who (kind.Populate b page frame) = IsOpen (buffer s b) page
Tells script s who (kind.SwapIn b page slot frame) = IsOpen (buffer s b) page
Tells script s who (kind.Depopulate b) = (buffer s b).mem ≡ Vram
Tells script s who (kind.Result r) =
    (thread : ℕ) (a : Access) → is_by_thread thread who ≡ true → peek_or_poke script thread (course s thread).answered ≡ Some a → IsSettledFor s a
Tells script s who _ = Unit {0}

-- ---- what is told apart, and what is one alone

system_not_tt : System ≡ Tt → ⊥
system_not_tt e = cc

vram_not_tt : Vram ≡ Tt → ⊥
vram_not_tt e = cc

tt_not_system : Tt ≡ System → ⊥
tt_not_system e = cc

vram_not_system : Vram ≡ System → ⊥
vram_not_system e = cc

one_access : (x y : Access) → Some x ≡ Some y → x ≡ y
one_access x y e = cc

no_access : (a : Access) → ◌≡◌ {A = Option Access} None (Some a) → ⊥
no_access a e = cc

-- ---- tables

-- a table without all frames has a page without one
some_open : (table : List Loc) → list_all is_frame table ≡ false → position_or_len (λ l. not (is_frame l)) table < length table
some_open [] h = absurd (true≢false h)
some_open (l ∷ table) h = by (is_frame l) h (some_open table)
  where
    by : (q : Bool) → (q && list_all is_frame table) ≡ false → (list_all is_frame table ≡ false → position_or_len (λ l. not (is_frame l)) table < length table) →
        cond (not (not q)) (1 + position_or_len (λ l. not (is_frame l)) table) 0 < suc (length table)
    by true g rest = let r = rest g in omega (arith, r)
    by false g rest = omega arith

-- the page to fill has no frame
fill_open : (x : Buffer) → has_all_frames x ≡ false → is_frame (loc_of x (page_to_fill x)) ≡ false
fill_open x h =
    let at : page_to_fill x ≡ position_or_len (λ l. not (is_frame l)) x.table = ap (λ q. unwrap_or (cond q (Some (position_or_len (λ l. not (is_frame l)) x.table)) None) 0) (lt-ltb (position_or_len (λ l. not (is_frame l)) x.table) (length x.table) (some_open x.table h)) in
    ap (λ n. is_frame (loc_of x n)) at ∙ ap (λ o. is_frame (unwrap_or o loc.Zero)) (sym (find_at (λ l. not (is_frame l)) x.table)) ∙ by (find (λ l. not (is_frame l)) x.table) refl
  where
    by : (o : Option Loc) → find (λ l. not (is_frame l)) x.table ≡ o → is_frame (unwrap_or o loc.Zero) ≡ false
    by None e = refl
    by (Some l) e = flip (is_frame l) (found_passes (λ l. not (is_frame l)) x.table l e)
      where
        flip : (q : Bool) → not q ≡ true → q ≡ false
        flip false k = refl
        flip true k = absurd (false≢true k)

-- in a table with all frames each page has one
pub framed_at : (table : List Loc) (i : ℕ) → list_all is_frame table ≡ true → i < length table → is_frame (unwrap_or (slice_get table i) loc.Zero) ≡ true
framed_at [] i h l = absurd (omega (arith, l))
framed_at (x ∷ table) zero h l = (and_parts (is_frame x) (list_all is_frame table) h).0
framed_at (x ∷ table) (suc i) h l = framed_at table i (and_parts (is_frame x) (list_all is_frame table) h).1 (omega (arith, l))

-- ---- live buffers

is_dead : (s : State) (b : BufId) → is_live s b ≡ false → live_in s.core.buffers b ≡ None
is_dead s b h = by (live_in s.core.buffers b) h
  where
    by : (o : Option Buffer) → is_some o ≡ false → o ≡ None
    by None g = refl
    by (Some x) g = absurd (true≢false g)

is_there : (s : State) (b : BufId) → is_live s b ≡ true → live_in s.core.buffers b ≡ Some (buffer s b)
is_there s b h = by (live_in s.core.buffers b) h
  where
    by : (o : Option Buffer) → is_some o ≡ true → o ≡ Some (unwrap_or o (new_buffer 0))
    by (Some x) g = refl
    by None g = absurd (false≢true g)

-- ---- memory types

mem_is : (l k : Mem) → same_mem l k ≡ true → l ≡ k
mem_is System System h = refl
mem_is Tt Tt h = refl
mem_is Vram Vram h = refl
mem_is System Tt h = absurd (false≢true h)
mem_is System Vram h = absurd (false≢true h)
mem_is Tt System h = absurd (false≢true h)
mem_is Tt Vram h = absurd (false≢true h)
mem_is Vram System h = absurd (false≢true h)
mem_is Vram Tt h = absurd (false≢true h)

system_no_tt : {l : Mem} → l ≡ System → l ≡ Tt → ⊥
system_no_tt e h = system_not_tt (sym e ∙ h)

vram_no_tt : {l : Mem} → l ≡ Vram → l ≡ Tt → ⊥
vram_no_tt e h = vram_not_tt (sym e ∙ h)

-- ---- accesses

-- the buffer of an access is live, and filled where it stands in SYSTEM
record IsReadyFor (s : State) (a : Access) : Type 0 where
  there : live_in s.core.buffers a.b ≡ Some (buffer s a.b)
  filled : (buffer s a.b).mem ≡ System → has_all_frames (buffer s a.b) ≡ true

-- a range lies inside its buffer
range_inside : (script : Script) (b : BufId) (off len : ℕ) → is_range_of script b off len ≡ true → off + len ≤ 4096 * (decl script b).pages
range_inside script b off len h =
    let p = and_parts (is_declared script b && nat_le off 16777216 && is_between 1 16777216 len) (nat_le (off + len) (4096 * (decl script b).pages)) h in
    leb-true (off + len) (4096 * (decl script b).pages) p.1

-- so does the access of a command
pub inside : (script : Script) (cmd : Command) (a : Access) → is_command script cmd ≡ true → access_of cmd ≡ Some a → a.off + a.len ≤ 4096 * (decl script a.b).pages
inside script (command.Read b off len) a h e =
    let p = and_parts (is_range_of script b off len) (nat_le len 256) h in
    let it : (record { b = b; off = off; len = len }) ≡ a = one_access (record { b = b; off = off; len = len }) a e in
    subst (λ (a : Access). a.off + a.len ≤ 4096 * (decl script a.b).pages) it (range_inside script b off len p.0)
inside script (command.Write b off bytes) a h e =
    let p = and_parts (is_range_of script b off (length bytes) && nat_le (length bytes) 256) (list_all is_byte bytes) h in
    let q = and_parts (is_range_of script b off (length bytes)) (nat_le (length bytes) 256) p.0 in
    let it : (record { b = b; off = off; len = length bytes }) ≡ a = one_access (record { b = b; off = off; len = length bytes }) a e in
    subst (λ (a : Access). a.off + a.len ≤ 4096 * (decl script a.b).pages) it (range_inside script b off (length bytes) q.0)
inside script cmd a h e = absurd (no_access a e)

-- so the pages that it meets are settled
settled_for : (script : Script) (s : State) (cmd : Command) (a : Access) → GoodState script s → is_command script cmd ≡ true → access_of cmd ≡ Some a → IsReadyFor s a → IsSettledFor s a
settled_for script s cmd a good h e ready i meets m =
    let pages : length (buffer s a.b).table ≡ (decl script a.b).pages = subst (HasPages script a.b) ready.there (good.tables a.b) in
    let low = inside script cmd a h e in
    let high = ltb-true (4096 * i) (a.off + a.len) (and_parts (nat_lt a.off (4096 * (i + 1))) (nat_lt (4096 * i) (a.off + a.len)) meets).1 in
    framed_at (buffer s a.b).table i (ready.filled m) (omega (arith, pages, low, high))

-- a command that makes something reads and writes no range
made_accesses_none : (x : Command) (a : Access) → makes x ≡ true → access_of x ≡ Some a → ⊥
made_accesses_none (command.Read b off len) a h e = false≢true h
made_accesses_none (command.Write b off bytes) a h e = false≢true h
made_accesses_none x a h e = no_access a e

-- ---- by what a thread is at

module _ (script : Script) (s : State) (t : ℕ) (cmd : Command) (o : Owned script s) where
  -- a page of a buffer that is filled
  filled_tells : (b : BufId) (k : Kind) → has_all_frames (buffer s b) ≡ false → ((buffer s b).mem ≡ Tt → ⊥) → Filled script s b k → Tells script s (actor.Thread t) k
  filled_tells b k some elsewhere (gifts.fresh f l) = record { elsewhere = elsewhere; unfilled = fill_open (buffer s b) some }
  filled_tells b k some elsewhere (gifts.again f l) = record { elsewhere = elsewhere; unfilled = fill_open (buffer s b) some }
  filled_tells b k some elsewhere (gifts.back f l) = record { elsewhere = elsewhere; unfilled = fill_open (buffer s b) some }
  filled_tells b k some elsewhere (gifts.evicts_for_swap f e) = tt
  filled_tells b k some elsewhere (gifts.nothing f) = tt

  -- a buffer in place that isn't ready stands in SYSTEM and lacks a frame
  unready_is : (b : BufId) → first_unready script s cmd ≡ Some b → is_in_place script cmd b (buffer s b) ≡ true → ((buffer s b).mem ≡ System) × (has_all_frames (buffer s b) ≡ false)
  unready_is b f placed =
      let r = by (is_in_place script cmd b (buffer s b)) (uses_bytes cmd) (same_mem (buffer s b).mem System) (has_all_frames (buffer s b)) placed (found_passes (λ b. not (is_ready script s cmd b)) (named cmd) b f) in
      (mem_is (buffer s b).mem System r.0, r.1)
    where
      by : (p u m q : Bool) → p ≡ true → not (p && (not u || not m || q)) ≡ true → (m ≡ true) × (q ≡ false)
      by true true true false e h = (refl, refl)
      by true true true true e h = absurd (false≢true h)
      by true true false q e h = absurd (false≢true h)
      by true false m q e h = absurd (false≢true h)
      by false u m q e h = absurd (false≢true e)

  fill_tells : (b : BufId) (k : Kind) → Turn script s (course s t) cmd (task.Fill b) → Filled script s b k → Tells script s (actor.Thread t) k
  fill_tells b k (victim_fill v on at f n q) g = filled_tells v.b k q (vram_no_tt at.mem) g
  fill_tells b k (fill_in_place on placed) g = let r = unready_is b on.first placed in filled_tells b k r.1 (system_no_tt r.0) g
  fill_tells b k (fill_to_bind on n q) g = filled_tells b k q (system_no_tt on.stands) g
  fill_tells b k (fill_to_move on m n q) g = filled_tells b k q (vram_no_tt on.stands) g

  sought_tells : (b : BufId) (q : PlaceSearch) (k : Kind) → SearchOutcome script s (course s t) b q k → Tells script s (actor.Thread t) k
  sought_tells b q k (gifts.finds place p m h) = tt
  sought_tells b q k (gifts.evicts place a n e h) = tt
  sought_tells b q k (gifts.dries place a n) = tt

  -- a buffer that a command at its result names and uses
  ready_at : (x : Command) (b : BufId) → cmd ≡ x → has_buffer (named x) b ≡ true → uses_bytes x ≡ true → OnNamed s (course s t) cmd → first_unready script s cmd ≡ None →
      (live_in s.core.buffers b ≡ Some (buffer s b)) × ((buffer s b).mem ≡ System → has_all_frames (buffer s b) ≡ true)
  ready_at x b e h u on f =
      let mine : has_buffer (named cmd) b ≡ true = ap (λ z. has_buffer (named z) b) e ∙ h in
      let held = o.held t b (inl (none_missing (course s t) cmd b on.works.whole mine)) in
      (is_there s b held.1, λ m. by (is_in_place script cmd b (buffer s b)) (uses_bytes cmd) (buffer s b).mem (has_all_frames (buffer s b)) (ap uses_bytes e ∙ u) m (none_found (λ b. not (is_ready script s cmd b)) (named cmd) b f mine))
    where
      by : (p u : Bool) (m : Mem) (q : Bool) → u ≡ true → m ≡ System → not (p && (not u || not (same_mem m System) || q)) ≡ false → q ≡ true
      by true true System true e n h = refl
      by true true System false e n h = absurd (true≢false h)
      by true true Tt q e n h = absurd (tt_not_system n)
      by true true Vram q e n h = absurd (vram_not_system n)
      by true false m q e n h = absurd (false≢true e)
      by false u m q e n h = absurd (true≢false h)

  ready_for : (x : Command) (a : Access) → cmd ≡ x → access_of x ≡ Some a → OnNamed s (course s t) cmd → first_unready script s cmd ≡ None → IsReadyFor s a
  ready_for (command.Read b off len) a e h on f =
      let r = ready_at (command.Read b off len) b e (ap (λ q. q || false) (same_self b)) refl on f in
      let it : record { b = b; off = off; len = len } ≡ a = one_access (record { b = b; off = off; len = len }) a h in
      subst (IsReadyFor s) it (record { there = r.0; filled = r.1 })
  ready_for (command.Write b off bytes) a e h on f =
      let r = ready_at (command.Write b off bytes) b e (ap (λ q. q || false) (same_self b)) refl on f in
      let it : record { b = b; off = off; len = length bytes } ≡ a = one_access (record { b = b; off = off; len = length bytes }) a h in
      subst (IsReadyFor s) it (record { there = r.0; filled = r.1 })
  ready_for cmd a e h on f = absurd (no_access a h)

  -- a command that is answered made something
  answered_made : Turn script s (course s t) cmd task.Answer → (course s t).made ≡ true
  answered_made (answer m) = m

  -- one that acts has all its buffers, and they are ready
  acted_ready : Turn script s (course s t) cmd task.Act → OnNamed s (course s t) cmd × (first_unready script s cmd ≡ None)
  acted_ready (act on w f u) = (on, u)

-- the command of an access
pub access_is : (script : Script) (thread n : ℕ) (a : Access) (cmd : Command) → slice_get (commands_of script thread) n ≡ Some cmd → peek_or_poke script thread n ≡ Some a → access_of cmd ≡ Some a
access_is script thread n a cmd e h = by (is_mapped_at script thread n) h
  where
    by : (q : Bool) → (if q then option_and_then access_of (slice_get (commands_of script thread) n) else None) ≡ Some a → access_of cmd ≡ Some a
    by true g = ap (option_and_then access_of) (sym e) ∙ g
    by false g = absurd (no_access a g)

-- ---- each entry

module _ (script : Script) (rules : Rules script) (s : State) (good : GoodState script s) (sound : Sound script s) (courses : GoodCourses script s) where
  module _ (t : ℕ) (k : Kind) (st : Stepped script s t k) where
    -- the access of an answer is that of the command at work
    access_here : (thread : ℕ) (a : Access) → is_by_thread thread (actor.Thread t) ≡ true → peek_or_poke script thread (course s thread).answered ≡ Some a → access_of st.step.cmd ≡ Some a
    access_here thread a mine e =
        access_is script t (course s t).answered a st.step.cmd st.at (subst (λ u. peek_or_poke script u (course s u).answered ≡ Some a) (sym (eqb-true t thread mine)) e)

    thread_tells : (x : Task) (l : Kind) → Turn script s (course s t) st.step.cmd x → Gives script s (course s t) st.step.cmd x l → Tells script s (actor.Thread t) l
    thread_tells x l turn (gifts.makes {b} e dead) = is_dead s b dead
    thread_tells x l turn (gifts.seeks {b} sought) = sought_tells script s t st.step.cmd sound.owned b _ l sought
    thread_tells x l turn (gifts.fills {b} filled) = fill_tells script s t st.step.cmd sound.owned b l turn filled
    thread_tells x l turn (gifts.depopulates m f) = m
    thread_tells x l turn gifts.answers = λ thread a mine e.
        absurd (made_accesses_none st.step.cmd a (courses.makes t st.step.cmd st.at (answered_made script s t st.step.cmd sound.owned turn)) (access_here thread a mine e))
    thread_tells x l turn gifts.acts = λ thread a mine e.
        let here = access_here thread a mine e in
        let on = acted_ready script s t st.step.cmd sound.owned turn in
        settled_for script s st.step.cmd a good (at_work_rules script rules s t st.step.cmd st.step.at_work).command here
        (ready_for script s t st.step.cmd sound.owned st.step.cmd a refl here on.0 on.1)
    thread_tells x l turn gives = tt

  worker_tells : (who : Actor) (k : Kind) → OfWorker k → Tells script s who k
  worker_tells who k packet = tt
  worker_tells who k done = tt
  worker_tells who k reap = tt

  pub tells : (who : Actor) (k : Kind) → next script s who ≡ Ok k → Tells script s who k
  tells (actor.Thread t) k h = let st = stepped_of script s t k sound.owned.courses h in thread_tells t k st st.step.task k st.turn st.gives
  tells (actor.Engine e) k h = worker_tells (actor.Engine e) k (of_worker k (or_left (is_of_engine k) (is_of_reaper k) (of_engine script s e k h)))
  tells actor.Reaper k h = worker_tells actor.Reaper k (of_worker k (or_right (is_of_engine k) (is_of_reaper k) (of_reaper script s k h)))
