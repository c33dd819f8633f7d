-- In every state that a legal journal leads to, each page, frame and slot is held once at most, and all that is held is there.
use Rattle.std.proofs.Common.{◌≡◌, ℕ, ◌+◌, ◌<◌, ◌≤◌, Bool, true, false, List, [], ◌∷◌, None, Ok, IsTrue, refl, sym, subst, ◌∙◌, arith, ⊎_elim}
use Rattle.std.specs.Prelude.{nat_eq, nat_lt, map, ◌&&◌, ◌||◌, not}
use Rattle.std.specs.List.{list_all}
use Rattle.std.proofs.lemmas.Bool.{lt-ltb, ne_eqb, cases_eq}
use Rattle.std.proofs.lemmas.Bool.Decides.{nat_tests}
use Rattle.ttm_base.specs.declared.Mem.{Mem}
use Rattle.ttm_base.specs.declared.Mem.TheVariants.{System, Tt, Vram}
use Rattle.ttm_base.specs.declared.Span.{Span}
use Rattle.ttm_base.specs.declared.Loc.TheVariants as loc
use Rattle.ttm_base.specs.declared.Actor.{Actor}
use Rattle.ttm_base.specs.declared.Actor.TheVariants as actor
use Rattle.journal_model.specs.declared.script.Script.{Script}
use Rattle.journal_model.specs.declared.state.State.{State}
use Rattle.journal_model.specs.declared.state.Core.{Core}
use Rattle.journal_model.specs.declared.entry.Entry.{Entry}
use Rattle.journal_model.specs.declared.entry.Kind.{Kind}
use Rattle.journal_model.specs.declared.entry.Kind.TheVariants as kind
use Rattle.journal_model.specs.rules.State.{course}
use Rattle.journal_model.specs.rules.Commands.{decl, command_at_work}
use Rattle.journal_model.specs.rules.Holds.{size_of, is_free_page, held_frames, held_slots, has_number}
use Rattle.journal_model.specs.statements.Account.{are_distinct}
use Rattle.journal_model.specs.scripts.ScriptRules.{is_script}
use Rattle.journal_model.specs.rules.Next.{next}
use Rattle.journal_model.specs.rules.Apply.{applied, thread_of}
use Rattle.journal_model.specs.rules.ApplyJobs.{ops_of}
use Rattle.journal_model.specs.rules.ApplyCommands.{named_in}
use Rattle.journal_model.specs.rules.Legal.{World, first_state, first_world, world_after, world_along, state_of, IsLegalFrom, IsLegal}
use Rattle.laws.proofs.law_state.Shown.{legal_step}
use Rattle.laws.proofs.law_state.JournalCourses.{is_of_engine, is_of_reaper, of_engine, of_reaper}
use Rattle.laws.proofs.law_state.Rules.{Rules, rules_of}
use Rattle.laws.proofs.law_state.Moves.{thread_step}
use Rattle.laws.specs.law_owners.OneOwner.{AreOwned, HaveOneOwner}
use Rattle.laws.proofs.law_owners.Counts.{one, times, stands}
use Rattle.laws.proofs.law_owners.Weights.{Room, vram_pages, tt_pages, frames, slots, room_size, in_buffers, weight, held, times-held}
use Rattle.laws.proofs.law_owners.Blocks.{AreClear}
use Rattle.laws.proofs.law_owners.Given.{Gives, task_gives, quiet, takes}
use Rattle.laws.proofs.law_owners.Taken.{choice_is_clear, free_stands_none, lowest_is_free}
use Rattle.laws.proofs.law_owners.Keeps.{target_gain, loc_gain, new_keeps, free_keeps, untake_keeps, depopulate_keeps, bind_keeps, unbind_keeps, catch_keeps, move_keeps, arm_keeps, reap_keeps, take_adds, page_adds}

-- each number below the size once at most, and no other
abbrev pub AreHeldOnce : Script → Core → Type 0
AreHeldOnce script c = (r : Room) (n : ℕ) → weight r n c ≤ one (nat_lt n (room_size script r))

-- ---- kinds that take something

free_gain : (w w' gain : ℕ) (there free : Bool) → w ≤ one there → w' ≤ w + gain → gain ≤ one (there && free) → (free ≡ true → w ≡ 0) → w' ≤ one there
free_gain w w' gain there true h k l m = let none = m refl in by there w w' gain none h k l
  where
    by : (there : Bool) (w w' gain : ℕ) → w ≡ 0 → w ≤ one there → w' ≤ w + gain → gain ≤ one (there && true) → w' ≤ one there
    by true w w' gain none h k l = omega (arith, none, h, k, l)
    by false w w' gain none h k l = omega (arith, none, h, k, l)
free_gain w w' gain there false h k l m = by there w w' gain h k l
  where
    by : (there : Bool) (w w' gain : ℕ) → w ≤ one there → w' ≤ w + gain → gain ≤ one (there && false) → w' ≤ one there
    by true w w' gain h k l = omega (arith, h, k, l)
    by false w w' gain h k l = omega (arith, h, k, l)

module _ (script : Script) (c : Core) (h : AreHeldOnce script c) where
  same_or_less : (new : Core) → ((r : Room) (n : ℕ) → weight r n new ≤ weight r n c) → AreHeldOnce script new
  same_or_less new k r n = let less = k r n in let old = h r n in omega (arith, less, old)

  pages_taken : (mem : Mem) (spans : List Span) (new : Core) → AreClear (is_free_page mem c) (size_of script mem) spans → ((r : Room) (n : ℕ) → weight r n new ≤ weight r n c + target_gain r mem n spans)
      → AreHeldOnce script new
  pages_taken Vram spans new clear k vram_pages n =
      free_gain (weight vram_pages n c) (weight vram_pages n new) (stands n spans) (nat_lt n script.sizes.vram) (is_free_page Vram c n) (h vram_pages n) (k vram_pages n) (clear n)
      (λ f. sym (times-held vram_pages n c) ∙ free_stands_none Vram c n f)
  pages_taken Vram spans new clear k tt_pages n = let less = k tt_pages n in let old = h tt_pages n in omega (arith, less, old)
  pages_taken Tt spans new clear k tt_pages n =
      free_gain (weight tt_pages n c) (weight tt_pages n new) (stands n spans) (nat_lt n script.sizes.tt) (is_free_page Tt c n) (h tt_pages n) (k tt_pages n) (clear n)
      (λ f. sym (times-held tt_pages n c) ∙ free_stands_none Tt c n f)
  pages_taken Tt spans new clear k vram_pages n = let less = k vram_pages n in let old = h vram_pages n in omega (arith, less, old)
  pages_taken System spans new clear k vram_pages n = let less = k vram_pages n in let old = h vram_pages n in omega (arith, less, old)
  pages_taken System spans new clear k tt_pages n = let less = k tt_pages n in let old = h tt_pages n in omega (arith, less, old)
  pages_taken Vram spans new clear k frames n = let less = k frames n in let old = h frames n in omega (arith, less, old)
  pages_taken Vram spans new clear k slots n = let less = k slots n in let old = h slots n in omega (arith, less, old)
  pages_taken Tt spans new clear k frames n = let less = k frames n in let old = h frames n in omega (arith, less, old)
  pages_taken Tt spans new clear k slots n = let less = k slots n in let old = h slots n in omega (arith, less, old)
  pages_taken System spans new clear k frames n = let less = k frames n in let old = h frames n in omega (arith, less, old)
  pages_taken System spans new clear k slots n = let less = k slots n in let old = h slots n in omega (arith, less, old)

  number_taken : (r : Room) (x n : ℕ) (new : Core) → (times x (held r c) ≡ 0) × (x < room_size script r) → weight r n new ≤ weight r n c + one (nat_eq n x) → weight r n new ≤ one (nat_lt n (room_size script r))
  number_taken r x n new free k =
      let none : weight r x c ≡ 0 = sym (times-held r x c) ∙ free.0 in
      by (weight r n c) (weight r n new) (room_size script r) (h r n) k (λ e. subst (λ m. weight r m c ≡ 0) (sym e) none) free.1
    where
      by : (w w' size : ℕ) → w ≤ one (nat_lt n size) → w' ≤ w + one (nat_eq n x) → (n ≡ x → w ≡ 0) → x < size → w' ≤ one (nat_lt n size)
      by w w' size old more none there = ⊎_elim (λ e. let z = none e in let l : nat_lt n size ≡ true = lt-ltb n size (omega (arith, e, there)) in last w w' (nat_lt n size) (nat_eq n x) l z more) (λ e. other w w' (one (nat_lt n size)) (nat_eq n x) old more (ne_eqb n x e)) (cases_eq n x)
        where
          last : (w w' : ℕ) (p q : Bool) → p ≡ true → w ≡ 0 → w' ≤ w + one q → w' ≤ one p
          last w w' true true p z m = omega (arith, z, m)
          last w w' true false p z m = omega (arith, z, m)
          last w w' false q p z m = cc

          other : (w w' size : ℕ) (q : Bool) → w ≤ size → w' ≤ w + one q → q ≡ false → w' ≤ size
          other w w' size true old m e = cc
          other w w' size false old m e = omega (arith, old, m)

  frame_taken : (f : ℕ) (new : Core) → (times f (held_frames c) ≡ 0) × (f < script.sizes.frames) → ((r : Room) (n : ℕ) → weight r n new ≤ weight r n c + loc_gain r n (loc.Frame f)) → AreHeldOnce script new
  frame_taken f new free k frames n = number_taken frames f n new free (k frames n)
  frame_taken f new free k vram_pages n = let less = k vram_pages n in let old = h vram_pages n in omega (arith, less, old)
  frame_taken f new free k tt_pages n = let less = k tt_pages n in let old = h tt_pages n in omega (arith, less, old)
  frame_taken f new free k slots n = let less = k slots n in let old = h slots n in omega (arith, less, old)

  slot_taken : (x : ℕ) (new : Core) → (times x (held_slots c) ≡ 0) × (x < script.sizes.swap) → ((r : Room) (n : ℕ) → weight r n new ≤ weight r n c + loc_gain r n (loc.Slot x)) → AreHeldOnce script new
  slot_taken x new free k slots n = number_taken slots x n new free (k slots n)
  slot_taken x new free k vram_pages n = let less = k vram_pages n in let old = h vram_pages n in omega (arith, less, old)
  slot_taken x new free k tt_pages n = let less = k tt_pages n in let old = h tt_pages n in omega (arith, less, old)
  slot_taken x new free k frames n = let less = k frames n in let old = h frames n in omega (arith, less, old)

-- ---- each kind

kind_keeps : (script : Script) → Rules script → (s : State) (who : Actor) (k : Kind) → Gives script s k → AreHeldOnce script s.core → AreHeldOnce script (applied script s who k).core
kind_keeps script r s who (kind.New b) g h = same_or_less script s.core h (applied script s who (kind.New b)).core (λ q n. new_keeps q n s.core b (decl script b).pages)
kind_keeps script r s who (kind.Free b g) gives h = same_or_less script s.core h (applied script s who (kind.Free b g)).core (λ q n. free_keeps q n s.core b g)
kind_keeps script r s who (kind.Take b mem spans) g h =
    pages_taken script s.core h mem spans (applied script s who (kind.Take b mem spans)).core (subst (λ m. AreClear (is_free_page m s.core) (size_of script m) spans) (sym g.1) (choice_is_clear script r s.core b g.0 spans g.2)) (λ q n. take_adds q n s.core b mem spans)
kind_keeps script r s who (kind.Untake b mem) g h = same_or_less script s.core h (applied script s who (kind.Untake b mem)).core (λ q n. untake_keeps q n s.core b mem)
kind_keeps script r s who (kind.Populate b page f) g h =
    frame_taken script s.core h f (applied script s who (kind.Populate b page f)).core (lowest_is_free (held_frames s.core) script.sizes.frames f g) (λ q n. page_adds q n s.core b page (loc.Frame f))
kind_keeps script r s who (kind.SwapIn b page slot f) g h =
    frame_taken script s.core h f (applied script s who (kind.SwapIn b page slot f)).core (lowest_is_free (held_frames s.core) script.sizes.frames f g) (λ q n. page_adds q n s.core b page (loc.Frame f))
kind_keeps script r s who (kind.Depopulate b) g h = same_or_less script s.core h (applied script s who (kind.Depopulate b)).core (λ q n. depopulate_keeps q n s.core b)
kind_keeps script r s who (kind.Bind b) g h = same_or_less script s.core h (applied script s who (kind.Bind b)).core (λ q n. bind_keeps q n s.core b)
kind_keeps script r s who (kind.Unbind b) g h = same_or_less script s.core h (applied script s who (kind.Unbind b)).core (λ q n. unbind_keeps q n s.core b)
kind_keeps script r s who (kind.Move b mem n l) g h = same_or_less script s.core h (applied script s who (kind.Move b mem n l)).core (λ q m. move_keeps q m s.core b mem (record { ctx = 0; num = n }) l)
kind_keeps script r s who (kind.Catch b w) g h = same_or_less script s.core h (applied script s who (kind.Catch b w)).core (λ q n. catch_keeps q n s.core b)
kind_keeps script r s who (kind.SwapOut b page slot) g h =
    slot_taken script s.core h slot (applied script s who (kind.SwapOut b page slot)).core (lowest_is_free (held_slots s.core) script.sizes.swap slot g) (λ q n. page_adds q n s.core b page (loc.Slot slot))
kind_keeps script r s who (kind.Arm engine n) g h =
    same_or_less script s.core h (applied script s who (kind.Arm engine n)).core (λ q m. arm_keeps q m s.core (record { ctx = engine; num = n }) (ops_of (command_at_work script s (thread_of who))) (named_in (command_at_work script s (thread_of who))))
kind_keeps script r s who (kind.Reap g) gives h = same_or_less script s.core h (applied script s who (kind.Reap g)).core (λ q n. reap_keeps q n s.core g)
kind_keeps script r s who k g h = h

-- ---- each actor

engine_takes_none : (k : Kind) → is_of_engine k ≡ true → takes k ≡ false
engine_takes_none k h = by k (is_of_engine k) refl h
  where
    by : (k : Kind) (q : Bool) → is_of_engine k ≡ q → q ≡ true → takes k ≡ false
    by k q e t = grind arith

reaper_takes_none : (k : Kind) → is_of_reaper k ≡ true → takes k ≡ false
reaper_takes_none k h = grind arith

pub gives_next : (script : Script) (s : State) (who : Actor) (k : Kind) → next script s who ≡ Ok k → Gives script s k
gives_next script s (actor.Thread t) k h = let st = thread_step script s t k h in task_gives script s (course s t) st.cmd st.task k st.step
gives_next script s (actor.Engine e) k h = quiet script s k (engine_takes_none k (of_engine script s e k h))
gives_next script s actor.Reaper k h = quiet script s k (reaper_takes_none k (of_reaper script s k h))

-- ---- along a journal

first_none : (r : Room) (n : ℕ) {X : Type 0} (xs : List X) → in_buffers r n (map (λ d. None) xs) ≡ 0
first_none r n [] = refl
first_none r n (x ∷ xs) = let rest = first_none r n xs in omega (arith, rest)

first_once : (script : Script) → AreHeldOnce script (first_state script).core
first_once script r n = let none = first_none r n script.buffers in by (one (nat_lt n (room_size script r))) none
  where
    by : (m : ℕ) → in_buffers r n (map (λ d. None) script.buffers) ≡ 0 → weight r n (first_state script).core ≤ m
    by m none = omega (arith, none)

once_along : (script : Script) → Rules script → (w : World) (es : List Entry) → AreHeldOnce script w.state.core → IsLegalFrom script w es → AreHeldOnce script (world_along script w es).state.core
once_along script r w [] h l = h
once_along script r w (e ∷ es) h l =
    let step = legal_step script w e l.0 in
    once_along script r (world_after script w e) es (subst (λ s. AreHeldOnce script s.core) (sym step.state) (kind_keeps script r w.state e.who step.kind (gives_next script w.state e.who step.kind step.step) h)) l.1

pub once_law : (script : Script) (journal : List Entry) → IsTrue (is_script script) → IsLegal script journal → AreHeldOnce script (state_of script journal).core
once_law script journal fits h = once_along script (rules_of script fits) (first_world script) journal (first_once script) h

-- ---- as tests on the lists

distinct_from : (ns : List ℕ) → ((n : ℕ) → times n ns ≤ 1) → are_distinct ns ≡ true
distinct_from [] h = refl
distinct_from (m ∷ ms) h =
    let here = h m in
    let rest = distinct_from ms (λ n. let k = h n in omega (arith, k)) in
    both (has_number ms m) (are_distinct ms) (none m ms (by m (times m ms) here)) rest
  where
    by : (m t : ℕ) → one (nat_eq m m) + t ≤ 1 → t ≡ 0
    by m t h = grind (arith, nat_tests)

    none : (n : ℕ) (ns : List ℕ) → times n ns ≡ 0 → has_number ns n ≡ false
    none n [] h = refl
    none n (k ∷ ks) h = or (nat_eq n k) (has_number ks n) (zero_one (nat_eq n k) (times n ks) h) (none n ks (let l : times n ks ≤ 0 = omega (arith, h) in omega (arith, l)))
      where
        zero_one : (q : Bool) (t : ℕ) → one q + t ≡ 0 → q ≡ false
        zero_one true t h = absurd (omega (arith, h))
        zero_one false t h = refl

        or : (a b : Bool) → a ≡ false → b ≡ false → (a || b) ≡ false
        or false b e f = f
        or true b e f = cc

    both : (a b : Bool) → a ≡ false → b ≡ true → (not a && b) ≡ true
    both false b e f = f
    both true b e f = cc

within_from : (size : ℕ) (ns : List ℕ) → ((n : ℕ) → times n ns ≤ one (nat_lt n size)) → list_all (λ n. nat_lt n size) ns ≡ true
within_from size [] h = refl
within_from size (m ∷ ms) h =
    let here = h m in
    both (nat_lt m size) (list_all (λ n. nat_lt n size) ms) (by m (times m ms) (nat_lt m size) here) (within_from size ms (λ n. let k = h n in omega (arith, k)))
  where
    by : (m t : ℕ) (q : Bool) → one (nat_eq m m) + t ≤ one q → q ≡ true
    by m t true h = refl
    by m t false h = absurd (some m t h)
      where
        some : (m t : ℕ) → one (nat_eq m m) + t ≤ 0 → ⊥
        some m t h = grind (arith, nat_tests)

    both : (a b : Bool) → a ≡ true → b ≡ true → (a && b) ≡ true
    both true b e f = f
    both false b e f = cc

owned : (script : Script) (c : Core) → AreHeldOnce script c → (r : Room) → AreOwned (room_size script r) (held r c)
owned script c h r =
    record {
      distinct = distinct_from (held r c) (λ n. let at = times-held r n c in let once = h r n in at_most (times n (held r c)) (weight r n c) (nat_lt n (room_size script r)) at once);
      within = within_from (room_size script r) (held r c) (λ n. let at = times-held r n c in let once = h r n in omega (arith, at, once));
    }
  where
    at_most : (t w : ℕ) (q : Bool) → t ≡ w → w ≤ one q → t ≤ 1
    at_most t w true e l = omega (arith, e, l)
    at_most t w false e l = omega (arith, e, l)

pub owner_law : (script : Script) (journal : List Entry) → IsTrue (is_script script) → IsLegal script journal → HaveOneOwner script (state_of script journal).core
owner_law script journal fits h =
    let once = once_law script journal fits h in
    let all = owned script (state_of script journal).core once in
    record { vram = all vram_pages; tt = all tt_pages; frames = all frames; slots = all slots }
