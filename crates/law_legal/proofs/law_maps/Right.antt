-- Along a legal journal the entries of a mapping name the places that pages have.
use Rattle.std.proofs.Common.{◌≡◌, ℕ, Bool, true, false, List, [], ◌∷◌, Option, Some, None, Ok, refl, sym, subst, ◌∙◌, ap}
use Rattle.std.specs.Prelude.{◌&&◌, ◌==◌, not, nat_le, fold, slice_set, unwrap_or, if◌then◌else◌}
use Rattle.std.proofs.lemmas.Bool.{and_parts, eq-eqb}
use Rattle.ttm_base.specs.declared.Actor.{Actor}
use Rattle.ttm_base.specs.declared.BufId.{BufId}
use Rattle.ttm_base.specs.declared.JobId.{JobId}
use Rattle.ttm_base.specs.declared.Loc.TheVariants as loc
use Rattle.ttm_base.specs.Pages.{Page}
use Rattle.journal_model.specs.declared.script.Script.{Script}
use Rattle.journal_model.specs.declared.state.State.{State}
use Rattle.journal_model.specs.declared.state.Buffer.{Buffer}
use Rattle.journal_model.specs.declared.entry.Entry.{Entry}
use Rattle.journal_model.specs.declared.entry.Kind.{Kind}
use Rattle.journal_model.specs.declared.entry.Kind.TheVariants as kind
use Rattle.journal_model.specs.rules.State.{buffer, changed, course, live_in, new_buffer, same_buffer}
use Rattle.journal_model.specs.rules.Apply.{applied, thread_of}
use Rattle.journal_model.specs.rules.ApplyCommands.{named_in}
use Rattle.journal_model.specs.rules.ApplyJobs.{ops_of, with_use}
use Rattle.journal_model.specs.rules.ApplyPages.{bound, unbound, with_kernel_fences, with_loc, with_spans, without_frames}
use Rattle.journal_model.specs.rules.ApplyMoves.{moved}
use Rattle.journal_model.specs.rules.ApplyVictims.{leaves_tt}
use Rattle.journal_model.specs.rules.Commands.{command_at_work, decl}
use Rattle.journal_model.specs.statements.Complete.{is_by_thread}
use Rattle.journal_model.specs.rules.Legal.{World, first_state, first_world, world_after, world_along, state_of, IsLegalFrom, Made, made_along, made_of}
use Rattle.journal_model.specs.marks.Mapped.{Access, Mapping, access_at, answered_before, count_answers, entry_after, has_ended, is_through, meets_page, peek_or_poke, seen, unless_of}
use Rattle.journal_model.specs.statements.MarkLaws.{LegalMapsAreRight}
use Rattle.journal_model.specs.rules.Next.{next}
use Rattle.journal_model.specs.rules.Places.{page_at}
use Rattle.journal_model.specs.rules.Stores.{Stores, showing}
use Rattle.journal_model.specs.rules.Waits.{jobs_before_target}
use Rattle.laws.specs.law_state.Courses.{GoodCourses}
use Rattle.laws.specs.law_state.GoodState.{GoodState}
use Rattle.laws.proofs.law_state.GoodStates.{good_first, good_keeps}
use Rattle.laws.proofs.law_state.Pins.{courses_keep, courses_law}
use Rattle.laws.proofs.law_state.Rules.{Rules, rules_of}
use Rattle.laws.proofs.law_state.Shown.{legal_step}
use Rattle.laws.specs.law_sound.Sound.{Sound}
use Rattle.laws.proofs.law_sound.Along.{sound_first, sound_keeps}
use Rattle.laws.proofs.law_sound.Bufs.{same_is, same_self}
use Rattle.law_legal.proofs.law_maps.Stays.{Settled, Stays, IsOpen, dead_stays, stays_alike, kernel_alike, caught_alike, stays_beside, stays_in_vram, stays_filled, buffer_among, set_stays, changed_stays, uses_stay}
use Rattle.law_legal.proofs.law_maps.Tells.{IsSettledFor, Tells, tells}

-- the entry, if there is one, names the place that the page has for good
abbrev pub IsRight : Buffer → ℕ → Option Page → Type 0
IsRight x i None = Unit {0}
IsRight x i (Some p) = (p ≡ page_at x i) × Settled x i

clash : true ≡ false → ⊥
clash h = cc

-- the page stays where it is
stays_right : (x y : Buffer) (i : ℕ) (old : Option Page) → Stays x y i → IsRight x i old → IsRight y i old
stays_right x y i None f h = tt
stays_right x y i (Some p) f h = let a = f h.1 in (h.0 ∙ sym a.0, a.1)

-- the entry goes where the buffer is the one that changes
unless_right : (m : Mapping) (b : BufId) (x y : Buffer) (i : ℕ) (old : Option Page) → ((b ≡ m.b → ⊥) → Stays x y i) → IsRight x i old → IsRight y i (unless_of m b old)
unless_right m b x y i old f h = by (same_buffer m.b b) refl
  where
    by : (q : Bool) → same_buffer m.b b ≡ q → IsRight y i (if q then None else old)
    by true e = tt
    by false e = stays_right x y i old (f (λ same. clash (sym (ap (same_buffer m.b) same ∙ same_self m.b) ∙ e))) h

its_buffer : (p q r n : Bool) → (p && q && r && n) ≡ true → q ≡ true
its_buffer true true r n k = refl
its_buffer true false r n k = cc
its_buffer false q r n k = cc

-- what is known of a state
record Known (script : Script) (s : State) : Type 0 where
  good : GoodState script s
  sound : Sound script s
  courses : GoodCourses script s

known_keeps : (script : Script) → Rules script → (s : State) (who : Actor) (k : Kind) → Known script s → next script s who ≡ Ok k → Known script (applied script s who k)
known_keeps script rules s who k known h =
    record {
      good = good_keeps script rules s who k known.good h;
      sound = sound_keeps script rules s who k known.good known.sound h;
      courses = courses_keep script s who k known.courses h;
    }

module _ (script : Script) (m : Mapping) (i : ℕ) where
  -- an answer through the mapping
  seen_right : (e : Made) (old : Option Page) → ((a : Access) → access_at script m.thread e ≡ Some a → IsSettledFor e.before a) → IsRight (buffer e.before m.b) i old → IsRight (buffer e.before m.b) i (seen script m i e old)
  seen_right e old told h = by (access_at script m.thread e) refl
    where
      n : ℕ
      n = answered_before e m.thread

      through : (a : Access) → access_at script m.thread e ≡ Some a → (q : Bool) → (is_through m m.thread (answered_before e m.thread) a && meets_page a i) ≡ q → IsRight (buffer e.before m.b) i (if q then Some (page_at (buffer e.before m.b) i) else old)
      through a at true g =
          let p = and_parts (is_through m m.thread (answered_before e m.thread) a) (meets_page a i) g in
          let same : m.b ≡ a.b = same_is m.b a.b (its_buffer (m.thread == m.thread) (same_buffer m.b a.b) (nat_le m.from n) (not (has_ended m n)) p.0) in
          (refl, subst (λ b. Settled (buffer e.before b) i) (sym same) (told a at i p.1))
      through a at false g = h

      by : (o : Option Access) → access_at script m.thread e ≡ o →
          IsRight (buffer e.before m.b) i (elim o [
            | None ↦ old
            | Some a ↦ if is_through m m.thread (answered_before e m.thread) a && meets_page a i then Some (page_at (buffer e.before m.b) i) else old
          ])
      by None at = h
      by (Some a) at = through a at (is_through m m.thread (answered_before e m.thread) a && meets_page a i) refl

  -- an access is that of a peek or poke of the thread that answers
  told_at : (e : Made) → ((thread : ℕ) (a : Access) → is_by_thread thread e.entry.who ≡ true → peek_or_poke script thread (course e.before thread).answered ≡ Some a → IsSettledFor e.before a) →
      (a : Access) → access_at script m.thread e ≡ Some a → IsSettledFor e.before a
  told_at e told a h = by (is_by_thread m.thread e.entry.who) refl h
    where
      by : (q : Bool) → is_by_thread m.thread e.entry.who ≡ q → (if q then peek_or_poke script m.thread (answered_before e m.thread) else None) ≡ Some a → IsSettledFor e.before a
      by true mine g = told m.thread a mine g
      by false mine g = cc

  -- the buffer that an entry is on
  known_at : (s : State) (b : BufId) (x : Buffer) → b ≡ m.b → live_in s.core.buffers m.b ≡ Some x → buffer s b ≡ x
  known_at s b x same at = ap (buffer s) same ∙ ap (λ o. unwrap_or o (new_buffer 0)) at

  -- a change that leaves the page
  kept_right : (f : Buffer → Buffer) (e : Made) (b : BufId) (old : Option Page) → (b ≡ m.b → (x : Buffer) → live_in e.before.core.buffers m.b ≡ Some x → Stays x (f x) i) →
      IsRight (buffer e.before m.b) i old → IsRight (buffer_among (changed f e.before.core.buffers b) m.b) i old
  kept_right f e b old keep h = stays_right (buffer e.before m.b) (buffer_among (changed f e.before.core.buffers b) m.b) i old (changed_stays f e.before.core.buffers b m.b i keep) h

  -- a page was filled
  filled_right : (e : Made) (b : BufId) (page f : ℕ) (old : Option Page) → IsOpen (buffer e.before b) page → IsRight (buffer e.before m.b) i old →
      IsRight (buffer_among (changed (with_loc page (loc.Frame f)) e.before.core.buffers b) m.b) i old
  filled_right e b page f old may h =
      kept_right (with_loc page (loc.Frame f)) e b old (λ same x at. stays_filled x page i (loc.Frame f) (subst (λ y. IsOpen y page) (known_at e.before b x same at) may)) h

  -- a buffer leaves its place
  left_right : (f : Buffer → Buffer) (e : Made) (b : BufId) (old : Option Page) → IsRight (buffer e.before m.b) i old → IsRight (buffer_among (changed f e.before.core.buffers b) m.b) i (unless_of m b old)
  left_right f e b old h =
      unless_right m b (buffer e.before m.b) (buffer_among (changed f e.before.core.buffers b) m.b) i old
      (λ other. changed_stays f e.before.core.buffers b m.b i (λ same x at. absurd (other same))) h

  -- a page leaves for a slot
  swapped_right : (e : Made) (b : BufId) (page slot : ℕ) (old : Option Page) → IsRight (buffer e.before m.b) i old →
      IsRight (buffer_among (changed (with_loc page (loc.Slot slot)) e.before.core.buffers b) m.b) i (if page == i then unless_of m b old else old)
  swapped_right e b page slot old h = by (page == i) refl
    where
      by : (q : Bool) → (page == i) ≡ q → IsRight (buffer_among (changed (with_loc page (loc.Slot slot)) e.before.core.buffers b) m.b) i (if q then unless_of m b old else old)
      by true k = left_right (with_loc page (loc.Slot slot)) e b old h
      by false k = kept_right (with_loc page (loc.Slot slot)) e b old (λ same x at. stays_beside x page i (loc.Slot slot) (λ n. clash (sym (eq-eqb page i n) ∙ k))) h

  -- each entry
  entry_right : (e : Made) (k : Kind) (old : Option Page) → Tells script e.before e.entry.who k → IsRight (buffer e.before m.b) i old → IsRight (buffer (applied script e.before e.entry.who k) m.b) i (entry_after script m i e k old)
  entry_right e (kind.Result r) old told h = seen_right e old (told_at e told) h
  entry_right e (kind.New b) old told h =
      stays_right (buffer e.before m.b) (buffer_among (slice_set e.before.core.buffers b.0 (Some (new_buffer (decl script b).pages))) m.b) i old
      (set_stays e.before.core.buffers b m.b i (Some (new_buffer (decl script b).pages))
      (λ same. dead_stays (live_in e.before.core.buffers m.b) (decl script b).pages i (ap (live_in e.before.core.buffers) (sym same) ∙ told))) h
  entry_right e (kind.Free b g) old told h =
      unless_right m b (buffer e.before m.b) (buffer_among (slice_set e.before.core.buffers b.0 None) m.b) i old
      (λ other. set_stays e.before.core.buffers b m.b i None (λ same. absurd (other same))) h
  entry_right e (kind.Take b mem spans) old told h =
      let jobs = jobs_before_target e.before.core mem in
      kept_right (λ x. with_kernel_fences jobs (with_spans mem (Some spans) x)) e b old
      (λ same x at. stays_alike x (with_kernel_fences jobs (with_spans mem (Some spans) x)) i (kernel_alike jobs x (with_spans mem (Some spans) x) (record { mem = refl; spans = refl; table = refl }))) h
  entry_right e (kind.Untake b mem) old told h =
      kept_right (with_spans mem None) e b old (λ same x at. stays_alike x (with_spans mem None x) i (record { mem = refl; spans = refl; table = refl })) h
  entry_right e (kind.Populate b page f) old told h = filled_right e b page f old told h
  entry_right e (kind.SwapIn b page slot f) old told h = filled_right e b page f old told h
  entry_right e (kind.Depopulate b) old told h =
      kept_right without_frames e b old (λ same x at. stays_in_vram x (without_frames x) i (ap (λ (y : Buffer). y.mem) (sym (known_at e.before b x same at)) ∙ told) refl refl) h
  entry_right e (kind.Bind b) old told h = left_right bound e b old h
  entry_right e (kind.Unbind b) old told h = left_right unbound e b old h
  entry_right e (kind.Move b mem n l) old told h = left_right (moved mem (record { ctx = 0; num = n })) e b old h
  entry_right e (kind.Catch b w) old told h = kept_right (λ x. leaves_tt x.mem x) e b old (λ same x at. stays_alike x (leaves_tt x.mem x) i (caught_alike x.mem x)) h
  entry_right e (kind.SwapOut b page slot) old told h = swapped_right e b page slot old h
  entry_right e (kind.Arm engine n) old told h =
      let cmd = command_at_work script e.before (thread_of e.entry.who) in
      let job : JobId = record { ctx = engine; num = n } in
      stays_right (buffer e.before m.b) (buffer_among (fold (with_use job (ops_of cmd)) e.before.core.buffers (named_in cmd)) m.b) i old (uses_stay job (ops_of cmd) (named_in cmd) e.before.core.buffers m.b i) h
  entry_right e k old told h = h

  -- what an entry shows changes no entry of a mapping
  shown_same : (e : Made) (stores : Stores) (s : State) (who : Actor) (k : Kind) (old : Option Page) → entry_after script m i e (showing script stores s who k) old ≡ entry_after script m i e k old
  shown_same e stores s who (kind.Result r) old = refl
  shown_same e stores s who k old = refl

  -- ---- along a journal

  abbrev after : Option Page → Made → Option Page
  after old e = entry_after script m i e e.entry.kind old

  right_along : Rules script → (w : World) (es : List Entry) (old : Option Page) → Known script w.state → IsLegalFrom script w es → IsRight (buffer w.state m.b) i old →
      IsRight (buffer (world_along script w es).state m.b) i (fold after old (made_along script w es))
  right_along rules w [] old known l h = h
  right_along rules w (e ∷ es) old known l h =
      let step = legal_step script w e l.0 in
      let made : Made = record { before = w.state; entry = e } in
      let shown : entry_after script m i made e.kind old ≡ entry_after script m i made step.kind old = ap (λ (f : Entry). entry_after script m i made f.kind old) step.entry ∙ shown_same made w.stores w.state e.who step.kind old in
      let now : IsRight (buffer (applied script w.state e.who step.kind) m.b) i (entry_after script m i made step.kind old) =
      entry_right made step.kind old (tells script rules w.state known.good known.sound known.courses e.who step.kind step.step) h in
      right_along rules (world_after script w e) es (after old made)
      (subst (Known script) (sym step.state) (known_keeps script rules w.state e.who step.kind known step.step)) l.1
      (subst (λ (s : State). IsRight (buffer s m.b) i (after old made)) (sym step.state) (subst (IsRight (buffer (applied script w.state e.who step.kind) m.b) i) (sym shown) now))

pub maps_right : LegalMapsAreRight
maps_right script journal fits legal m i p has e = by (has_ended m (count_answers m.thread (made_of script journal))) e
  where
    known : Known script (first_state script)
    known = record { good = good_first script; sound = sound_first script; courses = courses_law script [] tt }

    all : IsRight (buffer (state_of script journal) m.b) i (fold (λ old e. entry_after script m i e e.entry.kind old) None (made_of script journal))
    all = right_along script m i (rules_of script fits) (first_world script) journal None known legal tt

    by : (q : Bool) → (if q then None else fold (λ old e. entry_after script m i e e.entry.kind old) None (made_of script journal)) ≡ Some p → p ≡ page_at (buffer (state_of script journal) m.b) i
    by true h = cc
    by false h = (subst (IsRight (buffer (state_of script journal) m.b) i) h all).0
