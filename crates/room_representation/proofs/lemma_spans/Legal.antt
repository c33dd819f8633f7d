-- What a thread's next entry tells of targets: a buffer that takes spans has none there yet, and one that is freed has none at all.
use Rattle.std.proofs.Common.{◌≡◌, ℕ, zero, suc, Bool, true, false, List, [], ◌∷◌, Option, Some, None, Ok, IsTrue, refl, sym, subst, ◌∙◌, ap}
use Rattle.std.specs.Prelude.{slice_get, not, unwrap_or, ◌||◌, if◌then◌else◌}
use Rattle.std.proofs.lemmas.Bool.{and_parts, or_parts}
use Rattle.ttm_base.specs.declared.Mem.{Mem}
use Rattle.ttm_base.specs.declared.Mem.TheVariants.{System, Tt, Vram}
use Rattle.ttm_base.specs.declared.Span.{Span}
use Rattle.ttm_base.specs.declared.BufId.{BufId}
use Rattle.ttm_base.specs.declared.Place.{Place}
use Rattle.ttm_base.specs.declared.Actor.TheVariants as actor
use Rattle.ttm_base.specs.Placement.{first_places, forced_places}
use Rattle.journal_model.specs.declared.script.Script.{Script}
use Rattle.journal_model.specs.declared.script.Command.{Command}
use Rattle.journal_model.specs.declared.script.Command.TheVariants as command
use Rattle.journal_model.specs.declared.state.State.{State}
use Rattle.journal_model.specs.declared.state.Buffer.{Buffer}
use Rattle.journal_model.specs.declared.state.SearchAim.{SearchAim}
use Rattle.journal_model.specs.declared.state.SearchAim.TheVariants as aims
use Rattle.journal_model.specs.declared.state.Task.{Task}
use Rattle.journal_model.specs.declared.state.Task.TheVariants as task
use Rattle.journal_model.specs.declared.entry.Entry.{Entry}
use Rattle.journal_model.specs.declared.entry.Kind.{Kind}
use Rattle.journal_model.specs.declared.entry.Kind.TheVariants as kind
use Rattle.journal_model.specs.rules.State.{buffer, course, has_buffer, has_target}
use Rattle.journal_model.specs.rules.Choice.{choice}
use Rattle.journal_model.specs.rules.Commands.{named, whole}
use Rattle.journal_model.specs.rules.Next.{next}
use Rattle.journal_model.specs.rules.Ready.{has_some_target, is_in_place, is_filled, is_ready, meets, first_unready}
use Rattle.journal_model.specs.rules.Search.{PlaceSearch, place_search, through_tt, is_caught}
use Rattle.journal_model.specs.scripts.ScriptRules.{is_script}
use Rattle.journal_model.specs.rules.Legal.{IsLegal, state_of}
use Rattle.laws.proofs.law_sound.Along.{stepped_of, sound_law}
use Rattle.laws.proofs.law_sound.Bufs.{same_self, none_found}
use Rattle.laws.proofs.law_sound.Gifts as gifts
use Rattle.laws.proofs.law_sound.Gifts.{Gives, SearchOutcome, Filled, PlaceOf}
use Rattle.laws.proofs.law_sound.Turns.{Turn, act, ask, hop_up, hop_down, victim_search}

-- spans that are taken are the choice of a place, and the buffer has no target there
pub record IsSearchPlaces (script : Script) (s : State) (b : BufId) (mem : Mem) (spans : List Span) : Type 0 where
  pub place : Place
  pub there : place.mem ≡ mem
  pub chosen : choice script s.core b place ≡ Some spans
  pub untargeted : (mem ≡ System → ⊥) → has_target mem (buffer s b) ≡ false

-- what is told, by kind
abbrev TellsOf : Script → State → Kind → Type 0
TellsOf script s (kind.Take b mem spans) = IsSearchPlaces script s b mem spans
TellsOf script s (kind.Free b g) = has_some_target (buffer s b) ≡ false
TellsOf script s _ = Unit {0}

-- none at all is none of each memory type
none_there : (x : Buffer) (mem : Mem) → has_some_target x ≡ false → has_target mem x ≡ false
none_there x mem h = by mem
  where
    all : ((has_target System x || has_target Tt x) ≡ false) × (has_target Vram x ≡ false)
    all = or_parts (has_target System x || has_target Tt x) (has_target Vram x) h

    two : (has_target System x ≡ false) × (has_target Tt x ≡ false)
    two = or_parts (has_target System x) (has_target Tt x) all.0

    by : (m : Mem) → has_target m x ≡ false
    by System = two.0
    by Tt = two.1
    by Vram = all.1

not_true : (q : Bool) → not q ≡ false → q ≡ true
not_true true h = refl
not_true false h = cc

not_false : (q : Bool) → not q ≡ true → q ≡ false
not_false true h = cc
not_false false h = refl

module _ (script : Script) (s : State) (t : ℕ) (cmd : Command) where
  -- a hop is in TT
  hop_mem : (b : BufId) (place : Place) → PlaceOf (place_search script cmd (course s t) b aims.Hop) place → (place.mem ≡ System → ⊥) → place.mem ≡ Tt
  hop_mem b place p = by (is_caught (course s t) b) p
    where
      first_none : (i : ℕ) → ◌≡◌ {A = Option Place} (slice_get [] i) (Some place) → ⊥
      first_none i e = cc

      forced_at : (n : ℕ) → place ≡ unwrap_or (slice_get (whole Tt ∷ []) n) (whole System) → (place.mem ≡ System → ⊥) → place.mem ≡ Tt
      forced_at zero e out = ap (λ (p : Place). p.mem) e
      forced_at (suc n) e out = absurd (out (ap (λ (p : Place). p.mem) e))

      of_place_search : (q : PlaceSearch) → first_places q.list ≡ [] → forced_places q.list ≡ whole Tt ∷ [] → PlaceOf q place → (place.mem ≡ System → ⊥) → place.mem ≡ Tt
      of_place_search q e f (gifts.first i n h) out = absurd (first_none i (sym (ap (λ ps. slice_get ps i) e) ∙ h))
      of_place_search q e f (gifts.forced h) out = forced_at q.dry (h ∙ ap (λ ps. unwrap_or (slice_get ps q.dry) (whole System)) f) out

      by : (c : Bool) → PlaceOf (if c then record { list = through_tt; forced = false; dry = 0 } else record { list = through_tt; forced = (course s t).forced; dry = (course s t).dry }) place → (place.mem ≡ System → ⊥) → place.mem ≡ Tt
      by true p = of_place_search (record { list = through_tt; forced = false; dry = 0 }) refl refl p
      by false p = of_place_search (record { list = through_tt; forced = (course s t).forced; dry = (course s t).dry }) refl refl p

  sought_tells : (b : BufId) (aim : SearchAim) (k : Kind) → ((place : Place) → PlaceOf (place_search script cmd (course s t) b aim) place → (place.mem ≡ System → ⊥) → has_target place.mem (buffer s b) ≡ false) →
      SearchOutcome script s (course s t) b (place_search script cmd (course s t) b aim) k → TellsOf script s k
  sought_tells b aim k free (gifts.finds place {mem} {spans} p m h) =
      record { place = place; there = m; chosen = h; untargeted = λ out. subst (λ l. has_target l (buffer s b) ≡ false) m (free place p (λ e. out (sym m ∙ e))) }
  sought_tells b aim k free (gifts.evicts place {v} {w} a n e h) = tt
  sought_tells b aim k free (gifts.dries place {w} a n) = tt

  hop_free : (b : BufId) → has_target Tt (buffer s b) ≡ false → (place : Place) → PlaceOf (place_search script cmd (course s t) b aims.Hop) place → (place.mem ≡ System → ⊥) → has_target place.mem (buffer s b) ≡ false
  hop_free b n place p out = subst (λ l. has_target l (buffer s b) ≡ false) (sym (hop_mem b place p out)) n

  search_tells : (b : BufId) (aim : SearchAim) (k : Kind) → Turn script s (course s t) cmd (task.Search b aim) → SearchOutcome script s (course s t) b (place_search script cmd (course s t) b aim) k → TellsOf script s k
  search_tells b aim k (victim_search v on i f n) g = sought_tells v.b aims.Hop k (hop_free v.b n) g
  search_tells b aim k (ask on n) g = sought_tells b aims.Asked k (λ place p out. none_there (buffer s b) place.mem n) g
  search_tells b aim k (hop_up on n) g = sought_tells b aims.Hop k (hop_free b n) g
  search_tells b aim k (hop_down on m n) g = sought_tells b aims.Hop k (hop_free b n) g

  fill_tells : (b : BufId) (k : Kind) → Filled script s b k → TellsOf script s k
  fill_tells b k (gifts.fresh {frame} f l) = tt
  fill_tells b k (gifts.again {f = n} {frame} f l) = tt
  fill_tells b k (gifts.back {slot} {frame} f l) = tt
  fill_tells b k (gifts.evicts_for_swap {slot} {v} f e) = tt
  fill_tells b k (gifts.nothing f) = tt

  -- a buffer that the command at work frees is in place
  free_tells : (b : BufId) → cmd ≡ command.Free b → first_unready script s cmd ≡ None → has_some_target (buffer s b) ≡ false
  free_tells b e u =
      let mine : has_buffer (named cmd) b ≡ true = ap (λ z. has_buffer (named z) b) e ∙ ap (λ q. q || false) (same_self b) in
      let ready : is_ready script s cmd b ≡ true = not_true (is_ready script s cmd b) (none_found (λ b. not (is_ready script s cmd b)) (named cmd) b u mine) in
      let place = and_parts (is_in_place script cmd b (buffer s b)) (is_filled cmd (buffer s b)) ready in
      let none = and_parts (not (has_some_target (buffer s b))) (meets script cmd b (buffer s b)) place.0 in
      not_false (has_some_target (buffer s b)) none.0

  tells : (x : Task) (k : Kind) → Turn script s (course s t) cmd x → Gives script s (course s t) cmd x k → TellsOf script s k
  tells x k turn (gifts.seeks {b} {aim} sought) = search_tells b aim k turn sought
  tells x k turn (gifts.fills {b} filled) = fill_tells b k filled
  tells x k (act on a f u) (gifts.frees {b} {g} e q) = free_tells b e u
  tells x k turn gives = tt

module _ (script : Script) (journal : List Entry) (t : ℕ) (fits : IsTrue (is_script script)) (legal : IsLegal script journal) where
  abbrev s : State
  s = state_of script journal

  next_tells : (k : Kind) → next script s (actor.Thread t) ≡ Ok k → TellsOf script s k
  next_tells k h =
      let st = stepped_of script s t k (sound_law script journal fits legal).owned.courses h in
      tells script s t st.step.cmd st.step.task k st.turn st.gives

  -- spans are taken by a choice, and in VRAM and TT for a buffer without a target there
  pub take_sought : (b : BufId) (mem : Mem) (spans : List Span) → next script s (actor.Thread t) ≡ Ok (kind.Take b mem spans) → IsSearchPlaces script s b mem spans
  take_sought b mem spans h = next_tells (kind.Take b mem spans) h

  -- a buffer that is freed has no target
  pub free_untargeted : (b : BufId) (g : ℕ) → next script s (actor.Thread t) ≡ Ok (kind.Free b g) → has_some_target (buffer s b) ≡ false
  free_untargeted b g h = next_tells (kind.Free b g) h
