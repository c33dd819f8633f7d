-- Each entry of a thread carries on what is known of its searches, whatever its task.
use Rattle.std.proofs.Common.{◌≡◌, ℕ, Bool, true, false, List, [], ◌∷◌, ◌++◌, length, Option, Some, None, Ok, IsSome, refl, sym, ◌∙◌, ap, subst, ◌⊎◌, inl, inr}
use Rattle.std.specs.Prelude.{slice_get, map, not, ◌||◌, if◌then◌else◌}
use Rattle.std.specs.List.{list_any}
use Rattle.std.proofs.lemmas.Bool.{both_ways, or_left, or_right}
use Rattle.std.proofs.lemmas.List.Folds.{list_any-append}
use Rattle.ttm_base.specs.ListWords.{last_of}
use Rattle.ttm_base.specs.Placement.{forced_places}
use Rattle.ttm_base.specs.declared.BufId.{BufId}
use Rattle.ttm_base.specs.declared.Deny.{Deny}
use Rattle.ttm_base.specs.declared.Deny.TheVariants as deny
use Rattle.ttm_base.specs.declared.Actor.TheVariants as actor
use Rattle.journal_model.specs.declared.script.Script.{Script}
use Rattle.journal_model.specs.declared.script.Command.{Command}
use Rattle.journal_model.specs.declared.state.State.{State}
use Rattle.journal_model.specs.declared.state.Course.{Course}
use Rattle.journal_model.specs.declared.state.Victim.{Victim}
use Rattle.journal_model.specs.declared.state.SearchAim.{SearchAim}
use Rattle.journal_model.specs.declared.state.Task.{Task}
use Rattle.journal_model.specs.declared.state.Task.TheVariants as task
use Rattle.journal_model.specs.declared.entry.Kind.{Kind}
use Rattle.journal_model.specs.declared.entry.Kind.TheVariants as kind
use Rattle.journal_model.specs.declared.entry.Why.{Why}
use Rattle.journal_model.specs.declared.entry.Why.TheVariants as why
use Rattle.journal_model.specs.declared.entry.DryWhy.{DryWhy}
use Rattle.journal_model.specs.rules.State.{course, course_of, has_buffer}
use Rattle.journal_model.specs.rules.Commands.{named, commands_of, command_at_work}
use Rattle.journal_model.specs.rules.Ready.{is_ready, first_unready}
use Rattle.journal_model.specs.rules.Search.{Step, place_search, is_caught}
use Rattle.journal_model.specs.rules.Apply.{applied}
use Rattle.journal_model.specs.rules.ApplyCommands.{on_to_next}
use Rattle.journal_model.specs.rules.ApplyVictims.{failed_if}
use Rattle.journal_model.specs.rules.Legal.{Made}
use Rattle.journal_model.specs.rules.Next.{step_of_task}
use Rattle.journal_model.specs.rules.Tasks.{task_of_command}
use Rattle.journal_model.specs.statements.Complete.{is_answer}
use Rattle.journal_model.specs.statements.Causes.{dry_of, is_take_of, in_command, is_no_pages_of, search_of}
use Rattle.laws.proofs.law_state.JournalCourses.{own_answered, one_more_if}
use Rattle.laws.specs.law_sound.Sound.{Owned, command_of}
use Rattle.laws.proofs.law_sound.Turns.{Turn, OnNamed}
use Rattle.laws.proofs.law_sound.Gifts.{Gives, SearchOutcome, Filled, seeks, fills, finds, evicts, dries, fresh, again, back, evicts_for_swap, nothing}
use Rattle.laws.proofs.law_sound.Steadies.{next_course, own_course}
use Rattle.laws.proofs.law_sound.Bufs.{has_found, none_last, last_caught, clash}
use Rattle.laws.proofs.lemma_causes_trail.Found.{place_search_found}
use Rattle.laws.proofs.lemma_causes_trail.Windows.{Quiet, more_command, any_more, Trail, trail_goes_on}
use Rattle.laws.proofs.lemma_causes_trail.Tasks.{places_of, seeking_same, Searcher, searcher_of, victims, named_one, Filler, filler_of, victim_fills, named_fills, searching_task, Closes, closing_task, Closing, closing_of, refused, emptied, untaken, Aside, on_it, one_more, aside_of}
use Rattle.laws.proofs.lemma_causes_trail.Stages.{Calm, Pressed, Spent, Frameless, Stage, calm, pressed, spent, frameless, Sort, sort_of, plain, caught, dried, lacking, result, denied, Alike, none_caught_is, swaps_not_vram, calm_plain, calm_swap, calm_fail, aside_course, aside_apart}
use Rattle.laws.proofs.law_causes.Steps.{by_self, made, begins_anew, stays_calm, is_held, free_other, stays, elsewhere, is_open, searched}

-- ---- what searches and fills don't make

abbrev pub is_of_search : Kind → Bool
is_of_search (kind.Take b mem spans) = true
is_of_search (kind.Catch b w) = true
is_of_search (kind.Dry b k w) = true
is_of_search _ = false

abbrev pub is_of_fill : Kind → Bool
is_of_fill (kind.Populate b page f) = true
is_of_fill (kind.SwapIn b page slot f) = true
is_of_fill (kind.Catch b w) = true
is_of_fill (kind.NoPages b) = true
is_of_fill _ = false

module _ (script : Script) (s : State) (c : Course) (cmd : Command) (b : BufId) where
  pub of_search : (aim : SearchAim) (k : Kind) → SearchOutcome script s c b (place_search script cmd c b aim) k → is_of_search k ≡ true
  of_search aim k (finds place w m e) = refl
  of_search aim k (evicts place a n e f) = refl
  of_search aim k (dries place a n) = refl

  pub of_fill : (k : Kind) → Filled script s b k → is_of_fill k ≡ true
  of_fill k (fresh f l) = refl
  of_fill k (again f l) = refl
  of_fill k (back f l) = refl
  of_fill k (evicts_for_swap f e) = refl
  of_fill k (nothing f) = refl

  pub swap_fill : (v : BufId) (w : Why) → Filled script s b (kind.Catch v w) → w ≡ why.Swap
  swap_fill v w (evicts_for_swap f e) = refl

  pub lacking_fill : (d : BufId) → Filled script s b (kind.NoPages d) → b ≡ d
  lacking_fill d (nothing f) = refl

module _ (script : Script) (s : State) (t : ℕ) (cmd : Command) (at : command_at_work script s t ≡ Some cmd) (o : Owned script s) (j : List Made) (k' : Kind) where
  abbrev After : Kind → Type 0
  After k = Stage script (applied script s (actor.Thread t) k) (j ++ made script s t cmd at k' ∷ []) t (next_course script s t k) cmd

  abbrev Tells : Task → Kind → Type 0
  Tells x k = Turn script s (course s t) cmd x × (step_of_task script s (course s t) cmd x ≡ Ok k) × Gives script s (course s t) cmd x k

  -- ---- while no search is under pressure

  module _ (h : Calm (course s t)) (quiet : (d : BufId) → Quiet script t d j) where
    sought_calm : (b : BufId) (aim : SearchAim) (k : Kind) → Alike k' k → Turn script s (course s t) cmd (task.Search b aim) → step_of_task script s (course s t) cmd (task.Search b aim) ≡ Ok k → After k
    sought_calm b aim k alike turn step = by (searcher_of script s (course s t) cmd b aim turn)
      where
        by : Searcher script s (course s t) cmd b aim → After k
        by (victims v on w e f) = absurd (swaps_not_vram (course s t) v h on.last w)
        by (named_one on fine seek) =
            searched script s t cmd at o j b aim on fine seek (inl (h.0, h.1, quiet b)) (λ d n. quiet d) k' k alike (place_search_found script s (course s t) b (place_search script cmd (course s t) b aim) k step)

    swapped : (v : BufId) (w : Why) → w ≡ why.Swap → Alike k' (kind.Catch v w) → After (kind.Catch v w)
    swapped v why.Swap e alike = stays_calm script s t cmd at o j k' (kind.Catch v why.Swap) alike (next_course script s t (kind.Catch v why.Swap)) (λ b. refl) refl (calm_swap v (course s t) h) quiet
    swapped v why.Tt e alike = cc
    swapped v why.Vram e alike = cc

    by_catch : (v : BufId) (w : Why) (x : Task) → Alike k' (kind.Catch v w) → Turn script s (course s t) cmd x → step_of_task script s (course s t) cmd x ≡ Ok (kind.Catch v w) → Gives script s (course s t) cmd x (kind.Catch v w) → After (kind.Catch v w)
    by_catch v w x alike turn step (seeks {b} {aim} f) = sought_calm b aim (kind.Catch v w) alike turn step
    by_catch v w x alike turn step (fills {b} f) = swapped v w (swap_fill script s (course s t) cmd b v w f) alike

    by_dry : (b : BufId) (n : ℕ) (w : DryWhy) (x : Task) → Alike k' (kind.Dry b n w) → Turn script s (course s t) cmd x → step_of_task script s (course s t) cmd x ≡ Ok (kind.Dry b n w) → Gives script s (course s t) cmd x (kind.Dry b n w) → After (kind.Dry b n w)
    by_dry b n w x alike turn step (seeks {b = a} {aim} f) = sought_calm a aim (kind.Dry b n w) alike turn step
    by_dry b n w x alike turn step (fills {b = a} f) = absurd (clash (sym (of_fill script s (course s t) cmd a (kind.Dry b n w) f)))

    starved : (b : BufId) → Alike k' (kind.NoPages b) → OnNamed s (course s t) cmd → first_unready script s cmd ≡ Some b → After (kind.NoPages b)
    starved b alike on first =
        subst
        (λ q. Stage script (applied script s (actor.Thread t) (kind.NoPages b)) (j ++ made script s t cmd at k' ∷ []) t
        (if q then record (course s t) { caught = map (failed_if deny.NoPages b) (course s t).caught } else record (course s t) { fail = Some deny.NoPages }) cmd)
        (sym (none_caught_is (course s t) b (none_last (course s t).caught on.alone)))
        (frameless (record {
          works = record { unmade = on.works.unmade; begun = on.works.begun; whole = on.works.whole };
          alone = none_last (course s t).caught on.alone;
          failed = refl;
          said = ap (list_any (λ m. is_no_pages_of (named cmd) m.entry.kind)) (more_command script t j (made script s t cmd at k') (by_self t) alike.answer)
              ∙ (list_any-append (λ m. is_no_pages_of (named cmd) m.entry.kind) (in_command t j) (made script s t cmd at k' ∷ [])
              ∙ or_right (list_any (λ m. is_no_pages_of (named cmd) m.entry.kind) (in_command t j)) (is_no_pages_of (named cmd) k' || false)
              (or_left (is_no_pages_of (named cmd) k') false (alike.lacks (named cmd) ∙ has_found (λ y. not (is_ready script s cmd y)) (named cmd) b first)));
        }))

    victim_starved : (b : BufId) → Alike k' (kind.NoPages b) → is_caught (course s t) b ≡ true → After (kind.NoPages b)
    victim_starved b alike e = stays_calm script s t cmd at o j k' (kind.NoPages b) alike (next_course script s t (kind.NoPages b)) (λ d. refl) refl (calm_fail b deny.NoPages (course s t) e h) quiet

    by_lack : (b : BufId) (x : Task) → Alike k' (kind.NoPages b) → Turn script s (course s t) cmd x → Gives script s (course s t) cmd x (kind.NoPages b) → After (kind.NoPages b)
    by_lack b x alike turn (seeks {b = a} {aim} f) = absurd (clash (sym (of_search script s (course s t) cmd a aim (kind.NoPages b) f)))
    by_lack b x alike turn (fills {b = a} f) = by (filler_of script s (course s t) cmd a turn) (lacking_fill script s (course s t) cmd a b f)
      where
        by : Filler script s (course s t) cmd a → a ≡ b → After (kind.NoPages b)
        by (victim_fills v on e) q = victim_starved b alike (subst (λ z. is_caught (course s t) z ≡ true) (sym e ∙ q) (last_caught (course s t) v on.last))
        by (named_fills on first) q = starved b alike on (first ∙ ap Some q)

    calm_next : (x : Task) (k : Kind) → Sort k → Alike k' k → is_answer k ≡ false → Tells x k → After k
    calm_next x k (plain p a f e) alike q g = stays_calm script s t cmd at o j k' k alike (next_course script s t k) e f (calm_plain script s t k p h) quiet
    calm_next x k (caught {v} {w}) alike q g = by_catch v w x alike g.0 g.1 g.2
    calm_next x k (dried {b} {n} {w}) alike q g = by_dry b n w x alike g.0 g.1 g.2
    calm_next x k (lacking {b}) alike q g = by_lack b x alike g.0 g.2
    calm_next x k result alike q g = absurd (clash q)
    calm_next x k denied alike q g = absurd (clash q)

  -- ---- while one is

  refuse_answers : (d : Deny) (k : Kind) → ◌≡◌ {A = Step} (Ok (kind.Refused d)) (Ok k) → is_answer k ≡ true
  refuse_answers d k h = let it : kind.Refused d ≡ k = cc in subst (λ z. is_answer z ≡ true) it refl

  module _ (p : Pressed script s j t (course s t) cmd) where
    pressed_aside : (v : Victim) → is_caught (course s t) v.b ≡ true → (k : Kind) → Alike k' k → Aside script s (course s t) cmd v.b k → After k
    pressed_aside v mine k alike (on_it h) =
        let keeps = aside_course script s t cmd v.b mine k h in
        let here = aside_apart script s t cmd v.b mine p.b (not_it p.b (has_found (λ y. not (is_ready script s cmd y)) (named cmd) p.b p.seeking.first)) k h in
        pressed (record {
          works = keeps.0 p.works;
          fine = keeps.2 ∙ p.fine;
          b = p.b;
          aim = p.aim;
          seeking = seeking_same script s (applied script s (actor.Thread t) k) cmd p.b p.aim (λ d n. stays script s t cmd at o j k' k alike d (aside_apart script s t cmd v.b mine d (not_it d n) k h).3) p.seeking;
          trail = subst (λ n. Trail script t p.b (places_of script cmd p.b p.aim) n (search_of script t p.b (j ++ made script s t cmd at k' ∷ []))) (sym keeps.1)
              (trail_goes_on script t p.b (places_of script cmd p.b p.aim) (course s t).dry j (made script s t cmd at k') (by_self t) (is_open script s t cmd at o j k' k alike p.b here.0 here.1) (alike.dry p.b ∙ here.2) p.trail);
          quiet = λ d n. elsewhere script s t cmd at o j k' k alike p.b d p.seeking.first n (p.quiet d n);
        })
      where
        not_it : (d : BufId) → has_buffer (named cmd) d ≡ true → d ≡ v.b → ⊥
        not_it d n e = both_ways (has_buffer (course s t).held v.b) ((o.steady t).apart v.b mine) (subst (λ z. has_buffer (course s t).held z ≡ true) e (is_held script s t cmd at o j k' k alike d p.works n))
    pressed_aside v mine k alike (one_more {x} {w} free) =
        pressed (record {
          works = record { unmade = p.works.unmade; begun = p.works.begun; whole = p.works.whole };
          fine = p.fine;
          b = p.b;
          aim = p.aim;
          seeking = seeking_same script s (applied script s (actor.Thread t) (kind.Catch x w)) cmd p.b p.aim (λ d n. stays script s t cmd at o j k' (kind.Catch x w) alike d (free_other script s t cmd at o j k' (kind.Catch x w) alike x d free p.works n)) p.seeking;
          trail = trail_goes_on script t p.b (places_of script cmd p.b p.aim) (course s t).dry j (made script s t cmd at k') (by_self t) (is_open script s t cmd at o j k' (kind.Catch x w) alike p.b refl refl) (alike.dry p.b) p.trail;
          quiet = λ d n. elsewhere script s t cmd at o j k' (kind.Catch x w) alike p.b d p.seeking.first n (p.quiet d n);
        })

    pressed_next : (x : Task) (k : Kind) → x ≡ task_of_command script s (course s t) cmd → Alike k' k → is_answer k ≡ false → Tells x k → After k
    pressed_next x k is alike q g = by_last (last_of (course s t).caught) refl
      where
        by_task : last_of (course s t).caught ≡ None → ((d : Deny) × (task_of_command script s (course s t) cmd ≡ task.Refuse d)) ⊎ (task_of_command script s (course s t) cmd ≡ task.Search p.b p.aim) → After k
        by_task l (inl r) = absurd (both_ways (is_answer k) q (refuse_answers r.0 k (subst (λ z. step_of_task script s (course s t) cmd z ≡ Ok k) (is ∙ r.1) g.1)))
        by_task l (inr e) =
            searched script s t cmd at o j p.b p.aim (record { works = p.works; alone = l }) p.fine p.seeking (inr p.trail) p.quiet k' k alike
            (place_search_found script s (course s t) p.b (place_search script cmd (course s t) p.b p.aim) k (subst (λ z. step_of_task script s (course s t) cmd z ≡ Ok k) (is ∙ e) g.1))

        by_last : (l : Option Victim) → last_of (course s t).caught ≡ l → After k
        by_last None l = by_task l (searching_task script s (course s t) cmd p.b p.aim p.works l p.fine p.seeking)
        by_last (Some v) l = pressed_aside v (last_caught (course s t) v l) k alike (aside_of script s (course s t) cmd v l p.works x k g.0 g.2)

  -- ---- once one has failed

  spent_on : (k : Kind) → Alike k' k → is_answer k ≡ false → ((b : BufId) → is_take_of b k ≡ false) → ((b : BufId) → dry_of b k ≡ None) → Spent script j t (course s t) cmd → Spent script (j ++ made script s t cmd at k' ∷ []) t (course s t) cmd
  spent_on k alike a f e p =
      record {
        works = p.works;
        alone = p.alone;
        failed = p.failed;
        b = p.b;
        is_named = p.is_named;
        list = p.list;
        trail = trail_goes_on script t p.b p.list (length (forced_places p.list)) j (made script s t cmd at k') (by_self t) (is_open script s t cmd at o j k' k alike p.b a (f p.b)) (alike.dry p.b ∙ e p.b) p.trail;
      }

  spent_next : (x : Task) (k : Kind) → x ≡ task_of_command script s (course s t) cmd → Alike k' k → is_answer k ≡ false → Tells x k → Spent script j t (course s t) cmd → After k
  spent_next x k is alike q g p =
      by k alike q (closing_of script s (course s t) cmd x k (subst (Closes script s (course s t) cmd) (sym is) (closing_task script s (course s t) cmd deny.NoSpace p.works (ap last_of p.alone) p.failed)) g.2)
    where
      by : (k : Kind) → Alike k' k → is_answer k ≡ false → Closing script s (course s t) cmd k → After k
      by k alike q refused = absurd (clash q)
      by k alike q (emptied {b}) = spent (spent_on (kind.Depopulate b) alike refl (λ d. refl) (λ d. refl) p)
      by k alike q (untaken {b} {mem}) = spent (spent_on (kind.Untake b mem) alike refl (λ d. refl) (λ d. refl) p)

  frameless_on : (k : Kind) → Alike k' k → is_answer k ≡ false → Frameless j t (course s t) cmd → Frameless (j ++ made script s t cmd at k' ∷ []) t (course s t) cmd
  frameless_on k alike a p =
      record {
        works = p.works;
        alone = p.alone;
        failed = p.failed;
        said = ap (list_any (λ m. is_no_pages_of (named cmd) m.entry.kind)) (more_command script t j (made script s t cmd at k') (by_self t) (alike.answer ∙ a))
            ∙ any_more (λ m. is_no_pages_of (named cmd) m.entry.kind) (in_command t j) (made script s t cmd at k' ∷ []) p.said;
      }

  frameless_next : (x : Task) (k : Kind) → x ≡ task_of_command script s (course s t) cmd → Alike k' k → is_answer k ≡ false → Tells x k → Frameless j t (course s t) cmd → After k
  frameless_next x k is alike q g p =
      by k alike q (closing_of script s (course s t) cmd x k (subst (Closes script s (course s t) cmd) (sym is) (closing_task script s (course s t) cmd deny.NoPages p.works (ap last_of p.alone) p.failed)) g.2)
    where
      by : (k : Kind) → Alike k' k → is_answer k ≡ false → Closing script s (course s t) cmd k → After k
      by k alike q refused = absurd (clash q)
      by k alike q (emptied {b}) = frameless (frameless_on (kind.Depopulate b) alike refl p)
      by k alike q (untaken {b} {mem}) = frameless (frameless_on (kind.Untake b mem) alike refl p)

  -- ---- each entry that answers nothing

  stage_next : (x : Task) (k : Kind) → x ≡ task_of_command script s (course s t) cmd → Alike k' k → is_answer k ≡ false → Tells x k → Stage script s j t (course s t) cmd → After k
  stage_next x k is alike q g (calm h quiet) = calm_next h quiet x k (sort_of k) alike q g
  stage_next x k is alike q g (pressed p) = pressed_next p x k is alike q g
  stage_next x k is alike q g (spent p) = spent_next x k is alike q g p
  stage_next x k is alike q g (frameless p) = frameless_next x k is alike q g p

  -- ---- each entry

  answer_course : (k : Kind) → Sort k → is_answer k ≡ true → next_course script s t k ≡ on_to_next (course s t)
  answer_course k (plain p a f e) h = absurd (both_ways (is_answer k) a h)
  answer_course k caught h = absurd (clash (sym h))
  answer_course k dried h = absurd (clash (sym h))
  answer_course k lacking h = absurd (clash (sym h))
  answer_course k result h = refl
  answer_course k denied h = refl

  pub own_stage : IsSome (course_of s t) → command_of script t (course s t) ≡ Some cmd → (x : Task) (k : Kind) → x ≡ task_of_command script s (course s t) cmd → Alike k' k → Tells x k → Stage script s j t (course s t) cmd
      → (d : Command) → command_of script t (next_course script s t k) ≡ Some d → Stage script (applied script s (actor.Thread t) k) (j ++ made script s t cmd at k' ∷ []) t (next_course script s t k) d
  own_stage here is_cmd x k is alike g stage d e = by (is_answer k) refl
    where
      same_command : Some cmd ≡ Some d → cmd ≡ d
      same_command h = cc

      by : (q : Bool) → is_answer k ≡ q → Stage script (applied script s (actor.Thread t) k) (j ++ made script s t cmd at k' ∷ []) t (next_course script s t k) d
      by true q =
          subst (λ c. Stage script (applied script s (actor.Thread t) k) (j ++ made script s t cmd at k' ∷ []) t c d) (sym (answer_course k (sort_of k) q)) (begins_anew script s t cmd at o j k' k alike q d)
      by false q =
          let answered = ap (λ c. c.answered) (sym (own_course script s t k here)) ∙ (own_answered script s t k here ∙ ap (λ b. one_more_if b (course s t).answered) q) in
          subst (Stage script (applied script s (actor.Thread t) k) (j ++ made script s t cmd at k' ∷ []) t (next_course script s t k))
          (same_command (sym is_cmd ∙ (sym (ap (slice_get (commands_of script t)) answered) ∙ e)))
          (stage_next x k is alike q g stage)
