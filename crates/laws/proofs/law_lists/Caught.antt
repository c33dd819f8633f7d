-- The victim of an entry is the first evictable of the four lists of the place's memory type, or the swap victim.
use Rattle.std.proofs.Common.{◌≡◌, ℕ, zero, suc, Bool, true, List, [], ◌∷◌, ◌++◌, Option, Some, None, Ok, refl, sym, ◌∙◌, ap, subst, ⊎_elim}
use Rattle.std.specs.Prelude.{◌&&◌, find, slice_get, unwrap_or}
use Rattle.std.specs.List.{list_any}
use Rattle.std.proofs.lemmas.Bool.{cases_Bool, cond-true, cond-false, or_from}
use Rattle.ttm_base.specs.declared.Mem.{Mem}
use Rattle.ttm_base.specs.declared.Mem.TheVariants.{System, Tt, Vram}
use Rattle.ttm_base.specs.declared.Span.{Span}
use Rattle.ttm_base.specs.declared.BufId.{BufId}
use Rattle.ttm_base.specs.declared.Place.{Place}
use Rattle.ttm_base.specs.declared.Loc.{Loc}
use Rattle.ttm_base.specs.declared.Loc.TheVariants as loc
use Rattle.ttm_base.specs.declared.Actor.{Actor}
use Rattle.ttm_base.specs.declared.Actor.TheVariants as actor
use Rattle.ttm_base.specs.Placement.{forced_places}
use Rattle.journal_model.specs.declared.script.Script.{Script}
use Rattle.journal_model.specs.declared.script.Command.{Command}
use Rattle.journal_model.specs.declared.entry.Entry.{Entry}
use Rattle.journal_model.specs.declared.entry.Kind.{Kind}
use Rattle.journal_model.specs.declared.entry.Kind.TheVariants as kind
use Rattle.journal_model.specs.declared.entry.Why.{Why}
use Rattle.journal_model.specs.declared.entry.Why.TheVariants as why
use Rattle.journal_model.specs.declared.state.State.{State}
use Rattle.journal_model.specs.declared.state.SearchAim.{SearchAim}
use Rattle.journal_model.specs.declared.state.Task.{Task}
use Rattle.journal_model.specs.declared.state.Task.TheVariants as task
use Rattle.journal_model.specs.rules.State.{buffer, course, reservation}
use Rattle.journal_model.specs.rules.Commands.{command_at_work, whole}
use Rattle.journal_model.specs.rules.Choice.{choice, choice_in}
use Rattle.journal_model.specs.rules.Dry.{is_evictable, is_loose, has_frame, victim}
use Rattle.journal_model.specs.rules.Holds.{free_frame}
use Rattle.journal_model.specs.rules.Lists.{in_order}
use Rattle.journal_model.specs.rules.Places.{loc_of}
use Rattle.journal_model.specs.rules.PageSteps.{filled_by, page_to_fill, step_of_fill, step_without_frame}
use Rattle.journal_model.specs.rules.Search.{Step, place_search, why_of}
use Rattle.journal_model.specs.rules.Stores.{Stores, showing}
use Rattle.journal_model.specs.rules.Tasks.{task_of, task_of_command}
use Rattle.journal_model.specs.rules.Next.{next, step_of_task}
use Rattle.journal_model.specs.rules.Legal.{World, Made, first_world, world_after, made_along, IsLegalFrom, IsLegal}
use Rattle.laws.proofs.law_state.Shown.{legal_step}
use Rattle.laws.proofs.law_state.Moves.{thread_step}
use Rattle.laws.proofs.law_sound.Gifts.{Gives, seeks, fills, evicts, evicts_for_swap, task_gives}
use Rattle.laws.specs.law_lists.NamedVictims.{IsFirst, IsEvicted, IsNamedVictim, NamesVictims}

find_first : (p : BufId → Bool) (l : List BufId) (v : BufId) → find p l ≡ Some v → IsFirst p v l
find_first p [] v h = cc
find_first p (b ∷ bs) v h =
    ⊎_elim
    (λ e.
    let it : b ≡ v = one b v (sym (cond-true (p b) (Some b) (find p bs) e) ∙ h) in
    record { before = []; behind = bs; parts = ap (λ x. x ∷ bs) it; passes = subst (λ x. p x ≡ true) it e; none_before = refl })
    (λ e.
    let r = find_first p bs v (sym (cond-false (p b) (Some b) (find p bs) e) ∙ h) in
    record {
      before = b ∷ r.before;
      behind = r.behind;
      parts = ap (λ l. b ∷ l) r.parts;
      passes = r.passes;
      none_before = or_from (p b) (list_any p r.before) e r.none_before;
    })
    (cases_Bool (p b))
  where
    one : (x y : BufId) → Some x ≡ Some y → x ≡ y
    one x y e = cc

-- a thread with an entry that catches is at a command
module _ (script : Script) (s : State) (t : ℕ) (cmd : Command) (at : command_at_work script s t ≡ Some cmd) where
  at_task : (x : Task) → x ≡ task_of_command script s (course s t) cmd → task_of script s t ≡ x
  at_task x e = ap (λ o. elim o as (λ o. Task) [ None ↦ task.Idle | Some k ↦ task_of_command script s (course s t) k ]) at ∙ sym e

  in_system : (b : BufId) (place : Place) → choice script s.core b place ≡ None → place.mem ≡ System → ⊥
  in_system b place lacks e = some_not [] (sym (ap (λ m. choice_in m script s.core b place) e) ∙ lacks)
    where
      some_not : (spans : List Span) → Some spans ≡ None → ⊥
      some_not spans e = cc

  evicted : (b : BufId) (aim : SearchAim) (place : Place) (v : BufId) → task_of script s t ≡ task.Search b aim →
      place ≡ unwrap_or (slice_get (forced_places (place_search script cmd (course s t) b aim).list) (place_search script cmd (course s t) b aim).dry) (whole System) →
      choice script s.core b place ≡ None → victim script s (course s t).skips place ≡ Some v → (w : Why) → w ≡ why_of place.mem → IsEvicted script s t v w
  evicted b aim place v searching is lacks found w y =
      record {
        cmd = cmd;
        at_work = at;
        b = b;
        aim = aim;
        searching = searching;
        place = place;
        here = by (slice_get (forced_places (place_search script cmd (course s t) b aim).list) (place_search script cmd (course s t) b aim).dry) is;
        lacks = lacks;
        reason = y;
        first = find_first (is_evictable script s (course s t).skips place) (in_order s place.mem) v found;
      }
    where
      by : (o : Option Place) → place ≡ unwrap_or o (whole System) → o ≡ Some place
      by None e = absurd (in_system b place lacks (ap (λ p. p.mem) e))
      by (Some p) e = ap Some (sym e)

  sought_victim : (b : BufId) (aim : SearchAim) (place : Place) (v : BufId) (w : Why) → task_of script s t ≡ task.Search b aim →
      place ≡ unwrap_or (slice_get (forced_places (place_search script cmd (course s t) b aim).list) (place_search script cmd (course s t) b aim).dry) (whole System) →
      choice script s.core b place ≡ None → victim script s (course s t).skips place ≡ Some v → why_of place.mem ≡ w → IsNamedVictim script s t v w
  sought_victim b aim place v w searching is lacks found y = subst (IsNamedVictim script s t v) y (by place.mem refl)
    where
      by : (m : Mem) → place.mem ≡ m → IsNamedVictim script s t v (why_of m)
      by System e = absurd (in_system b place lacks e)
      by Tt e = evicted b aim place v searching is lacks found why.Tt (ap why_of (sym e))
      by Vram e = evicted b aim place v searching is lacks found why.Vram (ap why_of (sym e))

  no_frame : (b v : BufId) (w : Why) → step_of_fill script s b ≡ Ok (kind.Catch v w) → free_frame script s.core ≡ None
  no_frame b v w h = by (free_frame script s.core) h
    where
      not_filled : (page frame : ℕ) (l : Loc) → filled_by b page frame l ≡ kind.Catch v w → ⊥
      not_filled page frame (loc.Slot k) e = cc
      not_filled page frame loc.Zero e = cc
      not_filled page frame (loc.Frame f) e = cc

      one : (k l : Kind) → ◌≡◌ {A = Step} (Ok k) (Ok l) → k ≡ l
      one k l e = cc

      by : (o : Option ℕ) → ◌≡◌ {A = Step} (elim o [ Some frame ↦ Ok (filled_by b (page_to_fill (buffer s b)) frame (loc_of (buffer s b) (page_to_fill (buffer s b)))) | None ↦ step_without_frame script s b ]) (Ok (kind.Catch v w)) → o ≡ None
      by None e = refl
      by (Some frame) e = absurd (not_filled (page_to_fill (buffer s b)) frame (loc_of (buffer s b) (page_to_fill (buffer s b))) (one _ _ e))

  named_victim : (x : Task) (v : BufId) (w : Why) → x ≡ task_of_command script s (course s t) cmd → step_of_task script s (course s t) cmd x ≡ Ok (kind.Catch v w) →
      Gives script s (course s t) cmd x (kind.Catch v w) → IsNamedVictim script s t v w
  named_victim x v w e h (seeks {b} {aim} (evicts place is lacks y found)) = sought_victim b aim place v w (at_task (task.Search b aim) e) is lacks found y
  named_victim x v w e h (fills {b} (evicts_for_swap room found)) =
      record {
        b = b;
        filling = at_task (task.Fill b) e;
        full = no_frame b v why.Swap h;
        first = find_first (λ b. is_loose (reservation s b) && has_frame (buffer s b)) (in_order s System ++ in_order s Tt) v found;
      }

pub step_names : (script : Script) (s : State) (t : ℕ) (v : BufId) (w : Why) → next script s (actor.Thread t) ≡ Ok (kind.Catch v w) → IsNamedVictim script s t v w
step_names script s t v w h =
    let st = thread_step script s t (kind.Catch v w) h in
    named_victim script s t st.cmd st.at_work st.task v w st.is_task st.step (task_gives script s (course s t) st.cmd st.task (kind.Catch v w) st.step)

-- ---- along a journal

shown_catch : (script : Script) (stores : Stores) (s : State) (who : Actor) (v : BufId) (w : Why) (k : Kind) → showing script stores s who k ≡ kind.Catch v w → k ≡ kind.Catch v w
shown_catch script stores s who v w (kind.Packet n k piece) h = cc
shown_catch script stores s who v w (kind.Result r) h = cc
shown_catch script stores s who v w k h = h

entry_names : (script : Script) (w : World) (e : Entry) → IsLegalFrom script w (e ∷ []) → (t : ℕ) (v : BufId) (y : Why) → e ≡ record { who = actor.Thread t; kind = kind.Catch v y } → IsNamedVictim script w.state t v y
entry_names script w e h t v y is =
    let l = legal_step script w e h.0 in
    let who : e.who ≡ actor.Thread t = ap (λ f. f.who) is in
    let caught : l.kind ≡ kind.Catch v y = shown_catch script w.stores w.state e.who v y l.kind (sym (ap (λ f. f.kind) l.entry) ∙ ap (λ f. f.kind) is) in
    step_names script w.state t v y (ap (next script w.state) (sym who) ∙ (l.step ∙ ap Ok caught))

names_along : (script : Script) (w : World) (es : List Entry) → IsLegalFrom script w es → (i : ℕ) (m : Made) (t : ℕ) (v : BufId) (y : Why) → slice_get (made_along script w es) i ≡ Some m →
    m.entry ≡ record { who = actor.Thread t; kind = kind.Catch v y } → IsNamedVictim script m.before t v y
names_along script w [] h i m t v y at is = cc
names_along script w (e ∷ es) h zero m t v y at is =
    let it : (record { before = w.state; entry = e }) ≡ m = cc in
    subst (λ n. IsNamedVictim script n.before t v y) it (entry_names script w e (h.0, tt) t v y (ap (λ n. n.entry) it ∙ is))
names_along script w (e ∷ es) h (suc i) m t v y at is = names_along script (world_after script w e) es h.1 i m t v y at is

pub victims_law : (script : Script) (journal : List Entry) → IsLegal script journal → NamesVictims script journal
victims_law script journal h i m t v w at is = names_along script (first_world script) journal h i m t v w at is
