-- Areas follow legal journals.
use Rattle.std.proofs.Common.{◌≡◌, ℕ, ◌+◌, Bool, true, false, List, [], ◌∷◌, ◌++◌, Option, Some, None, IsTrue, ap, refl, sym, ◌∙◌, subst}
use Rattle.std.specs.Prelude.{◌==◌, ◌&&◌, fold, map}
use Rattle.std.proofs.lemmas.Bool.{and_parts}
use Rattle.ttm_base.specs.declared.Actor.{Actor}
use Rattle.ttm_base.specs.declared.Actor.TheVariants as actor
use Rattle.journal_model.specs.declared.script.Script.{Script}
use Rattle.journal_model.specs.declared.entry.Entry.{Entry}
use Rattle.journal_model.specs.statements.Complete.{answers_of, is_answer, is_by_thread}
use Rattle.journal_model.specs.rules.Legal.{IsLegal, IsLegalFrom, IsLegalNext, Made, World, first_world, made_along, made_of, state_of, world_after, world_along, world_of}
use Rattle.journal_model.specs.marks.Mapped.{answered_before, count_answers}
use Rattle.journal_model.specs.scripts.MarkRules.{are_in_order, have_marks}
use Rattle.journal_model.specs.scripts.ScriptRules.{is_script}
use Rattle.journal_model.specs.rules.State.{course}
use Rattle.cpu_maps.specs.declared.area.Area.{Area}
use Rattle.laws.proofs.law_state.Counted.{counted_law}
use Rattle.law_legal.specs.law_maps.Following.{areas_behind}
use Rattle.map_access.specs.Accesses.{access_in}
use Rattle.map_follow.specs.declared.found.Found.{Found}
use Rattle.map_follow.specs.Ends.{with_end}
use Rattle.map_follow.specs.Follows.{Follows, answerer}
use Rattle.map_follow.specs.Founds.{found_by, found_in, place_in, with_found_at}
use Rattle.map_follow.specs.Laws.{EntriesAreFollowed, areas_after, areas_answered}
use Rattle.map_follow.proofs.Answered.{AreFound, follows_answer}
use Rattle.map_follow.proofs.Stands.{are_found}
use Rattle.map_follow.proofs.Step.{follows_leave}

second : (a b c d e : Bool) → (a && b && c && d && e) ≡ true → b ≡ true
second a true c d e h = refl
second true false c d e h = cc
second false false c d e h = cc

-- lines stand in order
order_of : (script : Script) → IsTrue (is_script script) → are_in_order script.marks ≡ true
order_of script fits = second _ _ _ _ _ (and_parts _ (have_marks script) fits).1

-- ---- one entry more

made_push : (script : Script) (w : World) (es : List Entry) (e : Entry) → made_along script w (es ++ e ∷ []) ≡ made_along script w es ++ record { before = (world_along script w es).state; entry = e } ∷ []
made_push script w [] e = refl
made_push script w (x ∷ es) e = ap (λ ms. record { before = w.state; entry = x } ∷ ms) (made_push script (world_after script w x) es e)

pub legal_parts : (script : Script) (w : World) (es : List Entry) (e : Entry) → IsLegalFrom script w (es ++ e ∷ []) → IsLegalFrom script w es × IsLegalNext script (world_along script w es) e
legal_parts script w [] e h = (tt, h.0)
legal_parts script w (x ∷ es) e h = let rest = legal_parts script (world_after script w x) es e h.1 in ((h.0, rest.0), rest.1)

entries_made : (script : Script) (w : World) (es : List Entry) → map (λ m. m.entry) (made_along script w es) ≡ es
entries_made script w [] = refl
entries_made script w (x ∷ es) = ap (λ ys. x ∷ ys) (entries_made script (world_after script w x) es)

-- ---- who is answered

unanswered : (e : Entry) → answerer e ≡ None → (u : ℕ) → (is_by_thread u e.who && is_answer e.kind) ≡ false
unanswered e h u = by e.who (is_answer e.kind) h
  where
    none : (p : Bool) → (p && false) ≡ false
    none true = refl
    none false = refl

    by : (who : Actor) (q : Bool) → elim who as (λ _. Option ℕ) [ actor.Thread t ↦ elim q [ true ↦ Some t | false ↦ None ] | actor.Engine c ↦ None | actor.Reaper ↦ None ] ≡ None → (is_by_thread u who && q) ≡ false
    by (actor.Thread t) true h = cc
    by (actor.Thread t) false h = none (t == u)
    by (actor.Engine c) q h = refl
    by actor.Reaper q h = refl

pub record IsAnswerOf (e : Entry) (t : ℕ) : Type 0 where
  pub who : e.who ≡ actor.Thread t
  pub answer : is_answer e.kind ≡ true

pub answered_by : (e : Entry) (t : ℕ) → answerer e ≡ Some t → IsAnswerOf e t
answered_by e t h = let r = by e.who (is_answer e.kind) h in record { who = r.0; answer = r.1 }
  where
    by : (who : Actor) (q : Bool) → elim who as (λ _. Option ℕ) [ actor.Thread t ↦ elim q [ true ↦ Some t | false ↦ None ] | actor.Engine c ↦ None | actor.Reaper ↦ None ] ≡ Some t → (who ≡ actor.Thread t) × (q ≡ true)
    by (actor.Thread u) true h = let same : u ≡ t = cc in (ap actor.Thread same, refl)
    by (actor.Thread u) false h = cc
    by (actor.Engine c) q h = cc
    by actor.Reaper q h = cc

module _ (script : Script) (journal : List Entry) (e : Entry) (fits : IsTrue (is_script script)) (all : IsLegal script (journal ++ e ∷ [])) (areas : List Area) (f : Follows script (made_of script journal) areas) where
  abbrev parts : IsLegal script journal × IsLegalNext script (world_of script journal) e
  parts = legal_parts script (first_world script) journal e all

  abbrev made : Made
  made = record { before = state_of script journal; entry = e }

  counted : (u : ℕ) → answered_before made u ≡ count_answers u (made_of script journal)
  counted u = counted_law script journal u parts.0 ∙ ap (answers_of u) (sym (entries_made script (first_world script) journal))

  -- by an entry that isn't an answer of a thread
  pub leaves : answerer e ≡ None → Follows script (made_of script (journal ++ e ∷ [])) (areas_behind e.kind areas)
  leaves none =
      subst (λ ms. Follows script ms (areas_behind e.kind areas)) (sym (made_push script (first_world script) journal e))
      (follows_leave script (made_of script journal) made counted areas f (λ u. unanswered e none u))

  abbrev n : ℕ → ℕ
  n t = (course (state_of script journal) t).answered

  -- by an answer of a thread
  pub answers : (t : ℕ) → answerer e ≡ Some t →
      Follows script (made_of script (journal ++ e ∷ [])) (fold (with_end t (n t + 1)) (with_found_at (place_in (state_of script journal)) (found_in script t (n t) (access_in script t (n t) e)) areas) script.marks)
  answers t by_thread =
      let it = answered_by e t by_thread in
      let is : record { who = actor.Thread t; kind = e.kind } ≡ e = ap (λ who. record { who = who; kind = e.kind }) (sym it.who) in
      subst
      (λ ms. Follows script ms (fold (with_end t (n t + 1)) (with_found_at (place_in (state_of script journal)) (found_in script t (n t) (access_in script t (n t) e)) areas) script.marks))
      (sym (made_push script (first_world script) journal e))
      (subst
      (λ (d : Entry). Follows script (made_of script journal ++ record { before = state_of script journal; entry = d } ∷ [])
      (fold (with_end t (n t + 1)) (with_found_at (place_in (state_of script journal)) (found_in script t (n t) (access_in script t (n t) d)) areas) script.marks)) is
      (subst
      (λ k. Follows script (made_of script journal ++ record { before = state_of script journal; entry = record { who = actor.Thread t; kind = e.kind } } ∷ [])
      (fold (with_end t (k + 1)) (with_found_at (place_in (state_of script journal)) (found_in script t k (access_in script t k (record { who = actor.Thread t; kind = e.kind }))) areas) script.marks)) (sym (counted t))
      (follows_answer script (made_of script journal) (state_of script journal) t e.kind areas f (order_of script fits) (place_in (state_of script journal)) counted it.answer
      (subst (λ k. AreFound script (state_of script journal) (place_in (state_of script journal)) (access_in script t k (record { who = actor.Thread t; kind = e.kind }))) (counted t)
      (subst (λ (d : Entry). AreFound script (state_of script journal) (place_in (state_of script journal)) (access_in script t (n t) d)) (sym is)
      (are_found script journal fits parts.0 e parts.1 t))))))

  found_is : (t k : ℕ) → e.who ≡ actor.Thread t → found_by script k e ≡ found_in script t k (access_in script t k e)
  found_is t k who =
      ap (λ w. elim w as (λ _. Option Found) [ actor.Thread u ↦ found_in script u k (access_in script u k e) | actor.Engine c ↦ None | actor.Reaper ↦ None ]) who

  pub followed : Follows script (made_of script (journal ++ e ∷ [])) (areas_after script (state_of script journal) e areas)
  followed = by (answerer e) refl
    where
      by : (o : Option ℕ) → answerer e ≡ o →
          Follows script (made_of script (journal ++ e ∷ [])) (elim o as (λ _. List Area) [ None ↦ areas_behind e.kind areas | Some t ↦ areas_answered script (state_of script journal) t (n t) e areas ])
      by None h = leaves h
      by (Some t) h =
          subst (λ found. Follows script (made_of script (journal ++ e ∷ [])) (fold (with_end t (n t + 1)) (with_found_at (place_in (state_of script journal)) found areas) script.marks))
          (sym (found_is t (n t) (answered_by e t h).who)) (answers t h)

pub entries_followed : EntriesAreFollowed
entries_followed script journal e areas fits all f = followed script journal e fits all areas f
