-- In every state that a legal journal leads to, buffers, targets and ghosts have their pages.
use Rattle.std.proofs.Common.{◌≡◌, ℕ, ◌<◌, zero, suc, List, [], ◌∷◌, length, Option, Some, None, Ok, IsTrue, refl, sym, subst, ◌∙◌, ap, arith, ⊎_elim}
use Rattle.std.specs.Prelude.{slice_get, find, option_and_then, unwrap_or, is_some, ◌==◌, if◌then◌else◌}
use Rattle.std.proofs.lemmas.Bool.{cases_Bool, eqb-true, eq-eqb, or_left, or_right}
use Rattle.ttm_base.specs.declared.BufId.{BufId}
use Rattle.ttm_base.specs.declared.Span.{Span}
use Rattle.ttm_base.specs.declared.Actor.{Actor}
use Rattle.ttm_base.specs.declared.Actor.TheVariants as actor
use Rattle.journal_model.specs.declared.script.Script.{Script}
use Rattle.journal_model.specs.declared.state.State.{State}
use Rattle.journal_model.specs.declared.state.Buffer.{Buffer}
use Rattle.journal_model.specs.declared.state.Ghost.{Ghost}
use Rattle.journal_model.specs.declared.entry.Entry.{Entry}
use Rattle.journal_model.specs.declared.entry.Kind.{Kind}
use Rattle.journal_model.specs.rules.State.{live_in}
use Rattle.journal_model.specs.rules.Commands.{decl}
use Rattle.journal_model.specs.rules.Places.{pages_of}
use Rattle.journal_model.specs.scripts.ScriptRules.{is_script}
use Rattle.journal_model.specs.rules.Next.{next}
use Rattle.journal_model.specs.rules.Apply.{applied}
use Rattle.journal_model.specs.rules.Legal.{state_of, IsLegal}
use Rattle.laws.proofs.law_state.JournalCourses.{is_of_engine, is_of_reaper, of_engine, of_reaper}
use Rattle.laws.specs.law_state.GoodState.{HasPages, GoodState}
use Rattle.laws.proofs.law_state.Lists.{get_within}
use Rattle.laws.proofs.law_state.Rules.{rules_of, declared_pages}
use Rattle.laws.proofs.law_state.GoodStates.{good_law}
use Rattle.laws.proofs.law_sound.Along.{of_worker}
use Rattle.laws.proofs.lemma_bytes_told.Numbers.{AreDistinct}
use Rattle.laws.proofs.law_transparent.Carried.{clear_law, told_law, kept_law}
use Rattle.laws.specs.law_transparent.OwnPages.{HaveAPage, HasItsPages, GoodGhosts}
use Rattle.laws.proofs.law_transparent.Proper.{ProperCore, proper_keeps, proper_stays, first_proper}

-- ---- along a journal

live_within : (buffers : List (Option Buffer)) (b : BufId) (x : Buffer) → live_in buffers b ≡ Some x → b.0 < length buffers
live_within buffers b x h = by (slice_get buffers b.0) refl h
  where
    by : (o : Option (Option Buffer)) → slice_get buffers b.0 ≡ o → option_and_then (λ y. y) o ≡ Some x → b.0 < length buffers
    by None e g = cc
    by (Some y) e g = get_within buffers b.0 y e

module _ (script : Script) (fits : IsTrue (is_script script)) where
  -- a live buffer is declared with a page at least
  some_pages : (s : State) → GoodState script s → (b : BufId) (x : Buffer) → live_in s.core.buffers b ≡ Some x → 0 < (decl script b).pages
  some_pages s good b x e =
      let inside = live_within s.core.buffers b x e in
      let many = good.many in
      let some = (declared_pages script (rules_of script fits) b (omega (arith, inside, many))).some in
      omega (arith, some)

  keeps : (journal : List Entry) (who : Actor) (k : Kind) → IsLegal script journal → next script (state_of script journal) who ≡ Ok k → ProperCore (state_of script journal).core → ProperCore (applied script (state_of script journal) who k).core
  keeps journal (actor.Thread t) k l h c = proper_keeps script (state_of script journal) t k (some_pages (state_of script journal) (good_law script fits journal l)) (told_law script journal t k fits l h) c
  keeps journal (actor.Engine e) k l h c = proper_stays script (state_of script journal) (actor.Engine e) k (of_worker k (or_left (is_of_engine k) (is_of_reaper k) (of_engine script (state_of script journal) e k h))) c
  keeps journal actor.Reaper k l h c = proper_stays script (state_of script journal) actor.Reaper k (of_worker k (or_right (is_of_engine k) (is_of_reaper k) (of_reaper script (state_of script journal) k h))) c

  proper_law : (journal : List Entry) → IsLegal script journal → ProperCore (state_of script journal).core
  proper_law journal l = kept_law script (λ n s. ProperCore s.core) (λ es who k m h c. keeps es who k m h c) (record { buffers = first_proper script.buffers; ghosts = λ i g e. cc }) journal l

-- ---- in plain words

some_span : (n : ℕ) (spans : List Span) → 0 < n → length (pages_of spans) ≡ n → 0 < length spans
some_span n [] some e = absurd (omega (arith, some, e))
some_span n (s ∷ spans) some e = omega arith

pub pages_law : (script : Script) (journal : List Entry) (b : BufId) (x : Buffer) → IsTrue (is_script script) → IsLegal script journal → live_in (state_of script journal).core.buffers b ≡ Some x → HasItsPages script b x
pages_law script journal b x fits l e =
    let good = good_law script fits journal l in
    let proper = (proper_law script fits journal l).buffers b x e in
    let shape = (clear_law script fits journal l).shapes b x e in
    let some = some_pages script fits (state_of script journal) good b x e in
    let table : length x.table ≡ (decl script b).pages = subst (HasPages script b) e (good.tables b) in
    record {
      table = table;
      resource = λ ne. let many = shape.long ne ∙ table in record { some = some_span (decl script b).pages x.spans some many; each = proper.own; many = many };
      targets = λ l spans ne t.
          let many = ap (λ o. length (pages_of (unwrap_or o []))) (sym t) ∙ shape.targets l ne (ap is_some t) ∙ table in
          record { some = some_span (decl script b).pages spans some many; each = subst (λ o. HaveAPage (unwrap_or o [])) t (proper.targets l); many = many };
    }

distinct_at : (gs : List Ghost) → AreDistinct gs → (i j : ℕ) (g h : Ghost) → slice_get gs i ≡ Some g → slice_get gs j ≡ Some h → g.num ≡ h.num → i ≡ j
distinct_at [] d i j g h e f q = cc
distinct_at (x ∷ gs) d zero zero g h e f q = refl
distinct_at (x ∷ gs) d zero (suc j) g h e f q = let same : x ≡ g = cc in absurd (d.0 j h f (sym q ∙ ap (λ (y : Ghost). y.num) (sym same)))
distinct_at (x ∷ gs) d (suc i) zero g h e f q = let same : x ≡ h = cc in absurd (d.0 i g e (q ∙ ap (λ (y : Ghost). y.num) (sym same)))
distinct_at (x ∷ gs) d (suc i) (suc j) g h e f q = ap suc (distinct_at gs d.1 i j g h e f q)

first_at : (gs : List Ghost) → AreDistinct gs → (i : ℕ) (g : Ghost) → slice_get gs i ≡ Some g → find (λ h. h.num == g.num) gs ≡ Some g
first_at [] d i g e = cc
first_at (x ∷ gs) d zero g e = let same : x ≡ g = cc in ap (λ q. if q then Some x else find (λ h. h.num == g.num) gs) (eq-eqb x.num g.num (ap (λ (y : Ghost). y.num) same)) ∙ ap Some same
first_at (x ∷ gs) d (suc i) g e =
    ⊎_elim
    (λ q. absurd (d.0 i g e (sym (eqb-true x.num g.num q))))
    (λ q. ap (λ q. if q then Some x else find (λ h. h.num == g.num) gs) q ∙ first_at gs d.1 i g e)
    (cases_Bool (x.num == g.num))

pub ghosts_law : (script : Script) (journal : List Entry) → IsTrue (is_script script) → IsLegal script journal → GoodGhosts (state_of script journal).last_ghost (state_of script journal).core.ghosts
ghosts_law script journal fits l =
    let proper = proper_law script fits journal l in
    let numbers = (clear_law script fits journal l).numbers in
    record {
      drawn = λ i g e. ((proper.ghosts i g e).drawn, numbers.below i g e);
      distinct = distinct_at (state_of script journal).core.ghosts numbers.distinct;
      first = first_at (state_of script journal).core.ghosts numbers.distinct;
      in_vram = λ i g e. (proper.ghosts i g e).in_vram;
      in_tt = λ i g e. (proper.ghosts i g e).in_tt;
    }
