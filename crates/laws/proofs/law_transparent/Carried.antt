-- What is carried along holds in every state that a legal journal leads to: its good view, and what a thread's next entry tells.
use Rattle.std.proofs.Common.{◌≡◌, ℕ, ◌+◌, suc, List, [], ◌∷◌, ◌++◌, length, length-append, Ok, IsTrue, sym, subst, arith}
use Rattle.std.specs.Prelude.{fold}
use Rattle.ttm_base.specs.declared.Actor.{Actor}
use Rattle.ttm_base.specs.declared.Actor.TheVariants as actor
use Rattle.journal_model.specs.declared.script.Script.{Script}
use Rattle.journal_model.specs.declared.state.State.{State}
use Rattle.journal_model.specs.declared.entry.Entry.{Entry}
use Rattle.journal_model.specs.declared.entry.Kind.{Kind}
use Rattle.journal_model.specs.scripts.ScriptRules.{is_script}
use Rattle.journal_model.specs.rules.Next.{next}
use Rattle.journal_model.specs.rules.Apply.{applied}
use Rattle.journal_model.specs.rules.PlainMemory.{Plain, first_plain, plain_after, plain_of}
use Rattle.journal_model.specs.rules.Legal.{World, first_state, first_world, world_after, world_along, world_of, state_of, stores_of, IsLegalFrom, IsLegal}
use Rattle.laws.proofs.law_state.Shown.{legal_step}
use Rattle.laws.proofs.law_state.Rules.{rules_of}
use Rattle.laws.specs.lemma_bytes_told.Told.{Told}
use Rattle.laws.proofs.lemma_bytes_view.Viewed.{Viewed}
use Rattle.laws.proofs.law_transparent.Steps.{told_of}
use Rattle.laws.proofs.law_transparent.Law.{world_push, legal_push, ClearWorld, known, one_more, first_clear}
use Rattle.laws.proofs.law_transparent.Ways.{have_ways}

module _ (script : Script) (fits : IsTrue (is_script script)) where
  clear_along : (journal es : List Entry) (p : Plain) → IsLegal script journal → IsLegalFrom script (world_of script journal) es → ClearWorld script (world_of script journal) p →
      ClearWorld script (world_along script (world_of script journal) es) (fold (plain_after script) p es)
  clear_along journal [] p l m c = c
  clear_along journal (e ∷ es) p l m c =
      let now = one_more script fits (have_ways script fits) journal e p l m.0 c in
      let push = world_push script (first_world script) journal e in
      subst (λ (w : World). ClearWorld script (world_along script w es) (fold (plain_after script) (plain_after script p e) es)) push
      (clear_along (journal ++ e ∷ []) es (plain_after script p e) (legal_push script (first_world script) journal e l m.0) (subst (λ (w : World). IsLegalFrom script w es) (sym push) m.1)
      (subst (λ (w : World). ClearWorld script w (plain_after script p e)) (sym push) now.0))

  pub clear_law : (journal : List Entry) → IsLegal script journal → ClearWorld script (world_of script journal) (plain_of script journal)
  clear_law journal l = clear_along [] journal first_plain tt l (first_clear script fits (have_ways script fits))

-- the view of the state is good, and tells the state, the bytes and the plain memory
pub view_law : (script : Script) (journal : List Entry) → IsTrue (is_script script) → IsLegal script journal →
    Viewed script (state_of script journal).core (plain_of script journal).owed_probes (plain_of script journal).memory (stores_of script journal)
view_law script journal fits l = (clear_law script fits journal l).viewed

-- what a thread's next entry tells
pub told_law : (script : Script) (journal : List Entry) (t : ℕ) (k : Kind) → IsTrue (is_script script) → IsLegal script journal → next script (state_of script journal) (actor.Thread t) ≡ Ok k → Told script (state_of script journal) t k
told_law script journal t k fits l h =
    told_of script (rules_of script fits) (state_of script journal) (stores_of script journal) (plain_of script journal) (clear_law script fits journal l) (known script fits (have_ways script fits) journal l) t k h

-- ---- what each legal entry keeps

module _ (script : Script) (P : ℕ → State → Type 0)
    (keeps : (journal : List Entry) (who : Actor) (k : Kind) → IsLegal script journal → next script (state_of script journal) who ≡ Ok k → P (length journal) (state_of script journal) → P (length journal + 1) (applied script (state_of script journal) who k)) where
  kept_along : (journal es : List Entry) → IsLegal script journal → IsLegalFrom script (world_of script journal) es → P (length journal) (state_of script journal) → P (length journal + length es) (world_along script (world_of script journal) es).state
  kept_along journal [] l m h = let e : length journal ≡ length journal + 0 = omega arith in subst (λ n. P n (state_of script journal)) e h
  kept_along journal (e ∷ es) l m h =
      let push = world_push script (first_world script) journal e in
      let step = legal_step script (world_of script journal) e m.0 in
      let one : length (journal ++ e ∷ []) ≡ length journal + 1 = length-append journal (e ∷ []) in
      let all : length (journal ++ e ∷ []) + length es ≡ length journal + suc (length es) = omega (arith, one) in
      let now : P (length journal + 1) (world_after script (world_of script journal) e).state = subst (P (length journal + 1)) (sym step.state) (keeps journal e.who step.kind l step.step h) in
      subst (λ n. P n (world_along script (world_after script (world_of script journal) e) es).state) all
      (subst (λ (w : World). P (length (journal ++ e ∷ []) + length es) (world_along script w es).state) push
      (kept_along (journal ++ e ∷ []) es (legal_push script (first_world script) journal e l m.0) (subst (λ (w : World). IsLegalFrom script w es) (sym push) m.1)
      (subst (λ n. P n (state_of script (journal ++ e ∷ []))) (sym one) (subst (λ (w : World). P (length journal + 1) w.state) (sym push) now))))

  -- what the first state has, and each legal entry keeps, with the number of entries
  pub kept_law : P 0 (first_state script) → (journal : List Entry) → IsLegal script journal → P (length journal) (state_of script journal)
  kept_law first journal l = let e : 0 + length journal ≡ length journal = omega arith in subst (λ n. P n (state_of script journal)) e (kept_along [] journal tt l first)
