-- In the states of legal journals jobs have packets, few victims are caught, and targets stand at held buffers.
use Rattle.std.proofs.Common.{◌≡◌, ◌≤◌, true, List, [], ◌∷◌, length, Option, Some, None, IsTrue, refl, sym, subst, arith}
use Rattle.ttm_base.specs.declared.BufId.{BufId}
use Rattle.ttm_base.specs.declared.Stamp.{Stamp}
use Rattle.journal_model.specs.declared.script.Script.{Script}
use Rattle.journal_model.specs.declared.entry.Entry.{Entry}
use Rattle.journal_model.specs.declared.state.State.{State}
use Rattle.journal_model.specs.declared.state.Victim.{Victim}
use Rattle.journal_model.specs.rules.State.{buffer, reservation, course}
use Rattle.journal_model.specs.rules.Ready.{has_some_target}
use Rattle.journal_model.specs.scripts.ScriptRules.{is_script}
use Rattle.journal_model.specs.rules.Legal.{World, first_world, world_after, world_along, state_of, IsLegalFrom, IsLegal}
use Rattle.laws.proofs.law_state.Shown.{legal_step}
use Rattle.laws.proofs.lemma_end_searches.Victims.{Caught}
use Rattle.laws.proofs.law_end.Lasting.{Steady, steady_keeps, steady_first}
use Rattle.laws.specs.law_answers.AtWork.{IsHeld, AreFew}

pub steady_along : (script : Script) (fits : IsTrue (is_script script)) (w : World) (es : List Entry) → Steady script w.state → IsLegalFrom script w es → Steady script (world_along script w es).state
steady_along script fits w [] inv h = inv
steady_along script fits w (e ∷ es) inv h =
    let l = legal_step script w e h.0 in
    steady_along script fits (world_after script w e) es (subst (Steady script) (sym l.state) (steady_keeps script fits w.state e.who l.kind inv l.step)) h.1

pub steady_law : (script : Script) (journal : List Entry) → IsTrue (is_script script) → IsLegal script journal → Steady script (state_of script journal)
steady_law script journal fits h = steady_along script fits (first_world script) journal (steady_first script fits) h

two_at_most : (vs : List Victim) → Caught vs → length vs ≤ 2
two_at_most [] few = omega arith
two_at_most (v ∷ []) few = omega arith
two_at_most (v ∷ w ∷ []) few = omega arith
two_at_most (v ∷ w ∷ x ∷ vs) few = elim few [ ]

module _ (script : Script) (s : State) (inv : Steady script s) where
  held : (b : BufId) → has_some_target (buffer s b) ≡ true → IsHeld s b
  held b some = by (reservation s b).holder refl
    where
      by : (o : Option Stamp) → (reservation s b).holder ≡ o → IsHeld s b
      by None e = absurd (inv.carrying.targets b some e)
      by (Some st) e = let r = inv.sound.owned.holder b st e in record { stamp = st; holder = e; thread = r.0; by = r.1; has = r.2 }

  pub few : AreFew s
  few = record { packets = inv.good.jobs.some; victims = λ t. two_at_most (course s t).caught (inv.victims t).few; targets = held }

pub few_law : (script : Script) (journal : List Entry) → IsTrue (is_script script) → IsLegal script journal → AreFew (state_of script journal)
few_law script journal fits h = few script (state_of script journal) (steady_law script journal fits h)
