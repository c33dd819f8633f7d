-- A script has the same journals in each version, and with any marks.
use Rattle.std.proofs.Common.{◌≡◌, ℕ, zero, suc, List, [], ◌∷◌, ◌++◌, Option, Some, None, Result, Ok, Err, refl, sym, ap, subst}
use Rattle.std.specs.Prelude.{find, slice_get, is_ok, ◌↔◌}
use Rattle.ttm_base.specs.declared.Actor.{Actor}
use Rattle.ttm_base.specs.declared.Need.{Need}
use Rattle.journal_model.specs.declared.script.Script.{Script}
use Rattle.journal_model.specs.declared.script.Mark.{Mark}
use Rattle.journal_model.specs.declared.entry.Entry.{Entry}
use Rattle.journal_model.specs.declared.state.State.{State}
use Rattle.journal_model.specs.rules.Legal.{World, first_world, IsLegalFrom, IsLegal}
use Rattle.journal_model.specs.statements.Scheduled.{Run, run_of, run_along, journal_along, stepped, appended, actor_of_turn, scheduled_actors, own_order, scheduled}
use Rattle.journal_model.specs.statements.Laws.{FormsAgree}
use Rattle.laws.proofs.law_search.FormSearches.{in_form}
use Rattle.laws.proofs.law_search.FormSteps.{next_same, next_entry_same, world_same}

module _ (v : ℕ) (ms : List Mark) (script : Script) where
  turn_same : (s : State) (turn : ℕ) → actor_of_turn (in_form v ms script) s turn ≡ actor_of_turn script s turn
  turn_same s turn = λ i.
      elim (slice_get (scheduled_actors script) turn) [
        | Some who ↦ Some who
        | None ↦ find (λ who. is_ok (next_same v ms script s who i)) (own_order script s)
      ]

  appended_same : (r : Run) (x : Result Entry Need) → appended (in_form v ms script) r x ≡ appended script r x
  appended_same r (Ok e) = λ i. record { world = world_same v ms script r.world e i; journal = r.journal ++ e ∷ [] }
  appended_same r (Err n) = refl

  stepped_same : (r : Run) (o : Option Actor) → stepped (in_form v ms script) r o ≡ stepped script r o
  stepped_same r None = refl
  stepped_same r (Some who) = λ i. appended_same r (next_entry_same v ms script r.world who i) i

  run_same : (n : ℕ) → run_of (in_form v ms script) n ≡ run_of script n
  run_same zero = refl
  run_same (suc n) = λ i. stepped_same (run_same n i) (turn_same (run_same n i).world.state n i) i

  along_same : (r : Run) (actors : List Actor) → run_along (in_form v ms script) r actors ≡ run_along script r actors
  along_same r [] = refl
  along_same r (who ∷ actors) = λ i. along_same (stepped_same r (Some who) i) actors i

  legal_same : (w : World) (es : List Entry) → IsLegalFrom (in_form v ms script) w es ≡ IsLegalFrom script w es
  legal_same w [] = refl
  legal_same w (e ∷ es) = λ i. (next_entry_same v ms script w e.who i ≡ Ok e) × legal_same (world_same v ms script w e i) es i

  pub scheduled_same : (n : ℕ) → scheduled (in_form v ms script) n ≡ scheduled script n
  scheduled_same n = ap (λ r. r.journal) (run_same n)

  pub journal_along_same : (actors : List Actor) → journal_along (in_form v ms script) actors ≡ journal_along script actors
  journal_along_same actors = ap (λ r. r.journal) (along_same (run_of script 0) actors)

  pub legal_alike : (journal : List Entry) → IsLegal script journal ↔ IsLegal (in_form v ms script) journal
  legal_alike journal = (subst (λ t. t) (sym (legal_same (first_world script) journal)), subst (λ t. t) (legal_same (first_world script) journal))

pub forms_same : FormsAgree
forms_same script n = scheduled_same 2 script.marks script n
