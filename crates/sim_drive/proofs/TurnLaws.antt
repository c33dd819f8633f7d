-- A turn of the device is a turn of the simulator.
use Rattle.std.proofs.Common.{◌≡◌, ℕ, ◌+◌, add-one, true, false, List, Option, Some, None, Result, Ok, Err, refl, sym, ◌∙◌, ap}
use Rattle.std.specs.Prelude.{slice_get}
use Rattle.ttm_base.specs.declared.Actor.{Actor}
use Rattle.ttm_base.specs.declared.Need.{Need}
use Rattle.journal_model.specs.declared.script.Script.{Script}
use Rattle.journal_model.specs.declared.entry.Entry.{Entry}
use Rattle.journal_model.specs.statements.Complete.{is_complete}
use Rattle.journal_model.specs.rules.Legal.{world_of, state_of, next_entry}
use Rattle.journal_model.specs.statements.Scheduled.{run_of, stepped, appended, scheduled, scheduled_actors, actor_of_turn}
use Rattle.laws.proofs.law_state.Turns.{run_good}
use Rattle.device_core.specs.Kept.{Kept, entry_of, after_step, after_turn, next_actor, after_found}

module _ (script : Script) (n : ℕ) where
  -- the device that has taken n turns
  abbrev pub at : Kept
  at = record { script = script; journal = scheduled script n }

  leads : (run_of script n).world ≡ world_of script (scheduled script n)
  leads = (run_good script n).leads

  -- what an actor's step makes of both
  same_step : (step : Result Entry Need) → (after_step at step).journal ≡ (appended script (run_of script n) step).journal
  same_step (Ok e) = refl
  same_step (Err need) = refl

  kept_is : (step : Result Entry Need) (journal : List Entry) → (after_step at step).journal ≡ journal → after_step at step ≡ record { script = script; journal = journal }
  kept_is (Ok e) journal h = ap (λ j. record { script = script; journal = j }) h
  kept_is (Err need) journal h = ap (λ j. record { script = script; journal = j }) h

  after_incomplete : (who : Actor) → is_complete script (scheduled script n) ≡ false → after_turn at who ≡ after_step at (entry_of at who)
  after_incomplete who h = ap (λ b. elim b [ true ↦ at | false ↦ after_step at (entry_of at who) ]) h

  -- the journal of a turn more
  next_journal : (o : Option Actor) → actor_of_turn script (state_of script (scheduled script n)) n ≡ o → scheduled script (n + 1) ≡ (stepped script (run_of script n) o).journal
  next_journal o turn =
      ap (scheduled script) (add-one n)
      ∙ ap (λ s. (stepped script (run_of script n) (actor_of_turn script s n)).journal) (ap (λ w. w.state) leads)
      ∙ ap (λ a. (stepped script (run_of script n) a).journal) turn

  -- the entry of the actor whose turn it is
  stepped_is : (who : Actor) → actor_of_turn script (state_of script (scheduled script n)) n ≡ Some who → after_step at (entry_of at who) ≡ record { script = script; journal = scheduled script (n + 1) }
  stepped_is who turn =
      kept_is (entry_of at who) (scheduled script (n + 1))
      (same_step (entry_of at who) ∙ ap (λ w. (appended script (run_of script n) (next_entry script w who)).journal) (sym leads) ∙ sym (next_journal (Some who) turn))

  -- in the schedule
  pub in_schedule : (who : Actor) → slice_get (scheduled_actors script) n ≡ Some who → is_complete script (scheduled script n) ≡ false → after_turn at who ≡ record { script = script; journal = scheduled script (n + 1) }
  in_schedule who h incomplete =
      after_incomplete who incomplete
      ∙ stepped_is who (ap (λ o. elim o [ Some x ↦ Some x | None ↦ next_actor at ]) h)

  -- after it
  pub behind_schedule : (who : Option Actor) → next_actor at ≡ who → slice_get (scheduled_actors script) n ≡ None → after_found at who ≡ record { script = script; journal = scheduled script (n + 1) }
  behind_schedule (Some who) found h = stepped_is who (ap (λ o. elim o [ Some x ↦ Some x | None ↦ next_actor at ]) h ∙ found)
  behind_schedule None found h =
      ap (λ j. record { script = script; journal = j }) (sym (next_journal None (ap (λ o. elim o [ Some x ↦ Some x | None ↦ next_actor at ]) h ∙ found)))
