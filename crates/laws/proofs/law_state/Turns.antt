-- The journal of the simulator's turns is legal, and leads where its run stands.
use Rattle.std.proofs.Common.{◌≡◌, ℕ, zero, suc, Option, Some, None, Result, Ok, Err, refl, sym, ◌∙◌, ap, subst}
use Rattle.ttm_base.specs.declared.Actor.{Actor}
use Rattle.ttm_base.specs.declared.Need.{Need}
use Rattle.journal_model.specs.declared.script.Script.{Script}
use Rattle.journal_model.specs.declared.entry.Entry.{Entry}
use Rattle.journal_model.specs.rules.Stores.{showing}
use Rattle.journal_model.specs.rules.Next.{next}
use Rattle.journal_model.specs.declared.entry.Kind.{Kind}
use Rattle.journal_model.specs.rules.Legal.{World, world_of, world_after, next_entry, shown_step, IsLegalNext, IsLegal}
use Rattle.journal_model.specs.statements.Scheduled.{Run, run_of, stepped, appended, actor_of_turn, scheduled}
use Rattle.journal_model.proofs.JournalLaws.{world_of-append, IsLegal-append}

-- a run whose world is that of its journal, which is legal
pub record IsGood (script : Script) (r : Run) : Type 0 where
  pub leads : r.world ≡ world_of script r.journal
  pub legal : IsLegal script r.journal

-- an entry shows its actor
entry_is_by : (script : Script) (w : World) (who : Actor) (e : Entry) → next_entry script w who ≡ Ok e → e.who ≡ who
entry_is_by script w who e h = by_step (next script w.state who) refl h
  where
    by_step : (r : Result Kind Need) → next script w.state who ≡ r → shown_step script w who r ≡ Ok e → e.who ≡ who
    by_step (Ok k) n h = let it : (record { who = who; kind = showing script w.stores w.state who k }) ≡ e = cc in sym (ap (λ f. f.who) it)
    by_step (Err need) n h = cc

-- an actor's next entry is legal next
pub next_is_legal : (script : Script) (w : World) (who : Actor) (e : Entry) → next_entry script w who ≡ Ok e → IsLegalNext script w e
next_is_legal script w who e h = subst (λ a. next_entry script w a ≡ Ok e) (sym (entry_is_by script w who e h)) h

-- a turn keeps a run good
pub turn_keeps : (script : Script) (r : Run) (who : Option Actor) → IsGood script r → IsGood script (stepped script r who)
turn_keeps script r None good = good
turn_keeps script r (Some who) good = by_entry (next_entry script r.world who) refl
  where
    by_entry : (step : Result Entry Need) → next_entry script r.world who ≡ step → IsGood script (appended script r step)
    by_entry (Ok e) h =
        record {
          leads = ap (λ w. world_after script w e) good.leads ∙ sym (world_of-append script r.journal e);
          legal = IsLegal-append script r.journal e good.legal (subst (λ w. IsLegalNext script w e) good.leads (next_is_legal script r.world who e h));
        }
    by_entry (Err need) h = good

-- after so many turns
pub run_good : (script : Script) (n : ℕ) → IsGood script (run_of script n)
run_good script zero = record { leads = refl; legal = tt }
run_good script (suc n) = turn_keeps script (run_of script n) (actor_of_turn script (run_of script n).world.state n) (run_good script n)

pub scheduled_legal : (script : Script) (n : ℕ) → IsLegal script (scheduled script n)
scheduled_legal script n = (run_good script n).legal
