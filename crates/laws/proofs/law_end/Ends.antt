-- Each entry lowers the measure, so journals end, and so does the simulator.
use Rattle.std.proofs.Common.{◌≡◌, ◌<◌, ◌+◌, ◌*◌, true, List, length, IsTrue, sym, ◌∙◌, ap, subst, arith}
use Rattle.std.specs.Prelude.{sum_by}
use Rattle.journal_model.specs.declared.script.Script.{Script}
use Rattle.journal_model.specs.declared.entry.Entry.{Entry}
use Rattle.journal_model.specs.scripts.ScriptRules.{is_script}
use Rattle.journal_model.specs.rules.Legal.{IsLegal}
use Rattle.journal_model.specs.statements.Complete.{is_over, is_complete}
use Rattle.journal_model.specs.statements.DeadEnd.{can_step}
use Rattle.journal_model.specs.statements.Scheduled.{run_of, own_order, scheduled_actors, packets_in, scheduled, turn_limit}
use Rattle.laws.proofs.law_state.Counted.{over_law}
use Rattle.laws.proofs.law_state.Turns.{run_good}
use Rattle.laws.proofs.law_sound.JournalEnds.{journal_ends, sim_ends}
use Rattle.laws.proofs.law_sound.Orders.{goes, rests, none_passes}
use Rattle.laws.proofs.lemma_end_measure.MeasureFirst.{first_below}
use Rattle.laws.proofs.law_end.Lasting.{Steady, steady_keeps, steady_first, measure_falls}

module _ (script : Script) (fits : IsTrue (is_script script)) where
  -- each legal journal is shorter than the limit of turns
  pub journals_end : (journal : List Entry) → IsLegal script journal → length journal < turn_limit script
  journals_end journal h =
      let most = journal_ends script (Steady script) (steady_keeps script fits) (measure_falls script fits) journal (steady_first script fits) h in
      let below = first_below script in
      omega (arith, most, below)

  -- within the limit nobody has an entry left
  pub simulator_ends : is_over script (run_of script (turn_limit script)).world.state ≡ true
  simulator_ends =
      let below = first_below script in
      let all : 134217728 * (sum_by length script.threads + 17) * (sum_by (λ d. d.pages) script.buffers + 17) + sum_by (sum_by packets_in) script.threads + length (scheduled_actors script) ≡ turn_limit script = omega arith in
      subst (λ n. is_over script (run_of script n).world.state ≡ true) all
      (sim_ends script (Steady script) (steady_keeps script fits) (measure_falls script fits) (steady_first script fits) (λ s inv over. goes script s inv.sound over)
      (λ s inv over. none_passes (can_step script s) (own_order script s) (rests script s inv.sound.owned.courses over))
      (134217728 * (sum_by length script.threads + 17) * (sum_by (λ d. d.pages) script.buffers + 17) + sum_by (sum_by packets_in) script.threads) (omega (arith, below)))

  -- within the limit the journal of the simulator is complete
  pub schedule_completes : is_complete script (scheduled script (turn_limit script)) ≡ true
  schedule_completes =
      let good = run_good script (turn_limit script) in
      sym (over_law script (scheduled script (turn_limit script)) good.legal)
      ∙ (ap (λ w. is_over script w.state) (sym good.leads) ∙ simulator_ends)
