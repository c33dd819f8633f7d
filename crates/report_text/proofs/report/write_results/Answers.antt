use Rattle.std.proofs.Common.{◌≡◌, ℕ, zero, suc, ◌+◌, ◌<◌, ◌∙◌, length, Some, ap, refl, arith}
use Rattle.std.specs.Prelude.{slice_get}
use Rattle.ttm_base.specs.ListWords.{count_from}
use Rattle.journal_model.specs.statements.Complete.{thread_numbers}
use Rattle.journal_model.specs.reports.ReportText.{thread_results}
use Rattle.report_text.proofs.WrittenLines.{loop_ends, loop_goes_on, loop_stops}
use Rattle.report_text.proofs.report.write_results.Goals as goal

-- a number of the count
counted : (n start i : ℕ) → i < n → slice_get (count_from 1 n start) i ≡ Some (i + start)
counted zero start i h = absurd (omega arith)
counted (suc n) start zero h = let e : start ≡ 0 + start = omega arith in ap Some e
counted (suc n) start (suc i) h = let e : i + (1 + start) ≡ suc i + start = omega arith in counted n (1 + start) i (omega arith) ∙ ap Some e

length-count_from : (n start : ℕ) → length (count_from 1 n start) ≡ n
length-count_from zero start = refl
length-count_from (suc n) start = ap suc (length-count_from n (1 + start))

pub returns-in_err-write_thread_results-clause-text : goal.returns-in_err-write_thread_results-clause-text
returns-in_err-write_thread_results-clause-text g c =
    loop_stops (thread_results c.args.journal.now) (thread_numbers c.args.script.now) c.loop-index.index (c.loop-index.index + 1) c.from_residual.result _ _ _
    (counted (length c.args.script.now.threads) 1 c.loop-index.index (omega arith))
    c.from_residual.ensures.0 c.loop-index.invariant.text c.in_err-write_thread_results.ensures.text

pub loop-index-preserved : goal.loop-index-preserved
loop-index-preserved g c = record {
  text =
      loop_goes_on (thread_results c.args.journal.now) (thread_numbers c.args.script.now) c.loop-index.index (c.loop-index.index + 1) _ _ _
      (counted (length c.args.script.now.threads) 1 c.loop-index.index (omega arith))
      c.loop-index.invariant.text c.in_ok-write_thread_results.ensures.text;
  faults = grind arith;
  lines = grind arith;
}

pub returns-clause-text : goal.returns-clause-text
returns-clause-text g c =
    loop_ends (thread_results c.args.journal.now) (thread_numbers c.args.script.now) c.loop-index.index _ _
    (let e = length-count_from (length c.args.script.now.threads) 1 in omega (arith, e)) c.loop-index.invariant.text
