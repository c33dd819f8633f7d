-- Twice each counter is at most the number of entries, which the measure bounds.
use Rattle.std.proofs.Common.{◌≡◌, ℕ, ◌+◌, ◌≤◌, List, length, Ok, IsTrue, ap, arith, ⊎_elim}
use Rattle.std.specs.Prelude.{is_some}
use Rattle.std.proofs.lemmas.Bool.{cases_eq, or_left, or_right}
use Rattle.ttm_base.specs.declared.Actor.{Actor}
use Rattle.ttm_base.specs.declared.Actor.TheVariants as actor
use Rattle.journal_model.specs.declared.script.Script.{Script}
use Rattle.journal_model.specs.declared.state.State.{State}
use Rattle.journal_model.specs.declared.entry.Entry.{Entry}
use Rattle.journal_model.specs.declared.entry.Kind.{Kind}
use Rattle.journal_model.specs.scripts.ScriptRules.{is_script}
use Rattle.journal_model.specs.rules.Next.{next}
use Rattle.journal_model.specs.rules.Apply.{applied}
use Rattle.journal_model.specs.rules.Legal.{state_of, IsLegal}
use Rattle.laws.proofs.law_state.JournalCourses.{is_of_engine, is_of_reaper, of_engine, of_reaper}
use Rattle.laws.specs.law_state.GoodState.{last_number}
use Rattle.laws.proofs.law_state.Rules.{rules_of}
use Rattle.laws.proofs.law_state.Counters.{next_counted}
use Rattle.laws.proofs.law_sound.JournalEnds.{journal_ends}
use Rattle.laws.proofs.law_sound.Along.{stepped_of, of_worker, sound_law}
use Rattle.laws.proofs.lemma_end_measure.MeasureFirst.{first_below}
use Rattle.laws.proofs.law_limit.Limits.{product_most, threads_most}
use Rattle.laws.proofs.law_end.Lasting.{Steady, steady_keeps, steady_first, measure_falls}
use Rattle.laws.proofs.law_transparent.Carried.{told_law, kept_law}
use Rattle.laws.specs.law_counters.Counted.{AreCounted}
use Rattle.laws.proofs.law_counters.Paid.{Paid, paid_keeps, paid_stays, paid_first}
use Rattle.laws.proofs.law_counters.Drawn.{Drawn, drawn_keeps, drawn_stays, drawn_first, few_of}

-- both, with the number of entries
record Counted (n : ℕ) (s : State) : Type 0 where
  paid : Paid n s
  drawn : Drawn n s

module _ (script : Script) (fits : IsTrue (is_script script)) where
  keeps : (journal : List Entry) (who : Actor) (k : Kind) → IsLegal script journal → next script (state_of script journal) who ≡ Ok k → Counted (length journal) (state_of script journal) → Counted (length journal + 1) (applied script (state_of script journal) who k)
  keeps journal (actor.Thread t) k l h c =
      let st = stepped_of script (state_of script journal) t k (sound_law script journal fits l).owned.courses h in
      record {
        paid = paid_keeps script (rules_of script fits) (length journal) (state_of script journal) t c.paid k (told_law script journal t k fits l h);
        drawn = drawn_keeps script (length journal) (state_of script journal) t c.drawn k st (next_counted script (state_of script journal) (actor.Thread t) k h);
      }
  keeps journal (actor.Engine e) k l h c =
      let w = of_worker k (or_left (is_of_engine k) (is_of_reaper k) (of_engine script (state_of script journal) e k h)) in
      record { paid = paid_stays script (length journal) (state_of script journal) (actor.Engine e) k w c.paid; drawn = drawn_stays script (length journal) (state_of script journal) (actor.Engine e) k w c.drawn }
  keeps journal actor.Reaper k l h c =
      let w = of_worker k (or_right (is_of_engine k) (is_of_reaper k) (of_reaper script (state_of script journal) k h)) in
      record { paid = paid_stays script (length journal) (state_of script journal) actor.Reaper k w c.paid; drawn = drawn_stays script (length journal) (state_of script journal) actor.Reaper k w c.drawn }

  counted : (journal : List Entry) → IsLegal script journal → Counted (length journal) (state_of script journal)
  counted journal l = kept_law script Counted keeps (record { paid = paid_first script; drawn = drawn_first script }) journal l

  -- fewer entries than the limit of turns without its schedule
  few_entries : (journal : List Entry) → IsLegal script journal → length journal ≤ 9225914146594226176
  few_entries journal l =
      let most = journal_ends script (Steady script) (steady_keeps script fits) (measure_falls script fits) journal (steady_first script fits) l in
      let below = first_below script in
      let product = product_most script fits in
      omega (arith, most, below, product)

pub counters_law : (script : Script) (journal : List Entry) → IsTrue (is_script script) → IsLegal script journal → AreCounted (state_of script journal)
counters_law script journal fits l =
    let c = counted script fits journal l in
    let n = few_entries script fits journal l in
    let threads = (sound_law script journal fits l).owned.courses in
    let few = threads_most script fits in
    let stamps = c.drawn.stamps in
    let stamped = few_of (λ c. is_some c.stamp) (state_of script journal).courses in
    let made = few_of (λ c. c.made) (state_of script journal).courses in
    let ghosts = c.paid.ghosts in
    let moves = c.paid.moves in
    record {
      stamps = omega (arith, n, stamps, stamped, threads, few);
      ghosts = omega (arith, n, ghosts);
      jobs = λ ctx.
          ⊎_elim
          (λ e. let is : last_number (state_of script journal).last_jobs ctx ≡ last_number (state_of script journal).last_jobs 0 = ap (last_number (state_of script journal).last_jobs) e in omega (arith, n, moves, is))
          (λ e. let jobs = c.drawn.jobs ctx e in omega (arith, n, jobs, made, threads, few))
          (cases_eq ctx 0);
    }
