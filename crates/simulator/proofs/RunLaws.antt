-- What holds of the journals that runs make, and that a run without a number of turns comes to its end.
use Rattle.std.proofs.Common.{◌≡◌, ℕ, ◌<◌, List, [], true, Option, Some, None, sym, ap, ◌∙◌, subst, arith, ⊎_elim}
use Rattle.std.specs.Prelude.{if◌then◌else◌}
use Rattle.journal_model.specs.declared.script.Script.{Script}
use Rattle.journal_model.specs.scripts.ScriptRules.{IsScript}
use Rattle.journal_model.specs.statements.Complete.{is_complete}
use Rattle.journal_model.specs.rules.Legal.{IsLegal}
use Rattle.journal_model.specs.statements.Scheduled.{scheduled, turn_limit}
use Rattle.command_words.specs.declared.Form.{Form}
use Rattle.command_words.specs.declared.Form.TheVariants as form
use Rattle.sim_drive.specs.Ends.{Kept, EndsAfter}
pub use Rattle.law_legal.proofs.All.{keeps_laws}
use Rattle.laws.proofs.law_end.Ends.{schedule_completes}
use Rattle.laws.proofs.law_limit.Limits.{limit_fits}
use Rattle.simulator.specs.declared.outcome.Outcome.{Outcome}
use Rattle.simulator.specs.declared.outcome.Outcome.TheVariants as outcome
use Rattle.program_edges.specs.declared.status.Status.{Status}
use Rattle.program_edges.specs.declared.status.Status.TheVariants as status
use Rattle.program_edges.specs.Edges.{Edge, IsWritten, IsBroken, IsCut}
use Rattle.check_program.specs.declared.finding.Finding.{Finding}
use Rattle.check_program.specs.declared.finding.Finding.TheVariants as finding
use Rattle.check_program.specs.Finds.{Finds}
use Rattle.check_program.specs.Ends as checked
use Rattle.check_program.specs.Ends.{EndsChecked}
use Rattle.simulator.specs.Outcomes.{status_of, text_of}
use Rattle.simulator.specs.Ends.{Comes, ComesChecked, ComesWell, HasRun, IsRunOf, IsWell, IsWellRun, allowed, EndsWith, told, broken, cut, nothing, Ends}

-- what a device has done that was new
pub is_run : (script : Script) (turns : Option ℕ) (old new : Kept) (asked n : ℕ) → old ≡ record { script = script; journal = [] } → asked ≡ allowed turns script
    → EndsAfter old.script asked n → new ≡ record { script = old.script; journal = scheduled old.script n } → IsLegal new.script new.journal → IsRunOf script turns new n
is_run script turns old new asked n begun most ends stands legal =
    let of : old.script ≡ script = ap (λ (k : Kept). k.script) begun in
    let run : new ≡ record { script = script; journal = scheduled script n } = stands ∙ ap (λ (s : Script). record { script = s; journal = scheduled s n }) of in
    record {
      run = run;
      legal = subst (λ (k : Kept). IsLegal k.script k.journal) run legal;
      ends = subst (λ a. EndsAfter script a n) most (subst (λ s. EndsAfter s asked n) of ends);
    }

-- within the limit of turns the journal is complete
finished : (bytes : List ℕ) (script : Script) (n : ℕ) → IsScript bytes script → EndsAfter script (allowed None script) n → is_complete script (scheduled script n) ≡ true
finished bytes script n is e =
    let few : turn_limit script < 18446744073709551616 = limit_fits bytes script is in
    let most : allowed None script ≡ turn_limit script = grind (arith, few) in
    ⊎_elim (λ c. c) (λ at. subst (λ m. is_complete script (scheduled script m) ≡ true) (sym (at ∙ most)) (schedule_completes script is.fits)) e.ends

well_run : (turns : Option ℕ) (source : Edge) (k : Kept) (taken : ℕ) → HasRun source turns k taken → IsWellRun (Some (form.Sim turns)) k
well_run turns source k taken h =
    subst (λ (j : Kept). IsWellRun (Some (form.Sim turns)) j) (sym h.ran.run)
    (record {
      laws = keeps_laws h.script (scheduled h.script taken) h.gave.spelled.fits h.ran.legal;
      complete = λ asked.
          let none : turns ≡ None = cc in
          finished h.gave.bytes h.script taken h.gave.spelled (subst (λ u. EndsAfter h.script (allowed u h.script) taken) none h.ran.ends);
    })

-- what comes out is as it should be
pub well : (asked : Option Form) (source : Edge) (o : Outcome) → Comes asked source o → IsWell asked o
well asked source outcome.Usage h = tt
well asked source outcome.Help h = tt
well asked source outcome.Version h = tt
well asked source outcome.ReadFault h = tt
well asked source (outcome.BadScript n rule) h = tt
well asked source (outcome.Judged f) h = tt
well None source (outcome.Ran k taken) (e, u) = cc
well (Some form.Help) source (outcome.Ran k taken) (e, u) = cc
well (Some form.Version) source (outcome.Ran k taken) (e, u) = cc
well (Some (form.Sim turns)) source (outcome.Ran k taken) h = well_run turns source k taken h
well (Some form.Check) source (outcome.Ran k taken) h = absurd h

run_finishes : (asked : Option Form) (o : Outcome) → IsWell asked o → asked ≡ Some (form.Sim None) → status_of o ≡ status.Unfinished → ⊥
run_finishes asked outcome.Usage w a e = cc
run_finishes asked outcome.Help w a e = cc
run_finishes asked outcome.Version w a e = cc
run_finishes asked outcome.ReadFault w a e = cc
run_finishes asked (outcome.BadScript n rule) w a e = cc
run_finishes asked (outcome.Judged finding.ReadFault) w a e = cc
run_finishes asked (outcome.Judged (finding.BadScript n rule)) w a e = cc
run_finishes asked (outcome.Judged finding.Accepted) w a e = cc
run_finishes asked (outcome.Judged (finding.Rejected entry rule)) w a e = cc
run_finishes asked (outcome.Ran k taken) w a e =
    let done : status.Done ≡ status.Unfinished = sym (ap (λ b. if b then status.Done else status.Unfinished) (w.complete a)) ∙ e in
    cc

finishes : (asked : Option Form) (source sink : Edge) (s : Status) → EndsWith (ComesWell asked source) source sink s → asked ≡ Some (form.Sim None) → s ≡ status.Unfinished → ⊥
finishes asked source sink _ (told o (came, w) text) a e = run_finishes asked o w a e
finishes asked source sink _ (broken o (came, w) text) a e = cc
finishes asked source sink _ (cut o (came, w) text) a e = cc
finishes asked source sink _ (nothing faultless same) a e = cc

-- a verdict was asked for, so what comes out is what was found
found : (source : Edge) (P : Outcome → Type 0) → ((f : Finding) → Finds source f → P (outcome.Judged f)) → (o : Outcome) → ComesChecked source o → P o
found source P p outcome.Usage h = absurd h
found source P p outcome.Help h = absurd h
found source P p outcome.Version h = absurd h
found source P p outcome.ReadFault h = absurd h
found source P p (outcome.BadScript n rule) h = absurd h
found source P p (outcome.Ran k taken) h = absurd h
found source P p (outcome.Judged f) h = p f h

judged : (source sink : Edge) (s : Status) → EndsWith (ComesWell (Some form.Check) source) source sink s → EndsChecked source sink s
judged source sink _ (told o (came, w) text) = found source (λ o. IsWritten sink (text_of o) → EndsChecked source sink (status_of o)) (λ f finds. checked.whole f finds) o came text
judged source sink _ (broken o (came, w) text) = found source (λ o. IsBroken sink (text_of o) → EndsChecked source sink status.WriteFault) (λ f finds. checked.broken f finds) o came text
judged source sink _ (cut o (came, w) text) = found source (λ o. IsCut sink (text_of o) → EndsChecked source sink status.NoMemory) (λ f finds. checked.cut f finds) o came text
judged source sink _ (nothing faultless same) = checked.nothing faultless same

pub ends_well : (asked : Option Form) (source sink : Edge) (s : Status) → EndsWith (ComesWell asked source) source sink s → Ends asked source sink s
ends_well asked source sink s e =
    record {
      ends = e;
      finishes = finishes asked source sink s e;
      judges = λ a. judged source sink s (subst (λ (f : Option Form). EndsWith (ComesWell f source) source sink s) a e);
    }
