-- Each entry of a legal journal can be read, so its report is that of no other.
use Rattle.std.proofs.Common.{◌≡◌, ◌+◌, ◌<◌, ◌^◌, true, List, [], ◌∷◌, ◌++◌, length, IsTrue, refl, sym, subst, arith}
use Rattle.std.specs.List.{list_all}
use Rattle.std.proofs.lemmas.List.{length-append}
use Rattle.journal_model.specs.declared.script.Script.{Script}
use Rattle.journal_model.specs.declared.entry.Entry.{Entry}
use Rattle.journal_model.specs.scripts.ScriptRules.{is_script}
use Rattle.journal_model.specs.rules.Legal.{world_of, state_of, IsLegal, IsLegalFrom}
use Rattle.journal_model.specs.statements.Laws.{TextsDiffer}
use Rattle.journal_model.specs.rules.Stores.{showing}
use Rattle.journal_model.specs.scripts.Readable.{is_kind, is_readable, is_some_actor}
use Rattle.journal_model.proofs.JournalLaws.{IsLegal-append, world_of-append}
use Rattle.laws.proofs.law_state.Shown.{legal_step}
use Rattle.laws.proofs.law_state.Counters.{below_law, next_counted}
use Rattle.laws.proofs.law_state.GoodStates.{good_law}
use Rattle.laws.proofs.law_state.Rules.{rules_of}
use Rattle.laws.proofs.law_sound.JournalEnds.{journal_ends}
use Rattle.laws.proofs.law_sound.Along.{sound_law}
use Rattle.laws.proofs.law_limit.Limits.{product_most}
use Rattle.laws.proofs.lemma_end_measure.MeasureFirst.{first_below}
use Rattle.laws.proofs.law_end.Lasting.{Steady, steady_keeps, steady_first, measure_falls}
use Rattle.law_legal.proofs.law_report.Journals.{one_journal}
use Rattle.law_legal.proofs.law_readable.Tests.{joint}
use Rattle.law_legal.proofs.law_readable.Typed.{Typed, typed_keeps, typed_first}
use Rattle.law_legal.proofs.law_readable.Bytes.{AreBytes, bytes_keep, shown_readable}
use Rattle.law_legal.proofs.law_readable.Entries.{Known, next_fits}

module _ (script : Script) (fits : IsTrue (is_script script)) where
  -- the entries of a legal journal can be counted
  few_entries : (journal : List Entry) → IsLegal script journal → length journal < 2 ^ 64
  few_entries journal h =
      let most = journal_ends script (Steady script) (steady_keeps script fits) (measure_falls script fits) journal (steady_first script fits) h in
      let below = first_below script in
      let work = product_most script fits in
      omega (arith, most, below, work)

  known : (front : List Entry) → IsLegal script front → Typed (state_of script front) → length front + 1 < 2 ^ 64 → Known script (state_of script front) (length front)
  known front legal typed short =
      record {
        good = good_law script fits front legal;
        sound = sound_law script front fits legal;
        typed = typed;
        below = below_law script front legal;
        short = short;
      }

  -- the entries after a front
  readable_from : (front es : List Entry) → IsLegal script front → Typed (state_of script front) → AreBytes (world_of script front).stores → IsLegalFrom script (world_of script front) es → length front + length es < 2 ^ 64 →
      list_all (is_readable script) es ≡ true
  readable_from front [] legal typed bytes h short = refl
  readable_from front (e ∷ es) legal typed bytes h short =
      let w = world_of script front in
      let step = legal_step script w e h.0 in
      let next = next_fits script fits w.state (length front) (known front legal typed (omega (arith, short))) e.who step.kind step.step in
      let one = joint (is_some_actor e.who) (is_kind script (showing script w.stores w.state e.who step.kind)) next.0 (shown_readable script w.stores w.state e.who step.kind bytes next.1) in
      let after = world_of-append script front e in
      let more = length-append front (e ∷ []) in
      joint (is_readable script e) (list_all (is_readable script) es)
      (subst (λ f. is_readable script f ≡ true) (sym step.entry) one)
      (readable_from (front ++ e ∷ []) es (IsLegal-append script front e legal h.0)
      (subst (λ v. Typed v.state) (sym after) (subst Typed (sym step.state) (typed_keeps script (rules_of script fits) w.state e.who step.kind next.1 (next_counted script w.state e.who step.kind step.step) typed)))
      (subst (λ v. AreBytes v.stores) (sym after) (bytes_keep script (rules_of script fits) w.state e.who e.kind w.stores typed.packets bytes))
      (subst (λ v. IsLegalFrom script v es) (sym after) h.1)
      (omega (arith, more, short)))

  readable : (journal : List Entry) → IsLegal script journal → list_all (is_readable script) journal ≡ true
  readable journal h = readable_from [] journal tt (typed_first script) (λ p o. omega arith) h (let few = few_entries journal h in omega (arith, few))

-- each entry of a legal journal is readable
pub readable_law : (script : Script) (journal : List Entry) → IsTrue (is_script script) → IsLegal script journal → IsTrue (list_all (is_readable script) journal)
readable_law script journal fits h = readable script fits journal h

-- two legal journals of a script have two texts
pub texts_differ : TextsDiffer
texts_differ script journal other fits h k same =
    one_journal script journal other fits (readable script fits journal h) (readable script fits other k) (few_entries script fits journal h) (few_entries script fits other k) same
