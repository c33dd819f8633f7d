use Rattle.std.proofs.Common.{◌≡◌, ℕ, suc, ◌+◌, ◌<◌, ◌∙◌, Bool, true, false, cond, List, [], length, take, get_or, Option, Some, None, unwrap_or, is_some, ap, refl, sym, arith}
use Rattle.std.specs.Prelude.{slice_get, filter_map, flat_map}
use Rattle.std.specs.List.{enumerate_from}
use Rattle.std.proofs.lemmas.List.FromFn.{length-enumerate_from}
use Rattle.std.proofs.lemmas.List.{take_all}
use Rattle.std.specs.Io.KnownBytes.{append_known}
use Rattle.std.proofs.lemmas.Option.{slice_get_read}
use Rattle.journal_model.specs.declared.entry.Entry.{Entry}
use Rattle.journal_model.specs.scripts.Words.{Text}
use Rattle.journal_model.specs.reports.ReportText.{answer_line, answer_of, answer_words}
use Rattle.journal_model.specs.statements.Complete.{is_by_thread}
use Rattle.report_text.proofs.Kept.{kept_before, kept_before-dropped, kept_before-kept, kept_before-le, kept_at}
use Rattle.report_text.proofs.WrittenLines.{loop_ends, loop_goes_on, loop_stops, numbered_at}
use Rattle.report_text.proofs.report.write_thread_results.Goals as goal
use Rattle.report_text.proofs.report.write_thread_results.Goals.{then-answers+in_ok-write_answer, else-answers}

-- what an answer says, where there is one
words_of_kind : (b : Bool) (o : Option (List Text)) → is_some (cond b o None) ≡ true → cond b o None ≡ Some (unwrap_or o [])
words_of_kind true (Some ws) h = refl
words_of_kind true None h = cc
words_of_kind false o h = cc

-- nothing
nothing : {X : Type 0} (o : Option X) → is_some o ≡ false → o ≡ None
nothing None h = refl
nothing (Some x) h = cc

-- the entry that was read has the next number among the answers
next_answer : (thread : ℕ) (journal : List Entry) (i number : ℕ) (e : Entry) → i < length journal → e ≡ get_or journal i e
    → number ≡ kept_before (answer_of thread) journal i + 1 → is_some (answer_of thread e) ≡ true
    → slice_get (enumerate_from 1 (filter_map (answer_of thread) journal)) (kept_before (answer_of thread) journal i) ≡ Some (number, unwrap_or (answer_words e.kind) [])
next_answer thread journal i number e h read same some =
    let k = kept_before (answer_of thread) journal i in
    let ws = unwrap_or (answer_words e.kind) [] in
    let at : slice_get journal i ≡ Some e = slice_get_read journal (length journal) i e refl h read in
    let f : 1 + k ≡ number = omega arith in
    numbered_at 1 (filter_map (answer_of thread) journal) k ws (kept_at (answer_of thread) journal i e ws at (words_of_kind (is_by_thread thread e.who) (answer_words e.kind) some))
    ∙ ap (λ n. Some (n, ws)) f

-- one answer more
answered : (thread : ℕ) (journal : List Entry) (i : ℕ) (e : Entry) → i < length journal → e ≡ get_or journal i e → is_some (answer_of thread e) ≡ true
    → kept_before (answer_of thread) journal (i + 1) ≡ kept_before (answer_of thread) journal i + 1
answered thread journal i e h read some =
    let at : slice_get journal i ≡ Some e = slice_get_read journal (length journal) i e refl h read in
    let more = kept_before-kept (answer_of thread) journal i e _ at (words_of_kind (is_by_thread thread e.who) (answer_words e.kind) some) in
    let f : i + 1 ≡ suc i = omega arith in
    ap (kept_before (answer_of thread) journal) f ∙ (omega (arith, more))

-- none more
passed : (thread : ℕ) (journal : List Entry) (i : ℕ) (e : Entry) → i < length journal → e ≡ get_or journal i e → is_some (answer_of thread e) ≡ false
    → kept_before (answer_of thread) journal (i + 1) ≡ kept_before (answer_of thread) journal i
passed thread journal i e h read none =
    let at : slice_get journal i ≡ Some e = slice_get_read journal (length journal) i e refl h read in
    let f : i + 1 ≡ suc i = omega arith in
    ap (kept_before (answer_of thread) journal) f ∙ kept_before-dropped (answer_of thread) journal i e at (nothing (answer_of thread e) none)

pub returns-in_err-write_answer-clause-text : goal.returns-in_err-write_answer-clause-text
returns-in_err-write_answer-clause-text g c =
    let journal = c.args.journal.now in
    let e = c.entry-item.result in
    loop_stops (answer_line c.args.thread) (enumerate_from 1 (filter_map (answer_of c.args.thread) journal)) (kept_before (answer_of c.args.thread) journal c.loop-entry.entry-index)
    (c.loop-entry.number, unwrap_or (answer_words e.kind) []) c.from_residual.result _ _ _
    (next_answer c.args.thread journal c.loop-entry.entry-index c.loop-entry.number e (omega arith) c.entry-item.is c.loop-entry.invariant.number (sym c.answers.ensures ∙ c.if-answers.true))
    c.from_residual.ensures.0 c.loop-entry.invariant.text c.in_err-write_answer.ensures.text

pub overflow_add-number : goal.overflow_add-number
overflow_add-number g c =
    let few = kept_before-le (answer_of c.args.thread) c.args.journal.now c.loop-entry.entry-index in
    omega (arith, few)

pub loop-entry-preserved : goal.loop-entry-preserved
loop-entry-preserved g c =
    let thread = c.args.thread in
    let journal = c.args.journal.now in
    let i = c.loop-entry.entry-index in
    let e = c.entry-item.result in
    let ys = enumerate_from 1 (filter_map (answer_of thread) journal) in
    let old = g.K.Sink.written c.args.sink.now in
    elim c.if-answers.branch [
      | then-answers+in_ok-write_answer w ↦
          let some = sym c.answers.ensures ∙ w.if-answers.true in
          let more = answered thread journal i e (omega arith) c.entry-item.is some in
          record {
            number = omega (arith, more, w.number-is, c.loop-entry.invariant.number);
            text =
                ap g.K.Sink.written w.sink-is
                ∙ loop_goes_on (answer_line thread) ys (kept_before (answer_of thread) journal i) (c.loop-entry.number, unwrap_or (answer_words e.kind) []) old _ _
                (next_answer thread journal i c.loop-entry.number e (omega arith) c.entry-item.is c.loop-entry.invariant.number some)
                c.loop-entry.invariant.text w.in_ok-write_answer.ensures.text
                ∙ ap (λ n. append_known old (flat_map (answer_line thread) (take n ys))) (sym more);
            faults = ap g.K.Sink.faults w.sink-is ∙ w.in_ok-write_answer.ensures.faults ∙ c.loop-entry.invariant.faults;
            lines = ap g.K.Sink.broken w.sink-is ∙ w.in_ok-write_answer.ensures.lines ∙ c.loop-entry.invariant.lines;
          }
      | else-answers w ↦
          let same = passed thread journal i e (omega arith) c.entry-item.is (sym c.answers.ensures ∙ w.if-answers.false) in
          record {
            number = omega (arith, same, w.number-is, c.loop-entry.invariant.number);
            text = ap g.K.Sink.written w.sink-is ∙ c.loop-entry.invariant.text ∙ ap (λ n. append_known old (flat_map (answer_line thread) (take n ys))) (sym same);
            faults = ap g.K.Sink.faults w.sink-is ∙ c.loop-entry.invariant.faults;
            lines = ap g.K.Sink.broken w.sink-is ∙ c.loop-entry.invariant.lines;
          }
    ]

pub returns-clause-text : goal.returns-clause-text
returns-clause-text g c =
    let kept = filter_map (answer_of c.args.thread) c.args.journal.now in
    let all = ap (λ ys. length (filter_map (answer_of c.args.thread) ys)) (take_all c.loop-entry.entry-index c.args.journal.now (omega arith)) in
    let e = length-enumerate_from 1 kept in
    loop_ends (answer_line c.args.thread) (enumerate_from 1 kept) (kept_before (answer_of c.args.thread) c.args.journal.now c.loop-entry.entry-index) _ _
    (omega (arith, e, all)) c.loop-entry.invariant.text
