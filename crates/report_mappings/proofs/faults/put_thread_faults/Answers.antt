use Rattle.std.proofs.Common.{◌≡◌, ℕ, ◌+◌, Bool, cond, List, [], ◌++◌, length, Option, Some, ap, refl, sym, ◌∙◌, subst, arith}
use Rattle.std.specs.Prelude.{◌&&◌, slice_get}
use Rattle.std.proofs.lemmas.Option.{slice_get_read}
use Rattle.journal_model.specs.statements.Complete.{is_answer, is_by_thread}
use Rattle.journal_model.specs.rules.Legal.{made_of}
use Rattle.journal_model.specs.reports.ReportText.{thread_faults}
use Rattle.journal_model.specs.declared.script.Script.{Script}
use Rattle.map_access.specs.Passing.{Stands}
use Rattle.report_mappings.proofs.Following.{Follows, follows_first, follows_on, one_or_none, text_done, text_on}
use Rattle.report_mappings.proofs.faults.put_thread_faults.Goals as goal
use Rattle.report_mappings.proofs.faults.put_thread_faults.Goals.{then-answers+in_ok-go_on, else-answers}

stand_same : (script : Script) (thread k n : ℕ) (s t : List (Option ℕ)) → k ≡ n → s ≡ t → Stands script thread n t → Stands script thread k s
stand_same script thread k n s t e f h =
    subst (λ (x : List (Option ℕ)). Stands script thread k x) (sym f) (subst (λ i. Stands script thread i t) (sym e) h)

no_more : (n : ℕ) → n ≡ n + 0
no_more n = omega arith

pub loop-entry-init : goal.loop-entry-init
loop-entry-init c = record {
  few = omega arith;
  stands = c.in_ok-standing.ensures;
  follows = λ legal. subst (λ (s : List (List ℕ)). Follows c.args.search.now c.args.thread [] 0 s) (sym c.new-seen.ensures) (follows_first c.args.search.now c.args.thread);
  text = λ legal. refl;
}

pub loop-entry-preserved : goal.loop-entry-preserved
loop-entry-preserved c =
    let script = c.args.search.now in
    let thread = c.args.thread in
    let journal = c.args.journal.now in
    let k = c.loop-entry.entry-index in
    let e = c.entry-item.result in
    let n = c.loop-entry.answered in
    let answer = is_by_thread thread e.who && is_answer e.kind in
    let at : slice_get journal k ≡ Some e = slice_get_read journal (length journal) k e refl (omega arith) c.entry-item.is in
    let more : c.if-answers.answered ≡ n + cond answer 1 0 = elim c.if-answers.branch [
      | then-answers+in_ok-go_on w ↦ w.answered-is ∙ ap (λ (b : Bool). n + cond b 1 0) (sym (sym c.answers.ensures ∙ w.if-answers.true))
      | else-answers w ↦ w.answered-is ∙ no_more n ∙ ap (λ (b : Bool). n + cond b 1 0) (sym (sym c.answers.ensures ∙ w.if-answers.false))
    ] in
    let few = one_or_none answer in
    record {
      few = omega (arith, more, few);
      stands = elim c.if-answers.branch [
        | then-answers+in_ok-go_on w ↦ stand_same script thread _ _ _ _ w.answered-is w.standing-is w.in_ok-go_on.ensures
        | else-answers w ↦ stand_same script thread _ _ _ _ w.answered-is w.standing-is c.loop-entry.invariant.stands
      ];
      follows = λ legal. follows_on script thread journal k e n c.if-answers.answered c.loop-entry.seen c.put_entry.new.seen legal at (c.loop-entry.invariant.follows legal) more c.in_ok-put_entry.ensures.seen;
      text = λ legal. text_on script thread journal k e n c.loop-entry.seen c.loop-entry.line c.put_entry.new.line (c.args.line.now ++ thread_faults script thread [] (made_of script journal)) legal at
          (c.loop-entry.invariant.follows legal) (c.loop-entry.invariant.text legal) c.in_ok-put_entry.ensures.text;
    }

pub returns : goal.returns
returns c = λ legal.
    text_done c.args.search.now c.args.thread c.args.journal.now c.loop-entry.entry-index c.loop-entry.line
    (c.args.line.now ++ thread_faults c.args.search.now c.args.thread [] (made_of c.args.search.now c.args.journal.now)) (omega arith) (c.loop-entry.invariant.text legal)
