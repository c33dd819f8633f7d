use Rattle.std.proofs.Common.{◌≡◌, ℕ, ◌+◌, ◌≤◌, Bool, List, ◌∙◌, ap, get_or, length, sym, subst, take, arith, if◌then◌else◌}
use Rattle.std.proofs.lemmas.List.{take_all}
use Rattle.journal_model.specs.declared.entry.Entry.{Entry}
use Rattle.journal_model.specs.rules.Apply.{thread_of}
use Rattle.journal_model.specs.rules.PlainMemory.{Plain, plain_of}
use Rattle.plain_memory.specs.Along.{IsPlain, is_answer}
use Rattle.plain_memory.specs.Mismatches.{mismatch_at, mismatches_of}
use Rattle.plain_memory.proofs.AlongLaws.{fits_along, passed, mismatch_same, mismatches_more, plain_more, risen_if, transparent_has_none}
use Rattle.plain_memory.proofs.along.mismatches.Goals as goal

pub pass-requires-clause-fits : goal.pass-requires-clause-fits
pass-requires-clause-fits c = fits_along c.args.script.now c.loop-entry.memory c.loop-entry.answered _ c.requires c.loop-entry.invariant.plain (thread_of c.entry-item.result.who)

pub loop-entry-preserved : goal.loop-entry-preserved
loop-entry-preserved c =
    let script = c.args.script.now in
    let before = take c.loop-entry.entry-index c.args.journal.now in
    let entry = c.entry-item.result in
    let known = c.loop-entry.invariant.plain in
    let next = passed script c.loop-entry.memory c.loop-entry.answered (plain_of script before) known c.pass.new.memory c.pass.new.answered entry c.in_ok-found.ensures.memory c.in_ok-found.ensures.answered in
    let more = mismatches_more script c.args.journal.now c.loop-entry.entry-index entry c.loop-entry-test.true c.entry-item.is in
    let count : Bool → ℕ = λ b. if b then 1 else 0 in
    let same : count c.in_ok-found.found ≡ mismatch_at script (plain_of script before) entry =
    ap count (c.in_ok-found.ensures.mismatch ∙ mismatch_same script c.loop-entry.memory c.loop-entry.answered (plain_of script before) known entry) in
    record {
      plain =
          subst (λ (p : Plain). IsPlain script c.pass.new.memory c.pass.new.answered p) (sym (plain_more script c.args.journal.now c.loop-entry.entry-index entry c.loop-entry-test.true c.entry-item.is)) next;
      few = λ t.
          let rise = risen_if (is_answer entry.kind) c.loop-entry.answered (thread_of entry.who) t in
          let had = c.loop-entry.invariant.few t in
          let now : get_or c.pass.new.answered t 0 ≤ get_or c.loop-entry.answered t 0 + 1 = rw c.in_ok-found.ensures.answered rise in
          omega (arith, now, had);
      counted = c.count_with-count.ensures.value ∙ (λ i. c.loop-entry.invariant.counted i + same i) ∙ sym more;
      short = omega (arith, c.count_with-count.ensures.most, c.loop-entry.invariant.short);
    }

pub returns-clause-transparent : goal.returns-clause-transparent
returns-clause-transparent c = λ h.
    let over : length c.args.journal.now ≤ c.loop-entry.entry-index = omega arith in
    let whole = take_all c.loop-entry.entry-index c.args.journal.now over in
    c.loop-entry.invariant.counted ∙ ap (λ (es : List Entry). mismatches_of c.args.script.now es) whole ∙ transparent_has_none c.args.script.now c.args.journal.now h
