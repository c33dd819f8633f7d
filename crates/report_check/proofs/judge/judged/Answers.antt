use Rattle.std.proofs.Common.{◌≡◌, ◌∙◌, ◌^◌, ◌<◌, length, Some, refl, sym, subst, arith}
use Rattle.std.specs.Prelude.{IfSome, slice_get, take}
use Rattle.std.proofs.lemmas.Option.{slice_get_read}
use Rattle.laws.proofs.law_state.Rules.{rules_of}
use Rattle.journal_model.specs.rules.Legal.{World}
use Rattle.rules_holds.specs.Free.{AreFree}
use Rattle.rules_stores.specs.Kept.{bytes_of}
use Rattle.plain_device.specs.Held.{IsHeld}
use Rattle.plain_device.proofs.EnactLaws.{can_store}
use Rattle.report_check.specs.Judged.{IsJudged}
use Rattle.report_check.proofs.ReplayLaws.{room, ready, one_owner, held_next, bad_at, legal_to}
use Rattle.report_check.proofs.judge.judged.Goals as goal

pub loop-at-init : goal.loop-at-init
loop-at-init c = record { held = c.requires; kept = tt }

pub free_before-requires : goal.free_before-requires
free_before-requires c = c.loop-at.invariant.kept

pub broken_rule-requires-clause-room : goal.broken_rule-requires-clause-room
broken_rule-requires-clause-room c =
    let less : c.loop-at.at < length c.args.journal.now = omega arith in
    let most : length c.args.journal.now < 2 ^ 64 = omega arith in
    room c.args.script.now c.args.journal.now c.loop-at.at c.loop-at.state c.loop-at.stores c.loop-at.invariant.held less most

pub broken_rule-requires-clause-free : goal.broken_rule-requires-clause-free
broken_rule-requires-clause-free c = subst (λ o. IfSome o (AreFree c.args.script.now c.loop-at.state.core)) (sym c.as_ref.ensures.value) c.in_ok-free.ensures

pub returns-in-Some : goal.returns-in-Some
returns-in-Some c =
    let less : c.loop-at.at < length c.args.journal.now = omega arith in
    let e = c.index-journal-at.result in
    let w : World = record { state = c.loop-at.state; stores = bytes_of c.loop-at.stores } in
    let there : slice_get c.args.journal.now c.loop-at.at ≡ Some e = slice_get_read c.args.journal.now (length c.args.journal.now) c.loop-at.at e refl less c.index-journal-at.is in
    bad_at c.args.script.now c.args.journal.now c.loop-at.at c.loop-at.state c.loop-at.stores c.loop-at.invariant.held e _ c.in-Some.rule there refl
    (subst (IsJudged c.args.script.now w e) c.in-Some.is c.in_ok-rule.ensures)

pub enact-requires-clause-ready : goal.enact-requires-clause-ready
enact-requires-clause-ready c =
    let less : c.loop-at.at < length c.args.journal.now = omega arith in
    let most : length c.args.journal.now < 2 ^ 64 = omega arith in
    let e = c.index-journal-at.result in
    let w : World = record { state = c.loop-at.state; stores = bytes_of c.loop-at.stores } in
    ready c.args.script.now c.args.journal.now c.loop-at.at c.loop-at.state c.loop-at.stores c.loop-at.invariant.held less most e
    (subst (IsJudged c.args.script.now w e) c.in_default.is c.in_ok-rule.ensures)

pub enact-requires-clause-short : goal.enact-requires-clause-short
enact-requires-clause-short c = can_store c.args.script.now (rules_of c.args.script.now c.requires.fits) c.loop-at.state c.index-journal-at.result.who c.index-journal-at.result.kind

pub loop-at-preserved : goal.loop-at-preserved
loop-at-preserved c =
    let less : c.loop-at.at < length c.args.journal.now = omega arith in
    let e = c.index-journal-at.result in
    let w : World = record { state = c.loop-at.state; stores = bytes_of c.loop-at.stores } in
    let there : slice_get c.args.journal.now c.loop-at.at ≡ Some e = slice_get_read c.args.journal.now (length c.args.journal.now) c.loop-at.at e refl less c.index-journal-at.is in
    let owner = one_owner c.args.script.now c.args.journal.now c.loop-at.at c.loop-at.state c.loop-at.stores c.loop-at.invariant.held in
    record {
      held =
          held_next c.args.script.now c.args.journal.now c.loop-at.at c.loop-at.state c.loop-at.stores c.loop-at.invariant.held e c.enact.new.state c.enact.new.stores there
          (subst (IsJudged c.args.script.now w e) c.in_default.is c.in_ok-rule.ensures) c.in_ok-enact.ensures.state c.in_ok-enact.ensures.bytes;
      kept =
          subst (λ s. IfSome c.free_after-kept.result (AreFree c.args.script.now s.core)) (sym c.in_ok-enact.ensures.state)
          (c.free_after-kept.ensures c.args.script.now owner c.in_ok-free.ensures);
    }

pub returns-then-is_over : goal.returns-then-is_over
returns-then-is_over c =
    let end : c.loop-at.at ≡ length c.args.journal.now = omega arith in
    let held = subst (λ n. IsHeld c.args.script.now (take n c.args.journal.now) c.loop-at.state c.loop-at.stores.sizes (bytes_of c.loop-at.stores)) end c.loop-at.invariant.held in
    let to = legal_to c.args.script.now c.args.journal.now c.loop-at.state c.loop-at.stores held in
    (to.0, sym to.1 ∙ sym c.is_over.ensures ∙ c.if-is_over.true)

pub returns : goal.returns
returns c =
    let end : c.loop-at.at ≡ length c.args.journal.now = omega arith in
    let held = subst (λ n. IsHeld c.args.script.now (take n c.args.journal.now) c.loop-at.state c.loop-at.stores.sizes (bytes_of c.loop-at.stores)) end c.loop-at.invariant.held in
    let to = legal_to c.args.script.now c.args.journal.now c.loop-at.state c.loop-at.stores held in
    (to.0, sym to.1 ∙ sym c.is_over.ensures ∙ c.if-is_over.false)
