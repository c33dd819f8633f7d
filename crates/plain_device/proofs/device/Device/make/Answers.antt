use Rattle.std.proofs.Common.{◌≡◌, ◌+◌, ◌^◌, ◌<◌, length, Ok, sym, ◌∙◌, subst}
use Rattle.journal_model.specs.rules.Apply.{apply}
use Rattle.journal_model.specs.rules.Stores.{stores_after}
use Rattle.rules_stores.specs.Kept.{BecomesBytes, bytes_of}
use Rattle.laws.proofs.law_state.Rules.{rules_of}
use Rattle.plain_device.specs.Kept.{entry_of}
use Rattle.plain_device.proofs.EnactLaws.{can_store, of_ok, of_err}
use Rattle.plain_device.proofs.DeviceLaws.{pushed_ready, held_same, held_more}
use Rattle.plain_device.proofs.device.Device.make.Goals as goal

pub enact-made-requires-clause-ready : goal.enact-made-requires-clause-ready
enact-made-requires-clause-ready c =
    pushed_ready c.self.inside.script c.self.inside.journal c.self.inside.state c.self.inside.stores c.self.invariant
    (subst (λ k. length k.journal + 1 < 2 ^ 64) (sym c.self.view_is) c.requires.short)
    c.len-at.result c.push.new.self c.args.entry c.get.result.now c.len-at.ensures c.in_ok-push.ensures.ok c.get.ensures
    (subst (λ k. entry_of k c.args.entry.who ≡ Ok c.args.entry) (sym c.self.view_is) c.requires.next)

pub enact-made-requires-clause-short : goal.enact-made-requires-clause-short
enact-made-requires-clause-short c = can_store c.self.inside.script (rules_of c.self.inside.script c.self.invariant.fits) c.self.inside.state c.get.result.now.who c.get.result.now.kind

pub invariant_of-self-then-is_err : goal.invariant_of-self-then-is_err
invariant_of-self-then-is_err c =
    held_same c.self.inside.script c.self.inside.journal c.self.inside.state c.self.inside.stores c.self.invariant
    c.len-at.result c.push.new.self c.remove.new.self c.args.entry c.enact-made.new.state c.enact-made.new.stores c.len-at.ensures c.in_ok-push.ensures.ok c.remove.ensures.left
    (of_err ((c.enact-made.new.state ≡ c.self.inside.state) × BecomesBytes c.self.inside.stores c.enact-made.new.stores (bytes_of c.self.inside.stores)) c.enact-made.result (sym c.is_err.ensures.value ∙ c.if-is_err.true) c.enact-made.ensures.err)

pub invariant_of-self-else-is_err : goal.invariant_of-self-else-is_err
invariant_of-self-else-is_err c =
    held_more c.self.inside.script c.self.inside.journal c.self.inside.state c.self.inside.stores c.self.invariant
    c.len-at.result c.push.new.self c.args.entry c.get.result.now c.enact-made.new.state c.enact-made.new.stores c.len-at.ensures c.in_ok-push.ensures.ok c.get.ensures
    (subst (λ k. entry_of k c.args.entry.who ≡ Ok c.args.entry) (sym c.self.view_is) c.requires.next)
    (of_ok (c.enact-made.new.state ≡ apply c.self.inside.script c.self.inside.state c.get.result.now) c.enact-made.result (sym c.is_err.ensures.value ∙ c.if-is_err.false) c.enact-made.ensures.state)
    (of_ok (BecomesBytes c.self.inside.stores c.enact-made.new.stores (stores_after c.self.inside.script c.self.inside.state c.get.result.now.who c.get.result.now.kind (bytes_of c.self.inside.stores))) c.enact-made.result (sym c.is_err.ensures.value ∙ c.if-is_err.false) c.enact-made.ensures.bytes)
