use Rattle.std.proofs.Common.{◌≡◌, ◌∙◌, subst, IfSome}
use Rattle.std.proofs.lemmas.List.Elements.{All-pop}
use Rattle.turn_lock.specs.Turning.{IsFree}
use Rattle.turn_lock.proofs.Onward.{onward_self, onward_trans, onward_joined}
use Rattle.worker_pool.proofs.crowd.joined_by.Goals as goal

pub join-requires-clause-own : goal.join-requires-clause-own
join-requires-clause-own g c = let a = All-pop (λ b. b.1.table_id ≡ c.args.turns.now.table.shared.table_id) c.loop-back.backs.items c.pop.new.self.items c.pop.result c.pop.ensures.items c.loop-back.invariant.own in
    (c.loop-back.invariant.onward.same.0 ∙ c.requires.own, subst (λ r. IfSome r (λ b. b.1.table_id ≡ c.args.turns.now.table.shared.table_id)) c.in-Some.is a.1)

pub join-requires-clause-free : goal.join-requires-clause-free
join-requires-clause-free g c = let a = All-pop (λ b. IsFree b.1) c.loop-back.backs.items c.pop.new.self.items c.pop.result c.pop.ensures.items c.loop-back.invariant.free in
    (c.loop-back.invariant.onward.free, subst (λ r. IfSome r (λ b. IsFree b.1)) c.in-Some.is a.1)

pub loop-back-init : goal.loop-back-init
loop-back-init g c = record { onward = onward_self c.args.pass.now c.requires.free; own = c.requires.backs_own; free = c.requires.backs_free }

pub loop-back-preserved : goal.loop-back-preserved
loop-back-preserved g c = record {
  onward = onward_trans c.args.pass.now c.loop-back.pass c.join.new.pass c.loop-back.invariant.onward
      (onward_joined c.loop-back.pass c.join.new.pass c.in-Some.back.1.me.0 c.loop-back.invariant.onward.free c.join.ensures.same.0 c.join.ensures.same.1 c.join.ensures.seen.0);
  own = (All-pop (λ b. b.1.table_id ≡ c.args.turns.now.table.shared.table_id) c.loop-back.backs.items c.pop.new.self.items c.pop.result c.pop.ensures.items c.loop-back.invariant.own).0;
  free = (All-pop (λ b. IsFree b.1) c.loop-back.backs.items c.pop.new.self.items c.pop.result c.pop.ensures.items c.loop-back.invariant.free).0;
}
