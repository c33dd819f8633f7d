use Rattle.std.proofs.Common.{◌≡◌, ◌+◌, length, ap, sym, subst, ◌∙◌, arith}
use Rattle.ttm_base.specs.Holes.{is_free_beside}
use Rattle.block_tree.specs.FreeSet.{is_free}
use Rattle.buddy_manager.specs.Held.{Managed, held_from, with_blocks, pages_of}
use Rattle.buddy_manager.specs.Taking.{AreTaken, IsManaged, IsTakenBy}
use Rattle.buddy_manager.proofs.ManagedLaws.{can_hold, can_take_all_of, managed_taken, taken_small}
use Rattle.buddy_manager.proofs.EndLaws.{managed_ends}
use Rattle.buddy_manager.proofs.manager.BuddyManager.hold.Goals as goal
use Rattle.buddy_manager.proofs.manager.BuddyManager.hold.Goals.{After-self, After-take_spans}

free : (c : After-self) → AreTaken (is_free_beside (held_from 0 c.self.inside.ends)) (length c.self.inside.free) c.args.spans.now
free c = subst (λ (m : Managed). AreTaken (is_free_beside m.held) m.size c.args.spans.now) (sym c.self.view_is) c.requires

taken : (c : After-take_spans) → IsTakenBy c.self.inside.free c.args.spans.now c.take_spans.new.free
taken c = subst (λ bs. IsTakenBy c.self.inside.free bs c.take_spans.new.free) c.items-2.ensures c.take_spans.ensures

pub hold-requires : goal.hold-requires
hold-requires c = record {
  taken = subst (AreTaken (is_free_beside (held_from 0 c.self.inside.ends)) (length c.self.inside.ends)) (sym c.items.ensures)
      (subst (λ n. AreTaken (is_free_beside (held_from 0 c.self.inside.ends)) n c.args.spans.now) (sym c.self.invariant.size) (free (goal.at.hold-requires c).After-self));
  apart = c.self.invariant.apart;
}

pub take_spans-requires : goal.take_spans-requires
take_spans-requires c =
    subst (AreTaken (is_free c.self.inside.free) (length c.self.inside.free)) (sym c.items-2.ensures)
    (can_take_all_of c.self.inside.free c.self.inside.ends c.self.inside.used c.args.spans.now c.self.invariant (free (goal.at.take_spans-requires c).After-self))

pub pages_of-requires : goal.pages_of-requires
pages_of-requires c =
    let s = taken_small c.self.inside.free c.take_spans.new.free c.self.inside.ends c.self.inside.used c.args.spans.now c.self.invariant (taken (goal.at.pages_of-requires c).After-take_spans) in
    let e = ap pages_of c.items-3.ensures in
    omega (arith, s, e)

pub overflow_add-self : goal.overflow_add-self
overflow_add-self c =
    let s = taken_small c.self.inside.free c.take_spans.new.free c.self.inside.ends c.self.inside.used c.args.spans.now c.self.invariant (taken (goal.at.overflow_add-self c).After-take_spans) in
    let e = c.pages_of.ensures ∙ ap pages_of c.items-3.ensures in
    omega (arith, s, e)

pub invariant_of-self : goal.invariant_of-self
invariant_of-self c = managed_ends c.self.inside.free c.self.inside.ends c.hold.new.ends c.self.inside.used c.self.invariant c.hold.ensures.len c.in_err-hold.ensures.same

pub invariant_of-self-2 : goal.invariant_of-self-2
invariant_of-self-2 c =
    let held : held_from 0 c.hold.new.ends ≡ with_blocks c.args.spans.now (held_from 0 c.self.inside.ends) = c.in_ok-hold.ensures.held ∙ ap (λ bs. with_blocks bs (held_from 0 c.self.inside.ends)) c.items.ensures in
    let m = managed_taken c.self.inside.free c.take_spans.new.free c.self.inside.ends c.hold.new.ends c.self.inside.used c.args.spans.now c.self.invariant (taken (goal.at.invariant_of-self-2 c).After-take_spans) c.hold.ensures.len held in
    subst (λ n. IsManaged c.take_spans.new.free c.hold.new.ends (c.self.inside.used + n)) (sym (c.pages_of.ensures ∙ ap pages_of c.items-3.ensures)) m
