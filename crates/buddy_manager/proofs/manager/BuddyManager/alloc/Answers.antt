use Rattle.std.proofs.Common.{◌≡◌, ℕ, ◌+◌, ◌||◌, List, length, ap, sym, subst, ◌∙◌, arith}
use Rattle.std.specs.List.{list_any}
use Rattle.ttm_base.specs.declared.Span.{Span}
use Rattle.ttm_base.specs.Holes.{has_page, is_free_beside}
use Rattle.block_tree.specs.FreeSet.{is_free}
use Rattle.buddy_manager.specs.Held.{Managed, held_from, with_blocks, without_all, pages_of, AreHeld}
use Rattle.buddy_manager.specs.Taking.{AreGiven, AreTaken, IsManaged, IsSame}
use Rattle.buddy_manager.proofs.TakingLaws.{given_back, given_now}
use Rattle.buddy_manager.proofs.ManagedLaws.{can_hold, can_hold_all, managed_same, managed_taken, taken_small}
use Rattle.buddy_manager.proofs.BackLaws.{taken_held, taken_back}
use Rattle.buddy_manager.proofs.EndLaws.{managed_ends}
use Rattle.buddy_manager.proofs.manager.BuddyManager.alloc.Goals as goal

pub hold-requires : goal.hold-requires
hold-requires c = record {
  taken = subst (AreTaken (is_free_beside (held_from 0 c.self.inside.ends)) (length c.self.inside.ends)) (sym c.items.ensures)
      (can_hold c.self.inside.free c.take_choice.new.free c.self.inside.ends c.self.inside.used c.take_choice.new.out c.self.invariant c.in_ok-take_choice.ensures.taken);
  apart = c.self.invariant.apart;
}

pub free_spans-requires : goal.free_spans-requires
free_spans-requires c =
    subst (AreGiven (is_free c.take_choice.new.free) (length c.take_choice.new.free)) (sym c.items-in_default.ensures)
    (given_now c.self.inside.free c.take_choice.new.free c.take_choice.new.out c.in_ok-take_choice.ensures.taken)

pub invariant_of-self-in_default : goal.invariant_of-self-in_default
invariant_of-self-in_default c =
    let same : IsSame c.self.inside.free c.free_spans.new.free
    = given_back c.self.inside.free c.take_choice.new.free c.free_spans.new.free c.take_choice.new.out c.in_ok-take_choice.ensures.taken c.free_spans.ensures.size
    (λ page. c.free_spans.ensures.freed page ∙ ap (λ bs. is_free c.take_choice.new.free page || list_any (has_page page) bs) c.items-in_default.ensures) in
    managed_ends c.free_spans.new.free c.self.inside.ends c.hold.new.ends c.self.inside.used
    (managed_same c.self.inside.free c.free_spans.new.free c.self.inside.ends c.self.inside.used c.self.invariant same) c.hold.ensures.len c.in_default.ensures.same

pub pages_of-requires : goal.pages_of-requires
pages_of-requires c =
    let s = taken_small c.self.inside.free c.take_choice.new.free c.self.inside.ends c.self.inside.used c.take_choice.new.out c.self.invariant c.in_ok-take_choice.ensures.taken in
    let e = ap pages_of c.items-2.ensures in
    omega (arith, s, e)

pub overflow_add-self : goal.overflow_add-self
overflow_add-self c =
    let s = taken_small c.self.inside.free c.take_choice.new.free c.self.inside.ends c.self.inside.used c.take_choice.new.out c.self.invariant c.in_ok-take_choice.ensures.taken in
    let e = c.pages_of.ensures ∙ ap pages_of c.items-2.ensures in
    omega (arith, s, e)

pub invariant_of-self-2 : goal.invariant_of-self-2
invariant_of-self-2 c =
    let held : held_from 0 c.hold.new.ends ≡ with_blocks c.take_choice.new.out (held_from 0 c.self.inside.ends) = c.in-Ok.ensures.held ∙ ap (λ bs. with_blocks bs (held_from 0 c.self.inside.ends)) c.items.ensures in
    let m = managed_taken c.self.inside.free c.take_choice.new.free c.self.inside.ends c.hold.new.ends c.self.inside.used c.take_choice.new.out c.self.invariant c.in_ok-take_choice.ensures.taken c.hold.ensures.len held in
    subst (λ n. IsManaged c.take_choice.new.free c.hold.new.ends (c.self.inside.used + n)) (sym (c.pages_of.ensures ∙ ap pages_of c.items-2.ensures)) m

pub returns-clause-free : goal.returns-clause-free
returns-clause-free c =
    subst (λ (m : Managed). AreTaken (is_free_beside m.held) m.size c.take_choice.new.out) c.self.view_is
    (can_hold_all c.self.inside.free c.self.inside.ends c.self.inside.used c.take_choice.new.out c.self.invariant (c.in_ok-take_choice.ensures.taken).each)

pub returns-clause-given : goal.returns-clause-given
returns-clause-given c =
    let held : held_from 0 c.hold.new.ends ≡ with_blocks c.take_choice.new.out (held_from 0 c.self.inside.ends) = c.in-Ok.ensures.held ∙ ap (λ bs. with_blocks bs (held_from 0 c.self.inside.ends)) c.items.ensures in
    let t = can_hold c.self.inside.free c.take_choice.new.free c.self.inside.ends c.self.inside.used c.take_choice.new.out c.self.invariant c.in_ok-take_choice.ensures.taken in
    subst (AreHeld c.take_choice.new.out) (sym held) (taken_held (is_free_beside (held_from 0 c.self.inside.ends)) (length c.self.inside.ends) c.take_choice.new.out (held_from 0 c.self.inside.ends) t (λ page e. e) c.self.invariant.apart)

pub returns-clause-back : goal.returns-clause-back
returns-clause-back c =
    let held : held_from 0 c.hold.new.ends ≡ with_blocks c.take_choice.new.out (held_from 0 c.self.inside.ends) = c.in-Ok.ensures.held ∙ ap (λ bs. with_blocks bs (held_from 0 c.self.inside.ends)) c.items.ensures in
    let t = can_hold c.self.inside.free c.take_choice.new.free c.self.inside.ends c.self.inside.used c.take_choice.new.out c.self.invariant c.in_ok-take_choice.ensures.taken in
    ap (without_all c.take_choice.new.out) held
    ∙ taken_back (is_free_beside (held_from 0 c.self.inside.ends)) (length c.self.inside.ends) c.take_choice.new.out (held_from 0 c.self.inside.ends) t (λ page e. e) c.self.invariant.apart
    ∙ ap (λ (m : Managed). m.held) c.self.view_is
