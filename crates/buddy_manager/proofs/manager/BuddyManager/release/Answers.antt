use Rattle.std.proofs.Common.{◌≡◌, ◌-◌, ◌||◌, drop, length, ap, sym, subst, ◌∙◌, arith}
use Rattle.std.specs.List.{list_any}
use Rattle.ttm_base.specs.Holes.{has_page}
use Rattle.block_tree.specs.FreeSet.{is_free}
use Rattle.buddy_manager.specs.Held.{Managed, held_from, without_all, pages_of, AreHeld}
use Rattle.buddy_manager.specs.Taking.{AreGiven, IsManaged}
use Rattle.buddy_manager.proofs.ManagedLaws.{managed_released, released_used, can_give_all, used_within}
use Rattle.buddy_manager.proofs.manager.BuddyManager.release.Goals as goal
use Rattle.buddy_manager.proofs.manager.BuddyManager.release.Goals.{After-self}

held : (c : After-self) → AreHeld c.args.spans.now (held_from 0 c.self.inside.ends)
held c = subst (AreHeld c.args.spans.now) (sym (ap (λ (m : Managed). m.held) c.self.view_is)) c.requires

pub free_spans-requires : goal.free_spans-requires
free_spans-requires c =
    subst (AreGiven (is_free c.self.inside.free) (length c.self.inside.free)) (sym c.items-2.ensures)
    (can_give_all c.self.inside.free c.self.inside.ends c.self.inside.used c.args.spans.now c.self.invariant (held (goal.at.free_spans-requires c).After-self))

pub pages_of-requires : goal.pages_of-requires
pages_of-requires c =
    let u = released_used c.self.inside.free c.self.inside.ends c.self.inside.used c.args.spans.now c.self.invariant (held (goal.at.pages_of-requires c).After-self) in
    let w = used_within c.self.inside.free c.self.inside.ends c.self.inside.used c.self.invariant in
    let s = c.self.invariant.small in
    let e = ap pages_of c.items-3.ensures in
    omega (arith, u, w, s, e)

pub overflow_sub-self : goal.overflow_sub-self
overflow_sub-self c =
    let u = released_used c.self.inside.free c.self.inside.ends c.self.inside.used c.args.spans.now c.self.invariant (held (goal.at.overflow_sub-self c).After-self) in
    let e = c.pages_of.ensures ∙ ap pages_of c.items-3.ensures in
    omega (arith, u, e)

pub invariant_of-self : goal.invariant_of-self
invariant_of-self c =
    let gone : held_from 0 c.let_go.new.ends ≡ without_all c.args.spans.now (held_from 0 c.self.inside.ends)
    = c.let_go.ensures.held ∙ ap (λ bs. without_all bs (held_from 0 c.self.inside.ends)) c.items.ensures in
    let m = managed_released c.self.inside.free c.free_spans.new.free c.self.inside.ends c.let_go.new.ends c.self.inside.used c.args.spans.now c.self.invariant (held (goal.at.invariant_of-self c).After-self) c.let_go.ensures.len gone c.free_spans.ensures.size
    (λ page. c.free_spans.ensures.freed page ∙ ap (λ bs. is_free c.self.inside.free page || list_any (has_page page) bs) c.items-2.ensures) in
    subst (λ n. IsManaged c.free_spans.new.free c.let_go.new.ends (c.self.inside.used - n)) (sym (c.pages_of.ensures ∙ ap pages_of c.items-3.ensures)) m
