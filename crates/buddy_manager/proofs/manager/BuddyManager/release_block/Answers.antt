use Rattle.std.proofs.Common.{◌≡◌, ◌-◌, ◌||◌, false, [], ◌∷◌, true, length, length-set, set, ap, sym, subst, ◌∙◌, arith, refl}
use Rattle.std.specs.List.{list_any}
use Rattle.ttm_base.specs.Holes.{has_page}
use Rattle.ttm_base.specs.Reach.{length_of}
use Rattle.block_tree.specs.FreeSet.{is_free}
use Rattle.buddy_manager.specs.Held.{Managed, held_from, without, is_held}
use Rattle.buddy_manager.specs.Taking.{IsManaged}
use Rattle.buddy_manager.proofs.ManagedLaws.{managed_gone, held_at, held_not, held_within, released_used, let_go_one}
use Rattle.buddy_manager.proofs.manager.BuddyManager.release_block.Goals as goal
use Rattle.buddy_manager.proofs.manager.BuddyManager.release_block.Goals.{After-self}

held : (c : After-self) → is_held c.args.block (held_from 0 c.self.inside.ends) ≡ true
held c = ap (λ (m : Managed). is_held c.args.block m.held) c.self.view_is ∙ c.requires

pub replace-requires : goal.replace-requires
replace-requires c =
    let a = held_at c.self.inside.ends c.args.block (held (goal.at.replace-requires c).After-self) in
    let e = a.end in
    let s = a.some in
    omega (arith, e, s)

pub give-requires : goal.give-requires
give-requires c =
    let is = held (goal.at.give-requires c).After-self in
    record {
      end = held_within c.self.inside.free c.self.inside.ends c.self.inside.used c.args.block c.self.invariant is;
      held = λ page t. held_not c.self.inside.free c.self.inside.ends c.self.inside.used c.args.block page c.self.invariant is t;
    }

pub overflow_sub-self : goal.overflow_sub-self
overflow_sub-self c = let s = (held_at c.self.inside.ends c.args.block (held (goal.at.overflow_sub-self c).After-self)).some in omega (arith, s)

pub overflow_sub-self-2 : goal.overflow_sub-self-2
overflow_sub-self-2 c = let u = released_used c.self.inside.free c.self.inside.ends c.self.inside.used (c.args.block ∷ []) c.self.invariant (held (goal.at.overflow_sub-self-2 c).After-self, tt) in omega (arith, u)

pub invariant_of-self : goal.invariant_of-self
invariant_of-self c =
    subst (λ es. IsManaged c.give.new.self es (c.self.inside.used - (c.args.block.end - c.args.block.start))) (sym c.replace.ensures)
    (managed_gone c.self.inside.free c.give.new.self c.self.inside.ends c.self.inside.used c.args.block c.self.invariant (held (goal.at.invariant_of-self c).After-self) c.give.ensures.size c.give.ensures.marked)

pub returns-clause-held : goal.returns-clause-held
returns-clause-held c =
    ap (held_from 0) c.replace.ensures ∙ let_go_one c.self.inside.ends c.args.block (held (goal.at.returns-clause-held c).After-self)
    ∙ ap (λ (m : Managed). without c.args.block m.held) c.self.view_is
