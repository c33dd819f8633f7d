use Rattle.std.proofs.Common.{◌≡◌, ◌≤◌, ◌+◌, ◌-◌, true, drop, length, ap, sym, subst, ◌∙◌, arith}
use Rattle.ttm_base.specs.declared.Span.{Span}
use Rattle.buddy_manager.specs.Held.{Managed, held_from, with_block, without, is_held}
use Rattle.buddy_manager.specs.Taking.{IsManaged}
use Rattle.buddy_manager.proofs.HeldLaws.{has_parts, has_from}
use Rattle.buddy_manager.proofs.ManagedLaws.{managed_trimmed, trimmed_used, held_not, held_within}
use Rattle.buddy_manager.proofs.manager.BuddyManager.trim.Goals as goal
use Rattle.buddy_manager.proofs.manager.BuddyManager.trim.Goals.{After-self}

held : (c : After-self) → is_held c.args.span (held_from 0 c.self.inside.ends) ≡ true
held c = ap (λ (m : Managed). is_held c.args.span m.held) c.self.view_is ∙ c.requires.held

pub cut-requires : goal.cut-requires
cut-requires c =
    record {
      held = held (goal.at.cut-requires c).After-self;
      some = c.requires.some;
      most = let k = c.requires.most in let s = c.requires.some in omega (arith, k, s);
    }

pub give-requires : goal.give-requires
give-requires c =
    let is = held (goal.at.give-requires c).After-self in
    record {
      end = held_within c.self.inside.free c.self.inside.ends c.self.inside.used c.args.span c.self.invariant is;
      held = λ page t.
          let rest : Span = record { start = c.args.span.start + c.args.keep; end = c.args.span.end } in
          let p = has_parts page rest t in
          let l = p.0 in
          held_not c.self.inside.free c.self.inside.ends c.self.inside.used c.args.span page c.self.invariant is (has_from page c.args.span (omega (arith, l)) p.1);
    }

pub overflow_sub-self-2 : goal.overflow_sub-self-2
overflow_sub-self-2 c = trimmed_used c.self.inside.free c.self.inside.ends c.self.inside.used c.args.span c.args.keep c.self.invariant (held (goal.at.overflow_sub-self-2 c).After-self)

pub invariant_of-self : goal.invariant_of-self
invariant_of-self c =
    let most : c.args.span.start + c.args.keep ≤ c.args.span.end = let k = c.requires.most in let s = c.requires.some in omega (arith, k, s) in
    managed_trimmed c.self.inside.free c.give.new.self c.self.inside.ends c.cut.new.ends c.self.inside.used c.args.span c.args.keep c.self.invariant (held (goal.at.invariant_of-self c).After-self) c.requires.some most c.cut.ensures.len c.cut.ensures.held c.give.ensures.size c.give.ensures.marked
