use Rattle.std.proofs.Common.{◌<◌, length, refl, ap, sym, subst, ◌∙◌, arith}
use Rattle.ttm_base.specs.Holes.{is_free_beside}
use Rattle.buddy_manager.specs.Taking.{AreTaken}
use Rattle.range_manager.specs.Held.{Managed}
use Rattle.resource_core.proofs.HoldLaws.{held_next, first_apart, first_held, first_undone}
use Rattle.resource_core.proofs.range.RangeManagerSpanManager.hold.Goals as goal

pub loop-done-preserved : goal.loop-done-preserved
loop-done-preserved c =
    let t = subst (AreTaken (is_free_beside c.args.self.now.held) c.args.self.now.size) (sym c.items-spans.ensures) c.requires.free in
    let lt : c.loop-done.done < length c.items-spans.result.now = omega arith in
    record {
      size = c.reserve.ensures.size ∙ c.loop-done.invariant.size;
      held = held_next c.args.self.now.size c.items-spans.result.now c.args.self.now.held c.loop-done.done c.loop-done.self.held t c.loop-done.invariant.held (record { start = 0; end = 0 }) c.reserve.new.self.held lt c.in-Ok.ensures.held;
    }

pub let_go-requires-clause-apart : goal.let_go-requires-clause-apart
let_go-requires-clause-apart c =
    let t = subst (AreTaken (is_free_beside c.args.self.now.held) c.args.self.now.size) (sym c.items-spans.ensures) c.requires.free in
    let h = ap (λ (m : Managed). m.held) c.in-Err.ensures.same ∙ c.loop-done.invariant.held in
    first_apart c.args.self.now.size c.items-spans.result.now c.args.self.now.held c.loop-done.done c.reserve.new.self.held t h c.requires.apart c.requires.within

pub let_go-requires-clause-held : goal.let_go-requires-clause-held
let_go-requires-clause-held c =
    let t = subst (AreTaken (is_free_beside c.args.self.now.held) c.args.self.now.size) (sym c.items-spans.ensures) c.requires.free in
    let h = ap (λ (m : Managed). m.held) c.in-Err.ensures.same ∙ c.loop-done.invariant.held in
    first_held c.args.self.now.size c.items-spans.result.now c.args.self.now.held c.loop-done.done c.reserve.new.self.held t h _ refl c.requires.apart c.requires.within

pub returns-in-Err-clause-err : goal.returns-in-Err-clause-err
returns-in-Err-clause-err c =
    let t = subst (AreTaken (is_free_beside c.args.self.now.held) c.args.self.now.size) (sym c.items-spans.ensures) c.requires.free in
    let h = ap (λ (m : Managed). m.held) c.in-Err.ensures.same ∙ c.loop-done.invariant.held in
    first_undone c.args.self.now.size c.items-spans.result.now c.args.self.now.held c.loop-done.done c.reserve.new.self.held t h _ c.let_go.new.manager.held refl c.let_go.ensures.held c.requires.apart c.requires.within
