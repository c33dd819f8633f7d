use Rattle.std.proofs.Common.{◌≡◌, ◌+◌, ◌-◌, ◌≤◌, false, List, length, get_or, drop, ap, sym, ◌∙◌, arith}
use Rattle.std.proofs.lemmas.Grind.{common_steps}
use Rattle.std.proofs.lemmas.List.{take_all}
use Rattle.ttm_base.specs.declared.Span.{Span}
use Rattle.buddy_manager.specs.Held.{held_from, is_held, all_held}
use Rattle.buddy_manager.proofs.ManagedLaws.{next_of}
use Rattle.buddy_manager.proofs.EndLaws.{all_but_first}
use Rattle.buddy_manager.proofs.ends.are_held.Goals as goal

pub loop-i-preserved : goal.loop-i-preserved
loop-i-preserved c =
    let b : Span = get_or c.args.blocks.now c.loop-i.i (record { start = 0; end = 0 }) in
    let rest : List Span = drop (c.loop-i.i + 1) c.args.blocks.now in
    let all : length rest ≤ length c.args.blocks.now - (c.loop-i.i + 1) = let l : length rest ≡ length c.args.blocks.now - (c.loop-i.i + 1) = grind (arith, common_steps) in omega (arith, l) in
    let again : is_held b rest ≡ false = ap (is_held b) (sym (take_all (length c.args.blocks.now - (c.loop-i.i + 1)) rest all)) ∙ sym c.is_among.ensures ∙ c.if-is_among.false in
    sym (all_but_first b rest (held_from 0 c.args.ends.now) again (sym c.is_held.ensures ∙ c.if-not-is_held.false))
    ∙ ap (λ bs. all_held bs (held_from 0 c.args.ends.now)) (sym (next_of c.args.blocks.now c.loop-i.i (omega arith))) ∙ c.loop-i.invariant
