use Rattle.std.proofs.Common.{◌∙◌, ap, Some}
use Rattle.bo_table.specs.Seen.{with_changed}
use Rattle.journal_model.specs.rules.ApplyPages.{with_spans}
use Rattle.room_parts.proofs.Taken.{take_there, take_vram, take_tt, take_joins, take_held}
use Rattle.room_parts.proofs.targets.take.Goals as goal

pub hold_target-requires-clause-vram : goal.hold_target-requires-clause-vram
hold_target-requires-clause-vram g c = take_vram g.w.script g.w.before c.args.parts.now g.w.entry c.args.thread c.args.b c.args.mem c.args.spans.now c.requires.0 c.requires.1.0 c.requires.1.1

pub hold_target-requires-clause-tt : goal.hold_target-requires-clause-tt
hold_target-requires-clause-tt g c = take_tt g.w.script g.w.before c.args.parts.now g.w.entry c.args.thread c.args.b c.args.mem c.args.spans.now c.requires.0 c.requires.1.0 c.requires.1.1

pub add_move_fence-requires : goal.add_move_fence-requires
add_move_fence-requires g c = take_joins g.w.script g.w.before c.args.parts.now g.w.entry c.args.thread c.args.b c.args.mem c.args.spans.now c.requires.0 c.requires.1.0 c.requires.1.1 c.hold_target.new.vram c.set_target.new.self _ c.in_ok-hold_target.ensures.vram (c.set_target.ensures ∙ ap (λ l. with_changed (with_spans c.args.mem (Some l)) c.args.parts.now.bos c.args.b) c.in_ok-target.ensures) c.move_fence-fence.ensures

pub end_search-requires : goal.end_search-requires
end_search-requires g c = take_there g.w.script g.w.before c.args.parts.now g.w.entry c.args.thread c.args.b c.args.mem c.args.spans.now c.requires.0 c.requires.1.0 c.requires.1.1

pub returns-clause-ok : goal.returns-clause-ok
returns-clause-ok g c =
    take_held g.w.script g.w.before c.args.parts.now g.w.entry c.args.thread c.args.b c.args.mem c.args.spans.now c.requires.0 c.requires.1.0 c.requires.1.1 c.hold_target.new.vram c.hold_target.new.tt c.set_target.new.self c.add_move_fence.new.bos _ c.end_search.new.courses c.in_ok-hold_target.ensures.vram c.in_ok-hold_target.ensures.rule c.in_ok-hold_target.ensures.tt
    (c.set_target.ensures ∙ ap (λ l. with_changed (with_spans c.args.mem (Some l)) c.args.parts.now.bos c.args.b) c.in_ok-target.ensures) c.move_fence-fence.ensures c.add_move_fence.ensures c.end_search.ensures
