use Rattle.std.proofs.Common.{◌≡◌, ◌++◌, ◌∙◌, ap, sym, arith, Some, None}
use Rattle.std.specs.Prelude.{map, filter, option_map}
use Rattle.journal_model.specs.marks.Spaces.{does_meet}
use Rattle.gpu_spaces.specs.Kept.{regions_in, region_at, region_of}
use Rattle.gpu_spaces.proofs.Buffers.{buffers_met}
use Rattle.gpu_spaces.proofs.Changing.{having}
use Rattle.gpu_spaces.proofs.Meeting.{around_parts, not_gt, meeting_from, meeting_at, is_within}
use Rattle.gpu_spaces.proofs.apart.push_buffers.Goals as goal
use Rattle.gpu_spaces.proofs.apart.push_buffers.Goals.{in-Some, in-None}

pub range-rest-items-requires : goal.range-rest-items-requires
range-rest-items-requires c = elim c.match-around.branch [
  | in-Some w ↦
      let parts = around_parts c.args.range.start (regions_in c.args.mappings.now) c.around.result w.in-Some.mapping c.around.ensures w.in-Some.is in
      let l = parts.0 in
      not_gt c.match-around.first c.args.range.end (omega (arith, l, w.first-is, c.requires.some))
  | in-None w ↦ not_gt c.match-around.first c.args.range.end (omega (arith, w.first-is, c.requires.some))
]

pub loop-rest-init : goal.loop-rest-init
loop-rest-init c =
    let range = c.args.range in
    let es = c.args.mappings.now.entries in
    let rs = regions_in c.args.mappings.now in
    let first = c.match-around.first in
    let met : filter (does_meet range) rs ≡ map region_at (filter (is_within first range) es) = elim c.match-around.branch [
      | in-Some w ↦
          let has : having range.start rs ≡ Some (region_of w.in-Some.mapping) = sym c.around.ensures ∙ ap (option_map region_of) w.in-Some.is in
          meeting_from range (region_of w.in-Some.mapping) es c.requires.some c.requires.rising has
          ∙ ap (λ f. map region_at (filter (is_within f range) es)) (sym w.first-is)
      | in-None w ↦
          let has : having range.start rs ≡ None = sym c.around.ensures ∙ ap (option_map region_of) w.in-None.is in
          meeting_at range es c.requires.some c.requires.rising has
          ∙ ap (λ f. map region_at (filter (is_within f range) es)) (sym w.first-is)
    ] in
    ap (λ xs. c.args.out.now ++ xs)
    (buffers_met range first es c.into_iter-rest-iterator.result (c.into_iter-rest-iterator.ensures.into_iter_gives ∙ c.range-rest-items.ensures.between tt) met)
