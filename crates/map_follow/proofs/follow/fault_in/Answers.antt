use Rattle.std.proofs.Common.{ℕ, ◌∙◌, sym, ap, arith}
use Rattle.std.specs.Prelude.{Option}
use Rattle.ttm_base.specs.declared.PagePlace.{PagePlace}
use Rattle.map_follow.specs.Founds.{place_of, with_page}
use Rattle.map_follow.proofs.Pages.{found_ends, found_next}
use Rattle.map_follow.proofs.follow.fault_in.Goals as goal
use Rattle.map_follow.proofs.follow.fault_in.Goals.{in-Some, in_default}

pub loop-page-preserved : goal.loop-page-preserved
loop-page-preserved c =
    let place : ℕ → Option PagePlace = place_of c.args.mem c.args.spans.now c.args.table.now in
    let go = found_next c.args.found.thread c.args.found.pages.b place c.loop-page.maps c.match-place_of.maps c.loop-page.page c.args.found.pages.end (omega arith) in
    elim c.match-place_of.branch [
      | in-Some w ↦
          go (w.maps-is ∙ w.fault_in.ensures ∙ ap (λ o. with_page c.args.found.thread c.args.found.pages.b c.loop-page.page o c.loop-page.maps) (sym w.in-Some.is ∙ c.place_of.ensures))
          ∙ c.loop-page.invariant
      | in_default w ↦
          go (w.maps-is ∙ ap (λ o. with_page c.args.found.thread c.args.found.pages.b c.loop-page.page o c.loop-page.maps) (sym w.in_default.is ∙ c.place_of.ensures))
          ∙ c.loop-page.invariant
    ]

pub returns : goal.returns
returns c =
    sym (found_ends c.args.found.thread c.args.found.pages.b (place_of c.args.mem c.args.spans.now c.args.table.now) c.loop-page.maps c.loop-page.maps c.loop-page.page c.args.found.pages.end (omega arith))
    ∙ c.loop-page.invariant
