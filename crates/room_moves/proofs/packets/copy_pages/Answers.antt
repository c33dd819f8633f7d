use Rattle.std.proofs.Common.{◌≡◌, ◌∙◌, ap, ap₂, drop, arith}
use Rattle.std.specs.Prelude.{slice_get, unwrap_or}
use Rattle.place_list.specs.SpanPages.{pages_of}
use Rattle.journal_model.specs.rules.ApplyMoves.{copy_of_page}
use Rattle.room_moves.specs.Copies.{copies, named}
use Rattle.room_moves.proofs.Walks.{passed_more, next_named, pushed_more}
use Rattle.room_moves.proofs.packets.copy_pages.Goals as goal

pub loop-page-init : goal.loop-page-init
loop-page-init c = record { packets = c.new-packets.ensures.items; ahead = c.new-ahead.ensures; here = c.new-here.ensures }

pub loop-page-preserved : goal.loop-page-preserved
loop-page-preserved c =
    let page = c.loop-page._page in
    let to = c.args.to in
    let from = c.args.from in
    let target = c.next_name-target.ensures.name ∙ ap (λ pages. named to (unwrap_or (slice_get pages 0) 0)) c.loop-page.invariant.ahead ∙ next_named to c.args.targets.now page in
    let source = c.next_name-source.ensures.name ∙ ap (λ pages. named from (unwrap_or (slice_get pages 0) 0)) c.loop-page.invariant.here ∙ next_named from c.args.sources.now page in
    record {
      packets = pushed_more page to c.args.targets.now from c.args.sources.now c.loop-page.packets.items c.push.new.self.items c.copy_of_page.result c.loop-page.invariant.packets (c.copy_of_page.ensures ∙ ap₂ copy_of_page target source) c.in_ok-push.ensures.items;
      ahead = c.next_name-target.ensures.left ∙ ap (drop 1) c.loop-page.invariant.ahead ∙ passed_more (pages_of c.args.targets.now) page;
      here = c.next_name-source.ensures.left ∙ ap (drop 1) c.loop-page.invariant.here ∙ passed_more (pages_of c.args.sources.now) page;
    }

pub returns : goal.returns
returns c =
    let le = c.loop-page-test.false in
    let within = c.loop-page.auto._page-end in
    let all : c.loop-page._page ≡ c.args.pages = omega (arith, le, within) in
    c.loop-page.invariant.packets ∙ ap (λ n. copies n c.args.to c.args.targets.now c.args.from c.args.sources.now) all
