use Rattle.std.proofs.Common.{refl, ap, sym, subst, ◌∙◌, arith}
use Rattle.std.specs.List.{list_any}
use Rattle.ttm_base.specs.declared.Span.{Span}
use Rattle.ttm_base.specs.Holes.{has_page}
use Rattle.hole_tree.specs.HoleSet.{without}
use Rattle.range_manager.specs.Kept.{IsSpaced, IsClear}
use Rattle.range_manager.proofs.SpanLaws.{apart_of_clear, spaced_with, pages_with}
use Rattle.range_manager.proofs.GapLaws.{hole_some, taken_out, grown_clear, grown_pages}
use Rattle.range_manager.proofs.gaps.grow.Goals as goal

pub resize-requires-clause-whole : goal.resize-requires-clause-whole
resize-requires-clause-whole c =
    let own = hole_some c.args.holes.now.holes c.args.hole c.requires.spaced c.requires.hole in
    let touch = c.requires.touch in
    let some = c.requires.some in
    omega arith

pub resize-requires-clause-starts : goal.resize-requires-clause-starts
resize-requires-clause-starts c =
    let own = hole_some c.args.holes.now.holes c.args.hole c.requires.spaced c.requires.hole in
    let touch = c.requires.touch in
    let some = c.requires.some in
    omega arith

pub resize-requires-clause-ends : goal.resize-requires-clause-ends
resize-requires-clause-ends c =
    let own = hole_some c.args.holes.now.holes c.args.hole c.requires.spaced c.requires.hole in
    let touch = c.requires.touch in
    let some = c.requires.some in
    omega arith

pub resize-requires-clause-apart : goal.resize-requires-clause-apart
resize-requires-clause-apart c =
    let hs = c.args.holes.now.holes in
    let rest = without c.args.hole.start hs in
    let own = hole_some hs c.args.hole c.requires.spaced c.requires.hole in
    let touch = c.requires.touch in
    let some = c.requires.some in
    let out = taken_out hs c.args.hole rest c.requires.spaced c.requires.hole refl in
    let to : Span = record { start = c.args.hole.start; end = c.args.pages.end } in
    let clear : IsClear 1 to rest = grown_clear hs c.args.hole c.args.pages rest out touch (omega arith) c.requires.clear c.requires.above in
    apart_of_clear to rest out.spaced (omega arith) clear

pub returns-clause-spaced : goal.returns-clause-spaced
returns-clause-spaced c =
    let hs = c.args.holes.now.holes in
    let rest = without c.args.hole.start hs in
    let own = hole_some hs c.args.hole c.requires.spaced c.requires.hole in
    let touch = c.requires.touch in
    let some = c.requires.some in
    let out = taken_out hs c.args.hole rest c.requires.spaced c.requires.hole refl in
    let to : Span = record { start = c.args.hole.start; end = c.args.pages.end } in
    let clear : IsClear 1 to rest = grown_clear hs c.args.hole c.args.pages rest out touch (omega arith) c.requires.clear c.requires.above in
    subst (IsSpaced 1) (sym c.resize.ensures.holes) (spaced_with 1 to rest out.spaced (omega arith) clear)

pub returns-clause-pages : goal.returns-clause-pages
returns-clause-pages c = λ page.
    let hs = c.args.holes.now.holes in
    let rest = without c.args.hole.start hs in
    let own = hole_some hs c.args.hole c.requires.spaced c.requires.hole in
    let touch = c.requires.touch in
    let some = c.requires.some in
    let out = taken_out hs c.args.hole rest c.requires.spaced c.requires.hole refl in
    let to : Span = record { start = c.args.hole.start; end = c.args.pages.end } in
    ap (list_any (has_page page)) c.resize.ensures.holes ∙ pages_with to rest page ∙ grown_pages hs c.args.hole c.args.pages rest page out touch (omega arith) (omega arith)
