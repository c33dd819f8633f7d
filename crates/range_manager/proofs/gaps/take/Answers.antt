use Rattle.std.proofs.Common.{◌||◌, ◌&&◌, not, refl, ap, sym, subst, ◌∙◌, arith}
use Rattle.std.specs.List.{list_any}
use Rattle.std.proofs.lemmas.Bool.{or_from}
use Rattle.ttm_base.specs.declared.Span.{Span}
use Rattle.ttm_base.specs.Holes.{has_page}
use Rattle.hole_tree.specs.HoleSet.{without}
use Rattle.range_manager.specs.Kept.{IsSpaced, IsClear}
use Rattle.range_manager.proofs.SpanLaws.{has_past, apart_of_clear, spaced_with, pages_with}
use Rattle.range_manager.proofs.GapLaws.{taken_out, split_pages, split_above, split_none}
use Rattle.range_manager.proofs.gaps.take.Goals as goal

pub resize-requires-clause-apart : goal.resize-requires-clause-apart
resize-requires-clause-apart c =
    let hs = c.args.holes.now.holes in
    let rest = without c.args.hole.start hs in
    let from = c.requires.from in
    let to = c.requires.to in
    let some = c.requires.some in
    let out = taken_out hs c.args.hole rest c.requires.spaced c.requires.hole refl in
    let below : Span = record { start = c.args.hole.start; end = c.args.taken.start } in
    let above : Span = record { start = c.args.taken.end; end = c.args.hole.end } in
    let clear : IsClear 1 below rest = λ page l u. out.clear page l (omega arith) in
    apart_of_clear below rest out.spaced c.if-below.true clear

pub put-requires-clause-spaced : goal.put-requires-clause-spaced
put-requires-clause-spaced c =
    let hs = c.args.holes.now.holes in
    let rest = without c.args.hole.start hs in
    let from = c.requires.from in
    let to = c.requires.to in
    let some = c.requires.some in
    let out = taken_out hs c.args.hole rest c.requires.spaced c.requires.hole refl in
    let below : Span = record { start = c.args.hole.start; end = c.args.taken.start } in
    let above : Span = record { start = c.args.taken.end; end = c.args.hole.end } in
    let clear : IsClear 1 below rest = λ page l u. out.clear page l (omega arith) in
    subst (IsSpaced 1) (sym c.resize.ensures.holes) (spaced_with 1 below rest out.spaced c.if-below.true clear)

pub put-requires-clause-clear : goal.put-requires-clause-clear
put-requires-clause-clear c = λ page l u.
    let hs = c.args.holes.now.holes in
    let rest = without c.args.hole.start hs in
    let from = c.requires.from in
    let to = c.requires.to in
    let some = c.requires.some in
    let out = taken_out hs c.args.hole rest c.requires.spaced c.requires.hole refl in
    let below : Span = record { start = c.args.hole.start; end = c.args.taken.start } in
    let above : Span = record { start = c.args.taken.end; end = c.args.hole.end } in
    ap (list_any (has_page page)) c.resize.ensures.holes ∙ pages_with below rest page ∙ or_from (list_any (has_page page) rest) (has_page page below) (out.clear page (omega arith) u) (has_past page below (omega arith))

pub returns-then-below-clause-pages : goal.returns-then-below-clause-pages
returns-then-below-clause-pages c = λ page.
    let hs = c.args.holes.now.holes in
    let rest = without c.args.hole.start hs in
    let from = c.requires.from in
    let to = c.requires.to in
    let some = c.requires.some in
    let out = taken_out hs c.args.hole rest c.requires.spaced c.requires.hole refl in
    let below : Span = record { start = c.args.hole.start; end = c.args.taken.start } in
    let above : Span = record { start = c.args.taken.end; end = c.args.hole.end } in
    c.put.ensures.pages page ∙ ap (λ t. t || has_page page above) (ap (list_any (has_page page)) c.resize.ensures.holes ∙ pages_with below rest page) ∙ split_pages rest c.args.hole c.args.taken page out.clear from some to ∙ sym (ap (λ t. t && not (has_page page c.args.taken)) (out.pages page))

pub resize-requires-then-above-clause-apart : goal.resize-requires-then-above-clause-apart
resize-requires-then-above-clause-apart c =
    let hs = c.args.holes.now.holes in
    let rest = without c.args.hole.start hs in
    let from = c.requires.from in
    let to = c.requires.to in
    let some = c.requires.some in
    let out = taken_out hs c.args.hole rest c.requires.spaced c.requires.hole refl in
    let below : Span = record { start = c.args.hole.start; end = c.args.taken.start } in
    let above : Span = record { start = c.args.taken.end; end = c.args.hole.end } in
    let clear : IsClear 1 above rest = λ page l u. out.clear page (omega arith) u in
    apart_of_clear above rest out.spaced c.if-above.true clear

pub returns-then-above-clause-spaced : goal.returns-then-above-clause-spaced
returns-then-above-clause-spaced c =
    let hs = c.args.holes.now.holes in
    let rest = without c.args.hole.start hs in
    let from = c.requires.from in
    let to = c.requires.to in
    let some = c.requires.some in
    let out = taken_out hs c.args.hole rest c.requires.spaced c.requires.hole refl in
    let below : Span = record { start = c.args.hole.start; end = c.args.taken.start } in
    let above : Span = record { start = c.args.taken.end; end = c.args.hole.end } in
    let clear : IsClear 1 above rest = λ page l u. out.clear page (omega arith) u in
    subst (IsSpaced 1) (sym c.resize-then-above.ensures.holes) (spaced_with 1 above rest out.spaced c.if-above.true clear)

pub returns-then-above-clause-pages : goal.returns-then-above-clause-pages
returns-then-above-clause-pages c = λ page.
    let hs = c.args.holes.now.holes in
    let rest = without c.args.hole.start hs in
    let from = c.requires.from in
    let to = c.requires.to in
    let some = c.requires.some in
    let out = taken_out hs c.args.hole rest c.requires.spaced c.requires.hole refl in
    let below : Span = record { start = c.args.hole.start; end = c.args.taken.start } in
    let above : Span = record { start = c.args.taken.end; end = c.args.hole.end } in
    ap (list_any (has_page page)) c.resize-then-above.ensures.holes ∙ pages_with above rest page ∙ split_above rest c.args.hole c.args.taken page out.clear from c.if-below.false some to ∙ sym (ap (λ t. t && not (has_page page c.args.taken)) (out.pages page))

pub returns-clause-spaced : goal.returns-clause-spaced
returns-clause-spaced c =
    let hs = c.args.holes.now.holes in
    let rest = without c.args.hole.start hs in
    let from = c.requires.from in
    let to = c.requires.to in
    let some = c.requires.some in
    let out = taken_out hs c.args.hole rest c.requires.spaced c.requires.hole refl in
    let below : Span = record { start = c.args.hole.start; end = c.args.taken.start } in
    let above : Span = record { start = c.args.taken.end; end = c.args.hole.end } in
    subst (IsSpaced 1) (sym c.remove.ensures.left) out.spaced

pub returns-clause-pages : goal.returns-clause-pages
returns-clause-pages c = λ page.
    let hs = c.args.holes.now.holes in
    let rest = without c.args.hole.start hs in
    let from = c.requires.from in
    let to = c.requires.to in
    let some = c.requires.some in
    let out = taken_out hs c.args.hole rest c.requires.spaced c.requires.hole refl in
    let below : Span = record { start = c.args.hole.start; end = c.args.taken.start } in
    let above : Span = record { start = c.args.taken.end; end = c.args.hole.end } in
    ap (list_any (has_page page)) c.remove.ensures.left ∙ split_none rest c.args.hole c.args.taken page out.clear from c.if-below.false some to c.if-above.false ∙ sym (ap (λ t. t && not (has_page page c.args.taken)) (out.pages page))
