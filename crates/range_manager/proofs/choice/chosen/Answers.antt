use Rattle.std.proofs.Common.{◌+◌, Some, ap, sym, ◌∙◌, arith}
use Rattle.range_manager.proofs.SpanLaws.{among_found}
use Rattle.range_manager.proofs.FitLaws.{taken_hole, taken_in}
use Rattle.range_manager.proofs.choice.chosen.Goals as goal

pub start_in-start-requires-clause-fits : goal.start_in-start-requires-clause-fits
start_in-start-requires-clause-fits c =
    let t = taken_hole c.args.mode c.args.holes.now.holes c.args.pages c.args.align c.args.range c.in_ok-hole.hole (sym c.chosen_hole.ensures ∙ c.in_ok-hole.was) in
    let i = taken_in c.args.mode c.args.pages c.args.align c.args.range c.in_ok-hole.hole t.fits in
    let by = i.by in
    omega arith

pub overflow_add-end : goal.overflow_add-end
overflow_add-end c =
    let t = taken_hole c.args.mode c.args.holes.now.holes c.args.pages c.args.align c.args.range c.in_ok-hole.hole (sym c.chosen_hole.ensures ∙ c.in_ok-hole.was) in
    let i = taken_in c.args.mode c.args.pages c.args.align c.args.range c.in_ok-hole.hole t.fits in
    let by = i.by in
    let e = c.start_in-start.ensures in
    omega arith

pub returns-clause-pages : goal.returns-clause-pages
returns-clause-pages c =
    let t = taken_hole c.args.mode c.args.holes.now.holes c.args.pages c.args.align c.args.range c.in_ok-hole.hole (sym c.chosen_hole.ensures ∙ c.in_ok-hole.was) in
    ap (λ n. Some (record { start = n; end = n + c.args.pages })) c.start_in-start.ensures ∙ sym t.choice

pub returns-clause-hole : goal.returns-clause-hole
returns-clause-hole c =
    let t = taken_hole c.args.mode c.args.holes.now.holes c.args.pages c.args.align c.args.range c.in_ok-hole.hole (sym c.chosen_hole.ensures ∙ c.in_ok-hole.was) in
    among_found 1 c.in_ok-hole.hole c.args.holes.now.holes c.requires.spaced t.among

pub returns-clause-some : goal.returns-clause-some
returns-clause-some c =
    let t = taken_hole c.args.mode c.args.holes.now.holes c.args.pages c.args.align c.args.range c.in_ok-hole.hole (sym c.chosen_hole.ensures ∙ c.in_ok-hole.was) in
    let i = taken_in c.args.mode c.args.pages c.args.align c.args.range c.in_ok-hole.hole t.fits in
    let e = c.start_in-start.ensures in
    let some = i.some in
    omega arith

pub returns-clause-from : goal.returns-clause-from
returns-clause-from c =
    let t = taken_hole c.args.mode c.args.holes.now.holes c.args.pages c.args.align c.args.range c.in_ok-hole.hole (sym c.chosen_hole.ensures ∙ c.in_ok-hole.was) in
    let i = taken_in c.args.mode c.args.pages c.args.align c.args.range c.in_ok-hole.hole t.fits in
    let e = c.start_in-start.ensures in
    let from = i.from in
    omega arith

pub returns-clause-to : goal.returns-clause-to
returns-clause-to c =
    let t = taken_hole c.args.mode c.args.holes.now.holes c.args.pages c.args.align c.args.range c.in_ok-hole.hole (sym c.chosen_hole.ensures ∙ c.in_ok-hole.was) in
    let i = taken_in c.args.mode c.args.pages c.args.align c.args.range c.in_ok-hole.hole t.fits in
    let e = c.start_in-start.ensures in
    let by = i.by in
    omega arith
