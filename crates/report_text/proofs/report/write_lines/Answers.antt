use Rattle.std.proofs.Common.{take, ap, sym, ◌∙◌, arith}
use Rattle.std.proofs.lemmas.List.{take_all}
use Rattle.std.specs.Io.KnownBytes.{append_known}
use Rattle.io_edge.proofs.Told.{append_known-twice}
use Rattle.script_words.specs.Lines.{line_len}
use Rattle.report_text.proofs.LineLaws.{line_at, line_ends, line_len_within, line_moves, line_next, line_stops}
use Rattle.report_text.proofs.report.write_lines.Goals as goal

pub split_at-requires-in-loop-at : goal.split_at-requires-in-loop-at
split_at-requires-in-loop-at g c = rw c.len_of_line.ensures (line_len_within c.split_at.result.1.now)

pub loop-at-preserved : goal.loop-at-preserved
loop-at-preserved g c =
    let text = c.args.text.now in
    let at = c.loop-at.at in
    let found = c.split_at-in-loop-at.result.0.now in
    let is = c.split_at-in-loop-at.ensures.front ∙ ap (λ n. take n c.split_at.result.1.now) c.len_of_line.ensures ∙ ap (λ b. take (line_len b) b) c.split_at.ensures.back in
    let old = g.K.Sink.written c.args.sink.now in
    let here = line_at text at found c.requires (omega arith) is in
    record {
      within = line_ends text at found c.loop-at.invariant.within is;
      written =
          c.in_ok-write_all.ensures.text ∙ ap (λ t. append_known t found) c.loop-at.invariant.written ∙ append_known-twice old (take at text) found
          ∙ ap (append_known old) (sym (line_next text at found is));
      faults = grind arith;
      lines = c.in_ok-write_all.ensures.lines here ∙ c.loop-at.invariant.lines;
    }

pub loop-at-smaller : goal.loop-at-smaller
loop-at-smaller g c =
    let text = c.args.text.now in
    let at = c.loop-at.at in
    let found = c.split_at-in-loop-at.result.0.now in
    let is = c.split_at-in-loop-at.ensures.front ∙ ap (λ n. take n c.split_at.result.1.now) c.len_of_line.ensures ∙ ap (λ b. take (line_len b) b) c.split_at.ensures.back in
    let some = line_moves text at found c.requires (omega arith) is in
    omega (arith, some)

pub returns-in_err-write_all-clause-text : goal.returns-in_err-write_all-clause-text
returns-in_err-write_all-clause-text g c =
    let text = c.args.text.now in
    let at = c.loop-at.at in
    let is = c.split_at-in-loop-at.ensures.front ∙ ap (λ n. take n c.split_at.result.1.now) c.len_of_line.ensures ∙ ap (λ b. take (line_len b) b) c.split_at.ensures.back in
    line_stops c.from_residual.result _ _ _ text at c.split_at-in-loop-at.result.0.now c.from_residual.ensures.0 is c.loop-at.invariant.written c.in_err-write_all.ensures.text

pub returns-in_err-write_all-clause-lines : goal.returns-in_err-write_all-clause-lines
returns-in_err-write_all-clause-lines g c =
    let text = c.args.text.now in
    let at = c.loop-at.at in
    let is = c.split_at-in-loop-at.ensures.front ∙ ap (λ n. take n c.split_at.result.1.now) c.len_of_line.ensures ∙ ap (λ b. take (line_len b) b) c.split_at.ensures.back in
    c.in_err-write_all.ensures.lines (line_at text at c.split_at-in-loop-at.result.0.now c.requires (omega arith) is) ∙ c.loop-at.invariant.lines

pub returns-clause-text : goal.returns-clause-text
returns-clause-text g c = c.loop-at.invariant.written ∙ ap (append_known (g.K.Sink.written c.args.sink.now)) (take_all c.loop-at.at c.args.text.now (omega arith))
