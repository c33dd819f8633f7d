use Rattle.std.proofs.Common.{◌≡◌, true, false, ap, sym, ◌∙◌, arith}
use Rattle.std.specs.Prelude.{◌||◌}
use Rattle.std.specs.List.{list_any}
use Rattle.std.specs.Io.KnownBytes.{append_known}
use Rattle.io_edge.proofs.Told.{append_known-nil, front_is_nothing, writes_refused}
use Rattle.journal_model.specs.marks.Marks.{is_map, is_vmap}
use Rattle.report_text.specs.Parts.{mappings_part}
use Rattle.report_text.proofs.Parts.{no_mappings, some_mappings}
use Rattle.report_text.proofs.LineLaws.{mappings_are}
use Rattle.report_text.proofs.report.write_mappings.Goals as goal

pub returns-then-not-has_mappings-clause-text : goal.returns-then-not-has_mappings-clause-text
returns-then-not-has_mappings-clause-text g c =
    let script = c.args.script.now in
    let none : (list_any (λ m. is_map m.kind) script.marks || list_any (λ m. is_vmap m.kind) script.marks) ≡ false = grind (arith, c.has_mappings.ensures, c.if-not-has_mappings.true) in
    sym (append_known-nil (g.K.Sink.written c.args.sink.now)) ∙ ap (append_known (g.K.Sink.written c.args.sink.now)) (sym (no_mappings script c.args.journal.now none))

pub returns-in_err-make_mappings-clause-text : goal.returns-in_err-make_mappings-clause-text
returns-in_err-make_mappings-clause-text g c =
    let script = c.args.script.now in
    let some : (list_any (λ m. is_map m.kind) script.marks || list_any (λ m. is_vmap m.kind) script.marks) ≡ true = grind (arith, c.has_mappings.ensures, c.if-not-has_mappings.false) in
    writes_refused c.from_residual.result _ _ (mappings_part script c.args.journal.now) c.from_residual.ensures.0
    (front_is_nothing _ (mappings_part script c.args.journal.now) (some_mappings script c.args.journal.now some))

pub write_lines-requires : goal.write_lines-requires
write_lines-requires g c = mappings_are c.args.script.now c.args.journal.now c.bytes.result.now (c.bytes.ensures ∙ c.in_ok-make_mappings.ensures)
