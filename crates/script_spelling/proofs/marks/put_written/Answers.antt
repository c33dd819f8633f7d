use Rattle.std.proofs.Common.{◌≡◌, ◌++◌, ◌∙◌, ap, sym, true, false, None}
use Rattle.std.specs.Prelude.{filter_map, slice_get}
use Rattle.std.specs.List.{list_any}
use Rattle.std.proofs.lemmas.Result.{on_ok_weaker}
use Rattle.journal_model.specs.marks.Marks.{addressed, is_mapped}
use Rattle.script_spelling.specs.Parts.{kinds}
use Rattle.script_spelling.proofs.MarkText.{as_mapped, as_command, mapped_kinds}
use Rattle.script_spelling.proofs.marks.put_written.Goals as goal

pub returns-then-is_mapped_in : goal.returns-then-is_mapped_in
returns-then-is_mapped_in c =
    let ms = kinds c.args.marks.now in
    let none : None ≡ slice_get (filter_map addressed ms) 0 = c.in-None.ensures in
    let mapped : list_any is_mapped ms ≡ true = sym (mapped_kinds c.args.marks.now) ∙ sym c.is_mapped_in.ensures ∙ c.if-is_mapped_in.true in
    on_ok_weaker c.put_mapped.result (λ q. q ∙ ap (λ t. c.args.text.now ++ t) (as_mapped c.args.script.now ms c.args.command.now none mapped)) c.put_mapped.ensures

pub returns-else-is_mapped_in : goal.returns-else-is_mapped_in
returns-else-is_mapped_in c =
    let ms = kinds c.args.marks.now in
    let none : None ≡ slice_get (filter_map addressed ms) 0 = c.in-None.ensures in
    let mapped : list_any is_mapped ms ≡ false = sym (mapped_kinds c.args.marks.now) ∙ sym c.is_mapped_in.ensures ∙ c.if-is_mapped_in.false in
    on_ok_weaker c.put_command.result (λ q. q ∙ ap (λ t. c.args.text.now ++ t) (as_command c.args.script.now ms c.args.command.now none mapped)) c.put_command.ensures
