use Rattle.std.proofs.Common.{◌≡◌, [], ap, ◌∙◌}
use Rattle.std.specs.List.{list_all}
use Rattle.journal_model.specs.declared.script.Script.{Script}
use Rattle.journal_model.specs.scripts.MarkRules.{are_in_order, is_in_thread}
use Rattle.generated_load.proofs.LoadLaws.{is_load}
use Rattle.generated_load.proofs.load.generated.Goals as goal

pub returns-in_err-script-clause-load : goal.returns-in_err-script-clause-load
returns-in_err-script-clause-load c = is_load c.args.number

pub write_script-requires : goal.write_script-requires
write_script-requires c =
    let load = is_load c.args.number in
    let none : c.in_ok-script.script.marks ≡ [] = ap (λ (s : Script). s.marks) c.in_ok-script.ensures ∙ load.plain in
    record { placed = record { order = ap are_in_order none; placed = ap (list_all (is_in_thread c.in_ok-script.script)) none } }

pub returns-in_err-text-clause-load : goal.returns-in_err-text-clause-load
returns-in_err-text-clause-load c = is_load c.args.number
