use Rattle.std.proofs.Common.{◌≡◌, Bool, true, length}
use Rattle.std.specs.Prelude.{◌&&◌, ◌||◌, ◌==◌, nat_le, sum_by}
use Rattle.std.specs.List.{list_all}
use Rattle.std.proofs.lemmas.Bool.{and_parts}
use Rattle.journal_model.specs.declared.script.Script.{Script}
use Rattle.journal_model.specs.rules.Commands.{commands_of}
use Rattle.journal_model.specs.statements.Complete.{thread_numbers}
use Rattle.journal_model.specs.scripts.CommandRules.{command_len, is_between, is_command}
use Rattle.journal_model.specs.scripts.MarkRules.{empty_thread_mappings, are_in_order, is_in_thread, has_few_lines, marks_fit, have_marks}
use Rattle.journal_model.specs.scripts.ScriptRules.{has_distinct_names, has_sizes, is_decl, is_script, is_turn_line}
use Rattle.script_spelling.specs.Cursors.{ArePlaced}
use Rattle.test_rules.proofs.texts.scripts.is_spelled.Goals as goal

second_and_third : (a b c d e : Bool) → ((((a && b) && c) && d) && e) ≡ true → (b ≡ true) × (c ≡ true)
second_and_third a b c d e h =
    let f = and_parts (((a && b) && c) && d) e h in
    let g = and_parts ((a && b) && c) d f.0 in
    let i = and_parts (a && b) c g.0 in
    ((and_parts a b i.0).1, i.1)

marks_of_script : (s : Script) → is_script s ≡ true → have_marks s ≡ true
marks_of_script s h =
    (and_parts (is_between 1 2 s.version && has_sizes s && nat_le (length s.buffers) 256 && list_all (is_decl s.version) s.buffers && has_distinct_names s.buffers && nat_le (length s.threads) 16
    && list_all (list_all (is_command s)) s.threads && nat_le (sum_by (sum_by command_len) s.threads) 67108864 && list_all (is_turn_line s) s.turns) (have_marks s) h).1

placed : (s : Script) → is_script s ≡ true → ArePlaced s
placed s h =
    let f = second_and_third ((s.version == 2) || (length s.marks == 0)) (are_in_order s.marks) (list_all (is_in_thread s) s.marks) (list_all (has_few_lines s) (thread_numbers s))
    (list_all (λ t. marks_fit s t 0 empty_thread_mappings (commands_of s t)) (thread_numbers s)) (marks_of_script s h) in
    record { order = f.0; placed = f.1 }

pub write_script-requires : goal.write_script-requires
write_script-requires c = record { placed = placed c.in-Ok.script c.in-Ok.ensures.spelled.fits }
