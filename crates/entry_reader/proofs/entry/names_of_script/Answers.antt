use Rattle.std.proofs.Common.{◌≡◌, ◌<◌, ◌∙◌, true, ap, length, get_or, arith, bytes_eq}
use Rattle.std.specs.List.{list_any}
use Rattle.journal_model.specs.declared.script.Decl.{Decl}
use Rattle.journal_model.specs.scripts.ScriptRules.{has_distinct_names}
use Rattle.entry_reader.proofs.ScriptFacts.{script_named}
use Rattle.entry_reader.proofs.Walks.{fresh_name}
use Rattle.entry_reader.proofs.entry.names_of_script.Goals as goal

pub add-requires : goal.add-requires
add-requires c =
    let buffers = c.items-buffers.result.now in
    let i = c.loop-decl.decl-index in
    let lt : i < length buffers = omega arith in
    let d = c.decl-item.result in
    let named = script_named c.args.script.now c.requires in
    let distinct : has_distinct_names buffers ≡ true = ap has_distinct_names c.items-buffers.ensures ∙ named.distinct_ones in
    ap (λ w. list_any (bytes_eq w) c.loop-decl.names) (c.items.ensures ∙ ap (λ (x : Decl). x.name) c.decl-item.is)
    ∙ ap (list_any (bytes_eq (get_or buffers i d).name)) c.loop-decl.invariant ∙ fresh_name buffers i d distinct lt
